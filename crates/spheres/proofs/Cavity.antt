-- A new point p in a mesh with empty spheres: the cells with p strictly inside their spheres, which are the cavity before correction.
use Prim.Native.Nat.{ℕ, ◌+◌, ◌*◌, ◌<◌}
use mathlib.Core.Bool.{Bool, true, false}
use mathlib.Core.Logic.{◌≢◌, ◌⊎◌, inl, inr}
use mathlib.Core.Path.{◌≡◌, sym, ap, ◌∙◌, subst}
use mathlib.Core.List.{List}
use native.Mathlib.Omega.{arith}
use native.Mathlib.Decide.{ℕ_discrete}
use lib.IntN.{pos}
use lib.Signed.{◌<ℤ◌, ◌≤ℤ◌}
use Rattle.arith.proofs.Flags.{clash, bool_ext}
use Rattle.arith.proofs.Order.{arithℤ, <→≤, <-irrefl, ≤-<-trans, <-≤-trans, trichotomy, total, lt_z_true, lt_lt_z}
use Rattle.geometry.specs.declared.Position.{Position}
use Rattle.geometry.specs.Volume.{volume, replaced, InBox}
use Rattle.insphere.proofs.Power.{power, sum_is_power, power_corner}
use Rattle.insphere.proofs.Inside.{held_inside, crosses_in}
use Rattle.mesh.specs.Tables.{Tables, none, cell_of, opposite, point, corner, across, corner_at, cell_volume, side, mate, IsCell, IsFace}
use Rattle.mesh.specs.Mesh.{IsMesh}
use Rattle.mesh.proofs.Room.{Room}
use Rattle.mesh.proofs.Held.{side_at_lem, Holds, other_weight}
use Rattle.mesh.proofs.Faces.{few, link<, link_position, mated, mate<, mate_real, across_cell}
use Rattle.mesh.proofs.Links.{link}
use Rattle.mesh.proofs.FaceNumbers.{face_cell, face_in, opposite<}
use Rattle.mesh.proofs.Walls.{wall_inner}
use Rattle.cavity.specs.Answers.{sphere, cell_e, says_yes}
use Rattle.cavity.specs.Cavity.{in_set, base, cavity, visible, coplanar, outer}
use Rattle.cavity.proofs.Tests.{Outer, outer_of_lem, visible_yes, coplanar_yes, holds_of, holds_yes}
use Rattle.cavity.proofs.Correction.{base_at, base_long, base_cell, cavity_cells, cavity_has}
use Rattle.cavity.proofs.Growth.{cavity_closed, cavity_least}
use Rattle.covering.specs.Place.{whole}
use Rattle.covering.specs.Holders.{FacePath, here, step}
use Rattle.covering.proofs.Linear.{form, HoldsForm, form_whole}
use Rattle.covering.proofs.Cover.{straight_walk, held}
use Rattle.covering.proofs.Parts.{whole_in_box}
use Rattle.spheres.specs.Exact.{Empty}

-- ---- E of a cell

pub sphere_is : (t : Tables) (p : Position) (c : ℕ) → cell_e t p c ≡ power (corner_at t c) p
unfolding cell_e
sphere_is t p c = sum_is_power (corner_at t c) p

yes_of : (t : Tables) (p : Position) (c : ℕ) → says_yes sphere t p c ≡ true → pos 0 <ℤ cell_e t p c
unfolding says_yes
yes_of t p c e = lt_z_true (pos 0) (cell_e t p c) e

yes_yes : (t : Tables) (p : Position) (c : ℕ) → pos 0 <ℤ cell_e t p c → says_yes sphere t p c ≡ true
unfolding says_yes
yes_yes t p c h = lt_lt_z h

-- by omega, so that an edit of `Empty` is refused where it is to be shown and not where it is given
pub point_out : {np n : ℕ} {t : Tables} → Empty np n t → (c k : ℕ) → IsCell t n c → k < np → cell_e t (point t k) c ≤ℤ pos 0
point_out G c k l h = omega (arithℤ, G.outside c k l h)

-- the cavity before correction
abbrev pub exact_cavity : Tables → ℕ → Position → List Bool
exact_cavity t n p = cavity t n (says_yes sphere t p) (base t n p)

pub cavity_cell : (t : Tables) (n : ℕ) (p : Position) (c : ℕ) → in_set (exact_cavity t n p) c ≡ true → IsCell t n c
cavity_cell t n p = cavity_cells t n p (says_yes sphere t p) (base t n p) (base_cell t n p)

module _ {X Y Z pc cc np n : ℕ} {t : Tables} (M : IsMesh X Y Z pc cc np n t) where
  pub above : (c : ℕ) → IsCell t n c → pos 0 <ℤ volume (corner_at t c)
  above c h = unfold cell_volume in M.positive c h

  -- D3: a cell that holds p
  holds_inside : (p : Position) → ((k : ℕ) → k < np → p ≢ point t k) → (c : ℕ) → IsCell t n c → Holds t p c → pos 0 <ℤ cell_e t p c
  unfolding Holds
  holds_inside p new c c< h = at (other_weight (corner_at t c) p 0 (omega arith) (above c c<) h (apart 0 (omega arith)))
    where
      apart : (i : ℕ) → i < 4 → p ≢ corner_at t c i
      apart i k = unfold corner_at in new (corner t c i) (M.corner< c i c< k)

      at : (j : ℕ) × (j < 4) × ((j ≢ 0) × (pos 0 <ℤ volume (replaced (corner_at t c) j p))) → pos 0 <ℤ cell_e t p c
      at (j, l, o) = subst (λ z. pos 0 <ℤ z) (sym (sphere_is t p c)) (held_inside (corner_at t c) p h j l o.1 (apart j l))

  module _ (R : Room pc cc t) where
    shared : (f : ℕ) → IsFace t n f → across t f ≢ none → (i : ℕ) → i < 4 → i ≢ opposite f → power (corner_at t (cell_of (mate t f))) (corner_at t (cell_of f) i) ≡ pos 0
    shared f f< real i h d =
        ap (power (corner_at t (cell_of (mate t f)))) (sym (link_position M R f f< real i h d)) ∙
        power_corner (corner_at t (cell_of (mate t f))) (link t f (mate t f) i) (link< M R f f< real i h)

    module _ (G : Empty np n t) where
      -- a corner of one cell is not inside the sphere of another
      pub corner_out : (c d i : ℕ) → IsCell t n c → IsCell t n d → i < 4 → cell_e t (corner_at t c i) d ≤ℤ pos 0
      unfolding corner_at
      corner_out c d i hc hd hi = point_out G d (corner t c i) hd (M.corner< c i hc hi)

      -- D4: across a face that p is not strictly on the cell's side of
      crossing : (p : Position) (f : ℕ) → IsFace t n f → across t f ≢ none → side t p f ≤ℤ pos 0 → pos 0 <ℤ cell_e t p (cell_of f) → pos 0 <ℤ cell_e t p (across t f)
      unfolding side
      crossing p f f< real h e =
          subst (λ z. pos 0 <ℤ z) (sym (sphere_is t p u) ∙ ap (cell_e t p) (mated M R f f< real).far_cell)
          (crosses_in (corner_at t c) (corner_at t u) (opposite f) (opposite< f) (shared f f< real) (above c f<) (above u u<)
          (subst (λ z. z ≤ℤ pos 0) (sphere_is t (corner_at t c (opposite f)) u) (corner_out c u (opposite f) f< u< (opposite< f))) p h
          (subst (λ z. pos 0 <ℤ z) (sphere_is t p c) e))
        where
          c : ℕ
          c = cell_of f

          u : ℕ
          u = cell_of (mate t f)

          u< : IsCell t n u
          u< = mate< M R f f< real

      -- D5: from a cell with p inside its sphere to one without, p is strictly on the first one's side
      crossing_out : (p : Position) (f : ℕ) → IsFace t n f → across t f ≢ none → pos 0 <ℤ cell_e t p (cell_of f) → cell_e t p (across t f) ≤ℤ pos 0 → pos 0 <ℤ side t p f
      crossing_out p f f< real e o = by (total (side t p f) (pos 0))
        where
          by : (side t p f ≤ℤ pos 0) ⊎ (pos 0 <ℤ side t p f) → pos 0 <ℤ side t p f
          by (inr h) = h
          by (inl h) = absurd (<-irrefl (<-≤-trans (crossing p f f< real h e) o))

      module _ (p : Position) (box : InBox X Y Z p) (new : (k : ℕ) → k < np → p ≢ point t k) where
        abbrev s : List Bool
        s = exact_cavity t n p

        pub cavity_inside : (c : ℕ) → in_set s c ≡ true → pos 0 <ℤ cell_e t p c
        cavity_inside =
            cavity_least M R (says_yes sphere t p) (base t n p) (base_long t n p) (λ c. pos 0 <ℤ cell_e t p c)
            (λ c e. let l = base_cell t n p c e in holds_inside p new c l (holds_of t p c (sym (base_at t n p c l.below) ∙ e)))
            (λ f f< h real y. yes_of t p (across t f) y)

        -- back along the straight walk to p
        walked : {c d : ℕ} → IsCell t n c → FacePath t n (λ c k. form t (whole p) (4 * c + k) <ℤ pos 0) c d → in_set s d ≡ true → pos 0 <ℤ cell_e t p c → in_set s c ≡ true
        walked l here e h = e
        walked {c} {d} l (step k k< b u< w) e h =
            ap (in_set s) (sym back) ∙
            cavity_closed M R (says_yes sphere t p) (base t n p) (base_long t n p) (mate t f) (mate< M R f f< real)
            (ap (in_set s) (mated M R f f< real).far_cell ∙ walked (across_cell M R f f< real) w e next) (mate_real M R f f< real)
            (ap (says_yes sphere t p) back ∙ yes_yes t p c h)
          where
            f : ℕ
            f = 4 * c + k

            f< : IsFace t n f
            f< = face_in c k k< l

            real : across t f ≢ none
            real = omega (arith, few M R)

            back : across t (mate t f) ≡ c
            back = (mated M R f f< real).back ∙ face_cell c k k<

            next : pos 0 <ℤ cell_e t p (across t f)
            next = crossing p f f< real (<→≤ (subst (λ z. z <ℤ pos 0) (form_whole t p f) b)) (subst (λ x. pos 0 <ℤ cell_e t p x) (sym (face_cell c k k<)) h)

        -- where it ends
        held_in : (c : ℕ) → IsCell t n c → HoldsForm t (whole p) c → in_set s c ≡ true
        held_in c l h = cavity_has t n p (says_yes sphere t p) (base t n p) (base_long t n p) c (base_at t n p c l.below ∙ holds_yes t p c l.lives sides)
          where
            sides : Holds t p c
            sides = unfold Holds in (λ k i. subst (λ z. pos 0 ≤ℤ z) (form_whole t p (4 * c + k) ∙ side_at_lem t p c k i) (h k i))

        pub cavity_some : (c : ℕ) × (in_set s c ≡ true)
        cavity_some = let r = held M R (whole p) (whole_in_box box) in (r.0, held_in r.0 r.1 r.2)

        inside_cavity : (c : ℕ) → IsCell t n c → pos 0 <ℤ cell_e t p c → in_set s c ≡ true
        inside_cavity c l h = let r = straight_walk M R (whole p) (whole_in_box box) c l in walked l r.path (held_in r.cell r.cell< r.holds) h

        pub outside_cavity : (c : ℕ) → IsCell t n c → in_set s c ≡ false → cell_e t p c ≤ℤ pos 0
        outside_cavity c l e = by (total (cell_e t p c) (pos 0))
          where
            by : (cell_e t p c ≤ℤ pos 0) ⊎ (pos 0 <ℤ cell_e t p c) → cell_e t p c ≤ℤ pos 0
            by (inl h) = h
            by (inr h) = clash (inside_cavity c l h) e

        -- D4
        pub cavity_is : (c : ℕ) → IsCell t n c → in_set s c ≡ says_yes sphere t p c
        cavity_is c l = bool_ext (in_set s c) (says_yes sphere t p c) (λ e. yes_yes t p c (cavity_inside c e)) (λ y. inside_cavity c l (yes_of t p c y))

        -- D5: an outer face of it
        pub cavity_faces : (f : ℕ) → outer (across t) (in_set s) f ≡ true → (visible t p s f ≡ true) ⊎ (coplanar t p f ≡ true)
        cavity_faces f o = by (ℕ_discrete (across t f) none)
          where
            q : Outer t s f
            q = outer_of_lem t s f o

            f< : IsFace t n f
            f< = cavity_cell t n p (cell_of f) q.held

            by : Dec (across t f ≡ none) → (visible t p s f ≡ true) ⊎ (coplanar t p f ≡ true)
            by (no real) =
                inl (visible_yes t p s f o
                (crossing_out p f f< real (cavity_inside (cell_of f) q.held) (outside_cavity (across t f) (across_cell M R f f< real) q.free)))
            by (yes bare) = at (trichotomy (pos 0) (side t p f))
              where
                at : (pos 0 <ℤ side t p f) ⊎ ((pos 0 ≡ side t p f) ⊎ (side t p f <ℤ pos 0)) → (visible t p s f ≡ true) ⊎ (coplanar t p f ≡ true)
                at (inl h) = inl (visible_yes t p s f o h)
                at (inr (inl h)) = inr (coplanar_yes t p f bare (sym h))
                at (inr (inr h)) = absurd (<-irrefl (≤-<-trans (wall_inner M f f< bare p box) h))

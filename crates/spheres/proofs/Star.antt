-- D7: the spheres are empty after the star, of the cells that stay and of the new ones. THE STEP: one insertion by the exact answers.
use Prim.Native.Nat.{ℕ, ◌+◌, ◌<◌}
use mathlib.Core.Bool.{Bool, true}
use mathlib.Core.Logic.{◌≢◌, ◌⊎◌, inl, inr}
use mathlib.Core.Path.{◌≡◌, sym, ap, ◌∙◌, subst}
use mathlib.Core.List.{List}
use native.Mathlib.Omega.{arith}
use native.Mathlib.Decide.{ℕ_discrete, dec_lt}
use borrow.Author.Tests.{not-true}
use lib.IntN.{pos}
use lib.Signed.{◌<ℤ◌, ◌≤ℤ◌}
use Rattle.arith.proofs.Order.{<→≤, ≡→≤, <-irrefl, ≤-<-trans, total, neg-mono-<, neg_pos}
use Rattle.geometry.specs.declared.Position.{Position}
use Rattle.geometry.specs.Volume.{volume, replaced, InBox}
use Rattle.geometry.proofs.Places.{replaced_same, replaced_other}
use Rattle.insphere.proofs.Power.{power, power_cong, power_corner}
use Rattle.insphere.proofs.Inside.{stays_out, near_out, far_out}
use Rattle.mesh.specs.Tables.{Tables, none, cell_of, opposite, point, corner, across, corner_at, side, mate, IsCell, IsFace}
use Rattle.mesh.specs.Mesh.{OnFace, IsMesh}
use Rattle.mesh.proofs.Room.{Room}
use Rattle.mesh.proofs.Faces.{mated, mate<, mate_opposite, across_cell, same_back}
use Rattle.mesh.proofs.FaceNumbers.{opposite<}
use Rattle.mesh.proofs.Walls.{wall_inner}
use Rattle.cavity.specs.Answers.{sphere, cell_e, says_yes}
use Rattle.cavity.specs.Cavity.{in_set, cavity_of, visible, corrected_cavity, cavity_size}
use Rattle.cavity.proofs.Tests.{Visible, visible_of}
use Rattle.star.specs.Star.{Numbers, made_count, used_after, kept?, star}
use Rattle.star.proofs.Numbered.{IsStar, Origin, from_kept, from_made, kept_position, made_position}
use Rattle.star.proofs.Star.{Fits, is_star}
use Rattle.spheres.specs.Exact.{Empty, ExactInsertion}
use Rattle.spheres.proofs.Cavity.{above, sphere_is, point_out, exact_cavity, cavity_inside, outside_cavity, cavity_is}
use Rattle.spheres.proofs.Corners.{corrected_same}

module _ {X Y Z pc cc np n : ℕ} {t : Tables} (M : IsMesh X Y Z pc cc np n t) (R : Room pc cc t) (G : Empty np n t)
    (p : Position) (box : InBox X Y Z p) (new : (k : ℕ) → k < np → p ≢ point t k) where
  abbrev s : List Bool
  s = exact_cavity t n p

  old_out : (c k : ℕ) → IsCell t n c → k < np → power (corner_at t c) (point t k) ≤ℤ pos 0
  old_out c k l h = subst (λ z. z ≤ℤ pos 0) (sphere_is t (point t k) c) (point_out G c k l h)

  -- ---- a new cell

  module _ (f : ℕ) (f< : IsFace t n f) (vis : visible t p s f ≡ true) where
    abbrev c : ℕ
    c = cell_of f

    abbrev r : ℕ → Position
    r = replaced (corner_at t c) (opposite f) p

    seen : Visible t p s f
    seen = visible_of t p s f vis

    r_above : pos 0 <ℤ volume r
    r_above = unfold side in seen.above

    r_tip : power r p ≡ pos 0
    r_tip = ap (power r) (sym (replaced_same (corner_at t c) (opposite f) p)) ∙ power_corner r (opposite f) (opposite< f)

    r_shared : (i : ℕ) → i < 4 → i ≢ opposite f → power r (corner_at t c i) ≡ pos 0
    r_shared i h d = ap (power r) (sym (replaced_other (corner_at t c) (opposite f) p i d)) ∙ power_corner r i h

    near : (x : Position) → pos 0 ≤ℤ side t x f → power (corner_at t c) x ≤ℤ pos 0 → power r x ≤ℤ pos 0
    unfolding side
    near =
        stays_out (corner_at t c) r (opposite f) (opposite< f) r_shared (above M c f<) r_above
        (near_out (corner_at t c) r (opposite f) (opposite< f) r_shared (above M c f<) r_above p r_tip r_above
        (<→≤ (subst (λ z. pos 0 <ℤ z) (sphere_is t p c) (cavity_inside M R G p box new c seen.held))))

    module _ (real : across t f ≢ none) where
      abbrev u : ℕ
      u = cell_of (mate t f)

      u< : IsCell t n u
      u< = mate< M R f f< real

      u_shared : (j : ℕ) → j < 4 → j ≢ opposite (mate t f) → power r (corner_at t u j) ≡ pos 0
      u_shared j h d = at (same_back M R f f< real j h d)
        where
          at : OnFace t f (corner t u j) → power r (corner_at t u j) ≡ pos 0
          at o = ap (power r) same ∙ r_shared o.place o.place< o.off
            where
              same : corner_at t u j ≡ corner_at t c o.place
              same = unfold corner_at in ap (point t) (sym o.is)

      u_out : power (corner_at t u) p ≤ℤ pos 0
      u_out =
          subst (λ z. z ≤ℤ pos 0) (sphere_is t p u)
          (subst (λ d. cell_e t p d ≤ℤ pos 0) (sym (mated M R f f< real).far_cell) (outside_cavity M R G p box new (across t f) (across_cell M R f f< real) seen.free))

      behind : side t p (mate t f) <ℤ pos 0
      behind = subst (λ z. z <ℤ pos 0) (sym (mate_opposite M R f f< real p)) (neg-mono-< seen.above)

      far : (x : Position) → side t x f <ℤ pos 0 → power (corner_at t u) x ≤ℤ pos 0 → power r x ≤ℤ pos 0
      unfolding side
      far x b h =
          stays_out (corner_at t u) r (opposite (mate t f)) (opposite< (mate t f)) u_shared (above M u u<) r_above
          (far_out (corner_at t u) r (opposite (mate t f)) (opposite< (mate t f)) u_shared (above M u u<) r_above p r_tip behind u_out) x
          (subst (λ z. pos 0 ≤ℤ z) (sym (mate_opposite M R f f< real x)) (<→≤ (neg_pos b))) h

    made_out : (k : ℕ) → k < np → power r (point t k) ≤ℤ pos 0
    made_out k h = by (total (pos 0) (side t (point t k) f)) (ℕ_discrete (across t f) none)
      where
        by : (pos 0 ≤ℤ side t (point t k) f) ⊎ (side t (point t k) f <ℤ pos 0) → Dec (across t f ≡ none) → power r (point t k) ≤ℤ pos 0
        by (inl b) d = near (point t k) b (old_out c k f< h)
        by (inr b) (no real) = far real (point t k) b (old_out (u real) k (u< real) h)
        by (inr b) (yes bare) = absurd (<-irrefl (≤-<-trans (wall_inner M f f< bare (point t k) (M.inside k h)) b))

  -- ---- all cells

  module _ {N : Numbers} {t' : Tables} {n' : ℕ} (F : IsStar N t n p np s t' n') where
    each : (c' : ℕ) → IsCell t' n' c' → (k : ℕ) → k < np + 1 → power (corner_at t' c') (point t' k) ≤ℤ pos 0
    each c' l k h = by (dec_lt k np) (F.only c' l)
      where
        last : (k < np → ⊥) → point t' k ≡ p
        last d = let e : k ≡ np = omega arith in ap (point t') e ∙ F.new_point

        kept : (c : ℕ) → IsCell t n c → kept? s c ≡ true → c' ≡ N.kept c → (x : Position) → power (corner_at t' c') x ≡ power (corner_at t c) x
        kept c c< e q x =
            ap (λ d. power (corner_at t' d) x) q ∙ power_cong (corner_at t' (N.kept c)) (corner_at t c) x (kept_position F M.corner< c c< e)

        made : (f : ℕ) (f< : IsFace t n f) (e : visible t p s f ≡ true) → c' ≡ N.made f → (x : Position) → power (corner_at t' c') x ≡ power (r f f< e) x
        made f f< e q x =
            ap (λ d. power (corner_at t' d) x) q ∙ power_cong (corner_at t' (N.made f)) (r f f< e) x (made_position F M.corner< f f< e)

        by : Dec (k < np) → Origin N t n p s c' → power (corner_at t' c') (point t' k) ≤ℤ pos 0
        by (yes o) (from_kept c c< e q) =
            subst (λ z. z ≤ℤ pos 0) (sym (ap (power (corner_at t' c')) (F.old_point k o) ∙ kept c c< e q (point t k))) (old_out c k c< o)
        by (no d) (from_kept c c< e q) =
            subst (λ z. z ≤ℤ pos 0) (sym (ap (power (corner_at t' c')) (last d) ∙ (kept c c< e q p ∙ sym (sphere_is t p c)))) (outside_cavity M R G p box new c c< (not-true (in_set s c) e))
        by (yes o) (from_made f f< e q) =
            subst (λ z. z ≤ℤ pos 0) (sym (ap (power (corner_at t' c')) (F.old_point k o) ∙ made f f< e q (point t k))) (made_out f f< e k o)
        by (no d) (from_made f f< e q) = ≡→≤ (ap (power (corner_at t' c')) (last d) ∙ (made f f< e q p ∙ r_tip f f< e))

    -- D7
    star_empty : Empty (np + 1) n' t'
    star_empty = record { outside = λ c k l h. subst (λ z. z ≤ℤ pos 0) (sym (sphere_is t' (point t' k) c)) (each c l k h) }

  pub exact_insertion : {ch : List ℕ} → Fits pc cc np n t p (corrected_cavity t n p (says_yes sphere t p)) ch → ExactInsertion ch np n t p
  unfolding cavity_of
  exact_insertion {ch} F = record {
    cavity_is = cavity_is M R G p box new;
    nothing_removed = same;
    same_size = ap (cavity_size n) (sym same);
    empty =
        subst (λ r. Empty (np + 1) (used_after ch n (made_count t n p r)) (star ch t n p np r)) (sym same)
        (star_empty (is_star (subst (λ r. Fits pc cc np n t p r ch) same F)));
  }
    where
      same : corrected_cavity t n p (says_yes sphere t p) ≡ cavity_of t n p (says_yes sphere t p)
      same = corrected_same M R G p box new

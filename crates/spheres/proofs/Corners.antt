-- D6: every corner of the cavity's cells is on a visible outer face, so the cavity is star-shaped and the correction removes nothing. From a cell of the cavity
-- with the corner v walk away from p to just beyond v, inside the box or not: the walk leaves the cavity by a face at v that is visible, or ends in a cell
-- of the cavity with p on the far side of all its faces at v; but then p is not inside its sphere.
use Prim.Native.Nat.{ℕ, ◌+◌, ◌*◌, ◌<◌}
use mathlib.Core.Bool.{Bool, true, false}
use mathlib.Core.Logic.{◌≢◌, ◌⊎◌, inl, inr}
use mathlib.Core.Path.{◌≡◌, refl, sym, ap, ◌∙◌, subst}
use mathlib.Core.List.{List, [], ◌∷◌}
use native.Mathlib.Omega.{arith}
use lib.IntN.{ℤ, pos, negsuc, neg_ℤ}
use lib.Signed.{◌<ℤ◌, ◌≤ℤ◌}
use Rattle.arith.proofs.Flags.{split}
use Rattle.arith.proofs.Order.{arithℤ, parts_neg, <→≤, <-irrefl, <-≤-trans}
use Rattle.arith.proofs.Ring.{var, con, ◌⊕◌, ◌⊗◌, neg, ring}
use Rattle.geometry.specs.declared.Position.{Position}
use Rattle.geometry.specs.Volume.{InBox}
use Rattle.insphere.proofs.Power.{power}
use Rattle.insphere.proofs.Inside.{beyond_corner}
use Rattle.mesh.specs.Tables.{Tables, none, cell_of, opposite, point, corner, across, corner_at, cell_volume, side, mate, IsCell, IsFace}
use Rattle.mesh.specs.Mesh.{OnFace, IsMesh}
use Rattle.mesh.proofs.Room.{Room}
use Rattle.mesh.proofs.Held.{side_at_lem}
use Rattle.mesh.proofs.Faces.{few, mated, across_cell}
use Rattle.mesh.proofs.FaceNumbers.{face_cell, face_opposite, face_in}
use Rattle.cavity.specs.Answers.{sphere, says_yes}
use Rattle.cavity.specs.Cavity.{in_set, base, cavity_of, corrected_cavity}
use Rattle.cavity.specs.Inner.Star.{Exposed, StarShaped}
use Rattle.cavity.proofs.Tests.{outer_yes, visible_yes}
use Rattle.cavity.proofs.Correction.{base_long, cavity_long, star_shaped_stays}
use Rattle.covering.specs.Place.{Place, whole}
use Rattle.covering.specs.Holders.{FacePath, here, step}
use Rattle.covering.proofs.Linear.{placed, form, InsideForm, form_whole}
use Rattle.covering.proofs.Avoid.{over_all, over_each, outweighs, at_zero}
use Rattle.covering.proofs.Fields.{Field, HoldsBy, blend, field_blend, form_field}
use Rattle.covering.proofs.Walk.{Leaves, Walked, arrived, first_left, second_left, walk_from}
use Rattle.covering.proofs.Cover.{form_own, form_off, Start, start, middle, middle_inside, path_map}
use Rattle.spheres.specs.Exact.{Empty}
use Rattle.spheres.proofs.Cavity.{sphere_is, exact_cavity, cavity_cell, cavity_inside, cavity_faces, cavity_some}

module _ {X Y Z pc cc np n : ℕ} {t : Tables} (M : IsMesh X Y Z pc cc np n t) (R : Room pc cc t) (G : Empty np n t)
    (p : Position) (box : InBox X Y Z p) (new : (k : ℕ) → k < np → p ≢ point t k) where
  abbrev s : List Bool
  s = exact_cavity t n p

  module _ (v : ℕ) where
    abbrev w : Place
    w = whole (point t v)

    -- the forms of p, negated
    abbrev τ : ℕ → ℤ
    τ = blend (negsuc 0) (form t (whole p)) (pos 0) (form t w)

    abbrev N : ℕ
    N = over_all (4 * n) τ

    -- from v on, away from p
    abbrev away : ℕ → ℤ
    away = blend (pos N) (form t w) (pos 1) τ

    away_field : Field t n away
    away_field =
        field_blend (pos N) (form t w) (pos 1) τ (form_field M R w) (field_blend (negsuc 0) (form t (whole p)) (pos 0) (form t w) (form_field M R (whole p)) (form_field M R w))

    -- cell c of the cavity has the corner v
    record At (c : ℕ) : Type 0 where
      held : in_set s c ≡ true
      place : ℕ
      place< : place < 4
      is : corner t c place ≡ v

    w_is : {c : ℕ} (A : At c) → placed t c A.place ≡ w
    w_is A = unfold corner_at in ap (λ k. whole (point t k)) A.is

    -- at the faces at v
    away_face : {c : ℕ} (A : At c) (k : ℕ) → k < 4 → k ≢ A.place → away (4 * c + k) ≡ neg_ℤ (side t p (4 * c + k))
    away_face {c} A k k< d =
        at_zero N (form t w (4 * c + k)) (τ (4 * c + k)) (ap (λ x. form t x (4 * c + k)) (sym (w_is A)) ∙ form_off t c A.place k A.place< k< (λ e. d (sym e))) ∙
        (ring (con (negsuc 0) ⊗ var 0 ⊕ con (pos 0) ⊗ var 1) (neg (var 0)) tt (form t (whole p) (4 * c + k) ∷ form t w (4 * c + k) ∷ []) ∙ ap neg_ℤ (form_whole t p (4 * c + k)))

    away_own : {c : ℕ} (A : At c) → IsCell t n c → pos 0 <ℤ away (4 * c + A.place)
    away_own {c} A c< =
        outweighs N (form t w (4 * c + A.place)) (τ (4 * c + A.place)) (over_each (4 * n) τ (4 * c + A.place) (omega (arith, A.place<, c<.below)))
        (subst (λ z. pos 0 <ℤ z) (sym (ap (λ x. form t x (4 * c + A.place)) (sym (w_is A)) ∙ form_own t c A.place A.place<)) (M.positive c c<))

    neg_lt : (z : ℤ) → neg_ℤ z <ℤ pos 0 → pos 0 <ℤ z
    neg_lt z h = omega (arithℤ, parts_neg z)

    neg_le : (z : ℤ) → pos 0 ≤ℤ neg_ℤ z → z ≤ℤ pos 0
    neg_le z h = omega (arithℤ, parts_neg z)

    -- a face that separates from `away` is at v, and p is before it: if it is outer, it exposes v; else the cavity goes on at v across it
    onward : (c k : ℕ) → IsCell t n c → k < 4 → At c → away (4 * c + k) <ℤ pos 0 → (At (across t (4 * c + k)) → Exposed t n p s v) → Exposed t n p s v
    onward c k c< k< A h more = by (split (in_set s (across t f)))
      where
        f : ℕ
        f = 4 * c + k

        f< : IsFace t n f
        f< = face_in c k k< c<

        apart : k ≢ A.place
        apart e = <-irrefl (<-≤-trans (subst (λ j. pos 0 <ℤ away (4 * c + j)) (sym e) (away_own A c<)) (<→≤ h))

        front : pos 0 <ℤ side t p f
        front = neg_lt (side t p f) (subst (λ z. z <ℤ pos 0) (away_face A k k< apart) h)

        off : A.place ≢ opposite f
        off e = apart (sym (e ∙ face_opposite c k k<))

        by : (in_set s (across t f) ≡ true) ⊎ (in_set s (across t f) ≡ false) → Exposed t n p s v
        by (inr free) = record {
          face = f;
          face< = f<;
          face_visible = visible_yes t p s f (outer_yes t s f (ap (in_set s) (face_cell c k k<) ∙ A.held) free) front;
          on = record { place = A.place; place< = A.place<; off = off; is = ap (λ x. corner t x A.place) (face_cell c k k<) ∙ A.is };
        }
        by (inl held) = more (at ((mated M R f f< real).same A.place A.place< off))
          where
            real : across t f ≢ none
            real = omega (arith, few M R, (cavity_cell t n p (across t f) held).below)

            at : OnFace t (mate t f) (corner t (cell_of f) A.place) → At (across t f)
            at o = record {
              held = held;
              place = o.place;
              place< = o.place<;
              is = ap (λ x. corner t x o.place) (sym (mated M R f f< real).far_cell) ∙ (o.is ∙ (ap (λ x. corner t x A.place) (face_cell c k k<) ∙ A.is));
            }

    along : {c d : ℕ} → IsCell t n c → FacePath t n (λ c k. away (4 * c + k) <ℤ pos 0) c d → At c → (At d → Exposed t n p s v) → Exposed t n p s v
    along l here A more = more A
    along {c} l (step k k< b u< r) A more = onward c k l k< A b (λ B. along (across_cell M R (4 * c + k) (face_in c k k< l) (omega (arith, few M R))) r B more)

    -- no cell of the cavity has p on the far side of all its faces at v
    not_beyond : (c : ℕ) → IsCell t n c → At c → HoldsBy away c → ⊥
    not_beyond c c< A h = <-irrefl (<-≤-trans (cavity_inside M R G p box new c A.held) (subst (λ z. z ≤ℤ pos 0) (sym (sphere_is t p c)) out))
      where
        out : power (corner_at t c) p ≤ℤ pos 0
        out = beyond_corner (corner_at t c) p A.place (unfold cell_volume in M.positive c c<)
            (λ k l d. subst (λ z. z ≤ℤ pos 0) (side_at_lem t p c k l) (neg_le (side t p (4 * c + k)) (subst (λ z. pos 0 ≤ℤ z) (away_face A k l d) (h k l))))

    exposed_from_lem : (c : ℕ) → IsCell t n c → At c → Exposed t n p s v
    exposed_from_lem c c< A = go (start M away (middle t c))
      where
        left : Leaves t n away c → Exposed t n p s v
        left L =
            along c< L.path A
            (λ B. onward L.end L.wall L.end< L.wall< B L.beyond
            (λ C. absurd (omega (arith, few M R, (cavity_cell t n p (across t (4 * L.end + L.wall)) C.held).below, L.bare))))

        go : (x : Place) × Start t n away (middle t c) x → Exposed t n p s v
        go (x, S) = by (walk_from M R away away_field (λ p. Unit {0}) (λ a p b h k u. tt) (form t x) (form_field M R x) tt S.generic c c c< c< inner inner)
          where
            inner : InsideForm t x c
            inner = S.near c c<.below (middle_inside M c c<)

            by : Walked t n away (λ p. Unit {0}) c c → Exposed t n p s v
            by (arrived W) = along c< (path_map (λ c k r. r.separates) W.path) A (λ B. absurd (not_beyond W.end₁ W.end₁< B W.holds₁))
            by (first_left L) = left L
            by (second_left L) = left L

  -- D6
  cavity_corner : (c i : ℕ) → in_set s c ≡ true → i < 4 → Exposed t n p s (corner t c i)
  cavity_corner c i e h = exposed_from_lem (corner t c i) c (cavity_cell t n p c e) record { held = e; place = i; place< = h; is = refl }

  cavity_star_shaped : StarShaped t n p s
  cavity_star_shaped = record {
    cells = cavity_cell t n p;
    faces = cavity_faces M R G p box new;
    corners = cavity_corner;
    some = cavity_some M R G p box new;
  }

  pub corrected_same : corrected_cavity t n p (says_yes sphere t p) ≡ cavity_of t n p (says_yes sphere t p)
  unfolding corrected_cavity cavity_of
  corrected_same = star_shaped_stays cavity_star_shaped (base t n p) (cavity_long t n p (says_yes sphere t p) (base t n p) (base_long t n p))

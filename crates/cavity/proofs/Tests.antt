-- The tests of an insertion, as facts.
use Prim.Native.Nat.{ℕ, ◌+◌, ◌*◌, ◌<◌}
use mathlib.Core.Bool.{Bool, true, false, not, ◌&&◌, ◌||◌}
use mathlib.Core.Logic.{◌⊎◌, inl, inr}
use mathlib.Core.Path.{◌≡◌, sym, ap, subst}
use mathlib.Core.List.{List}
use lib.Dec.{eqb}
use lib.IntN.{ℤ, pos}
use lib.Signed.{◌<ℤ◌, ◌≤ℤ◌, le_z, lt_z}
use borrow.Author.Tests.{eqb-true, eq-eqb, not-true}
use Rattle.arith.specs.Table.{any_below}
use Rattle.arith.proofs.Flags.{clash, and_left, and_right, and_intro, or_cases}
use Rattle.arith.proofs.Tables.{all_at, all_intro, any_found, Found}
use Rattle.arith.proofs.Order.{≡→≤, lt_z_true, lt_lt_z, le_z_true, le_le_z}
use Rattle.geometry.specs.declared.Position.{Position}
use Rattle.mesh.specs.Tables.{Tables, none, cell_of, corner, across, side, face_has, live, IsCell}
use Rattle.mesh.proofs.Links.{on_face_of}
use Rattle.mesh.proofs.Held.{Holds, side_at_lem}
use Rattle.cavity.specs.Cavity.{outer, in_set, visible, coplanar, faces_good, corners_good}
use Rattle.locate.specs.Locate.{holds}
use Rattle.mesh.specs.Check.{same_z}
use Rattle.cavity.specs.Inner.Star.{Exposed}
use Rattle.mesh.proofs.Checked.{same_is}

zero_yes : (z : ℤ) → z ≡ pos 0 → same_z z (pos 0) ≡ true
zero_yes z e = and_intro (le_le_z (≡→≤ e)) (le_le_z (≡→≤ (sym e)))

pub record Outer (t : Tables) (s : List Bool) (f : ℕ) : Type 0 where
  pub held : in_set s (cell_of f) ≡ true
  pub free : in_set s (across t f) ≡ false

pub outer_of_lem : (t : Tables) (s : List Bool) (f : ℕ) → outer (across t) (in_set s) f ≡ true → Outer t s f
unfolding outer
outer_of_lem t s f e = record {
  held = and_left (in_set s (cell_of f)) (not (in_set s (across t f))) e;
  free = not-true (in_set s (across t f)) (and_right (in_set s (cell_of f)) (not (in_set s (across t f))) e);
}

pub outer_yes : (t : Tables) (s : List Bool) (f : ℕ) → in_set s (cell_of f) ≡ true → in_set s (across t f) ≡ false → outer (across t) (in_set s) f ≡ true
unfolding outer
outer_yes t s f h k = and_intro h (ap not k)

pub record Visible (t : Tables) (p : Position) (s : List Bool) (f : ℕ) : Type 0 where
  pub outer? : outer (across t) (in_set s) f ≡ true
  pub held : in_set s (cell_of f) ≡ true
  pub free : in_set s (across t f) ≡ false
  pub above : pos 0 <ℤ side t p f

pub visible_of : (t : Tables) (p : Position) (s : List Bool) (f : ℕ) → visible t p s f ≡ true → Visible t p s f
unfolding visible
visible_of t p s f e = record {
  outer? = and_left (outer (across t) (in_set s) f) (lt_z (pos 0) (side t p f)) e;
  held = (outer_of_lem t s f (and_left (outer (across t) (in_set s) f) (lt_z (pos 0) (side t p f)) e)).held;
  free = (outer_of_lem t s f (and_left (outer (across t) (in_set s) f) (lt_z (pos 0) (side t p f)) e)).free;
  above = lt_z_true (pos 0) (side t p f) (and_right (outer (across t) (in_set s) f) (lt_z (pos 0) (side t p f)) e);
}

pub visible_yes : (t : Tables) (p : Position) (s : List Bool) (f : ℕ) → outer (across t) (in_set s) f ≡ true → pos 0 <ℤ side t p f → visible t p s f ≡ true
unfolding visible
visible_yes t p s f h k = and_intro h (lt_lt_z k)

pub record Coplanar (t : Tables) (p : Position) (f : ℕ) : Type 0 where
  pub bare : across t f ≡ none
  pub level : side t p f ≡ pos 0

pub coplanar_of : (t : Tables) (p : Position) (f : ℕ) → coplanar t p f ≡ true → Coplanar t p f
unfolding coplanar
coplanar_of t p f e = record {
  bare = eqb-true (across t f) none (and_left (eqb (across t f) none) (same_z (side t p f) (pos 0)) e);
  level = same_is (and_right (eqb (across t f) none) (same_z (side t p f) (pos 0)) e);
}

pub coplanar_yes : (t : Tables) (p : Position) (f : ℕ) → across t f ≡ none → side t p f ≡ pos 0 → coplanar t p f ≡ true
unfolding coplanar
coplanar_yes t p f h k = and_intro (eq-eqb (across t f) none h) (zero_yes (side t p f) k)

pub holds_of : (t : Tables) (p : Position) (c : ℕ) → holds t p c ≡ true → Holds t p c
unfolding holds Holds
holds_of t p c e k h =
    subst (λ z. pos 0 ≤ℤ z) (side_at_lem t p c k h)
    (le_z_true (pos 0) (side t p (4 * c + k)) (all_at 4 (λ k. le_z (pos 0) (side t p (4 * c + k))) (and_right (live t c) _ e) k h))

pub holds_yes : (t : Tables) (p : Position) (c : ℕ) → live t c ≡ true → Holds t p c → holds t p c ≡ true
unfolding holds Holds
holds_yes t p c a h = and_intro a (all_intro 4 (λ k. le_z (pos 0) (side t p (4 * c + k))) (λ k l. le_le_z (subst (λ z. pos 0 ≤ℤ z) (sym (side_at_lem t p c k l)) (h k l))))

pub faces_good_lem : (t : Tables) (p : Position) (s : List Bool) (c k : ℕ) → faces_good t p s c ≡ true → k < 4 → outer (across t) (in_set s) (4 * c + k) ≡ true →
    (visible t p s (4 * c + k) ≡ true) ⊎ (coplanar t p (4 * c + k) ≡ true)
unfolding faces_good
faces_good_lem t p s c k e h o = go (or_cases _ (coplanar t p (4 * c + k) || visible t p s (4 * c + k)) (all_at 4 (λ k. not (outer (across t) (in_set s) (4 * c + k)) || (coplanar t p (4 * c + k) || visible t p s (4 * c + k))) e k h))
  where
    go : (not (outer (across t) (in_set s) (4 * c + k)) ≡ true) ⊎ ((coplanar t p (4 * c + k) || visible t p s (4 * c + k)) ≡ true) →
        (visible t p s (4 * c + k) ≡ true) ⊎ (coplanar t p (4 * c + k) ≡ true)
    go (inl q) = clash o (not-true (outer (across t) (in_set s) (4 * c + k)) q)
    go (inr q) = by (or_cases (coplanar t p (4 * c + k)) (visible t p s (4 * c + k)) q)
      where
        by : (coplanar t p (4 * c + k) ≡ true) ⊎ (visible t p s (4 * c + k) ≡ true) → (visible t p s (4 * c + k) ≡ true) ⊎ (coplanar t p (4 * c + k) ≡ true)
        by (inl r) = inr r
        by (inr r) = inl r

pub corners_good_lem : (t : Tables) (n : ℕ) (p : Position) (s : List Bool) → ((c : ℕ) → in_set s c ≡ true → IsCell t n c) → (c k : ℕ) → corners_good t n p s c ≡ true → k < 4 → Exposed t n p s (corner t c k)
unfolding corners_good
corners_good_lem t n p s cells c k e h =
    go (any_found (4 * n) (λ f. visible t p s f && face_has t f (corner t c k)) (all_at 4 (λ k. any_below (4 * n) (λ f. visible t p s f && face_has t f (corner t c k))) e k h))
  where
    go : Found (4 * n) (λ f. visible t p s f && face_has t f (corner t c k)) → Exposed t n p s (corner t c k)
    go q = record {
      face = q.at;
      face< = cells (cell_of q.at) (visible_of t p s q.at (and_left (visible t p s q.at) (face_has t q.at (corner t c k)) q.passes)).held;
      face_visible = and_left (visible t p s q.at) (face_has t q.at (corner t c k)) q.passes;
      on = on_face_of t q.at (corner t c k) (and_right (visible t p s q.at) (face_has t q.at (corner t c k)) q.passes);
    }

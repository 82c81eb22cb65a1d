-- The sign of E where the volume is above 0: above 0 strictly inside the sphere, below 0 outside it. Of one tetrahedron; then of two that share all corners
-- but one.
use Prim.Native.Nat.{ℕ, ◌<◌}
use mathlib.Core.Logic.{◌≢◌, ◌⊎◌, inl, inr}
use mathlib.Core.Path.{◌≡◌, refl, sym, ap, ◌∙◌, subst}
use mathlib.Core.List.{[], ◌∷◌}
use native.Mathlib.Decide.{ℕ_discrete}
use lib.IntN.{ℤ, pos, ◌+ℤ◌, ◌-ℤ◌, ◌*ℤ◌, *ℤ-zero, *ℤ_comm}
use lib.Signed.{◌<ℤ◌, ◌≤ℤ◌}
use Rattle.arith.specs.Table.{sum}
use Rattle.arith.proofs.Order.{arithℤ, parts_sub, ≡→≤, <→≤, <-irrefl, total, +-pos, +-nonpos, +-neg, *-nonneg, *-pos, *-neg-l, *-nonpos-r, *-nonpos-nonpos, cancel_pos}
use Rattle.arith.proofs.Ring.{var, ◌⊕◌, ring}
use Rattle.arith.proofs.Sums.{sum_zero, sum_mono, sum_pos}
use Rattle.geometry.specs.declared.Position.{Position}
use Rattle.geometry.specs.Volume.{volume, replaced, squared_distance}
use Rattle.geometry.proofs.Distances.{distance_nonneg, distance_pos, distance_self}
use Rattle.insphere.proofs.Power.{power, power_from, power_from_lem, transfer_face}

-- a point that is beyond no face, strictly before one of them, and not the corner opposite that one
pub held_inside : (s : ℕ → Position) (p : Position) → ((k : ℕ) → k < 4 → pos 0 ≤ℤ volume (replaced s k p)) →
    (j : ℕ) → j < 4 → pos 0 <ℤ volume (replaced s j p) → p ≢ s j → pos 0 <ℤ power s p
unfolding power
held_inside s p h j l w d =
    sum_pos 4 (λ k. volume (replaced s k p) *ℤ squared_distance (s k) p) (λ k i. *-nonneg (h k i) (distance_nonneg (s k) p)) j l
    (*-pos w (distance_pos (s j) p d))

-- beyond a corner, on the far side of its three faces: not inside the sphere
pub beyond_corner : (s : ℕ → Position) (p : Position) (j : ℕ) → pos 0 <ℤ volume s → ((k : ℕ) → k < 4 → k ≢ j → volume (replaced s k p) ≤ℤ pos 0) → power s p ≤ℤ pos 0
unfolding power_from
beyond_corner s p j h each =
    subst (λ z. z ≤ℤ pos 0) (sym (power_from_lem (s j) s p))
    (less (sum 4 term) (volume s *ℤ squared_distance p (s j))
    (subst (λ z. sum 4 term ≤ℤ z) (sum_zero 4 (λ k. pos 0) (λ k l. refl)) (sum_mono 4 term (λ k. pos 0) (λ k l. go k l (ℕ_discrete k j))))
    (*-nonneg (<→≤ h) (distance_nonneg p (s j))))
  where
    term : ℕ → ℤ
    term k = volume (replaced s k p) *ℤ squared_distance (s k) (s j)

    less : (a b : ℤ) → a ≤ℤ pos 0 → pos 0 ≤ℤ b → (a -ℤ b) ≤ℤ pos 0
    less a b x y = omega (arithℤ, parts_sub a b)

    go : (k : ℕ) → k < 4 → Dec (k ≡ j) → term k ≤ℤ pos 0
    go k l (yes e) = ≡→≤ (ap (λ z. volume (replaced s k p) *ℤ z) (ap (λ m. squared_distance (s m) (s j)) e ∙ distance_self (s j)) ∙ *ℤ-zero (volume (replaced s k p)))
    go k l (no d) =
        subst (λ z. z ≤ℤ pos 0) (*ℤ_comm (squared_distance (s k) (s j)) (volume (replaced s k p))) (*-nonpos-r (distance_nonneg (s k) (s j)) (each k l d))

-- ---- the corners of s lie on the sphere of r, but for the one at place k

module _ (s r : ℕ → Position) (k : ℕ) (k< : k < 4) (shared : (i : ℕ) → i < 4 → i ≢ k → power r (s i) ≡ pos 0)
    (above_s : pos 0 <ℤ volume s) (above_r : pos 0 <ℤ volume r) where
  -- what is not on the side of s and inside its sphere is inside that of r
  pub crosses_in : power r (s k) ≤ℤ pos 0 → (q : Position) → volume (replaced s k q) ≤ℤ pos 0 → pos 0 <ℤ power s q → pos 0 <ℤ power r q
  crosses_in e q b h =
      cancel_pos {a = volume s} (power r q) above_s
      (subst (λ z. pos 0 <ℤ z) (ring (var 1 ⊕ var 0) (var 0 ⊕ var 1) tt ((volume (replaced s k q) *ℤ power r (s k)) ∷ (volume r *ℤ power s q) ∷ []) ∙ sym (transfer_face s r k k< shared q))
      (+-pos (*-pos above_r h) (*-nonpos-nonpos b e)))

  -- what is on the side of s and not inside its sphere is not inside that of r
  pub stays_out : power r (s k) ≤ℤ pos 0 → (q : Position) → pos 0 ≤ℤ volume (replaced s k q) → power s q ≤ℤ pos 0 → power r q ≤ℤ pos 0
  stays_out e q b h = by (total (power r q) (pos 0))
    where
      never : {z u : ℤ} → z ≡ u → pos 0 <ℤ z → u ≤ℤ pos 0 → ⊥
      never {z} {u} q a b = omega arithℤ

      by : (power r q ≤ℤ pos 0) ⊎ (pos 0 <ℤ power r q) → power r q ≤ℤ pos 0
      by (inl l) = l
      by (inr l) = absurd (never (transfer_face s r k k< shared q) (*-pos above_s l) (+-nonpos (*-nonpos-r b e) (*-nonpos-r (<→≤ above_r) h)))

  -- ---- p is a corner of r: whether the last corner of s is inside the sphere of r

  module _ (p : Position) (e : power r p ≡ pos 0) where
    law : pos 0 ≡ volume (replaced s k p) *ℤ power r (s k) +ℤ volume r *ℤ power s p
    law = sym (ap (λ z. volume s *ℤ z) e ∙ *ℤ-zero (volume s)) ∙ transfer_face s r k k< shared p

    -- p on the side of s and not outside its sphere
    pub near_out : pos 0 <ℤ volume (replaced s k p) → pos 0 ≤ℤ power s p → power r (s k) ≤ℤ pos 0
    near_out a h = by (total (power r (s k)) (pos 0))
      where
        by : (power r (s k) ≤ℤ pos 0) ⊎ (pos 0 <ℤ power r (s k)) → power r (s k) ≤ℤ pos 0
        by (inl l) = l
        by (inr l) = absurd (<-irrefl (subst (λ z. pos 0 <ℤ z) (sym law) (+-pos (*-pos a l) (*-nonneg (<→≤ above_r) h))))

    -- p beyond s and not inside its sphere
    pub far_out : volume (replaced s k p) <ℤ pos 0 → power s p ≤ℤ pos 0 → power r (s k) ≤ℤ pos 0
    far_out a h = by (total (power r (s k)) (pos 0))
      where
        by : (power r (s k) ≤ℤ pos 0) ⊎ (pos 0 <ℤ power r (s k)) → power r (s k) ≤ℤ pos 0
        by (inl l) = l
        by (inr l) = absurd (<-irrefl (subst (λ z. z <ℤ pos 0) (sym law) (+-neg (*-neg-l a l) (*-nonpos-r (<→≤ above_r) h))))

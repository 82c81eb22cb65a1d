-- The squared distance is not below 0, and 0 for the same position alone.
use Prim.Native.Nat.{ℕ}
use mathlib.Core.Logic.{◌≢◌, ◌⊎◌, inl, inr}
use mathlib.Core.List.{[], ◌∷◌}
use mathlib.Core.Path.{◌≡◌, sym, ap}
use lib.IntN.{ℤ, pos, nat_abs, ◌+ℤ◌, ◌-ℤ◌, ◌*ℤ◌}
use lib.Signed.{◌<ℤ◌, ◌≤ℤ◌}
use Rattle.arith.proofs.Integers.{eq_of_sub}
use Rattle.arith.proofs.Order.{arithℤ, parts_add, ≤-antisym, total, +-nonneg, square_nonneg, square_zero}
use Rattle.arith.proofs.Ring.{var, con, ◌⊕◌, ◌⊖◌, ◌⊗◌, ring}
use Rattle.geometry.specs.declared.Position.{Position}
use Rattle.geometry.specs.Volume.{squared_distance}

pub distance_nonneg : (a p : Position) → pos 0 ≤ℤ squared_distance a p
unfolding squared_distance
distance_nonneg a p =
    +-nonneg (+-nonneg (square_nonneg (pos a.x -ℤ pos p.x)) (square_nonneg (pos a.y -ℤ pos p.y))) (square_nonneg (pos a.z -ℤ pos p.z))

pub distance_self : (p : Position) → squared_distance p p ≡ pos 0
unfolding squared_distance
distance_self p =
    ring ((var 0 ⊖ var 0) ⊗ (var 0 ⊖ var 0) ⊕ (var 1 ⊖ var 1) ⊗ (var 1 ⊖ var 1) ⊕ (var 2 ⊖ var 2) ⊗ (var 2 ⊖ var 2)) (con (pos 0)) tt
    (pos p.x ∷ pos p.y ∷ pos p.z ∷ [])

-- a sum of squares is 0 where each is
each_zero : (u v w : ℤ) → pos 0 ≤ℤ u → pos 0 ≤ℤ v → pos 0 ≤ℤ w → u +ℤ v +ℤ w ≡ pos 0 → (u ≡ pos 0) × (v ≡ pos 0) × (w ≡ pos 0)
each_zero u v w a b c e =
    (omega (arithℤ, parts_add u v, parts_add (u +ℤ v) w), omega (arithℤ, parts_add u v, parts_add (u +ℤ v) w), omega (arithℤ, parts_add u v, parts_add (u +ℤ v) w))

pub distance_pos : (a p : Position) → p ≢ a → pos 0 <ℤ squared_distance a p
unfolding squared_distance
distance_pos a p d = by (total (squared_distance a p) (pos 0))
  where
    ax : ℤ
    ax = pos a.x -ℤ pos p.x

    ay : ℤ
    ay = pos a.y -ℤ pos p.y

    az : ℤ
    az = pos a.z -ℤ pos p.z

    same : (u v : ℕ) → (pos u -ℤ pos v) *ℤ (pos u -ℤ pos v) ≡ pos 0 → v ≡ u
    same u v e = sym (ap nat_abs (eq_of_sub (pos u) (pos v) (square_zero (pos u -ℤ pos v) e)))

    by : (squared_distance a p ≤ℤ pos 0) ⊎ (pos 0 <ℤ squared_distance a p) → pos 0 <ℤ squared_distance a p
    by (inr h) = h
    by (inl h) =
        let z = each_zero (ax *ℤ ax) (ay *ℤ ay) (az *ℤ az) (square_nonneg ax) (square_nonneg ay) (square_nonneg az) (≤-antisym h (distance_nonneg a p)) in
        absurd (d (λ ι. record { x = same a.x p.x z.0 ι; y = same a.y p.y z.1 ι; z = same a.z p.z z.2 ι }))

-- The sum E of four points and a fifth: their volume times the power of the fifth point, with the sign that is above 0 inside the sphere. Times each other's
-- volume, the sums of two tetrahedra differ by an affine function (D1).
use Prim.Native.Nat.{ℕ, ◌+◌, ◌*◌, ◌<◌}
use mathlib.Core.Logic.{◌≢◌}
use mathlib.Core.Path.{◌≡◌, refl, sym, ap, ap₂, ◌∙◌}
use mathlib.Core.List.{List, [], ◌∷◌}
use native.Mathlib.Omega.{arith}
use native.Mathlib.Decide.{ℕ_discrete}
use lib.IntN.{ℤ, pos, ◌+ℤ◌, ◌-ℤ◌, ◌*ℤ◌, +ℤ_invr, zero-*ℤ, *ℤ-zero}
use Rattle.arith.specs.Table.{sum}
use Rattle.arith.proofs.Ring.{Expr, var, con, ◌⊕◌, ◌⊖◌, ◌⊗◌, neg, ring}
use Rattle.arith.proofs.Combine.{hyp, combine}
use Rattle.arith.proofs.Sums.{sum_cong, sum_zero, sum_one}
use Rattle.geometry.specs.declared.Position.{Position}
use Rattle.geometry.specs.Volume.{volume6, volume, replaced, squared_distance}
use Rattle.geometry.proofs.Distances.{distance_self}
use Rattle.geometry.proofs.Places.{replaced_same, replaced_other, replaced_cong}
use Rattle.geometry.proofs.Algebra.{volume_cong, volume_zero, volume_split, cramer_x, cramer_y, cramer_z, affine, interpolation, volume_interpolation}
use Rattle.insphere.specs.Sphere.{sphere_sum}

-- E of the points at places 0 to 3, and q
unfoldable pub power : (ℕ → Position) → Position → ℤ
power s q = sum 4 (λ k. volume (replaced s k q) *ℤ squared_distance (s k) q)

pub sum_is_power : (s : ℕ → Position) (q : Position) → sphere_sum (s 0) (s 1) (s 2) (s 3) q ≡ power s q
unfolding sphere_sum power sum volume
sum_is_power s q =
    ring (var 0 ⊕ var 1 ⊕ var 2 ⊕ var 3) (con (pos 0) ⊕ var 0 ⊕ var 1 ⊕ var 2 ⊕ var 3) tt
    ((volume6 q (s 1) (s 2) (s 3) *ℤ squared_distance (s 0) q) ∷ (volume6 (s 0) q (s 2) (s 3) *ℤ squared_distance (s 1) q) ∷
    (volume6 (s 0) (s 1) q (s 3) *ℤ squared_distance (s 2) q) ∷ (volume6 (s 0) (s 1) (s 2) q *ℤ squared_distance (s 3) q) ∷ [])

pub power_cong : (r s : ℕ → Position) (q : Position) → ((k : ℕ) → k < 4 → r k ≡ s k) → power r q ≡ power s q
unfolding power
power_cong r s q h =
    sum_cong 4 (λ k. volume (replaced r k q) *ℤ squared_distance (r k) q) (λ k. volume (replaced s k q) *ℤ squared_distance (s k) q)
    (λ k l. ap₂ ◌*ℤ◌ (volume_cong (replaced r k q) (replaced s k q) (replaced_cong r s k q q h refl)) (ap (λ p. squared_distance p q) (h k l)))

-- ---- points as expressions: point k is variables 3k .. 3k + 2

abbrev points : List Position → List ℤ → List ℤ
points [] r = r
points (p ∷ ps) r = pos p.x ∷ pos p.y ∷ pos p.z ∷ points ps r

abbrev distₑ : ℕ → ℕ → Expr
distₑ a b = square (3 * a) (3 * b) ⊕ square (3 * a + 1) (3 * b + 1) ⊕ square (3 * a + 2) (3 * b + 2)
  where
    square : ℕ → ℕ → Expr
    square i j = (var i ⊖ var j) ⊗ (var i ⊖ var j)

-- ---- squared distances from any point o

unfoldable pub power_from : Position → (ℕ → Position) → Position → ℤ
power_from o s q = sum 4 (λ k. volume (replaced s k q) *ℤ squared_distance (s k) o) -ℤ volume s *ℤ squared_distance q o

pub power_from_lem : (o : Position) (s : ℕ → Position) (q : Position) → power s q ≡ power_from o s q
unfolding power power_from sum squared_distance
power_from_lem o s q =
    combine
    (con (pos 0) ⊕ v 0 ⊗ distₑ 0 4 ⊕ v 1 ⊗ distₑ 1 4 ⊕ v 2 ⊗ distₑ 2 4 ⊕ v 3 ⊗ distₑ 3 4)
    (con (pos 0) ⊕ v 0 ⊗ distₑ 0 5 ⊕ v 1 ⊗ distₑ 1 5 ⊕ v 2 ⊗ distₑ 2 5 ⊕ v 3 ⊗ distₑ 3 5 ⊖ v 4 ⊗ distₑ 4 5)
    (hyp (m 0) (all 0) (v 4 ⊗ var 12) ∷ hyp (m 1) (all 1) (v 4 ⊗ var 13) ∷ hyp (m 2) (all 2) (v 4 ⊗ var 14) ∷
    hyp (sq 12 ⊕ sq 13 ⊕ sq 14 ⊖ sq 15 ⊖ sq 16 ⊖ sq 17) (con (pos 0) ⊕ v 0 ⊕ v 1 ⊕ v 2 ⊕ v 3) (v 4) ∷ [])
    tt
    (points (s 0 ∷ s 1 ∷ s 2 ∷ s 3 ∷ q ∷ o ∷ [])
    (volume (replaced s 0 q) ∷ volume (replaced s 1 q) ∷ volume (replaced s 2 q) ∷ volume (replaced s 3 q) ∷ volume s ∷ []))
    (cramer_x s q, (cramer_y s q, (cramer_z s q, (volume_split s q, tt))))
  where
    v : ℕ → Expr
    v k = var (18 + k)

    m : ℕ → Expr
    m k = neg (con (pos 2)) ⊗ (var (12 + k) ⊖ var (15 + k))

    sq : ℕ → Expr
    sq k = var k ⊗ var k

    all : ℕ → Expr
    all k = con (pos 0) ⊕ v 0 ⊗ var k ⊕ v 1 ⊗ var (3 + k) ⊕ v 2 ⊗ var (6 + k) ⊕ v 3 ⊗ var (9 + k)

-- ---- two tetrahedra

from_transfer : (o : Position) (s r : ℕ → Position) (q : Position) →
    volume s *ℤ power_from o r q ≡ sum 4 (λ i. volume (replaced s i q) *ℤ power_from o r (s i)) +ℤ volume r *ℤ power_from o s q
unfolding power_from sum
from_transfer o s r q =
    combine
    (var 24 ⊗ (con (pos 0) ⊕ w 0 ⊗ a 0 ⊕ w 1 ⊗ a 1 ⊕ w 2 ⊗ a 2 ⊕ w 3 ⊗ a 3 ⊖ var 25 ⊗ var 34))
    (con (pos 0) ⊕ v 0 ⊗ at 0 ⊕ v 1 ⊗ at 1 ⊕ v 2 ⊗ at 2 ⊕ v 3 ⊗ at 3 ⊕ var 25 ⊗ (con (pos 0) ⊕ v 0 ⊗ b 0 ⊕ v 1 ⊗ b 1 ⊕ v 2 ⊗ b 2 ⊕ v 3 ⊗ b 3 ⊖ var 24 ⊗ var 34))
    (hyp (neg (a 0)) (all 0) (var 24 ⊗ w 0) ∷ hyp (neg (a 1)) (all 1) (var 24 ⊗ w 1) ∷ hyp (neg (a 2)) (all 2) (var 24 ⊗ w 2) ∷ hyp (neg (a 3)) (all 3) (var 24 ⊗ w 3) ∷ [])
    tt
    (M 0 0 ∷ M 0 1 ∷ M 0 2 ∷ M 0 3 ∷ M 1 0 ∷ M 1 1 ∷ M 1 2 ∷ M 1 3 ∷ M 2 0 ∷ M 2 1 ∷ M 2 2 ∷ M 2 3 ∷ M 3 0 ∷ M 3 1 ∷ M 3 2 ∷ M 3 3 ∷
    volume (replaced s 0 q) ∷ volume (replaced s 1 q) ∷ volume (replaced s 2 q) ∷ volume (replaced s 3 q) ∷
    volume (replaced r 0 q) ∷ volume (replaced r 1 q) ∷ volume (replaced r 2 q) ∷ volume (replaced r 3 q) ∷ volume s ∷ volume r ∷
    squared_distance (r 0) o ∷ squared_distance (r 1) o ∷ squared_distance (r 2) o ∷ squared_distance (r 3) o ∷
    squared_distance (s 0) o ∷ squared_distance (s 1) o ∷ squared_distance (s 2) o ∷ squared_distance (s 3) o ∷ squared_distance q o ∷ [])
    (at_corner 0 (omega arith), (at_corner 1 (omega arith), (at_corner 2 (omega arith), (at_corner 3 (omega arith), tt))))
  where
    M : ℕ → ℕ → ℤ
    M i j = volume (replaced r j (s i))

    v : ℕ → Expr
    v i = var (16 + i)

    w : ℕ → Expr
    w j = var (20 + j)

    a : ℕ → Expr
    a j = var (26 + j)

    b : ℕ → Expr
    b i = var (30 + i)

    at : ℕ → Expr
    at i = con (pos 0) ⊕ var (4 * i) ⊗ a 0 ⊕ var (4 * i + 1) ⊗ a 1 ⊕ var (4 * i + 2) ⊗ a 2 ⊕ var (4 * i + 3) ⊗ a 3 ⊖ var 25 ⊗ b i

    all : ℕ → Expr
    all j = con (pos 0) ⊕ v 0 ⊗ var j ⊕ v 1 ⊗ var (4 + j) ⊕ v 2 ⊗ var (8 + j) ⊕ v 3 ⊗ var (12 + j)

    at_corner : (l : ℕ) → l < 4 → sum 4 (λ k. volume (replaced s k q) *ℤ volume (replaced r l (s k))) ≡ volume s *ℤ volume (replaced r l q)
    at_corner l h = volume_interpolation s r q l h

-- D1
transfer : (s r : ℕ → Position) (q : Position) → volume s *ℤ power r q ≡ sum 4 (λ i. volume (replaced s i q) *ℤ power r (s i)) +ℤ volume r *ℤ power s q
transfer s r q =
    ap (λ z. volume s *ℤ z) (power_from_lem q r q) ∙
    (from_transfer q s r q ∙
    ap₂ ◌+ℤ◌
    (sum_cong 4 (λ i. volume (replaced s i q) *ℤ power_from q r (s i)) (λ i. volume (replaced s i q) *ℤ power r (s i))
    (λ i l. ap (λ z. volume (replaced s i q) *ℤ z) (sym (power_from_lem q r (s i)))))
    (ap (λ z. volume r *ℤ z) (sym (power_from_lem q s q))))

-- where all corners of s but one lie on the sphere of r
pub transfer_face : (s r : ℕ → Position) (k : ℕ) → k < 4 → ((i : ℕ) → i < 4 → i ≢ k → power r (s i) ≡ pos 0) → (q : Position) →
    volume s *ℤ power r q ≡ volume (replaced s k q) *ℤ power r (s k) +ℤ volume r *ℤ power s q
transfer_face s r k hk shared q =
    transfer s r q ∙
    ap (λ z. z +ℤ volume r *ℤ power s q)
    (sum_one 4 (λ i. volume (replaced s i q) *ℤ power r (s i)) k hk
    (λ i hi d. ap (λ z. volume (replaced s i q) *ℤ z) (shared i hi d) ∙ *ℤ-zero (volume (replaced s i q))))

-- ---- on the sphere

pub power_corner : (r : ℕ → Position) (j : ℕ) → j < 4 → power r (r j) ≡ pos 0
unfolding power
power_corner r j hj = sum_zero 4 (λ k. volume (replaced r k (r j)) *ℤ squared_distance (r k) (r j)) (λ k hk. go k hk (ℕ_discrete k j))
  where
    go : (k : ℕ) → k < 4 → Dec (k ≡ j) → volume (replaced r k (r j)) *ℤ squared_distance (r k) (r j) ≡ pos 0
    go k hk (yes e) =
        ap (λ z. volume (replaced r k (r j)) *ℤ z) (ap (λ m. squared_distance (r m) (r j)) e ∙ distance_self (r j)) ∙ *ℤ-zero (volume (replaced r k (r j)))
    go k hk (no d) =
        ap (λ z. z *ℤ squared_distance (r k) (r j))
        (volume_zero (replaced r k (r j)) j k hj hk (λ e. d (sym e)) (replaced_other r k (r j) j (λ e. d (sym e)) ∙ sym (replaced_same r k (r j)))) ∙
        zero-*ℤ (squared_distance (r k) (r j))

-- five points of one sphere: on them the squared distance from o is an affine function
pub power_round : (o : Position) (α β γ δ : ℤ) (s : ℕ → Position) (q : Position) → ((k : ℕ) → k < 4 → squared_distance (s k) o ≡ affine α β γ δ (s k)) →
    squared_distance q o ≡ affine α β γ δ q → power s q ≡ pos 0
unfolding power_from
power_round o α β γ δ s q h e =
    power_from_lem o s q ∙
    (ap₂ ◌-ℤ◌
    (sum_cong 4 (λ k. volume (replaced s k q) *ℤ squared_distance (s k) o) (λ k. volume (replaced s k q) *ℤ affine α β γ δ (s k))
    (λ k l. ap (λ z. volume (replaced s k q) *ℤ z) (h k l)) ∙ interpolation α β γ δ s q)
    (ap (λ z. volume s *ℤ z) e) ∙
    +ℤ_invr (volume s *ℤ affine α β γ δ q))

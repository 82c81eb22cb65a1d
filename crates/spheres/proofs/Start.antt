-- D2: where the box corners are the only points, the spheres are empty: the eight lie on one sphere.
use Prim.Native.Nat.{ℕ, ◌<◌}
use mathlib.Core.Bool.{Bool, true, false, cond}
use mathlib.Core.Path.{◌≡◌, sym, ap₂, ◌∙◌, subst}
use mathlib.Core.List.{[], ◌∷◌}
use lib.Dec.{eqb}
use lib.IntN.{pos, ◌+ℤ◌, ◌-ℤ◌, ◌*ℤ◌, +ℤ_idr}
use Rattle.arith.proofs.Order.{≡→≤}
use Rattle.arith.proofs.Ring.{var, con, ◌⊖◌, ◌⊗◌, ring}
use Rattle.geometry.specs.declared.Position.{Position}
use Rattle.geometry.specs.Volume.{position, squared_distance}
use Rattle.geometry.proofs.Algebra.{affine}
use Rattle.insphere.proofs.Power.{power_round}
use Rattle.mesh.specs.Tables.{Tables, point, corner, corner_at, IsCell}
use Rattle.mesh.specs.Mesh.{box_corner, bit, IsMesh}
use Rattle.spheres.specs.Exact.{Empty}
use Rattle.spheres.proofs.Cavity.{sphere_is}

-- the sphere through the box corners: x² + y² + z² is X·x + Y·y + Z·z
abbrev OnBoxSphere : ℕ → ℕ → ℕ → Position → Type 0
OnBoxSphere X Y Z a = squared_distance a (position 0 0 0) ≡ affine (pos X) (pos Y) (pos Z) (pos 0) a

corner_on_sphere : (X Y Z k : ℕ) → OnBoxSphere X Y Z (box_corner X Y Z k)
unfolding squared_distance
corner_on_sphere X Y Z k = ap₂ ◌+ℤ◌ (ap₂ ◌+ℤ◌ (one (eqb (bit k 0) 1) X) (one (eqb (bit k 1) 1) Y)) (one (eqb (bit k 2) 1) Z) ∙ sym (+ℤ_idr _)
  where
    one : (b : Bool) (s : ℕ) → (pos (cond b s 0) -ℤ pos 0) *ℤ (pos (cond b s 0) -ℤ pos 0) ≡ pos s *ℤ pos (cond b s 0)
    one true s = ring ((var 0 ⊖ con (pos 0)) ⊗ (var 0 ⊖ con (pos 0))) (var 0 ⊗ var 0) tt (pos s ∷ [])
    one false s = ring ((con (pos 0) ⊖ con (pos 0)) ⊗ (con (pos 0) ⊖ con (pos 0))) (var 0 ⊗ con (pos 0)) tt (pos s ∷ [])

pub eight_empty : {X Y Z pc cc n : ℕ} {t : Tables} → IsMesh X Y Z pc cc 8 n t → Empty 8 n t
eight_empty {X} {Y} {Z} {n = n} {t = t} M = record {
  outside = λ c k l h.
      ≡→≤ (sphere_is t (point t k) c ∙ power_round (position 0 0 0) (pos X) (pos Y) (pos Z) (pos 0) (corner_at t c) (point t k) (λ i hi. at c i l hi) (on_sphere k h));
}
  where
    on_sphere : (k : ℕ) → k < 8 → OnBoxSphere X Y Z (point t k)
    on_sphere k h = subst (OnBoxSphere X Y Z) (sym (M.box_corners k h)) (corner_on_sphere X Y Z k)

    at : (c i : ℕ) → IsCell t n c → i < 4 → OnBoxSphere X Y Z (corner_at t c i)
    at c i l hi = unfold corner_at in on_sphere (corner t c i) (M.corner< c i l hi)

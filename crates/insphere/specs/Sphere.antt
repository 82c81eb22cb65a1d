-- The sphere test: document 01, 'The sphere test', as document 02 §2 amends it.
use Rattle.std.specs.Prelude.{ℕ, false, not, ◌&&◌, cond, eqb, ℤ, pos, ◌+ℤ◌, ◌*ℤ◌, Float, Result, Ok, Err}
use Rattle.std.specs.Int.Signed.{lt_z}
use Rattle.std.specs.Float.{fin, binary64}
use Rattle.std.specs.Float.Ieee.{add, mul, of_int}
use Rattle.refusal.specs.declared.Refusal.{Refusal}
use Rattle.refusal.specs.Refusal.{refusal_number}
use Rattle.rounding.specs.Whole.{Near}
use Rattle.geometry.specs.declared.Position.{Position}
use Rattle.insphere.specs.declared.Sphere.{Sphere}
use Rattle.insphere.specs.declared.Sphere.TheVariants.{Inside, Outside}
use Rattle.geometry.specs.Volume.{in_range, corners_in_range, volume6, squared_distance}

-- E, the 'sum of v_i × L_i', where v_i is the six-fold volume with corner i replaced by p
unfoldable pub sphere_sum : Position → Position → Position → Position → Position → ℤ
sphere_sum a b c d p =
    volume6 p b c d *ℤ squared_distance a p +ℤ
    volume6 a p c d *ℤ squared_distance b p +ℤ
    volume6 a b p d *ℤ squared_distance c p +ℤ
    volume6 a b c p *ℤ squared_distance d p

-- v_i × L_i in 64-bit floats, 'one rounding per operation'
abbrev pub product : ℤ → ℤ → Float
product v l = mul binary64 (of_int binary64 v) (of_int binary64 l)

-- 'T = ((v0×L0 + v1×L1) + v2×L2) + v3×L3'
unfoldable pub sphere_t : Position → Position → Position → Position → Position → Float
sphere_t a b c d p =
    add binary64
    (add binary64
    (add binary64
    (product (volume6 p b c d) (squared_distance a p))
    (product (volume6 a p c d) (squared_distance b p)))
    (product (volume6 a b p d) (squared_distance c p)))
    (product (volume6 a b c p) (squared_distance d p))

abbrev pub zero_float : Float
zero_float = fin false 0 (pos 0)

-- 'inside means E above 0, outside means the rest, and T is still carried'
unfoldable pub sphere_answer : Position → Position → Position → Position → Position → Sphere
sphere_answer a b c d p = let t = sphere_t a b c d p in cond (lt_z (pos 0) (sphere_sum a b c d p)) (Inside t) (Outside t)

-- refusals 4, then 11; 0 where there is none
unfoldable pub sphere_refusal : Position → Position → Position → Position → Position → ℕ
sphere_refusal a b c d p =
    cond (not (corners_in_range a b c d && in_range p)) 4 (cond (not (lt_z (pos 0) (volume6 a b c d))) 11 0)

-- what the sphere test answers as a call: the sphere answer, or the refusal's number
pub data Tested : Type 0 where
  Answered : Sphere → Tested
  Refused : ℕ → Tested

abbrev pub as_tested : Result Sphere Refusal → Tested
as_tested (Ok s) = Answered s
as_tested (Err e) = Refused (refusal_number e)

-- 'As a call it takes the four corners and P as five positions.'
unfoldable pub sphere_call : Position → Position → Position → Position → Position → Tested
sphere_call a b c d p =
    cond (eqb (sphere_refusal a b c d p) 0) (Answered (sphere_answer a b c d p)) (Refused (sphere_refusal a b c d p))

-- 'T lies within 2^39 of E', of an answer with the exact sum e
abbrev pub CarriesNear : ℤ → Tested → Type 0
CarriesNear e (Answered (Inside t)) = Near t e
CarriesNear e (Answered (Outside t)) = Near t e
CarriesNear e (Refused n) = Unit {0}

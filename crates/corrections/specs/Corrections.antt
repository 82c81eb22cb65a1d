-- A table of corrections, three numbers a point, and the correction of a position.
use Rattle.std.specs.Prelude.{ℕ, ◌+◌, ◌*◌, Bool, not, List, leb, ltb, length, get_or, set, ℤ, pos, nat_abs, ◌*ℤ◌, Result, Ok, Err}
use Rattle.refusal.specs.declared.Refusal.{Refusal}
use Rattle.refusal.specs.Refusal.{refusal_number}
use Rattle.arith.specs.Table.{any_below, sum}
use Rattle.geometry.specs.declared.Position.{Position}
use Rattle.mesh.specs.Tables.{Tables, point_capacity, corner, side, cell_volume}
use Rattle.locate.specs.Locate.{first_holder}
use Rattle.corrections.specs.declared.Correction.{Correction}
use Rattle.corrections.specs.Rounding.{rounded}

-- what reading answers: a position's correction, or the refusal's number
pub data Corrected : Type 0 where
  By : Correction → Corrected
  Refused : ℕ → Corrected

abbrev pub as_corrected : Result Correction Refusal → Corrected
as_corrected (Ok d) = By d
as_corrected (Err e) = Refused (refusal_number e)

-- the number of point v on axis k: 0 x, 1 y, 2 z
unfoldable pub number_of : List ℤ → ℕ → ℕ → ℤ
number_of cs k v = get_or cs (3 * v + k) (pos 0)

abbrev pub correction_of : List ℤ → ℕ → Correction
correction_of cs v = record { x = number_of cs 0 v; y = number_of cs 1 v; z = number_of cs 2 v }

-- the table with the numbers d at point v
unfoldable pub with_correction : List ℤ → ℕ → Correction → List ℤ
with_correction cs v d = set (set (set cs (3 * v) d.x) (3 * v + 1) d.y) (3 * v + 2) d.z

-- 'three signed corrections in steps, −1,000 to 1,000'
abbrev pub limit : ℕ
limit = 1000

unfoldable pub in_range : ℤ → Bool
in_range d = leb (nat_abs d) limit

-- a number is out of range that is 'standing in the table for a point of the mesh', of np points
unfoldable pub out_of_range : ℕ → List ℤ → Bool
out_of_range np cs = any_below (3 * np) (λ i. not (in_range (get_or cs i (pos 0))))

-- 'fewer than three entries for each point of capacity'
unfoldable pub too_short : Tables → List ℤ → Bool
too_short t cs = ltb (length cs) (3 * point_capacity t)

-- with a number φ for each point: 'the sum of v_i × correction i', in cell c
unfoldable pub weighted_sum : Tables → Position → (ℕ → ℤ) → ℕ → ℤ
weighted_sum t p φ c = sum 4 (λ i. side t p (4 * c + i) *ℤ φ (corner t c i))

-- 'over the cell's six-fold volume, rounded'
unfoldable pub value_in : Tables → Position → (ℕ → ℤ) → ℕ → ℤ
value_in t p φ c = rounded (weighted_sum t p φ c) (cell_volume t c)

unfoldable pub correction_in : Tables → List ℤ → Position → ℕ → Correction
correction_in t cs p c =
    record { x = value_in t p (number_of cs 0) c; y = value_in t p (number_of cs 1) c; z = value_in t p (number_of cs 2) c }

-- a position's correction, from the cell of n entries in which it is located; every other cell that holds it gives the same (`from_every_holder` in proofs/Values)
unfoldable pub correction_at : Tables → ℕ → List ℤ → Position → Correction
correction_at t n cs p = correction_in t cs p (first_holder t n p)

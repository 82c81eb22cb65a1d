-- The numbers differ, and none is 0.
use Rattle.std.proofs.Common.{◌≡◌, ℕ, ◌<◌, arith, ap, sym, true, false, Result, Ok, Err, eqb}
use borrow.Author.Tests.{eq-eqb, ne_eqb}
use Rattle.std.specs.Result.{IsErrAnd}
use Rattle.refusal.specs.declared.Refusal.{Refusal}
use Rattle.refusal.specs.declared.Refusal.TheVariants.{Short, Box, NoMesh, Outside, Taken, PointsFull, Unheld, CellsFull, Trailer, NoPlace, FlatCell, OutOfRange, NoPoint, OtherMarks, UnequalSides}
use Rattle.refusal.specs.Refusal.{refusal_number}

-- no refusal's number is 0

pub number-positive : (e : Refusal) → 0 < refusal_number e
number-positive Short = omega arith
number-positive Box = omega arith
number-positive NoMesh = omega arith
number-positive Outside = omega arith
number-positive Taken = omega arith
number-positive PointsFull = omega arith
number-positive Unheld = omega arith
number-positive CellsFull = omega arith
number-positive Trailer = omega arith
number-positive NoPlace = omega arith
number-positive FlatCell = omega arith
number-positive OutOfRange = omega arith
number-positive NoPoint = omega arith
number-positive OtherMarks = omega arith
number-positive UnequalSides = omega arith

-- what `?` hands on
pub handed-on : {A : Type 0} {e : Refusal} (r : Result A Refusal) → IsErrAnd r (λ y. y ≡ e) → r ≡ Err e
handed-on (Ok x) h = elim h [ ]
handed-on (Err y) h = ap Err h

-- a definition's test of a number against 0, where the code's test refused or passed
pub not-zero : (n : ℕ) (e : Refusal) → refusal_number e ≡ n → eqb n 0 ≡ false
not-zero n e h = ne_eqb n 0 (λ (z : n ≡ 0). omega (arith, number-positive e, h, z))

pub is-zero : (n : ℕ) → 0 ≡ n → eqb n 0 ≡ true
is-zero n h = eq-eqb n 0 (sym h)

-- The numbers of the refusals: document 01, 'Refusals', and what document 02 adds.
use Rattle.std.specs.Prelude.{ℕ, Result, Ok, Err}
use Rattle.refusal.specs.declared.Refusal.{Refusal}
use Rattle.refusal.specs.declared.Refusal.TheVariants.{Short, Box, NoMesh, Outside, Taken, PointsFull, Unheld, CellsFull, Trailer, NoPlace, FlatCell, OutOfRange, NoPoint, OtherMarks, UnequalSides}

abbrev pub refusal_number : Refusal → ℕ
refusal_number Short = 1
refusal_number Box = 2
refusal_number NoMesh = 3
refusal_number Outside = 4
refusal_number Taken = 5
refusal_number PointsFull = 6
refusal_number Unheld = 7
refusal_number CellsFull = 8
refusal_number Trailer = 9
refusal_number NoPlace = 10
refusal_number FlatCell = 11
refusal_number OutOfRange = 12
refusal_number NoPoint = 13
refusal_number OtherMarks = 14
refusal_number UnequalSides = 19

-- the number of a test's refusal, 0 where it passes
abbrev pub refused_by : {A : Type 0} → Result A Refusal → ℕ
refused_by (Ok x) = 0
refused_by (Err e) = refusal_number e

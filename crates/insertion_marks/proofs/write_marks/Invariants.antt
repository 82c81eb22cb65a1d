-- After c turns the slice is the marks of the first c cells and then what it held.
use Rattle.std.proofs.Common.{◌≡◌, ◌++◌, take, drop}
use Rattle.insertion.specs.Inner.{state_marks}
use Rattle.insertion_marks.proofs.write_marks.Given as goal

abbrev pub invariant-loop-c : goal.invariant-loop-c
invariant-loop-c l = l.marks ≡ take l.c (state_marks l.n l.state) ++ drop l.c l.initial.marks

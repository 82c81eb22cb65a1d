-- After c turns the first c bytes are the marks of the first c cells.
use Rattle.insertion.proofs.Looking.{Matching}
use Rattle.insertion_marks.proofs.marks_match.Given as goal

abbrev pub invariant-loop-c : goal.invariant-loop-c
invariant-loop-c l = Matching l.n l.state l.marks l.c

use Rattle.std.proofs.Common.{[]}
use Rattle.mesh.specs.Tables.{tables}
use Rattle.locate_first.proofs.Candidates.{FirstAfter}
use Rattle.locate_first.proofs.first_holder.Given as goal

abbrev pub invariant-loop-c : goal.invariant-loop-c
invariant-loop-c l = FirstAfter (tables l.points l.corners []) l.q l.n l.c l.first

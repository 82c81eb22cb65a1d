use Rattle.std.proofs.Common.{[]}
use Rattle.mesh.specs.Tables.{tables}
use Rattle.segment.proofs.Answers.{Listing}
use Rattle.segment_call.proofs.list_cells.Given as goal

abbrev pub invariant-loop-c : goal.invariant-loop-c
invariant-loop-c l = Listing (tables l.points l.corners []) l.a l.b l.c l.count l.fn.found l.found

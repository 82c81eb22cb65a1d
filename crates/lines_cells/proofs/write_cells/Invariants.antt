use Rattle.std.proofs.Common.{[]}
use Rattle.mesh.specs.Tables.{tables}
use Rattle.lines.specs.Listing.{entry_text}
use Rattle.lines.proofs.Putting.{Concatenating}
use Rattle.lines_cells.proofs.write_cells.Given as goal

abbrev pub invariant-loop-c : goal.invariant-loop-c
invariant-loop-c l = Concatenating (entry_text (tables [] l.corners l.neighbours)) l.used l.fn.out l.at l.c l.next l.out

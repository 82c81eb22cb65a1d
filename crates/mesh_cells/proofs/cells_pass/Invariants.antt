use Rattle.std.proofs.Common.{[], ◌≤◌}
use Rattle.mesh.specs.Tables.{tables}
use Rattle.mesh.proofs.Tally.{Tallied}
use Rattle.mesh_cells.proofs.cells_pass.Given as goal

abbrev pub invariant-loop-c : goal.invariant-loop-c
invariant-loop-c l = record {
  few : l.freed ≤ l.c;
  tallied : Tallied l.mesh (tables l.points l.corners []) l.c l.left l.freed l.marked;
}

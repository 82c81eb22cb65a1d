use Rattle.std.proofs.Common.{◌≡◌, ◌+◌, length}
use Rattle.mesh.specs.Tables.{tables}
use Rattle.cavity.proofs.Removal.{Rounding}
use Rattle.cavity_correction.proofs.correct.Given as goal

-- no round has yet removed nothing
abbrev pub invariant-loop-size : goal.invariant-loop-size
invariant-loop-size l = record {
  rounds : Rounding (tables l.points l.corners l.neighbours) l.node.used l.node.position l.initial.state (l.size + 1) l.state l.list l.faces l.size;
  marks : length l.exposed ≡ 1024;
}

abbrev pub decreases-loop-size : goal.decreases-loop-size
decreases-loop-size l = l.size

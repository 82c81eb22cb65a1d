use Rattle.cavity.proofs.Removal.{PruningAll}
use Rattle.cavity_prune.proofs.prune.Given as goal

abbrev pub invariant-loop-i : goal.invariant-loop-i
invariant-loop-i l = PruningAll l.corners l.faces l.exposed l.initial.state l.initial.list l.size l.i l.state l.list l.kept

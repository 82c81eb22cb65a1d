use Rattle.cavity.proofs.Clearing.{ClearedTo}
use Rattle.cavity_find.proofs.clear_states.Given as goal

abbrev pub invariant-loop-c : goal.invariant-loop-c
invariant-loop-c l = ClearedTo l.list l.size l.c-index l.state

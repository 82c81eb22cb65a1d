use Rattle.std.proofs.Common.{◌≡◌}
use Rattle.cavity_faces.proofs.Hiding.{without_first}
use Rattle.cavity_faces.proofs.hide.Given as goal

abbrev pub invariant-loop-v : goal.invariant-loop-v
invariant-loop-v l = l.exposed ≡ without_first l.v-index l.initial.exposed l.v-items

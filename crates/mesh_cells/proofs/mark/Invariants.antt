use Rattle.std.proofs.Common.{◌≡◌, take, set, fold}
use Rattle.mesh_cells.proofs.mark.Given as goal

abbrev pub invariant-loop-v : goal.invariant-loop-v
invariant-loop-v l = l.marked ≡ fold (λ marked v. set marked v 1) l.fn.marked (take l.v-index l.v-items)

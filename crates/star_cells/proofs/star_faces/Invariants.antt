-- The faces of the listed cells before place c-index are done, and within a cell those before face k.
use Rattle.std.proofs.Common.{◌*◌, ◌+◌}
use Rattle.mesh.specs.Tables.{tables}
use Rattle.cavity.specs.Inner.{set_of}
use Rattle.star.specs.Star.{star_numbers}
use Rattle.star.specs.Inner.{Starring, Starred}
use Rattle.star.proofs.InTurn.{done_by}
use Rattle.star_cells.proofs.star_faces.Given as goal

abbrev pub invariant-loop-c : goal.invariant-loop-c
invariant-loop-c l =
    let t = tables l.points l.fn.corners l.fn.neighbours in
    let s = set_of l.node.used l.state in
    (b : Starring t l.node.points l.node.used l.node.position l.state l.list l.size l.faces l.ranks l.slots) →
    Starred (star_numbers b.ch t l.node.used l.node.position s) t l.node.used l.node.position l.node.points s (done_by t l.node.position s l.list (4 * l.c-index)) l.corners l.neighbours

abbrev pub invariant-loop-k : goal.invariant-loop-k
invariant-loop-k l =
    let t = tables l.points l.fn.corners l.fn.neighbours in
    let s = set_of l.node.used l.state in
    (b : Starring t l.node.points l.node.used l.node.position l.state l.list l.size l.faces l.ranks l.slots) →
    Starred (star_numbers b.ch t l.node.used l.node.position s) t l.node.used l.node.position l.node.points s (done_by t l.node.position s l.list (4 * l.c-index + l.k)) l.corners l.neighbours

use Rattle.mesh.specs.Tables.{tables}
use Rattle.cavity.specs.Inner.Correction.{InspectedTo}
use Rattle.cavity_faces.proofs.inspect_all.Given as goal

abbrev pub invariant-loop-c : goal.invariant-loop-c
invariant-loop-c l =
    InspectedTo (tables l.points l.corners l.neighbours) l.node.used l.node.position l.state l.list l.size l.c-index l.faces l.exposed

use Rattle.mesh.specs.Tables.{tables}
use Rattle.cavity.specs.Answers.{answers_of}
use Rattle.cavity.specs.Inner.Growth.{Scanned}
use Rattle.cavity_base.proofs.find_base.Given as goal

abbrev pub invariant-loop-c : goal.invariant-loop-c
invariant-loop-c l =
    Scanned (answers_of l.node.handed l.answers) (tables l.points l.corners l.neighbours) l.node.position l.node.used l.c l.state l.list l.g

use Rattle.std.proofs.Common.{ℕ, ◌<◌, get_or}
use Rattle.mesh.specs.Tables.{tables}
use Rattle.cavity.specs.Answers.{answers_of}
use Rattle.cavity.specs.Inner.Growth.{Reached, Grew, InsideIfYes, Denied}
use Rattle.cavity_growth.proofs.visit_all.Given as goal

abbrev pub invariant-loop-d : goal.invariant-loop-d
invariant-loop-d l =
    let a = answers_of l.node.handed l.answers in
    let t = tables l.points l.corners l.neighbours in
    record {
      reached : Reached a t l.node.position l.node.used l.state l.list l.g;
      grew : Grew l.node.used l.initial.state l.initial.list l.initial.g.size l.state l.list l.g.size;
      visited : (i : ℕ) → i < l.d-index → InsideIfYes a t l.node.position l.state (get_or l.d-items i 0);
      denied : Denied a t l.node.position l.node.points l.denied;
    }

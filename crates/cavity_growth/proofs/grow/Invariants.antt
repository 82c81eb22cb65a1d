use Rattle.std.proofs.Common.{ℕ, ◌+◌, ◌-◌, ◌*◌, ◌<◌, ◌≤◌, get_or}
use Rattle.mesh.specs.Tables.{across, tables}
use Rattle.cavity.specs.Answers.{answers_of}
use Rattle.cavity.specs.Inner.Growth.{Reached, InsideIfYes, Denied}
use Rattle.cavity_growth.proofs.grow.Given as goal

abbrev pub invariant-loop-h : goal.invariant-loop-h
invariant-loop-h l =
    let a = answers_of l.node.handed l.answers in
    let t = tables l.points l.corners l.neighbours in
    record {
      in_list : l.h ≤ l.g.size;
      reached : Reached a t l.node.position l.node.used l.state l.list l.g;
      visited : (k : ℕ) → k < l.h → (j : ℕ) → j < 4 → InsideIfYes a t l.node.position l.state (across t (4 * get_or l.list k 0 + j));
      denied : Denied a t l.node.position l.node.points l.denied;
    }

abbrev pub decreases-loop-h : goal.decreases-loop-h
decreases-loop-h l = l.node.used - l.h

use Rattle.std.proofs.Common.{sym, ◌∙◌, arith}
use Rattle.std.proofs.Math.ListN.{set}
use Rattle.mesh.proofs.Loops.{copy_more, copy_all}
use Rattle.cavity.specs.Inner.{inside}
use Rattle.insertion.specs.Inner.{state_marks}
use Rattle.insertion.proofs.Looking.{marks_length, mark_at}
use Rattle.insertion_marks.proofs.write_marks.Goals as goal

pub loop-c-preserved : goal.loop-c-preserved
loop-c-preserved c =
    let l = c.loop-c in
    let a = c.args in
    let n = marks_length a.n (inside a.state.now) in
    let e = c.mark_of.ensures ∙ sym (mark_at a.n (inside a.state.now) l.c (omega arith)) in
    (λ j. set (l.invariant j) l.c (e j)) ∙ copy_more l.c (state_marks a.n a.state.now) a.marks.now (omega arith) (omega arith)

pub returns : goal.returns
returns c =
    let l = c.loop-c in
    let a = c.args in
    let n = marks_length a.n (inside a.state.now) in
    copy_all l.c _ _ _ l.invariant (omega arith) (omega arith)

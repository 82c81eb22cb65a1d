use Rattle.std.proofs.Common.{◌≡◌, ◌∙◌, get_or, arith}
use Rattle.std.proofs.Math.ListN.{set}
use borrow.Author.Tests.{le-ltb}
use Rattle.mesh.proofs.Loops.{copy_more, copy_all}
use Rattle.segment_call.proofs.put_cells.Goals as goal

pub loop-i-preserved : goal.loop-i-preserved
loop-i-preserved c =
    let l = c.loop-i in
    (λ j. set (l.invariant j) l.i (get_or c.args.found.now l.i 0)) ∙ copy_more l.i c.args.found.now c.args.out.now (omega arith) (omega arith)

pub returns : goal.returns
returns c =
    let e = copy_all c.loop-i.i c.args.found.now c.args.out.now _ c.loop-i.invariant (omega arith) (omega arith) in
    let h = le-ltb _ _ c.if-out-found.false in
    (rw h, rw h e)

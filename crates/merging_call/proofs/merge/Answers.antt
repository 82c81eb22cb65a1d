use Rattle.refusal.proofs.Numbers.{handed-on}
use Rattle.merging.proofs.Answers.{merge_refused, merge_kept}
use Rattle.merging_call.proofs.merge.Goals as goal

pub returns-in_err-head : goal.returns-in_err-head
returns-in_err-head c =
    let b = c.in_err-head.ensures in
    rw (handed-on _ c.from_residual.ensures.1)
    (merge_refused c.args.first.now c.args.second.now c.args.out.now b.0 b.1)

pub write_kept-requires : goal.write_kept-requires
write_kept-requires c = let b = c.in_ok-head.ensures.1 in (b.few, b.nodes_fit)

pub returns : goal.returns
returns c =
    let b = c.in_ok-head.ensures in
    merge_kept c.args.first.now c.args.second.now c.args.out.now b.0 b.1 c.write_kept.ensures

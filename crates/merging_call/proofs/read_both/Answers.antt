use Rattle.std.proofs.Common.{ap, arith}
use Rattle.refusal.proofs.Numbers.{handed-on}
use Rattle.nodefile.specs.declared.Header.{Header}
use Rattle.merging.proofs.Answers.{accepted_read, first_refused, both_read}
use Rattle.merging_call.proofs.read_both.Goals as goal

pub returns-in_err-head : goal.returns-in_err-head
returns-in_err-head c =
    rw (handed-on _ c.from_residual.ensures.1)
    (first_refused c.args.first.now c.args.second.now c.requires c.args.nodes.now c.in_err-head.ensures)

pub read_second-requires : goal.read_second-requires
read_second-requires c =
    let q = accepted_read c.args.first.now _ (omega (arith, c.requires)) c.in_ok-head.ensures in
    (omega (arith, q.few, ap (λ (h : Header). h.count) q.head), omega (arith, c.requires, c.read_nodes.auto.nodes))

pub returns : goal.returns
returns c = both_read c.args.first.now c.args.second.now c.requires c.in_ok-head.ensures _ _ c.read_second.ensures

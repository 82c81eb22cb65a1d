use Rattle.std.proofs.Common.{arith}
use Rattle.merging.proofs.Table.{hash<, none_probed}
use Rattle.merging_filter.proofs.probe.Goals as goal

pub loop-at-init : goal.loop-at-init
loop-at-init c =
    let l = hash< c.args.p in
    record { within = omega arith; probed = none_probed c.hash-at.ensures }

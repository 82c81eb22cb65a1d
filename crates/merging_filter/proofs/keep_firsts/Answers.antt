use Rattle.std.proofs.Common.{arith}
use Rattle.merging.proofs.Filter.{none_filtered, all_filtered}
use Rattle.merging_filter.proofs.keep_firsts.Goals as goal

pub loop-i-init : goal.loop-i-init
loop-i-init c = none_filtered _ _

pub returns : goal.returns
returns c = all_filtered c.loop-i.invariant (omega arith) (omega arith)

use Rattle.std.proofs.Common.{◌+◌, ◌-◌, ◌≤◌}
use Rattle.merging.specs.Inner.{Probed}
use Rattle.merging_filter.proofs.probe.Given as goal

abbrev pub invariant-loop-at : goal.invariant-loop-at
invariant-loop-at l = record { within : l.at ≤ 2048 + l.count; probed : Probed l.nodes l.table l.p l.at }

abbrev pub decreases-loop-at : goal.decreases-loop-at
decreases-loop-at l = 2048 + l.count - l.at

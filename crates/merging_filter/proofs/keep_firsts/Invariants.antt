use Rattle.merging.specs.Inner.{Filtered}
use Rattle.merging_filter.proofs.keep_firsts.Given as goal

abbrev pub invariant-loop-i : goal.invariant-loop-i
invariant-loop-i l = Filtered l.head l.fn.nodes l.nodes l.table l.i l.count

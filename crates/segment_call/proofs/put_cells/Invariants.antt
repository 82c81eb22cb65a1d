-- After i turns the output is the first i numbers and then what it held.
use Rattle.std.proofs.Common.{◌≡◌, ◌++◌, take, drop}
use Rattle.segment_call.proofs.put_cells.Given as goal

abbrev pub invariant-loop-i : goal.invariant-loop-i
invariant-loop-i l = l.out ≡ take l.i l.found ++ drop l.i l.fn.out

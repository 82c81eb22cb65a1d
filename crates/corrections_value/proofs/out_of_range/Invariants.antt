use Rattle.std.proofs.Common.{◌≡◌, false, not, get_or, pos}
use Rattle.arith.specs.Table.{any_below}
use Rattle.corrections.specs.Corrections.{in_range}
use Rattle.corrections_value.proofs.out_of_range.Given as goal

abbrev pub invariant-loop-d : goal.invariant-loop-d
invariant-loop-d l = any_below l.d-index (λ k. not (in_range (get_or l.corrections k (pos 0)))) ≡ false

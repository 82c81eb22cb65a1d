use Rattle.std.proofs.Common.{leb, nat_abs, ap, ◌∙◌}
use Rattle.corrections.specs.Corrections.{in_range}
use Rattle.corrections_value.proofs.Words.{read_32}
use Rattle.corrections_value.proofs.in_range.Goals as goal

pub returns : goal.returns
unfolding in_range
returns c = ap (λ n. leb n 1000) (c.unsigned_abs.ensures.value ∙ ap nat_abs (read_32 c.args.d c.ranges.d.sfits))

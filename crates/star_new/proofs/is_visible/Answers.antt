use Rattle.std.proofs.Common.{eqb, ap}
use Rattle.star.proofs.Codes.{bit_shift}
use Rattle.star_new.proofs.is_visible.Goals as goal

pub returns : goal.returns
returns c = ap (λ b. eqb b 1) (bit_shift c.args.code c.args.k c.requires)

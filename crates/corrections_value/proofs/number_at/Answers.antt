use Rattle.std.proofs.Common.{ap, ◌∙◌, arith}
use Rattle.corrections.specs.Corrections.{number_of}
use Rattle.corrections_value.proofs.Words.{widened}
use Rattle.corrections_value.proofs.number_at.Goals as goal

pub returns : goal.returns
unfolding number_of
returns c = widened _ (omega arith) c.from-2.ensures ∙ ap (number_of c.args.corrections.now c.args.axis) c.from.ensures

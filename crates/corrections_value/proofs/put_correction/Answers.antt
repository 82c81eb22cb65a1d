use Rattle.std.proofs.Common.{arith}
use Rattle.corrections_value.proofs.Words.{numbers_put}
use Rattle.corrections_value.proofs.put_correction.Goals as goal

pub returns : goal.returns
returns c = numbers_put _ c.args.v c.args.d (omega arith) (omega arith) (omega arith)

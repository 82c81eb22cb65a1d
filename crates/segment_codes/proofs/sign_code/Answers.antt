use Rattle.std.proofs.Common.{ap}
use mir.Syntax.{w64}
use mir.ValLaws.{to_z-of_z}
use Rattle.segment.specs.Inner.{sign_code}
use Rattle.segment_codes.proofs.sign_code.Goals as goal

pub returns : goal.returns
unfolding sign_code
returns c = rw (c.from.ensures, c.from-2.ensures) (ap sign_code (to_z-of_z w64 c.args.v c.ranges.v))

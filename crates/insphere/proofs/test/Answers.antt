use Rattle.std.proofs.Common.{arith}
use Rattle.std.proofs.lemmas.Grind.{common_steps}
use Rattle.geometry.proofs.Ranges.{corners_in}
use Rattle.insphere.proofs.test.Goals as goal

pub volume-requires : goal.volume-requires
volume-requires c = corners_in _ (grind (arith, common_steps))

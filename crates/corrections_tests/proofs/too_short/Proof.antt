use Rattle.mesh.specs.Tables.{point_capacity}
use Rattle.corrections.specs.Corrections.{too_short}
use lib.Dec.{ltb}
use lib.ListN.{length}
use mathlib.Core.Path.{ap}
use Prim.Native.Nat.{◌*◌}
use borrow.Author.Rules.{rules}
use Rattle.corrections_tests.proofs.too_short.Statement.{statement}
use Rattle.corrections_tests.proofs.too_short.Tie as tie

point-capacity-requires : tie.Need-point_capacity-requires
point-capacity-requires c κs = search rules

mul-result : tie.Need-overflow_mul-result
mul-result c = search rules

returns : tie.Need-returns
unfolding too_short point_capacity
returns c = λ ks ns. ap (λ n. ltb (length c.args.corrections.now) (3 * n)) c.point_capacity.ensures

pub too_short_spec : {M : Type 1} → statement M
too_short_spec = tie.close (tie.spec point-capacity-requires mul-result returns)

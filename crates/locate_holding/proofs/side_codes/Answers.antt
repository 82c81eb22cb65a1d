use Rattle.std.proofs.Common.{rules}
use Rattle.mesh.specs.Tables.{point_in}
use Rattle.locate.specs.Inner.{side_code, side_codes}
use Rattle.locate_holding.proofs.Codes.{coded_is}
use Rattle.locate_holding.proofs.side_codes.Goals as goal

pub returns : goal.returns
unfolding side_codes
returns c =
    let h = c.codes_of.ensures in
    coded_is (λ v. side_code (point_in c.args.points.now v) c.args.q) record { long = h.long; coded = λ v l. let k = h.coded v l in search rules; rest = h.rest }

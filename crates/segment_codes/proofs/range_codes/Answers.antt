use Rattle.std.proofs.Common.{bit_and, rules}
use Rattle.mesh.specs.Tables.{point_in}
use Rattle.locate.specs.Inner.{side_code}
use Rattle.locate_holding.proofs.Codes.{coded_is}
use Rattle.segment.specs.Inner.{range_codes}
use Rattle.segment_codes.proofs.range_codes.Goals as goal

pub returns : goal.returns
unfolding range_codes
returns c =
    let h = c.codes_of.ensures in
    let a = c.args in
    coded_is (λ v. bit_and (side_code (point_in a.points.now v) a.a) (side_code (point_in a.points.now v) a.b))
    record { long = h.long; coded = λ v l. let k = h.coded v l in search rules; rest = h.rest }

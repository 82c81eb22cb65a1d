use Rattle.std.proofs.Common.{ap, ◌∙◌, rules}
use Rattle.mesh.specs.Tables.{point_in}
use Rattle.geometry.proofs.Products.{difference_bounded}
use Rattle.locate.specs.Inner.{codes_below}
use Rattle.locate_holding.proofs.Codes.{coded_is}
use Rattle.segment.specs.Inner.{line_code, line_codes}
use Rattle.segment_codes.proofs.line_codes.Goals as goal

pub codes_of-requires-clause-callable : goal.codes_of-requires-clause-callable
codes_of-requires-clause-callable c =
    let h = c.requires in
    let u = difference_bounded c.difference-u.ensures h.1 h.2 in
    λ v l. let p = h.0.in_range v l in search rules

pub returns : goal.returns
unfolding line_codes
returns c =
    let h = c.codes_of.ensures in
    let a = c.args in
    coded_is (λ v. line_code a.a c.difference-u.result (point_in a.points.now v))
    record { long = h.long; coded = λ v l. let k = h.coded v l in search rules; rest = h.rest } ∙
    ap (λ u. codes_below a.np (λ v. line_code a.a u (point_in a.points.now v))) c.difference-u.ensures

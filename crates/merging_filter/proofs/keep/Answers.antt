use Rattle.std.proofs.Common.{sym, ◌∙◌, arith}
use Rattle.merging.proofs.Table.{ends≤}
use Rattle.merging.proofs.Filter.{corner_stays, found_stays, joins}
use Rattle.merging_filter.proofs.keep.Goals as goal

pub returns-then-is_corner : goal.returns-then-is_corner
returns-then-is_corner c = λ ns₀ S. corner_stays S c.point_at-p.ensures (sym c.is_corner.ensures ∙ c.if-is_corner.true)

pub offset_bounds-table-at : goal.offset_bounds-table-at
offset_bounds-table-at c = omega (arith, ends≤ c.requires.0 c.probe-at.ensures)

pub bounds-table-at : goal.bounds-table-at
bounds-table-at c = omega (arith, ends≤ c.requires.0 c.probe-at.ensures)

pub returns-then-table-at-ne0 : goal.returns-then-table-at-ne0
returns-then-table-at-ne0 c = λ ns₀ S. found_stays S c.point_at-p.ensures c.probe-at.ensures c.if-table-at-ne0.true

pub offset_bounds-table-at-2 : goal.offset_bounds-table-at-2
offset_bounds-table-at-2 c = omega (arith, ends≤ c.requires.0 c.probe-at.ensures)

pub bounds-table-at-2 : goal.bounds-table-at-2
bounds-table-at-2 c = omega (arith, ends≤ c.requires.0 c.probe-at.ensures)

pub returns : goal.returns
returns c =
    λ ns₀ S. joins S c.point_at-p.ensures c.probe-at.ensures (sym c.is_corner.ensures ∙ c.if-is_corner.false) c.if-table-at-ne0.false (omega arith) (omega arith) c.put_point.ensures

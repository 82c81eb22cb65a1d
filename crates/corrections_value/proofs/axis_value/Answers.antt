use Rattle.std.proofs.Common.{arith}
use Rattle.corrections_value.proofs.Words.{read_small, ratio_within, value_fits, value_is}
use Rattle.corrections_value.proofs.axis_value.Goals as goal

pub number_at-a-requires : goal.number_at-a-requires
number_at-a-requires c = (c.requires.3 0 (omega arith)).0

pub number_at-b-requires : goal.number_at-b-requires
number_at-b-requires c = (c.requires.3 1 (omega arith)).0

pub number_at-c-requires : goal.number_at-c-requires
number_at-c-requires c = (c.requires.3 2 (omega arith)).0

pub number_at-d-requires : goal.number_at-d-requires
number_at-d-requires c = (c.requires.3 3 (omega arith)).0

pub weighted_sum-requires : goal.weighted_sum-requires
weighted_sum-requires c =
    read_small c.args.corrections.now c.args.k c.args.axis c.args.v c.requires c.number_at-a.ensures c.number_at-b.ensures c.number_at-c.ensures c.number_at-d.ensures

pub cell_volume-requires : goal.cell_volume-requires
cell_volume-requires c = let h = c.requires in (h.0, h.2)

pub round-requires : goal.round-requires
round-requires c =
    ratio_within c.args.corrections.now c.args.k c.args.axis c.args.v c.requires c.number_at-a.ensures c.number_at-b.ensures c.number_at-c.ensures c.number_at-d.ensures c.weighted_sum.ensures c.cell_volume.ensures

pub overflow_cast-result : goal.overflow_cast-result
overflow_cast-result c =
    value_fits c.args.corrections.now c.args.k c.args.axis c.args.v c.requires c.number_at-a.ensures c.number_at-b.ensures c.number_at-c.ensures c.number_at-d.ensures c.weighted_sum.ensures c.cell_volume.ensures c.round.ensures

pub returns : goal.returns
returns c =
    value_is c.args.corrections.now c.args.k c.args.axis c.args.v c.requires c.number_at-a.ensures c.number_at-b.ensures c.number_at-c.ensures c.number_at-d.ensures c.weighted_sum.ensures c.cell_volume.ensures c.round.ensures

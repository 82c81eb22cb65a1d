use Rattle.std.proofs.Common.{◌≡◌, ◌<◌, get_or, sym, ◌∙◌, arith}
use Rattle.std.proofs.lemmas.List.{get_or-take, length-take-le}
use Rattle.cavity.proofs.Gathering.{size≤}
use Rattle.cavity.proofs.Clearing.{cleared_none, cleared_more, cleared_all}
use Rattle.cavity_find.proofs.clear_states.Goals as goal
use Rattle.cavity_find.proofs.clear_states.Goals.{After-from}

within : (c : After-from) → c.loop-c.c-index < c.args.size
within c = let L = c.requires in omega (arith, length-take-le c.args.size c.args.list.now (omega (arith, size≤ L.list, L.few, L.list.entries)))

cell : (c : After-from) → c.from.result ≡ get_or c.args.list.now c.loop-c.c-index 0
cell c = c.from.ensures ∙ get_or-take c.args.size c.args.list.now c.loop-c.c-index 0 (within c)

pub slice_bounds-c-items-end : goal.slice_bounds-c-items-end
slice_bounds-c-items-end c =
    let L = c.requires in
    sym (length-take-le c.args.size c.args.list.now (omega (arith, size≤ L.list, L.few, L.list.entries)))

pub loop-c-init : goal.loop-c-init
loop-c-init c = cleared_none c.requires

pub bounds-state-from : goal.bounds-state-from
bounds-state-from c =
    let L = c.requires in
    let f = (goal.at.bounds-state-from c).After-from in
    omega (arith, cell f, L.list.below c.loop-c.c-index (within f), L.few, c.loop-c.invariant.states)

pub loop-c-preserved : goal.loop-c-preserved
loop-c-preserved c =
    let L = c.requires in
    let f = (goal.at.loop-c-preserved c).After-from in
    rw (cell f) (cleared_more c.loop-c.invariant (omega (arith, L.list.below c.loop-c.c-index (within f), L.few)))

pub returns : goal.returns
returns c =
    let L = c.requires in
    cleared_all (omega (arith, length-take-le c.args.size c.args.list.now (omega (arith, size≤ L.list, L.few, L.list.entries)))) c.loop-c.invariant L.list.entries

use Rattle.std.proofs.Common.{◌≡◌, ◌<◌, get_or, sym, ◌∙◌, arith}
use Rattle.std.proofs.lemmas.List.{get_or-take, length-take-le}
use Rattle.mesh.proofs.Reading.{cells_few}
use Rattle.cavity.proofs.Gathering.{size≤, listed_cell}
use Rattle.cavity.proofs.Rounds.{inspected_more, inspected_ends}
use Rattle.cavity_faces.proofs.inspect_all.Goals as goal
use Rattle.cavity_faces.proofs.inspect_all.Goals.{After-from}

within : (c : After-from) → c.loop-c.c-index < c.args.size
within c = omega (arith, length-take-le c.args.size c.args.list.now (omega (arith, size≤ c.requires.2, cells_few c.requires.0, c.requires.2.entries)))

cell : (c : After-from) → c.from.result ≡ get_or c.args.list.now c.loop-c.c-index 0
cell c = c.from.ensures ∙ get_or-take c.args.size c.args.list.now c.loop-c.c-index 0 (within c)

pub slice_bounds-c-items-end : goal.slice_bounds-c-items-end
slice_bounds-c-items-end c = sym (length-take-le c.args.size c.args.list.now (omega (arith, size≤ c.requires.2, cells_few c.requires.0, c.requires.2.entries)))

pub loop-c-init : goal.loop-c-init
loop-c-init c = c.requires.3

pub inspect-requires : goal.inspect-requires
inspect-requires c =
    let f = (goal.at.inspect-requires c).After-from in
    let i = c.loop-c.invariant in
    (c.requires.0, c.requires.1, c.requires.2.states, rw (cell f) (listed_cell c.requires.2 c.loop-c.c-index (within f)), i.codes, i.marks)

pub loop-c-preserved : goal.loop-c-preserved
loop-c-preserved c =
    let f = (goal.at.loop-c-preserved c).After-from in
    inspected_more c.requires.0 _ c.requires.2 c.loop-c.c-index (within f) c.loop-c.invariant
    (rw (cell f) at c.inspect.ensures.0) (rw (cell f) at c.inspect.ensures.1)

pub returns : goal.returns
returns c =
    let l = c.loop-c in
    let e : l.c-index ≡ c.args.size =
    omega (arith, length-take-le c.args.size c.args.list.now (omega (arith, size≤ c.requires.2, cells_few c.requires.0, c.requires.2.entries))) in
    inspected_ends e l.invariant

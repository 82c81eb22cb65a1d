use native.Mathlib.Omega.{arith}
use Rattle.mesh.specs.Tables.{cell_capacity}
use Rattle.cavity.proofs.Gathering.{size≤}
use Rattle.star.proofs.Sorting.{sorted_lists, sorted_cells}
use Rattle.insertion.proofs.Admission.{made_fits, no_room, has_room}
use Rattle.insertion_tests.proofs.star_room.Goals as goal

pub sort_cells-requires : goal.sort_cells-requires
sort_cells-requires c =
    let p = c.requires in
    omega (arith, size≤ p.4, p.1, p.4.entries)

pub rank_cells-made-requires : goal.rank_cells-made-requires
rank_cells-made-requires c =
    let p = c.requires in
    let E = sorted_lists p.4 p.1 c.sort_cells.ensures in
    (E.entries, p.2, p.3, omega (arith, size≤ E, p.1), λ k h. omega (arith, E.below k h, p.1))

pub overflow_add-node : goal.overflow_add-node
overflow_add-node c =
    let is = c.sort_cells.ensures in
    omega (arith, made_fits _ c.args.node _ (c.rank_cells-made.ensures _ _ _ _ c.requires.5 (sorted_cells c.requires.4 c.requires.1 is)).0 c.requires.0 c.requires.1)

pub returns-then-capacity-node : goal.returns-then-capacity-node
unfolding cell_capacity
returns-then-capacity-node c =
    let p = c.requires in
    let is = c.sort_cells.ensures in
    let e = c.rank_cells-made.ensures _ _ _ _ p.5 (sorted_cells p.4 p.1 is) in
    (no_room _ _ _ e.0 _ c.cell_capacity-capacity.ensures c.if-capacity-node.true, sorted_lists p.4 p.1 is, sorted_cells p.4 p.1 is, e.1)

pub returns-else-capacity-node : goal.returns-else-capacity-node
unfolding cell_capacity
returns-else-capacity-node c =
    let p = c.requires in
    let is = c.sort_cells.ensures in
    let e = c.rank_cells-made.ensures _ _ _ _ p.5 (sorted_cells p.4 p.1 is) in
    (has_room _ _ _ e.0 _ c.cell_capacity-capacity.ensures c.if-capacity-node.false, sorted_lists p.4 p.1 is, sorted_cells p.4 p.1 is, e.1)

use Rattle.std.proofs.Common.{◌∙◌, ◌*◌, ap, arith}
use Rattle.mesh.specs.Start.{start_corners, start_neighbours}
use Rattle.mesh.specs.Inner.{with_four, cell_at}
use Rattle.mesh.proofs.Loops.{four_more, copy_all}
use Rattle.mesh_start.proofs.write_cells.Goals as goal

pub loop-k-preserved : goal.loop-k-preserved
unfolding cell_at start_corners start_neighbours
loop-k-preserved c =
    let l = c.loop-k in
    let cell = c.start_cell.ensures in
    record {
      corners = c.store.ensures.0 ∙ (ap (λ x. with_four l.corners l.k x.corners) cell ∙ rw l.invariant.corners (four_more l.k start_corners c.args.corners.now (omega arith) (omega arith)));
      neighbours = c.store.ensures.1 ∙ (ap (λ x. with_four l.neighbours l.k x.neighbours) cell ∙ rw l.invariant.neighbours (four_more l.k start_neighbours c.args.neighbours.now (omega arith) (omega arith)));
    }

pub returns : goal.returns
unfolding start_corners start_neighbours
returns c =
    let l = c.loop-k in
    (copy_all (4 * l.k) _ _ _ l.invariant.corners (omega arith) (omega arith), copy_all (4 * l.k) _ _ _ l.invariant.neighbours (omega arith) (omega arith))

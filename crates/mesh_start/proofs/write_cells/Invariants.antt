use Rattle.std.proofs.Common.{◌≡◌, ◌*◌, ◌++◌, take, drop}
use Rattle.mesh.specs.Start.{start_corners, start_neighbours}
use Rattle.mesh_start.proofs.write_cells.Given as goal

-- the first k cells are those of the started box, and the rest is what stood there
abbrev pub invariant-loop-k : goal.invariant-loop-k
invariant-loop-k l =
    record {
      corners : l.corners ≡ take (4 * l.k) start_corners ++ drop (4 * l.k) l.fn.corners;
      neighbours : l.neighbours ≡ take (4 * l.k) start_neighbours ++ drop (4 * l.k) l.fn.neighbours;
    }

-- Document 01's marked pieces, by computation.
use mathlib.Core.Path.{refl}
use Rattle.pieces.specs.Marked.{inserted, on_wall, on_edge, refused, second, marked, MarkedPieces}
use Rattle.pieces.proofs.Opened.{opened}

marked_pieces : MarkedPieces
unfolding opened inserted on_wall on_edge refused second marked
marked_pieces =
    record {
      each_64 = refl;
      sum_384 = refl;
      base_inside = refl;
      volumes_inside = refl;
      distances_inside = refl;
      t_inside = refl;
      yes_inside = refl;
      base_on_wall = refl;
      flat_on_wall = refl;
      flat_on_edge = refl;
      base_second = refl;
      lost_second = refl;
      t_half = refl;
      insertions = refl;
    }

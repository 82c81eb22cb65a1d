-- The two even nodes, a report with its least T below 0, and a sphere with a point inside, by computation.
use mathlib.Core.Path.{refl}
use Rattle.pieces_wrong.specs.Wrong.{visible_by, keeps_by, faces_good_by, corners_good_by, marked_by, pruned_by, corrected_by}
use Rattle.pieces_even.specs.Even.{one_node, above, on_sphere, rounded_yes, rounded, EvenNodes, two_nodes, barely, LeastBelowZero, by_no, HandedInside}
use Rattle.pieces.proofs.Opened.{opened}
use Rattle.pieces_wrong.proofs.Differing.{by_size}

even_nodes : EvenNodes
unfolding opened one_node above on_sphere rounded_yes rounded visible_by keeps_by faces_good_by corners_good_by marked_by pruned_by corrected_by
even_nodes =
    record {
      eight_on_sphere = refl;
      either_way = refl;
      settled = refl;
      inserted = refl;
      inserted_rounded = refl;
      from_zero_visible = by_size 18 refl;
      from_lost_corners_only = by_size 18 refl;
      from_one_round = by_size 18 refl;
    }

least_below_zero : LeastBelowZero
unfolding opened two_nodes barely
least_below_zero = record { exact = refl; rounded_down = refl; inserted = refl }

handed_inside : HandedInside
unfolding opened by_no
handed_inside = record { strictly_inside = refl }

-- Each wrong way leaves another cavity, by computation.
use Prim.Native.Nat.{ℕ}
use mathlib.Core.Bool.{Bool, false}
use mathlib.Core.List.{List}
use mathlib.Core.Logic.{◌≢◌}
use mathlib.Core.Path.{◌≡◌, refl, ap}
use lib.Dec.{eqb}
use borrow.Author.Tests.{eqb-false}
use Rattle.geometry.specs.declared.Position.{Position}
use Rattle.mesh.specs.Tables.{Tables}
use Rattle.cavity.specs.Cavity.{pruned, marked, faces_good, corners_good, corrected, cavity_size}
use Rattle.pieces_wrong.specs.Wrong.{right, visible_by, keeps_by, faces_good_by, corners_good_by, marked_by, one_by_one, pruned_by, corrected_by}
use Rattle.pieces.specs.Separating.{zero_visible_history, visibility_only_history, lost_corners_only_history, coplanar_keeps_history, one_round_history, one_at_a_time_history}
use Rattle.pieces.proofs.Opened.{opened}
use Rattle.pieces_wrong.specs.Differing.{EachDiffers}

-- the right rule is the definition
right_is : (t : Tables) (n : ℕ) (p : Position) (b s : List Bool) → corrected_by right t n p b s ≡ corrected t n p b s
unfolding visible_by keeps_by faces_good_by corners_good_by marked_by pruned_by corrected_by faces_good corners_good marked pruned corrected
right_is t n p b s = refl

pub by_size : (n : ℕ) {s s' : List Bool} → eqb (cavity_size n s) (cavity_size n s') ≡ false → s ≢ s'
by_size n {s} {s'} d e = eqb-false (cavity_size n s) (cavity_size n s') d (ap (cavity_size n) e)

each_differs : EachDiffers
unfolding opened zero_visible_history visibility_only_history lost_corners_only_history
    coplanar_keeps_history one_round_history one_at_a_time_history
    visible_by keeps_by faces_good_by corners_good_by marked_by one_by_one pruned_by corrected_by
each_differs =
    record {
      from_zero_visible = by_size 17 refl;
      from_visibility_only = by_size 14 refl;
      from_lost_corners_only = by_size 17 refl;
      from_coplanar_keeps = by_size 14 refl;
      from_one_round = by_size 17 refl;
      from_one_at_a_time = by_size 14 refl;
    }

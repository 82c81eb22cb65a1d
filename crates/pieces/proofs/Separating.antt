-- The separating histories, by computation.
use mathlib.Core.Path.{refl}
use Rattle.pieces.specs.Separating.{zero_visible_history, visibility_only_history, lost_corners_only_history, coplanar_keeps_history, one_round_history, one_at_a_time_history, separating, SeparatingPieces}
use Rattle.pieces.proofs.Opened.{opened}

separating_pieces : SeparatingPieces
unfolding opened zero_visible_history visibility_only_history lost_corners_only_history
    coplanar_keeps_history one_round_history one_at_a_time_history separating
separating_pieces = refl

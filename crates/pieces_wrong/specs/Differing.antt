-- Each wrong way to correct a cavity leaves another one on its history, against the words quoted.
use Rattle.pieces.specs.Separating.{zero_visible_history, visibility_only_history, lost_corners_only_history, coplanar_keeps_history, one_round_history, one_at_a_time_history}
use Rattle.pieces_wrong.specs.Wrong.{zero_visible, visibility_only, lost_corners_only, coplanar_keeps, one_round, one_at_a_time, Differs}

pub record EachDiffers : Type 0 where
  -- 'it is seen if P lies strictly on its cell's side'
  pub from_zero_visible : Differs zero_visible zero_visible_history
  -- 'or a corner that is on no seen outer face of the whole spot'
  pub from_visibility_only : Differs visibility_only visibility_only_history
  -- 'an outer face neither flat nor seen'
  pub from_lost_corners_only : Differs lost_corners_only lost_corners_only_history
  -- 'on no seen outer face'
  pub from_coplanar_keeps : Differs coplanar_keeps coplanar_keeps_history
  -- 'Stop when none is marked.'
  pub from_one_round : Differs one_round one_round_history
  -- 'Remove all marked cells together.'
  pub from_one_at_a_time : Differs one_at_a_time one_at_a_time_history

-- A head parked on a shared face while a node goes in elsewhere: README's example.
use Rattle.std.specs.Prelude.{[], ◌∷◌, ◌≡◌}
use Rattle.arith.specs.Table.{select_below}
use Rattle.geometry.specs.declared.Position.{Position}
use Rattle.geometry.specs.Volume.{position}
use Rattle.locate.specs.Locate.{Cell}
use Rattle.locate.specs.Locate.{holds, sorted_corners, locate_call}
use Rattle.cavity.specs.Answers.{sphere}
use Rattle.calls.specs.Calls.{Build, start_build, by_sphere, mesh_after}
use Rattle.located.specs.Parked.{OutsideCavity}
use Rattle.pieces.specs.Piece.{lent}

-- the box 4, 4, 4 with a node in its middle
unfoldable pub before : Build
before = mesh_after (start_build 4 4 4 (lent 18) 54) (by_sphere 54 (position 2 2 2) ∷ [])

-- the middle of the wall x = 4
unfoldable pub node : Position
node = position 4 2 2

unfoldable pub after : Build
after = mesh_after before (by_sphere 54 node ∷ [])

unfoldable pub head : Position
head = position 3 1 2

pub record ParkedHead : Type 0 where
  -- of 18 entries two cells hold it; the lowest-numbered one is not the one that comes first
  pub held : select_below 18 (holds before.tables head) ≡ 16 ∷ 17 ∷ []
  pub corners_16 : sorted_corners before.tables 16 ≡ 1 ∷ 5 ∷ 7 ∷ 8 ∷ []
  pub corners_17 : sorted_corners before.tables 17 ≡ 0 ∷ 1 ∷ 5 ∷ 8 ∷ []
  pub located : locate_call before.mesh before.tables 54 head ≡ Cell 17
  -- the cell that comes first is outside the corrected cavity, and keeps its number
  pub outside : OutsideCavity before.mesh before.tables node sphere 17
  pub located_again : locate_call after.mesh after.tables 54 head ≡ Cell 17
  pub same_corners : sorted_corners after.tables 17 ≡ 0 ∷ 1 ∷ 5 ∷ 8 ∷ []
  -- a new cell, under a freed number, holds the head too
  pub held_again : select_below 18 (holds after.tables head) ≡ 2 ∷ 17 ∷ []
  pub new_cell : sorted_corners after.tables 2 ≡ 1 ∷ 5 ∷ 8 ∷ 9 ∷ []

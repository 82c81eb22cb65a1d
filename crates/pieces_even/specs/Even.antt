-- Two nodes that lie evenly in a box. For some of the cells on whose sphere the second one lies, the rounded sum T is above 0; E is 0 for
-- all of them, so none of them answers yes. With the rounded answers handed in, the correction takes four cells away, and three of the
-- wrong ways to correct a cavity (`Wrong`) leave another one. Below: a report with its least T below 0, and a mesh by answers handed in with
-- a point inside a sphere.
use Rattle.std.specs.Prelude.{ℕ, Bool, true, false, ◌&&◌, cond, [], ◌∷◌, ◌≡◌, pos, replicate}
use Rattle.std.specs.Int.Signed.{lt_z}
use Rattle.std.specs.Float.{fin}
use Rattle.std.specs.Float.Ieee.{lt}
use Rattle.arith.specs.Table.{tabulate, select_below}
use Rattle.geometry.specs.declared.Position.{Position}
use Rattle.geometry.specs.Volume.{position}
use Rattle.insphere.specs.Sphere.{zero_float}
use Rattle.mesh.specs.Tables.{point, live}
use Rattle.mesh.specs.Check.{same_z}
use Rattle.cavity.specs.Answers.{Answers, sphere, handed, cell_e, cell_t, says_yes}
use Rattle.insertion.specs.Inserted.{Accepted}
use Rattle.insertion.specs.Insertion.{insert_call}
use Rattle.calls.specs.Calls.{Build, start_build, by_sphere, by_answers, mesh_after}
use Rattle.pieces.specs.Piece.{float, lent}
use Rattle.pieces_wrong.specs.Wrong.{zero_visible, lost_corners_only, one_round, DiffersAt}

-- a box 60,000 high, a node 10,000 below its middle, and one as far above
unfoldable pub one_node : Build
one_node = mesh_after (start_build 120000 80000 60000 (lent 30) 90) (by_sphere 90 (position 70000 30000 20000) ∷ [])

unfoldable pub above : Position
above = position 70000 30000 40000

-- c is a cell, and its E is 0
unfoldable pub on_sphere : ℕ → Bool
on_sphere c = live one_node.tables c && same_z (cell_e one_node.tables above c) (pos 0)

-- T of cell c is above 0: document 01's yes
unfoldable pub rounded_yes : ℕ → Bool
rounded_yes c = lt zero_float (cell_t one_node.tables above c)

-- these answers as bytes, one for each of the 18 entries in use
unfoldable pub rounded : Answers
rounded = handed (tabulate 18 (λ c. cond (rounded_yes c) 1 0))

pub record EvenNodes : Type 0 where
  -- eight of the twelve cells have it on their sphere; four of these have T above 0, and none answers yes
  pub eight_on_sphere : select_below 18 on_sphere ≡ 6 ∷ 8 ∷ 10 ∷ 11 ∷ 13 ∷ 15 ∷ 16 ∷ 17 ∷ []
  pub either_way : select_below 18 (λ c. on_sphere c && rounded_yes c) ≡ 6 ∷ 15 ∷ 16 ∷ 17 ∷ []
  pub settled : select_below 18 (λ c. on_sphere c && says_yes sphere one_node.tables above c) ≡ []
  -- the two cells of the cavity stay
  pub inserted : (insert_call one_node.mesh one_node.tables 90 above sphere).answer ≡
      Accepted record { x = 120000; y = 80000; z = 60000; points = 10; cells = 16; chain = 14; used = 18 }
      record { point = 9; before = 2; after = 2; made = 6; least = fin false 4148483276367187 (pos 28) }
  -- by the rounded answers, of six cells four do not stay
  pub inserted_rounded : (insert_call one_node.mesh one_node.tables 90 above rounded).answer ≡
      Accepted record { x = 120000; y = 80000; z = 60000; points = 10; cells = 16; chain = 14; used = 18 }
      record { point = 9; before = 6; after = 2; made = 6; least = float 0 }
  pub from_zero_visible : DiffersAt zero_visible one_node above rounded
  pub from_lost_corners_only : DiffersAt lost_corners_only one_node above rounded
  pub from_one_round : DiffersAt one_round one_node above rounded

-- ---- a report with its least T below 0

-- a long box with two nodes, and a third that lies barely inside the sphere of a cell
unfoldable pub two_nodes : Build
two_nodes =
    mesh_after (start_build 120000 8000 8000 (lent 40) 120)
    (by_sphere 120 (position 10122 6325 1013) ∷ by_sphere 120 (position 115625 2556 1400) ∷ [])

unfoldable pub barely : Position
barely = position 7461 3986 2802

pub record LeastBelowZero : Type 0 where
  -- E of cell 20 is above 0 and T = −2,773,504
  pub exact : cell_e two_nodes.tables barely 20 ≡ pos 480000
  pub rounded_down : cell_t two_nodes.tables barely 20 ≡ fin true 5417 (pos 9)
  pub inserted : (insert_call two_nodes.mesh two_nodes.tables 120 barely sphere).answer ≡
      Accepted record { x = 120000; y = 8000; z = 8000; points = 11; cells = 23; chain = 21; used = 32 }
      record { point = 10; before = 9; after = 9; made = 14; least = fin true 5417 (pos 9) }

-- ---- answers handed in

-- (1, 2, 3) in the box 4, 4, 4 with every answer no: its base is one cell, and the others keep the sphere of the box
unfoldable pub by_no : Build
by_no = mesh_after (start_build 4 4 4 (lent 18) 54) (by_answers 54 (replicate 6 0) (position 1 2 3) ∷ [])

pub record HandedInside : Type 0 where
  -- point 8 lies strictly inside the sphere of cell 0
  pub strictly_inside : lt_z (pos 0) (cell_e by_no.tables (point by_no.tables 8) 0) ≡ true

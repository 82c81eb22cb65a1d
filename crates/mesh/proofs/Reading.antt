-- What functions read off a mesh: corners in range, neighbours that are cells.
use Prim.Native.Nat.{ℕ, ◌+◌, ◌*◌, ◌≤◌, ◌<◌}
use mathlib.Core.List.{List}
use mathlib.Core.Logic.{◌≢◌}
use mathlib.Core.Path.{◌≡◌, refl, sym, ap, ◌∙◌, subst}
use native.Mathlib.Omega.{arith}
use lib.ListN.{get_or}
use Rattle.arith.proofs.Tables.{any_default}
use Rattle.geometry.specs.Volume.{InRange}
use Rattle.mesh.specs.declared.Cell.{Cell}
use Rattle.mesh.specs.Tables.{Tables, none, point_in, corner, across, corner_at, cell_volume, point_capacity, cell_capacity, tables, IsCell}
use Rattle.mesh.specs.Inner.{HasPoint, HasCell, four_at, cell_at, Cornered, Placed, Solid, SomeMesh}
use Rattle.mesh.proofs.Room.{Room, room_of}
use Rattle.mesh.proofs.Corners.{placed_cornered}
use Rattle.mesh.proofs.Numbers.{four_corner, four_entry}
use Rattle.mesh.proofs.FaceNumbers.{face_in}
use Rattle.mesh.proofs.Live.{cell_same}

module _ {ps cs ns : List ℕ} {np n : ℕ} (M : SomeMesh (tables ps cs ns) np n) where
  abbrev t : Tables
  t = tables ps cs ns

  pub room : Room (point_capacity t) (cell_capacity t M.w) t
  room = room_of t M.w

  pub cells_few : n ≤ 4096
  cells_few = omega (arith, M.mesh.cells≤, room.cells≤)

  pub points_few : np ≤ 1024
  points_few = omega (arith, M.mesh.points≤, room.points≤)

  pub has_corners : (c : ℕ) → c < n → HasCell c cs
  has_corners c h = record { few = omega (arith, cells_few); fits = omega (arith, M.mesh.cells≤, room.corners_fit) }

  pub has_neighbours : (c : ℕ) → c < n → HasCell c ns
  has_neighbours c h = record { few = omega (arith, cells_few); fits = omega (arith, M.mesh.cells≤, room.neighbours_fit) }

  pub has_point : (k : ℕ) → k < np → HasPoint k ps
  has_point k h = record { fits = omega (arith, M.mesh.points≤, room.points_fit) }

  pub point_in_range : (k : ℕ) → k < np → InRange (point_in ps k)
  point_in_range k h =
      let b = M.mesh.inside k h in
      record { x≤ = omega (arith, b.x≤, M.mesh.side_x.high); y≤ = omega (arith, b.y≤, M.mesh.side_y.high); z≤ = omega (arith, b.z≤, M.mesh.side_z.high) }

  placed : Placed ps np
  placed = record { points_few = points_few; points_fit = omega (arith, M.mesh.points≤, room.points_fit); in_range = point_in_range }

  pub cornered : (c : ℕ) → IsCell t n c → Cornered ps (four_at cs c)
  cornered c h =
      placed_cornered placed (λ i l. subst (λ v. v < np) (sym (four_corner t c i l)) (M.mesh.corner< c i h l))

  pub corner_mark : (c j : ℕ) → IsCell t n c → j < 4 → get_or (four_at cs c) j 0 < 1024
  corner_mark c j h l = omega (arith, four_corner t c j l, M.mesh.corner< c j h l, points_few)

  pub corner_in_range : (c i : ℕ) → IsCell t n c → i < 4 → InRange (corner_at t c i)
  unfolding corner_at
  corner_in_range c i h l = point_in_range (corner t c i) (M.mesh.corner< c i h l)

  pub solid : Solid ps cs np n
  unfolding cell_volume corner_at corner
  solid = record {
    placed = placed;
    celled = record { cells_few = cells_few; cells_fit = omega (arith, M.mesh.cells≤, room.corners_fit) };
    below = λ c i h. M.mesh.corner< c i (cell_same (λ i l. refl) h);
    positive = λ c h. M.mesh.positive c (cell_same (λ i l. refl) h);
  }

  -- a neighbour as the table has it
  pub across_at : (c i : ℕ) → c < n → i < 4 → get_or ns (4 * c + i) 0 ≡ across t (4 * c + i)
  unfolding across
  across_at c i h l = any_default ns (4 * c + i) 0 none (omega (arith, M.mesh.cells≤, room.neighbours_fit))

-- ---- a cell that was loaded

pub loaded_corners : (cs ns : List ℕ) (c : ℕ) {cell : Cell} → cell ≡ cell_at cs ns c → cell.corners ≡ four_at cs c
unfolding cell_at
loaded_corners cs ns c e = ap (λ x. x.corners) e

pub loaded_neighbours : (cs ns : List ℕ) (c : ℕ) {cell : Cell} → cell ≡ cell_at cs ns c → cell.neighbours ≡ four_at ns c
unfolding cell_at
loaded_neighbours cs ns c e = ap (λ x. x.neighbours) e

module _ {ps cs ns : List ℕ} {np n : ℕ} (M : SomeMesh (tables ps cs ns) np n) {c : ℕ} (c< : IsCell (tables ps cs ns) n c)
    {cell : Cell} (e : cell ≡ cell_at cs ns c) where
  pub loaded_cornered : Cornered ps cell.corners
  loaded_cornered = subst (Cornered ps) (sym (loaded_corners cs ns c e)) (cornered M c c<)

  pub entry_across : (i : ℕ) → i < 4 → get_or cell.neighbours i 0 ≡ across (tables ps cs ns) (4 * c + i)
  entry_across i l = ap (λ u. get_or u i 0) (loaded_neighbours cs ns c e) ∙ (four_entry ns c i l ∙ across_at M c i c<.below l)

  pub loaded_link : (i : ℕ) → i < 4 → get_or cell.neighbours i 0 ≢ none → get_or cell.neighbours i 0 < 4096
  loaded_link i l real =
      omega (arith, cells_few M, entry_across i l, M.mesh.across< (4 * c + i) (face_in c i l c<) (λ x. real (entry_across i l ∙ x)))

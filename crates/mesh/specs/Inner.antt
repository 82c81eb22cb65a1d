-- What the inner functions read, write and ask of the lent tables. Below: the test of a face, the cells in one pass.
pub mod Faces
pub mod Cells
use Rattle.std.specs.Prelude.{ℕ, ◌+◌, ◌*◌, ◌/◌, ◌≤◌, ◌<◌, min, Bool, not, cond, ◌||◌, List, ◌∷◌, [], ltb, length, get_or, set, ℤ, pos, ◌<ℤ◌}
use Rattle.geometry.specs.declared.Position.{Position}
use Rattle.geometry.specs.declared.Tetrahedron.{Tetrahedron}
use Rattle.geometry.specs.Volume.{InRange, volume}
use Rattle.mesh.specs.declared.Cell.{Cell}
use Rattle.mesh.specs.Tables.{Tables, tables, point_capacity, cell_capacity, point_in, cell_volume, IsCell}
use Rattle.mesh.specs.Mesh.{IsMesh}
use Rattle.mesh.specs.Check.{legal_box}

-- the four entries of cell c
unfoldable pub four_at : List ℕ → ℕ → List ℕ
four_at xs c = get_or xs (4 * c) 0 ∷ get_or xs (4 * c + 1) 0 ∷ get_or xs (4 * c + 2) 0 ∷ get_or xs (4 * c + 3) 0 ∷ []

-- the same replaced by those of v
unfoldable pub with_four : List ℕ → ℕ → List ℕ → List ℕ
with_four xs c v =
    set (set (set (set xs (4 * c) (get_or v 0 0)) (4 * c + 1) (get_or v 1 0)) (4 * c + 2) (get_or v 2 0)) (4 * c + 3) (get_or v 3 0)

-- a point table with p as point k
unfoldable pub with_point : List ℕ → ℕ → Position → List ℕ
with_point ps k p = set (set (set ps (3 * k) p.x) (3 * k + 1) p.y) (3 * k + 2) p.z

-- the Cell at number c
unfoldable pub cell_at : List ℕ → List ℕ → ℕ → Cell
cell_at cs ns c = record { corners = four_at cs c; neighbours = four_at ns c }

-- cell c is in a table of four entries a cell
pub record HasCell (c : ℕ) (xs : List ℕ) : Type 0 where
  pub few : c < 4096
  pub fits : 4 * c + 4 ≤ length xs

-- point k is in a point table
pub record HasPoint (k : ℕ) (ps : List ℕ) : Type 0 where
  pub fits : 3 * k + 3 ≤ length ps

-- the capacities and refusals of a start, of lengths
abbrev pub point_room : ℕ → ℕ
point_room ps = min (ps / 3) 1024

abbrev pub cell_room : ℕ → ℕ → ℕ → ℕ
cell_room cs ns w = min (min (min (cs / 4) (ns / 4)) (w / 3)) 4096

unfoldable pub short_lengths : ℕ → ℕ → ℕ → ℕ → Bool
short_lengths ps cs ns w = ltb (point_room ps) 8 || ltb (cell_room cs ns w) 6

unfoldable pub start_refusal_of : ℕ → ℕ → ℕ → ℕ → ℕ → ℕ → ℕ → ℕ
start_refusal_of X Y Z ps cs ns w = cond (short_lengths ps cs ns w) 1 (cond (not (legal_box X Y Z)) 2 0)

-- the positions with the numbers k
abbrev pub positions_of : List ℕ → List ℕ → Tetrahedron
positions_of ps k =
    record { a = point_in ps (get_or k 0 0); b = point_in ps (get_or k 1 0); c = point_in ps (get_or k 2 0); d = point_in ps (get_or k 3 0) }

-- k has the numbers of four points in range
pub record Cornered (ps k : List ℕ) : Type 0 where
  pub has : (i : ℕ) → i < 4 → HasPoint (get_or k i 0) ps
  pub in_range : (i : ℕ) → i < 4 → InRange (point_in ps (get_or k i 0))

abbrev pub volume_of_four : List ℕ → List ℕ → ℤ
volume_of_four ps k = volume (λ i. point_in ps (get_or k i 0))

-- np points in range
pub record Placed (ps : List ℕ) (np : ℕ) : Type 0 where
  pub points_few : np ≤ 1024
  pub points_fit : 3 * np ≤ length ps
  pub in_range : (k : ℕ) → k < np → InRange (point_in ps k)

-- n cells of four entries
pub record Celled (xs : List ℕ) (n : ℕ) : Type 0 where
  pub cells_few : n ≤ 4096
  pub cells_fit : 4 * n ≤ length xs

-- all that the loops over faces need
pub record Sound (ps cs ns : List ℕ) (np n : ℕ) : Type 0 where
  pub placed : Placed ps np
  pub corners : Celled cs n
  pub neighbours : Celled ns n

-- every corner number of the cells among n entries is below np
abbrev pub CornersBelow : List ℕ → ℕ → ℕ → Type 0
CornersBelow cs np n = (c i : ℕ) → IsCell (tables [] cs []) n c → i < 4 → get_or cs (4 * c + i) 0 < np

-- n entries whose cells have positive volumes, over np points
pub record Solid (ps cs : List ℕ) (np n : ℕ) : Type 0 where
  pub placed : Placed ps np
  pub celled : Celled cs n
  pub below : CornersBelow cs np n
  pub positive : (c : ℕ) → IsCell (tables [] cs []) n c → pos 0 <ℤ cell_volume (tables ps cs []) c

-- the tables t are a mesh of np points and n entries in use, in some box and with some work area
pub record SomeMesh (t : Tables) (np n : ℕ) : Type 0 where
  pub X : ℕ
  pub Y : ℕ
  pub Z : ℕ
  pub w : ℕ
  pub mesh : IsMesh X Y Z (point_capacity t) (cell_capacity t w) np n t

-- Document 01, 'What a mesh is', clause by clause, as propositions.
use Rattle.std.specs.Prelude.{ℕ, zero, suc, ◌*◌, ◌/◌, ◌%◌, ◌≤◌, ◌<◌, cond, ◌≢◌, ◌≡◌, eqb, pos, ◌<ℤ◌}
use Rattle.arith.specs.Table.{count_below, sum}
use Rattle.geometry.specs.declared.Position.{Position}
use Rattle.geometry.specs.Volume.{max_side, InBox}
use Rattle.mesh.specs.declared.Mesh.{Mesh}
use Rattle.mesh.specs.Tables.{Tables, point_capacity, cell_capacity, none, point, cell_of, opposite, corner, across, corner_at, cell_volume, side, live, IsCell, IsFace}
use Rattle.mesh.specs.Chain.{Chained, chain_of}

-- 'Sides X, Y, Z are each 1 to 131,072.'
pub record LegalSide (s : ℕ) : Type 0 where
  pub low : 1 ≤ s
  pub high : s ≤ max_side

-- bit b of k
abbrev pub bit : ℕ → ℕ → ℕ
bit k zero = k % 2
bit k (suc b) = bit (k / 2) b

-- s where bit b of k is set, else 0
abbrev pub at_bit : ℕ → ℕ → ℕ → ℕ
at_bit k b s = cond (eqb (bit k b) 1) s 0

-- 'point k has x = X if bit 0 of k is set, y = Y if bit 1, z = Z if bit 2, else 0'
abbrev pub box_corner : ℕ → ℕ → ℕ → ℕ → Position
box_corner X Y Z k = record { x = at_bit k 0 X; y = at_bit k 1 Y; z = at_bit k 2 Z }

-- 'wall: one of the six planes where a coordinate is 0 or its side'
pub data Wall : Type 0 where
  low_x low_y low_z high_x high_y high_z : Wall

-- the coordinate that a wall fixes
abbrev pub along : Wall → Position → ℕ
along low_x p = p.x
along low_y p = p.y
along low_z p = p.z
along high_x p = p.x
along high_y p = p.y
along high_z p = p.z

-- and its value there
abbrev pub level : ℕ → ℕ → ℕ → Wall → ℕ
level X Y Z low_x = 0
level X Y Z low_y = 0
level X Y Z low_z = 0
level X Y Z high_x = X
level X Y Z high_y = Y
level X Y Z high_z = Z

-- face f 'has its three corners on one wall'
pub record OnWall (X Y Z : ℕ) (t : Tables) (f : ℕ) : Type 0 where
  pub wall : Wall
  pub on : (k : ℕ) → k < 4 → k ≢ opposite f → along wall (corner_at t (cell_of f) k) ≡ level X Y Z wall

-- the point number v is one of the three corners of face g
pub record OnFace (t : Tables) (g v : ℕ) : Type 0 where
  pub place : ℕ
  pub place< : place < 4
  pub off : place ≢ opposite g
  pub is : corner t (cell_of g) place ≡ v

-- 'the neighbour has a face with the same three points, names this cell back there, and its fourth corner lies strictly on the other
-- side'. (A cell of positive volume has four different corners, so 'the same' is said one way: `same_back` in proofs/Faces is the other.)
pub record Mated (t : Tables) (f g : ℕ) : Type 0 where
  pub far_cell : cell_of g ≡ across t f
  pub same : (k : ℕ) → k < 4 → k ≢ opposite f → OnFace t g (corner t (cell_of f) k)
  pub back : across t g ≡ cell_of f
  pub far_side : side t (corner_at t (cell_of g) (opposite g)) f <ℤ pos 0

-- v is 'a corner of some cell'; a point number is no 65,535, so that the entry is not freed
pub record CornerOf (t : Tables) (n v : ℕ) : Type 0 where
  pub cell : ℕ
  pub place : ℕ
  pub cell< : cell < n
  pub place< : place < 4
  pub is : corner t cell place ≡ v

-- a mesh of np points and n entries in use, in the box X, Y, Z, under the two capacities; what is asked of cells is asked of live entries.
-- (A freed entry has four times one corner, so its volume is 0 and the sum may run over all entries: `freed_volume` in proofs/Live.)
pub record IsMesh (X Y Z point_cap cell_cap np n : ℕ) (t : Tables) : Type 0 where
  pub point_cap≥ : 8 ≤ point_cap
  pub cell_cap≥ : 6 ≤ cell_cap
  pub side_x : LegalSide X
  pub side_y : LegalSide Y
  pub side_z : LegalSide Z
  pub points≥ : 8 ≤ np
  pub points≤ : np ≤ point_cap
  pub cells≥ : 1 ≤ n
  pub cells≤ : n ≤ cell_cap
  pub box_corners : (k : ℕ) → k < 8 → point t k ≡ box_corner X Y Z k
  pub inside : (k : ℕ) → k < np → InBox X Y Z (point t k)
  pub used : (k : ℕ) → k < np → CornerOf t n k
  pub corner< : (c i : ℕ) → IsCell t n c → i < 4 → corner t c i < np
  pub across< : (f : ℕ) → IsFace t n f → across t f ≢ none → across t f < n
  pub positive : (c : ℕ) → IsCell t n c → pos 0 <ℤ cell_volume t c
  pub walls : (f : ℕ) → IsFace t n f → across t f ≡ none → OnWall X Y Z t f
  pub mated : (f : ℕ) → IsFace t n f → across t f ≢ none → (g : ℕ) × Mated t f g
  pub volumes : sum n (cell_volume t) ≡ pos (6 * X * Y * Z)

-- the record m and the tables t, with a work area of w entries: the cells are a mesh, the chain has just the freed entries, and the cell
-- count is 'the number of entries below the used length that aren't freed'
pub record ValidMesh (m : Mesh) (t : Tables) (w : ℕ) : Type 0 where
  pub mesh : IsMesh m.x m.y m.z (point_capacity t) (cell_capacity t w) m.points m.used t
  pub counted : m.cells ≡ count_below m.used (live t)
  pub chained : Chained t m.used m.chain (chain_of m t)

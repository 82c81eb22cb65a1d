-- The lent tables, cells and faces: document 01, 'Box, tables and sizes'.
use Rattle.std.specs.Prelude.{ℕ, ◌+◌, ◌*◌, ◌/◌, ◌%◌, ◌<◌, min, Bool, true, not, ◌&&◌, cond, ◌||◌, List, ◌≡◌, eqb, length, get_or, replicate, ℤ}
use Rattle.std.specs.Borrow.{Bor}
use denote.Triple.Both.{Both}
use Rattle.arith.specs.Table.{any_below, all_below}
use Rattle.geometry.specs.declared.Position.{Position}
use Rattle.geometry.specs.Volume.{volume, replaced}

-- 'the point table (three coordinates a point), the corner table and neighbour table (16-bit, four entries a cell)'
pub record Tables : Type 0 where
  pub points : List ℕ
  pub corners : List ℕ
  pub neighbours : List ℕ

-- the tables whose entries these lists are
abbrev pub tables : List ℕ → List ℕ → List ℕ → Tables
tables points corners neighbours = record { points = points; corners = corners; neighbours = neighbours }

-- the tables in three lent slices: in a `requires`; and in an `ensures`, as the call finds them and as it leaves them
abbrev pub Slice : Type 0
Slice = Bor (List ℕ)

abbrev pub tables_in : Slice → Slice → Slice → Tables
tables_in points corners neighbours = tables points.now corners.now neighbours.now

abbrev pub tables_before : Both Slice Slice → Both Slice Slice → Both Slice Slice → Tables
tables_before points corners neighbours = tables_in points.entry corners.entry neighbours.entry

abbrev pub tables_after : Both Slice Slice → Both Slice Slice → Both Slice Slice → Tables
tables_after points corners neighbours = tables_in points.exit corners.exit neighbours.exit

-- 'Point capacity is the point table's length over 3, at most 1,024.'
unfoldable pub point_capacity : Tables → ℕ
point_capacity t = min (length t.points / 3) 1024

-- 'Cell capacity is the least of corner length over 4, neighbour length over 4 and work length over 3, at most 4,096.'
unfoldable pub cell_capacity : Tables → ℕ → ℕ
cell_capacity t w = min (min (min (length t.corners / 4) (length t.neighbours / 4)) (w / 3)) 4096

-- a work area after a call: 'zero over its whole length'
abbrev pub cleared : List ℕ → List ℕ
cleared ws = replicate (length ws) 0

-- '65,535 means no neighbour.'
abbrev pub none : ℕ
none = 65535

-- point k of a point table
unfoldable pub point_in : List ℕ → ℕ → Position
point_in ps k = record { x = get_or ps (3 * k) 0; y = get_or ps (3 * k + 1) 0; z = get_or ps (3 * k + 2) 0 }

abbrev pub point : Tables → ℕ → Position
point t k = point_in t.points k

-- 'Face i is the one opposite corner i': face 4·c + i is that of cell c, and its place in the neighbour table.
abbrev pub cell_of : ℕ → ℕ
cell_of f = f / 4

abbrev pub opposite : ℕ → ℕ
opposite f = f % 4

unfoldable pub corner : Tables → ℕ → ℕ → ℕ
corner t c i = get_or t.corners (4 * c + i) 0

-- 'a freed entry has four corners of 65,535'
unfoldable pub freed : Tables → ℕ → Bool
freed t c = all_below 4 (λ i. eqb (corner t c i) none)

unfoldable pub live : Tables → ℕ → Bool
live t c = not (freed t c)

-- entry c is a cell of tables with n entries in use
pub record IsCell (t : Tables) (n c : ℕ) : Type 0 where
  pub below : c < n
  pub lives : live t c ≡ true

-- face f is a face of a cell
abbrev pub IsFace : Tables → ℕ → ℕ → Type 0
IsFace t n f = IsCell t n (cell_of f)

-- 'neighbour i lies across it'
unfoldable pub across : Tables → ℕ → ℕ
across t f = get_or t.neighbours f none

-- where corner i of cell c lies
unfoldable pub corner_at : Tables → ℕ → ℕ → Position
corner_at t c i = point t (corner t c i)

unfoldable pub cell_volume : Tables → ℕ → ℤ
cell_volume t c = volume (corner_at t c)

-- v_i: the six-fold volume of face f's cell with the corner opposite f replaced by q; above 0 where q is strictly on the cell's side
unfoldable pub side : Tables → Position → ℕ → ℤ
side t q f = volume (replaced (corner_at t (cell_of f)) (opposite f) q)

-- the point number v is one of the three corners of face f
unfoldable pub face_has : Tables → ℕ → ℕ → Bool
face_has t f v = any_below 4 (λ k. not (eqb k (opposite f)) && eqb (corner t (cell_of f) k) v)

-- the three corners of face f are corners of face g
unfoldable pub same_face : Tables → ℕ → ℕ → Bool
same_face t f g = all_below 4 (λ k. eqb k (opposite f) || face_has t g (corner t (cell_of f) k))

-- the same face as the far cell numbers it: the first face there with f's corners
unfoldable pub mate : Tables → ℕ → ℕ
mate t f =
    let g = 4 * across t f in
    cond (same_face t f g) g (cond (same_face t f (g + 1)) (g + 1) (cond (same_face t f (g + 2)) (g + 2) (g + 3)))

-- the place of the point number v among the corners of cell c
unfoldable pub place_of : (ℕ → ℕ → ℕ) → ℕ → ℕ → ℕ
place_of corner c v = cond (eqb (corner c 0) v) 0 (cond (eqb (corner c 1) v) 1 (cond (eqb (corner c 2) v) 2 3))

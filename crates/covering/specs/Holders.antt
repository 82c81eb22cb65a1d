-- What is said of the cells that hold one place, and of a cell's corners.
use Rattle.std.specs.Prelude.{ℕ, ◌+◌, ◌*◌, ◌<◌, true, ◌≡◌, ℤ, pos, ◌*ℤ◌, ◌<ℤ◌}
use Rattle.arith.specs.Table.{sum}
use Rattle.mesh.specs.Tables.{Tables, corner, across, cell_volume}
use Rattle.covering.specs.Place.{Place, tables_in_parts, holds_at, side_at}

-- from cell to neighbour, each time through a face k of a cell c with Through c k
pub data FacePath (t : Tables) (n : ℕ) (Through : ℕ → ℕ → Type 0) : ℕ → ℕ → Type 0 where
  here : {c : ℕ} → FacePath t n Through c c
  step : {c d : ℕ} (k : ℕ) → k < 4 → Through c k → across t (4 * c + k) < n → FacePath t n Through (across t (4 * c + k)) d → FacePath t n Through c d

-- face k of cell c separates the cell from q
abbrev pub Separates : Tables → Place → ℕ → ℕ → Type 0
Separates t q c k = side_at t q (4 * c + k) <ℤ pos 0

-- face k of cell c holds q
pub record FaceHolds (t : Tables) (q : Place) (c k : ℕ) : Type 0 where
  pub cell : holds_at t q c ≡ true
  pub plane : side_at t q (4 * c + k) ≡ pos 0

-- φ is a number for each point. Its interpolated value at q in cell c is `weighted` over `weight`.
unfoldable pub weighted : Tables → Place → (ℕ → ℤ) → ℕ → ℤ
weighted t q φ c = sum 4 (λ k. side_at t q (4 * c + k) *ℤ φ (corner t c k))

unfoldable pub weight : Tables → Place → ℕ → ℤ
weight t q c = cell_volume (tables_in_parts q.w t) c

-- every corner of cell c is one of cell d: in a mesh, where a cell's corners differ, the same four
abbrev pub SameCorners : Tables → ℕ → ℕ → Type 0
SameCorners t c d = (i : ℕ) → i < 4 → (j : ℕ) × (j < 4) × (corner t d j ≡ corner t c i)

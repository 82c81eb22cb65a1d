-- Cells glued along faces: what turning round an edge needs of the tables.
use Prim.Native.Nat.{ℕ, ◌≤◌, ◌<◌}
use mathlib.Core.Logic.{◌≢◌}
use mathlib.Core.Path.{◌≡◌}
use Rattle.mesh.specs.Tables.{none, cell_of, opposite}

pub record Glued (n : ℕ) (cell : ℕ → Type 0) (corner : ℕ → ℕ → ℕ) (across mate : ℕ → ℕ) : Type 0 where
  pub few : n ≤ 4096
  pub below : (c : ℕ) → cell c → c < n
  pub distinct : (c i j : ℕ) → cell c → i < 4 → j < 4 → corner c i ≡ corner c j → i ≡ j
  pub across< : (f : ℕ) → cell (cell_of f) → across f ≢ none → cell (across f)
  pub mate_cell : (f : ℕ) → cell (cell_of f) → across f ≢ none → cell_of (mate f) ≡ across f
  pub mate_mate : (f : ℕ) → cell (cell_of f) → across f ≢ none → mate (mate f) ≡ f
  pub mate_across : (f : ℕ) → cell (cell_of f) → across f ≢ none → across (mate f) ≡ cell_of f
  pub apart : (f : ℕ) → cell (cell_of f) → across f ≢ none → across f ≢ cell_of f
  pub shared : (f k : ℕ) → cell (cell_of f) → across f ≢ none → k < 4 → k ≢ opposite f →
      (l : ℕ) × (l < 4) × (l ≢ opposite (mate f)) × (corner (across f) l ≡ corner (cell_of f) k)

-- Document 02 §4: what the list of cells is, and what follows for an accepted call.
use Rattle.std.specs.Prelude.{ℕ, ◌≤◌, ◌<◌, true, List, ◌≡◌, length, get_or}
use Rattle.geometry.specs.declared.Position.{Position}
use Rattle.mesh.specs.Tables.{Tables}
use Rattle.covering.specs.Place.{holds_at}
use Rattle.segment.specs.Segment.{on_way, Touched}

pub record Listed (c : ℕ) (cs : List ℕ) : Type 0 where
  pub at : ℕ
  pub at< : at < length cs
  pub is : get_or cs at 0 ≡ c

-- 'in rising number, every cell that shares at least one place with the segment, ends included, fractions of a step included, and no other'
pub record CellsOn (t : Tables) (n : ℕ) (a b : Position) (cs : List ℕ) : Type 0 where
  pub rising : (i j : ℕ) → i < j → j < length cs → get_or cs i 0 < get_or cs j 0
  pub every : (c : ℕ) → c < n → Touched t a b c → Listed c cs
  pub no_other : (c : ℕ) → Listed c cs → (c < n) × Touched t a b c

-- every place of the segment is held by a listed cell
abbrev pub HeldAlong : Tables → Position → Position → List ℕ → Type 0
HeldAlong t a b cs = (n d : ℕ) → n ≤ d → 1 ≤ d → (c : ℕ) × Listed c cs × (holds_at t (on_way a b n d) c ≡ true)

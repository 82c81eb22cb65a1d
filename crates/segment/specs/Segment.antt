-- Document 02 §4, 'Cells on a straight drive': the places of a segment, and the cells on it.
use Rattle.std.specs.Prelude.{ℕ, ◌+◌, ◌*◌, ◌-◌, ◌≤◌, true, ◌≡◌}
use Rattle.geometry.specs.declared.Position.{Position}
use Rattle.mesh.specs.Tables.{Tables}
use Rattle.covering.specs.Place.{Place, holds_at}

-- n d-ths of the way from a to b
abbrev pub on_way : Position → Position → ℕ → ℕ → Place
on_way a b n d =
    record { x = (d - n) * a.x + n * b.x; y = (d - n) * a.y + n * b.y; z = (d - n) * a.z + n * b.z; w = d }

-- 'shares at least one place with the segment, ends included, fractions of a step included'
pub record Touched (t : Tables) (a b : Position) (c : ℕ) : Type 0 where
  pub n : ℕ
  pub d : ℕ
  pub within : n ≤ d
  pub some : 1 ≤ d
  pub held : holds_at t (on_way a b n d) c ≡ true

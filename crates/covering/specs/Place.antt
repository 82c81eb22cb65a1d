-- Positions at whole steps and at any fraction of one, and the cells that hold them.
use Rattle.std.specs.Prelude.{ℕ, ◌+◌, ◌*◌, ◌≤◌, Bool, map, ℤ, pos}
use Rattle.std.specs.Int.Signed.{lt_z}
use Rattle.arith.specs.Table.{all_below}
use Rattle.geometry.specs.declared.Position.{Position}
use Rattle.geometry.specs.Volume.{InBox, position}
use Rattle.mesh.specs.Tables.{Tables, side}
use Rattle.locate.specs.Locate.{holds}

-- the position (x/w, y/w, z/w), for w above 0
pub record Place : Type 0 where
  pub x : ℕ
  pub y : ℕ
  pub z : ℕ
  pub w : ℕ

-- a position at whole steps
abbrev pub whole : Position → Place
whole p = record { x = p.x; y = p.y; z = p.z; w = 1 }

-- a place's position in w-ths of a step
abbrev pub in_parts : Place → Position
in_parts q = position q.x q.y q.z

-- the box, ends included
pub record InBoxAt (X Y Z : ℕ) (q : Place) : Type 0 where
  pub w≥ : 1 ≤ q.w
  pub box : InBox (q.w * X) (q.w * Y) (q.w * Z) (in_parts q)

-- the tables with their coordinates in w-ths of a step
unfoldable pub tables_in_parts : ℕ → Tables → Tables
tables_in_parts w t = record { points = map (λ x. w * x) t.points; corners = t.corners; neighbours = t.neighbours }

-- cell c holds q: locate's own test, in parts of a step
unfoldable pub holds_at : Tables → Place → ℕ → Bool
holds_at t q c = holds (tables_in_parts q.w t) (in_parts q) c

-- v_i at q
unfoldable pub side_at : Tables → Place → ℕ → ℤ
side_at t q f = side (tables_in_parts q.w t) (in_parts q) f

-- q lies strictly inside cell c
unfoldable pub inside_at : Tables → Place → ℕ → Bool
inside_at t q c = all_below 4 (λ k. lt_z (pos 0) (side_at t q (4 * c + k)))

-- Exactly one cell comes first of those that hold a position; and which one it is, by its corners, does not depend on the cells' numbers.
use Rattle.std.specs.Prelude.{ℕ, ◌<◌, true, ◌≢◌, ◌≡◌}
use Rattle.geometry.specs.declared.Position.{Position}
use Rattle.mesh.specs.declared.Mesh.{Mesh}
use Rattle.mesh.specs.Tables.{Tables, point, corner, IsCell}
use Rattle.locate.specs.Locate.{Located}
use Rattle.locate.specs.Locate.{Cell, Refused}
use Rattle.locate.specs.Order.{lex_before}
use Rattle.locate.specs.Locate.{holds, sorted_corners, locate_call}

-- of n entries, c holds p and comes before every other cell that does
pub record ComesFirst (t : Tables) (n : ℕ) (p : Position) (c : ℕ) : Type 0 where
  pub cell< : c < n
  pub holding : holds t p c ≡ true
  pub before_others : (d : ℕ) → d < n → d ≢ c → holds t p d ≡ true → lex_before (sorted_corners t c) (sorted_corners t d) ≡ true

-- a call answers a cell that comes first, and no other cell does
pub record OneCell (m : Mesh) (t : Tables) (w : ℕ) (p : Position) : Type 0 where
  pub cell : ℕ
  pub located : locate_call m t w p ≡ Cell cell
  pub first : ComesFirst t m.used p cell
  pub only : (d : ℕ) → ComesFirst t m.used p d → d ≡ cell

-- some cell of t', with n' entries in use, has the corners of cell c of t
pub record Stands (t : Tables) (c : ℕ) (t' : Tables) (n' : ℕ) : Type 0 where
  pub cell : ℕ
  pub is_cell : IsCell t' n' cell
  pub corners : sorted_corners t' cell ≡ sorted_corners t c

-- cell c of t is cell c of t' too, its corners in their places
pub record KeepsNumber (t : Tables) (c : ℕ) (t' : Tables) (n' : ℕ) : Type 0 where
  pub is_cell : IsCell t' n' c
  pub corners : (i : ℕ) → i < 4 → corner t' c i ≡ corner t c i

-- the same points, and the same cells by their corners, in any order
pub record SameCells (m : Mesh) (t : Tables) (m' : Mesh) (t' : Tables) : Type 0 where
  pub points : (v : ℕ) → v < m.points → point t' v ≡ point t v
  pub there : (c : ℕ) → IsCell t m.used c → Stands t c t' m'.used
  pub back : (d : ℕ) → IsCell t' m'.used d → Stands t' d t m.used

-- two answers, from the tables t and t': the same refusal, or the same cell by its corners
pub data SameAnswer (t t' : Tables) : Located → Located → Type 0 where
  same_refusal : (e : ℕ) → SameAnswer t t' (Refused e) (Refused e)
  same_cell : (c d : ℕ) → sorted_corners t' d ≡ sorted_corners t c → SameAnswer t t' (Cell c) (Cell d)

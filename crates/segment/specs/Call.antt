-- Document 02 §4: the test of a cell, and the call. That the test is right is `touch_is` (proofs/Touch).
use Rattle.std.specs.Prelude.{ℕ, ◌+◌, ◌*◌, Bool, false, not, ◌&&◌, ◌||◌, cond, List, ◌≡◌, ltb, eqb, ℤ, pos, ◌*ℤ◌, length, Result, Ok, Err}
use Rattle.std.specs.Int.Signed.{le_z, lt_z}
use Rattle.refusal.specs.declared.Refusal.{Refusal}
use Rattle.refusal.specs.Refusal.{refusal_number}
use Rattle.arith.specs.Table.{all_below, select_below}
use Rattle.geometry.specs.declared.Position.{Position}
use Rattle.geometry.specs.Volume.{in_box}
use Rattle.mesh.specs.declared.Mesh.{Mesh}
use Rattle.mesh.specs.Tables.{Tables, side, live, cleared}
use Rattle.mesh.specs.Start.{over}
use Rattle.mesh.specs.Refusal.{mesh_refusal}

-- how many cells are listed, or the refusal's number
pub data Counted : Type 0 where
  Count : ℕ → Counted
  Refused : ℕ → Counted

abbrev pub as_counted : Result ℕ Refusal → Counted
as_counted (Ok n) = Count n
as_counted (Err e) = Refused (refusal_number e)

-- ---- forms with the values a and b at the two ends

abbrev pub below : ℤ → Bool
below z = lt_z z (pos 0)

-- below 0 at the first end alone; a form that leaves enters on the way back
abbrev pub enters : ℤ → ℤ → Bool
enters a b = below a && not (below b)

-- where (a, b) enters and (c, d) leaves, the first does so no later
unfoldable pub in_order : ℤ → ℤ → ℤ → ℤ → Bool
in_order a b c d = not (enters a b && enters d c) || le_z (a *ℤ d) (c *ℤ b)

-- of m forms, none is below 0 at both ends, and none enters later than another leaves
unfoldable pub meets : ℕ → (ℕ → ℤ) → (ℕ → ℤ) → Bool
meets m a b = all_below m (λ k. not (below (a k) && below (b k)) && all_below m (λ l. in_order (a k) (b k) (a l) (b l)))

-- ---- the call

-- the test, from a cell's sides at the ends
unfoldable pub touches : Tables → Position → Position → ℕ → Bool
touches t a b c = live t c && meets 4 (λ k. side t a (4 * c + k)) (λ k. side t b (4 * c + k))

-- 'in rising number, every cell', of n entries
unfoldable pub segment_cells : Tables → ℕ → Position → Position → List ℕ
segment_cells t n a b = select_below n (touches t a b)

-- refusals 1 2 3 4 10
unfoldable pub segment_refusal : Mesh → Tables → ℕ → Position → Position → ℕ → ℕ
segment_refusal m t w a b room =
    cond (not (eqb (mesh_refusal m t w false) 0)) (mesh_refusal m t w false)
    (cond (not (in_box m.x m.y m.z a && in_box m.x m.y m.z b)) 4
    (cond (ltb room (length (segment_cells t m.used a b))) 10 0))

-- the number of cells, or the refusal's
unfoldable pub segment_answer : Mesh → Tables → ℕ → Position → Position → ℕ → Counted
segment_answer m t w a b room =
    cond (eqb (segment_refusal m t w a b room) 0) (Count (length (segment_cells t m.used a b))) (Refused (segment_refusal m t w a b room))

-- output past the cells is unchanged, and all of it on a refusal
unfoldable pub segment_output : Mesh → Tables → ℕ → Position → Position → List ℕ → List ℕ
segment_output m t w a b out = cond (eqb (segment_refusal m t w a b (length out)) 0) (over (segment_cells t m.used a b) out) out

-- what the call answers and leaves in its output and the work area
pub record SegmentLeaves (m : Mesh) (t : Tables) (ws : List ℕ) (a b : Position) (out : List ℕ) (r : Counted) (ws' out' : List ℕ) : Type 0 where
  pub answer : r ≡ segment_answer m t (length ws) a b (length out)
  pub output : out' ≡ segment_output m t (length ws) a b out
  pub work : ws' ≡ cleared ws

-- Locating a position.
use Rattle.std.specs.Prelude.{ℕ, ◌+◌, ◌*◌, Bool, false, not, ◌&&◌, cond, List, eqb, pos, Result, Ok, Err}
use Rattle.std.specs.Int.Signed.{le_z}
use Rattle.refusal.specs.declared.Refusal.{Refusal}
use Rattle.refusal.specs.Refusal.{refusal_number}
use Rattle.arith.specs.Table.{tabulate, all_below, any_below, first_below}
use Rattle.geometry.specs.declared.Position.{Position}
use Rattle.geometry.specs.Volume.{in_box}
use Rattle.mesh.specs.declared.Mesh.{Mesh}
use Rattle.mesh.specs.Tables.{Tables, corner, side, live}
use Rattle.mesh.specs.Refusal.{mesh_refusal}
use Rattle.locate.specs.Order.{sorted, lex_before}

-- what locating answers: the cell's number, or the refusal's
pub data Located : Type 0 where
  Cell : ℕ → Located
  Refused : ℕ → Located

abbrev pub as_located : Result ℕ Refusal → Located
as_located (Ok c) = Cell c
as_located (Err e) = Refused (refusal_number e)

-- '"Holds" includes the cell's faces, edges and corners.' A freed entry holds nothing.
unfoldable pub holds : Tables → Position → ℕ → Bool
holds t p c = live t c && all_below 4 (λ k. le_z (pos 0) (side t p (4 * c + k)))

-- a cell's 'four corner numbers, sorted upward'
unfoldable pub sorted_corners : Tables → ℕ → List ℕ
sorted_corners t c = sorted (tabulate 4 (corner t c))

-- cell d holds p, and its sorted corners come before those of c
unfoldable pub earlier_holder : Tables → Position → ℕ → ℕ → Bool
earlier_holder t p c d = holds t p d && lex_before (sorted_corners t d) (sorted_corners t c)

-- document 02 §3: of n entries, 'among the cells that hold the position, the one whose four corner numbers, sorted upward, come first in
-- order'; n where none holds it. In a mesh just one comes first: `one_cell` (located/proofs/Theorem). Of equal corners, which a mesh does not
-- have, the lowest number is taken.
unfoldable pub first_holder : Tables → ℕ → Position → ℕ
first_holder t n p = first_below n (λ c. holds t p c && not (any_below n (earlier_holder t p c)))

-- refusals 1 2 3 4 7. 7 never occurs: `never_seven` (covering/proofs/NeverSeven).
unfoldable pub locate_refusal : Mesh → Tables → ℕ → Position → ℕ
locate_refusal m t w p =
    cond (not (eqb (mesh_refusal m t w false) 0)) (mesh_refusal m t w false)
    (cond (not (in_box m.x m.y m.z p)) 4 (cond (not (any_below m.used (holds t p))) 7 0))

-- condition 2, as §3 amends it
unfoldable pub locate_call : Mesh → Tables → ℕ → Position → Located
locate_call m t w p =
    cond (eqb (locate_refusal m t w p) 0) (Cell (first_holder t m.used p)) (Refused (locate_refusal m t w p))

-- Sequences of calls in both layouts, side by side: the same nodes and lists in the same order, with answers and marks that follow their cells.
use Rattle.std.specs.Prelude.{ℕ, ◌≤◌, ◌<◌, true, List, ◌≡◌, length, get_or}
use Rattle.geometry.specs.declared.Position.{Position}
use Rattle.mesh.specs.Tables.{Tables, cell_capacity, corner, freed, IsCell}
use Rattle.mesh.specs.Start.{start_refusal}
use Rattle.calls.specs.Calls.{Build, start_build, Call, by_sphere, by_answers, by_marks, by_list, look, outcome}
use Rattle.layouts.specs.Packed.{packed_outcome}

-- In all that follows a is a build of §11's layout, b one of document 01's.

-- cell c of a and cell d of b are the same 'by their corners', each in its place
pub record SameCell (a b : Build) (c d : ℕ) : Type 0 where
  pub cell : IsCell a.tables a.mesh.used c
  pub cell₁ : IsCell b.tables b.mesh.cells d
  pub corners : (i : ℕ) → i < 4 → corner a.tables c i ≡ corner b.tables d i

-- 'no call but a start lent less cell capacity than the used length'
abbrev pub HasCapacity : Build → ℕ → Type 0
HasCapacity a w = a.mesh.used ≤ cell_capacity a.tables w

-- 'long enough': a byte an entry in the one, a byte a cell in the other
pub record LongEnough (a b : Build) (bytes bytes₁ : List ℕ) : Type 0 where
  pub long : a.mesh.used ≤ length bytes
  pub long₁ : b.mesh.cells ≤ length bytes₁

-- 'handed-in answers and marks following their cells': the same cell has the same byte
pub record FollowCells (a b : Build) (bytes bytes₁ : List ℕ) : Type 0 where
  pub enough : LongEnough a b bytes bytes₁
  pub same : (c d : ℕ) → SameCell a b c d → get_or bytes c 0 ≡ get_or bytes₁ d 0

-- 'marks 0 for freed entries'
abbrev pub ZeroWhereFreed : Build → List ℕ → Type 0
ZeroWhereFreed a marks = (c : ℕ) → c < a.mesh.used → freed a.tables c ≡ true → get_or marks c 0 ≡ 0

-- a call on a, and the call on b that stands for it: one node or list, and one length of the work area. A look is lent marks with any bytes.
pub data Partners (a b : Build) : Call → Call → Type 0 where
  both_by_sphere : (w : ℕ) (p : Position) → HasCapacity a w → Partners a b (by_sphere w p) (by_sphere w p)
  both_by_answers : (w : ℕ) (p : Position) {bytes bytes₁ : List ℕ} → HasCapacity a w → FollowCells a b bytes bytes₁ →
      Partners a b (by_answers w bytes p) (by_answers w bytes₁ p)
  both_by_marks : (w : ℕ) (p : Position) {marks marks₁ : List ℕ} → HasCapacity a w → FollowCells a b marks marks₁ → ZeroWhereFreed a marks →
      Partners a b (by_marks w marks p) (by_marks w marks₁ p)
  both_by_list : (w : ℕ) (ns : List ℕ) → HasCapacity a w → Partners a b (by_list w ns) (by_list w ns)
  both_look : (w : ℕ) (p : Position) {marks marks₁ : List ℕ} → HasCapacity a w → LongEnough a b marks marks₁ →
      Partners a b (look w marks p) (look w marks₁ p)

-- lent tables of the same lengths
pub record SameLengths (t t₁ : Tables) : Type 0 where
  pub points : length t.points ≡ length t₁.points
  pub corners : length t.corners ≡ length t₁.corners
  pub neighbours : length t.neighbours ≡ length t₁.neighbours

-- 'every sequence from an accepted start, record and tables handed on as left': what two sequences leave. A start answers the same record in both: its
-- chain is empty, and its used length is its cell count. What stood in the lent tables before may be any, so also what an earlier sequence left there.
pub data Histories : Build → Build → Type 0 where
  started : (X Y Z : ℕ) (t t₁ : Tables) (w : ℕ) → SameLengths t t₁ → start_refusal X Y Z t w ≡ 0 →
      Histories (start_build X Y Z t w) (start_build X Y Z t₁ w)
  called : {a b : Build} {c d : Call} → Histories a b → Partners a b c d → Histories (outcome a c).after (packed_outcome b d).after

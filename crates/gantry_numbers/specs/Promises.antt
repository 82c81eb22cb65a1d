-- What each C call answers, and leaves in what it is lent: the calls' own definitions, with the interface's numbers. Where no tables
-- are left, they are lent for reading alone.
use Rattle.std.specs.Prelude.{ℕ, List, ◌≡◌, ℤ, length}
use Rattle.rounding.specs.Whole.{Near}
use Rattle.geometry.specs.declared.Position.{Position}
use Rattle.mesh.specs.declared.Mesh.{Mesh}
use Rattle.mesh.specs.Tables.{Tables, cleared}
use Rattle.locate.specs.Locate.{locate_call}
use Rattle.cavity.specs.Answers.{Answers}
use Rattle.corrections.specs.Calls.{Left, start_with, insert_with, marked_with, list_with, look_with, correction_call}
use Rattle.segment.specs.Call.{segment_answer, segment_output}
use Rattle.nodefile.specs.Read.{read_answer, read_output}
use Rattle.nodefile.specs.Write.{write_answer, write_output}
use Rattle.merging.specs.Merge.{merge_answer, merge_output}
use Rattle.gantry_numbers.specs.declared.GantryStarted.{GantryStarted}
use Rattle.gantry_numbers.specs.declared.GantryInserted.{GantryInserted}
use Rattle.gantry_numbers.specs.declared.GantryLooked.{GantryLooked}
use Rattle.gantry_numbers.specs.declared.GantryListed.{GantryListed}
use Rattle.gantry_numbers.specs.declared.GantryLocated.{GantryLocated}
use Rattle.gantry_numbers.specs.declared.GantryCounted.{GantryCounted}
use Rattle.gantry_numbers.specs.declared.GantryCorrected.{GantryCorrected}
use Rattle.gantry_numbers.specs.declared.GantrySphere.{GantrySphere}
use Rattle.gantry_numbers.specs.declared.GantryRead.{GantryRead}
use Rattle.gantry_numbers.specs.declared.GantryWritten.{GantryWritten}
use Rattle.gantry_numbers.specs.Numbers.{started_of, inserted_of, looked_of, listed_of, located_of, counted_of, corrected_of, read_of, written_of}

-- tables, a work area ws and corrections are lent, and left as t', ws' and cs': by a call that leaves l, with its answer's numbers. A refusal, too,
-- is one of the definitions' cases.
pub record Gives {Answer Numbers : Type 0} (of : Answer → Numbers) (l : Left Answer) (ws : List ℕ)
    (r : Numbers) (t' : Tables) (ws' : List ℕ) (cs' : List ℤ) : Type 0 where
  pub answer : r ≡ of l.answer
  pub tables : t' ≡ l.tables
  pub work : ws' ≡ cleared ws
  pub corrections : cs' ≡ l.corrections

abbrev pub Starts : ℕ → ℕ → ℕ → Tables → List ℕ → List ℤ → GantryStarted → Tables → List ℕ → List ℤ → Type 0
Starts X Y Z t ws cs = Gives started_of (start_with X Y Z t cs (length ws)) ws

abbrev pub Inserts : Mesh → Tables → List ℕ → List ℤ → Position → Answers → GantryInserted → Tables → List ℕ → List ℤ → Type 0
Inserts m t ws cs p a = Gives (inserted_of m) (insert_with m t cs (length ws) p a) ws

abbrev pub InsertsMarked : Mesh → Tables → List ℕ → List ℤ → Position → List ℕ → GantryInserted → Tables → List ℕ → List ℤ → Type 0
InsertsMarked m t ws cs p marks = Gives (inserted_of m) (marked_with m t cs (length ws) p marks) ws

abbrev pub Lists : Mesh → Tables → List ℕ → List ℤ → List ℕ → GantryListed → Tables → List ℕ → List ℤ → Type 0
Lists m t ws cs ns = Gives (listed_of m) (list_with m t cs (length ws) ns) ws

-- marks are lent too, and left as marks'; the corrections for reading alone
pub record Looks (m : Mesh) (t : Tables) (ws : List ℕ) (cs : List ℤ) (p : Position) (marks : List ℕ)
    (r : GantryLooked) (t' : Tables) (ws' marks' : List ℕ) : Type 0 where
  pub answer : r ≡ looked_of (look_with m t cs (length ws) p marks).answer
  pub tables : t' ≡ (look_with m t cs (length ws) p marks).tables
  pub marks_left : marks' ≡ (look_with m t cs (length ws) p marks).marks
  pub work : ws' ≡ cleared ws

pub record Corrects (m : Mesh) (t : Tables) (ws : List ℕ) (cs : List ℤ) (p : Position) (r : GantryCorrected) (ws' : List ℕ) : Type 0 where
  pub answer : r ≡ corrected_of (correction_call m t cs (length ws) p)
  pub work : ws' ≡ cleared ws

pub record Locates (m : Mesh) (t : Tables) (ws : List ℕ) (p : Position) (r : GantryLocated) (ws' : List ℕ) : Type 0 where
  pub answer : r ≡ located_of (locate_call m t (length ws) p)
  pub work : ws' ≡ cleared ws

pub record ListsCells (m : Mesh) (t : Tables) (ws : List ℕ) (a b : Position) (out : List ℕ) (r : GantryCounted) (ws' out' : List ℕ) : Type 0 where
  pub answer : r ≡ counted_of (segment_answer m t (length ws) a b (length out))
  pub output : out' ≡ segment_output m t (length ws) a b out
  pub work : ws' ≡ cleared ws

pub record Reads (file out : List ℕ) (r : GantryRead) (out' : List ℕ) : Type 0 where
  pub answer : r ≡ read_of (read_answer file (length out))
  pub output : out' ≡ read_output file out

pub record Writes (m : Mesh) (t : Tables) (ws out : List ℕ) (r : GantryWritten) (ws' out' : List ℕ) : Type 0 where
  pub answer : r ≡ written_of (write_answer m t (length ws) (length out))
  pub output : out' ≡ write_output m t (length ws) out
  pub work : ws' ≡ cleared ws

pub record Merges (first second out : List ℕ) (r : GantryWritten) (out' : List ℕ) : Type 0 where
  pub answer : r ≡ written_of (merge_answer first second (length out))
  pub output : out' ≡ merge_output first second out

-- of the sphere test's answer, with the exact sum e: T lies within 2^39 of it
abbrev pub GivesNear : ℤ → GantrySphere → Type 0
GivesNear e r = r.refusal ≡ 0 → Near r.t e

-- Reading a node file: document 01, 'Node file'.
use Rattle.std.specs.Prelude.{ℕ, ◌*◌, ◌-◌, Bool, not, cond, ◌||◌, List, ◌≡◌, ltb, eqb, length, get_or, take, drop, Result, Ok, Err}
use Rattle.refusal.specs.declared.Refusal.{Refusal}
use Rattle.refusal.specs.Refusal.{refusal_number}
use Rattle.mesh.specs.Check.{legal_box}
use Rattle.mesh.specs.Start.{over}
use Rattle.nodefile.specs.declared.Header.{Header}
use Rattle.nodefile.specs.Bytes.{numbers_of}

-- what reading answers: sides and node count, or the refusal's number
pub data Read : Type 0 where
  Nodes : Header → Read
  Refused : ℕ → Read

abbrev pub as_read : Result Header Refusal → Read
as_read (Ok h) = Nodes h
as_read (Err e) = Refused (refusal_number e)

-- 'a trailer of 20 bytes': 'X, Y, Z, the count and the distance back in bytes from the trailer's start to the first record'
unfoldable pub trailer : List ℕ → List ℕ
trailer file = numbers_of (drop (length file - 20) file)

-- its sides and count
unfoldable pub header : List ℕ → Header
header file =
    record { x = get_or (trailer file) 0 0; y = get_or (trailer file) 1 0; z = get_or (trailer file) 2 0; count = get_or (trailer file) 3 0 }

-- its distance back to the first record
unfoldable pub distance : List ℕ → ℕ
distance file = get_or (trailer file) 4 0

-- 'The distance must be 12 × count and lie within the file; the count is at most 1,016.' There are `before` bytes before the trailer.
unfoldable pub wrong_trailer : ℕ → ℕ → ℕ → Bool
wrong_trailer count distance before = ltb 1016 count || (not (eqb distance (12 * count)) || ltb before distance)

-- refusals 9 2 10
unfoldable pub read_refusal : List ℕ → ℕ → ℕ
read_refusal file room =
    cond (ltb (length file) 20 || wrong_trailer (header file).count (distance file) (length file - 20)) 9
    (cond (not (legal_box (header file).x (header file).y (header file).z)) 2
    (cond (ltb room (3 * (header file).count)) 10 0))

-- where the first record starts
unfoldable pub first_record : List ℕ → ℕ
first_record file = length file - 20 - distance file

-- the part from the first record to the trailer
unfoldable pub records : List ℕ → List ℕ
records file = take (distance file) (drop (first_record file) file)

-- 'The reader gives the sides and the nodes as they stand'
unfoldable pub nodes : List ℕ → List ℕ
nodes file = numbers_of (records file)

-- 'and doesn't test positions'
unfoldable pub read_answer : List ℕ → ℕ → Read
read_answer file room = cond (eqb (read_refusal file room) 0) (Nodes (header file)) (Refused (read_refusal file room))

-- 'Output past what is written is unchanged.'
unfoldable pub read_output : List ℕ → List ℕ → List ℕ
read_output file out = cond (eqb (read_refusal file (length out)) 0) (over (nodes file) out) out

-- what reading a file into out answers and leaves there
pub record ReadLeaves (file out : List ℕ) (r : Read) (out' : List ℕ) : Type 0 where
  pub answer : r ≡ read_answer file (length out)
  pub output : out' ≡ read_output file out

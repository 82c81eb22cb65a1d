-- The calls that are lent a table of corrections: a start, the insertions and a look, with what is new in them, and the two that set and read
-- corrections. What they do to the mesh is the insertion's own definitions.
use Rattle.std.specs.Prelude.{ℕ, zero, suc, Bool, false, not, ◌&&◌, ◌||◌, cond, List, ◌++◌, ◌≡◌, ltb, eqb, drop, replicate, ℤ, pos}
use Rattle.geometry.specs.declared.Position.{Position}
use Rattle.mesh.specs.declared.Mesh.{Mesh}
use Rattle.mesh.specs.Start.{Started}
use Rattle.mesh.specs.Start.{Accepted as StartAccepted, Refused as StartRefused}
use Rattle.mesh.specs.Tables.{Tables, cleared}
use Rattle.mesh.specs.Start.{started, started_mesh, start_refusal}
use Rattle.mesh.specs.Refusal.{mesh_refusal}
use Rattle.locate.specs.Locate.{locate_refusal}
use Rattle.cavity.specs.Answers.{Answers, sphere}
use Rattle.insertion.specs.Inserted.{Inserted}
use Rattle.insertion.specs.Inserted.{Accepted, Refused}
use Rattle.insertion.specs.Looked.{Looked}
use Rattle.insertion.specs.Listed.{Listed}
use Rattle.insertion.specs.Listed.{Ended, Stopped, Refused as AllRefused}
use Rattle.insertion.specs.Insertion.{node_refusal, first_of, insert_refusal, insert_unless}
use Rattle.insertion.specs.Look.{LookResult, look_refusal, look_unless, marked_refusal}
use Rattle.insertion.specs.List.{listed_node, listed_count}
use Rattle.corrections.specs.declared.Correction.{Correction}
use Rattle.corrections.specs.Corrections.{Corrected}
use Rattle.corrections.specs.Corrections.{By, Refused as NotCorrected}
use Rattle.corrections.specs.Corrections.{in_range, out_of_range, too_short, with_correction, correction_at}

-- ---- refusals

-- 'A correction table with fewer than three entries for each point of capacity is 1': before all others
unfoldable pub with_length : Tables → List ℤ → ℕ → ℕ
with_length t cs r = cond (too_short t cs) 1 r

-- '12 for a correction out of range .. standing in the table for a point of the mesh .. after 5': of np points. It comes before every refusal
-- above 5, and after the others.
unfoldable pub with_range : ℕ → List ℤ → ℕ → ℕ
with_range np cs r = cond (out_of_range np cs && (eqb r 0 || ltb 5 r)) 12 r

-- where r is a call's refusal but for the table's
abbrev pub with_table : Mesh → Tables → List ℤ → ℕ → ℕ
with_table m t cs r = with_length t cs (with_range m.points cs r)

-- ---- what a call answers, and the tables that it leaves

pub record Left (Answer : Type 0) : Type 0 where
  pub answer : Answer
  pub tables : Tables
  pub corrections : List ℤ

-- of a call with a work area ws
pub record Leaves {Answer : Type 0} (l : Left Answer) (ws : List ℕ) (r : Answer) (t' : Tables) (cs' : List ℤ) (ws' : List ℕ) : Type 0 where
  pub answer : r ≡ l.answer
  pub tables : t' ≡ l.tables
  pub corrections : cs' ≡ l.corrections
  pub work : ws' ≡ cleared ws

-- ---- start

-- 'Box corners start at 0': those of points 0 to 7
unfoldable pub corners_cleared : List ℤ → List ℤ
corners_cleared cs = replicate 24 (pos 0) ++ drop 24 cs

-- a start never answers 12
unfoldable pub start_with : ℕ → ℕ → ℕ → Tables → List ℤ → ℕ → Left Started
start_with X Y Z t cs w =
    let r = with_length t cs (start_refusal X Y Z t w) in
    cond (eqb r 0)
    record { answer = StartAccepted (started_mesh X Y Z); tables = started X Y Z t; corrections = corners_cleared cs }
    record { answer = StartRefused r; tables = t; corrections = cs }

-- ---- insertions

-- 'A new node starts with the correction its position had before'
unfoldable pub with_node : Mesh → Tables → List ℤ → Position → List ℤ
with_node m t cs p = with_correction cs m.points (correction_at t m.used cs p)

-- with the refusal r, 0 where there is none
unfoldable pub left_unless : ℕ → Mesh → Tables → List ℤ → Position → Answers → Left Inserted
left_unless r m t cs p a =
    record {
      answer = (insert_unless r m t p a).answer;
      tables = (insert_unless r m t p a).tables;
      corrections = cond (eqb r 0) (with_node m t cs p) cs;
    }

-- refusals 1 2 3 4 5 12 6 7 8
unfoldable pub insert_with : Mesh → Tables → List ℤ → ℕ → Position → Answers → Left Inserted
insert_with m t cs w p a = left_unless (with_table m t cs (insert_refusal m t w p a)) m t cs p a

-- and 14
unfoldable pub marked_with : Mesh → Tables → List ℤ → ℕ → Position → List ℕ → Left Inserted
marked_with m t cs w p marks = left_unless (with_table m t cs (marked_refusal (insert_refusal m t w p sphere) m t p sphere marks)) m t cs p sphere

-- or 10; a look leaves the corrections
unfoldable pub look_with : Mesh → Tables → List ℤ → ℕ → Position → List ℕ → LookResult
look_with m t cs w p marks = look_unless (with_table m t cs (look_refusal (insert_refusal m t w p sphere) m marks)) m t p marks

-- k nodes from place i on, after tests 1 to 3. A node's 12 stops the list at its place: at place 0, since an accepted node leaves all in
-- range (`in_range_after` in proofs/Keeping).
unfoldable pub insert_from_with : ℕ → ℕ → Mesh → Tables → List ℤ → ℕ → List ℕ → Left Listed
insert_from_with zero i m t cs w ns = record { answer = Ended m i; tables = t; corrections = cs }
insert_from_with (suc k) i m t cs w ns =
    let p = listed_node ns i in
    let l = left_unless (with_range m.points cs (node_refusal m t w p sphere)) m t cs p sphere in
    elim l.answer [
      | Accepted m' r ↦ insert_from_with k (suc i) m' l.tables l.corrections w ns
      | Refused e ↦ record { answer = Stopped m i e; tables = l.tables; corrections = l.corrections }
    ]

unfoldable pub list_with : Mesh → Tables → List ℤ → ℕ → List ℕ → Left Listed
list_with m t cs w ns =
    let r = with_length t cs (mesh_refusal m t w false) in
    cond (eqb r 0) (insert_from_with (listed_count ns) 0 m t cs w ns) record { answer = AllRefused r; tables = t; corrections = cs }

-- what a look answers and leaves in the tables, the work area ws and the marks
pub record LookLeft (l : LookResult) (ws : List ℕ) (r : Looked) (t' : Tables) (ws' marks' : List ℕ) : Type 0 where
  pub answer : r ≡ l.answer
  pub tables : t' ≡ l.tables
  pub marks_left : marks' ≡ l.marks
  pub work : ws' ≡ cleared ws

-- ---- setting and reading

-- the three numbers are in range
unfoldable pub is_correction : Correction → Bool
is_correction d = in_range d.x && (in_range d.y && in_range d.z)

-- refusals 1 2 3 13 12: '13 for a point number not in the mesh, both after 5, 13 first'; 12 also for a number handed in
unfoldable pub set_refusal : Mesh → Tables → List ℤ → ℕ → ℕ → Correction → ℕ
set_refusal m t cs w v d =
    with_length t cs
    (first_of (mesh_refusal m t w false) (cond (not (ltb v m.points)) 13 (cond (not (is_correction d) || out_of_range m.points cs) 12 0)))

-- 'setting it is a separate call': three numbers for one point
unfoldable pub set_table : Mesh → Tables → List ℤ → ℕ → ℕ → Correction → List ℤ
set_table m t cs w v d = cond (eqb (set_refusal m t cs w v d) 0) (with_correction cs v d) cs

-- refusals 1 2 3 4 12 7
unfoldable pub correction_refusal : Mesh → Tables → List ℤ → ℕ → Position → ℕ
correction_refusal m t cs w p = with_table m t cs (locate_refusal m t w p)

unfoldable pub correction_call : Mesh → Tables → List ℤ → ℕ → Position → Corrected
correction_call m t cs w p =
    let r = correction_refusal m t cs w p in
    cond (eqb r 0) (By (correction_at t m.used cs p)) (NotCorrected r)

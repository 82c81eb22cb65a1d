-- What is the same in both layouts: the mesh, and every answer.
use Rattle.std.specs.Prelude.{ℕ, ◌+◌, ◌*◌, ◌≤◌, ◌<◌, true, false, List, ◌≡◌, length}
use Rattle.std.specs.Float.Ieee.{lt}
use Rattle.geometry.specs.declared.Position.{Position}
use Rattle.mesh.specs.declared.Mesh.{Mesh}
use Rattle.mesh.specs.Tables.{Tables, none, point, across, IsCell}
use Rattle.mesh.specs.Check.{is_mesh}
use Rattle.locate.specs.Locate.{Located}
use Rattle.locate.specs.Locate.{Cell, Refused as NotLocated}
use Rattle.locate.specs.Locate.{locate_call}
use Rattle.cavity.specs.Answers.{sphere, handed}
use Rattle.insertion.specs.declared.Report.{Report}
use Rattle.insertion.specs.Inserted.{Inserted}
use Rattle.insertion.specs.Inserted.{Accepted, Refused}
use Rattle.insertion.specs.Listed.{Listed}
use Rattle.insertion.specs.Listed.{Ended, Stopped, Refused as AllRefused}
use Rattle.insertion.specs.Looked.{Reported, Refused as NotLooked}
use Rattle.insertion.specs.Insertion.{insert_call}
use Rattle.insertion.specs.List.{list_call}
use Rattle.insertion.specs.Look.{LookResult, look_call, marked_call}
use Rattle.calls.specs.Calls.{Build, Call}
use Rattle.layouts.specs.Packed.{packed_of, packed_call, packed_marked, packed_list}
use Rattle.layouts.specs.Histories.{SameCell, HasCapacity, FollowCells, ZeroWhereFreed, SameLengths, Partners, both_by_sphere, both_by_answers, both_by_marks, both_by_list, both_look}

-- ---- the mesh

-- what lies across a face in each: none, or cells that R joins
pub data Next (R : ℕ → ℕ → Type 0) (u v : ℕ) : Type 0 where
  no_cell : u ≡ none → v ≡ none → Next R u v
  cells : R u v → Next R u v

-- 'the same cells by their corners, the same neighbours by theirs'; over the same points, with the same sides and counts, in tables of the same lengths
pub record SameMesh (a b : Build) : Type 0 where
  pub counts : b.mesh ≡ packed_of a.mesh
  pub lengths : SameLengths a.tables b.tables
  pub points : (k : ℕ) → k < a.mesh.points → point a.tables k ≡ point b.tables k
  pub there : (c : ℕ) → IsCell a.tables a.mesh.used c → (d : ℕ) × SameCell a b c d
  pub back : (d : ℕ) → d < b.mesh.cells → (c : ℕ) × SameCell a b c d
  pub neighbours : (c d : ℕ) → SameCell a b c d → (i : ℕ) → i < 4 → Next (SameCell a b) (across a.tables (4 * c + i)) (across b.tables (4 * d + i))

-- ---- the answers

-- equal counts; of the least T's neither is below the other
pub record SameReport (r r₁ : Report) : Type 0 where
  pub point : r.point ≡ r₁.point
  pub before : r.before ≡ r₁.before
  pub after : r.after ≡ r₁.after
  pub made : r.made ≡ r₁.made
  pub not_below : lt r.least r₁.least ≡ false
  pub not_above : lt r₁.least r.least ≡ false

-- '8 in the same cases', and so every other number
pub data SameInserted : Inserted → Inserted → Type 0 where
  accepted : {m m₁ : Mesh} {r r₁ : Report} → m₁ ≡ packed_of m → SameReport r r₁ → SameInserted (Accepted m r) (Accepted m₁ r₁)
  refused : (e : ℕ) → SameInserted (Refused e) (Refused e)

pub data SameListed : Listed → Listed → Type 0 where
  ended : {m m₁ : Mesh} → m₁ ≡ packed_of m → (count : ℕ) → SameListed (Ended m count) (Ended m₁ count)
  stopped : {m m₁ : Mesh} → m₁ ≡ packed_of m → (place e : ℕ) → SameListed (Stopped m place e) (Stopped m₁ place e)
  refused : (e : ℕ) → SameListed (AllRefused e) (AllRefused e)

-- the marks that a look leaves follow their cells and are 0 for freed entries: they may be handed in
pub data SameLooked (a b : Build) : LookResult → LookResult → Type 0 where
  reported : {r r₁ : Report} {t t₁ : Tables} {marks marks₁ : List ℕ} → SameReport r r₁ → FollowCells a b marks marks₁ → ZeroWhereFreed a marks →
      SameLooked a b record { answer = Reported r; tables = t; marks = marks } record { answer = Reported r₁; tables = t₁; marks = marks₁ }
  refused : (e : ℕ) {t t₁ : Tables} {marks marks₁ : List ℕ} →
      SameLooked a b record { answer = NotLooked e; tables = t; marks = marks } record { answer = NotLooked e; tables = t₁; marks = marks₁ }

pub data SameLocated (a b : Build) : Located → Located → Type 0 where
  located : {c d : ℕ} → SameCell a b c d → SameLocated a b (Cell c) (Cell d)
  refused : (e : ℕ) → SameLocated a b (NotLocated e) (NotLocated e)

-- what a call and its partner answer
unfoldable pub SameAnswer : {a b : Build} {c d : Call} → Partners a b c d → Type 0
SameAnswer {a} {b} (both_by_sphere w p h) =
    SameInserted (insert_call a.mesh a.tables w p sphere).answer (packed_call b.mesh b.tables w p sphere).answer
SameAnswer {a} {b} (both_by_answers w p {bytes = bytes} {bytes₁ = bytes₁} h follow) =
    SameInserted (insert_call a.mesh a.tables w p (handed bytes)).answer (packed_call b.mesh b.tables w p (handed bytes₁)).answer
SameAnswer {a} {b} (both_by_marks w p {marks = marks} {marks₁ = marks₁} h follow zeros) =
    SameInserted (marked_call a.mesh a.tables w p marks).answer (packed_marked b.mesh b.tables w p marks₁).answer
SameAnswer {a} {b} (both_by_list w ns h) =
    SameListed (list_call a.mesh a.tables w ns).answer (packed_list b.mesh b.tables w ns).answer
SameAnswer {a} {b} (both_look w p {marks = marks} {marks₁ = marks₁} h enough) =
    SameLooked a b (look_call a.mesh a.tables w p marks) (look_call b.mesh b.tables w p marks₁)

-- THE CLAIM, of what two sequences leave: the same mesh, and the same answers of every further call and its partner, and of locating and the mesh
-- check, which change nothing
pub record SameInBoth (a b : Build) : Type 0 where
  pub mesh : SameMesh a b
  pub answers : {c d : Call} (q : Partners a b c d) → SameAnswer q
  pub locates : (w : ℕ) (p : Position) → HasCapacity a w →
      SameLocated a b (locate_call a.mesh a.tables w p) (locate_call b.mesh b.tables w p)
  pub checks : (w : ℕ) → HasCapacity a w → (is_mesh a.mesh a.tables w ≡ true) × (is_mesh b.mesh b.tables w ≡ true)
  -- and every call has a partner: for bytes of the one layout there are bytes of the other that follow them
  pub partner_bytes : (bytes : List ℕ) → a.mesh.used ≤ length bytes → (bytes₁ : List ℕ) × FollowCells a b bytes bytes₁
  pub partner_bytes_back : (bytes₁ : List ℕ) → b.mesh.cells ≤ length bytes₁ → (bytes : List ℕ) × FollowCells a b bytes bytes₁ × ZeroWhereFreed a bytes

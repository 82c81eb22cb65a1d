-- Document 02 §6: what a look says of the insertion that follows it.
use Rattle.std.specs.Prelude.{ℕ, ◌<◌, false, List, ◌≢◌, ◌⊎◌, ◌≡◌, length, get_or, take}
use Rattle.geometry.specs.declared.Position.{Position}
use Rattle.mesh.specs.declared.Mesh.{Mesh}
use Rattle.mesh.specs.Tables.{Tables, live, IsCell}
use Rattle.cavity.specs.Answers.{sphere}
use Rattle.insertion.specs.declared.Report.{Report}
use Rattle.insertion.specs.Inserted.{Accepted, Refused}
use Rattle.insertion.specs.Looked.{Reported, Refused as LookRefused}
use Rattle.insertion.specs.Insertion.{insert_call}
use Rattle.insertion.specs.Look.{look_call, marked_call}
use Rattle.located.specs.Claim.{Stands, KeepsNumber}

-- the bytes of marks that count
abbrev pub counted : Mesh → List ℕ → List ℕ
counted m marks = take m.used marks

-- A look has answered the report r and left the marks seen. The insertion proper is given record and tables as the look was: it leaves them.
pub record AfterLook (m : Mesh) (t : Tables) (w : ℕ) (p : Position) (r : Report) (seen : List ℕ) : Type 0 where
  pub mesh : Mesh
  -- with the look's marks, and room as it had, the node goes in with the look's report
  pub goes_in : (marked_call m t w p seen).answer ≡ Accepted mesh r
  -- 'Its result equals the plain insertion': whatever the work area, and whatever stands beyond the bytes that count
  pub same_marks : (marks : List ℕ) → counted m marks ≡ counted m seen → (v : ℕ) → marked_call m t v p marks ≡ insert_call m t v p sphere
  -- 'goes through only if a look now would mark the same'
  pub other_marks : (marks : List ℕ) → counted m marks ≢ counted m seen → marked_call m t w p marks ≡ record { answer = Refused 14; tables = t }
  -- 'which cells a node would replace': those whose corners no cell has afterwards, and whose numbers are freed, are marked 1; the others 0,
  -- and they keep their numbers; a freed entry's 'mark is 0'
  pub replaced : (c : ℕ) → c < m.used → get_or seen c 0 ≡ 1 → Stands t c (insert_call m t w p sphere).tables mesh.used → ⊥
  pub number_freed : (c : ℕ) → c < m.used → get_or seen c 0 ≡ 1 → live (insert_call m t w p sphere).tables c ≡ false
  pub kept : (c : ℕ) → IsCell t m.used c → get_or seen c 0 ≡ 0 → KeepsNumber t c (insert_call m t w p sphere).tables mesh.used
  pub freed : (c : ℕ) → c < m.used → live t c ≡ false → get_or seen c 0 ≡ 0
  pub marked : (c : ℕ) → c < m.used → (get_or seen c 0 ≡ 1) ⊎ (get_or seen c 0 ≡ 0)

-- 'it is refused where the insertion would be', with its number; 'and with 10'
pub record RefusedAlike (m : Mesh) (t : Tables) (w : ℕ) (p : Position) (marks : List ℕ) : Type 0 where
  pub look_too : (e : ℕ) → (insert_call m t w p sphere).answer ≡ Refused e → (look_call m t w p marks).answer ≡ LookRefused e
  pub insertion_too : (e : ℕ) → (look_call m t w p marks).answer ≡ LookRefused e → e ≢ 10 → (insert_call m t w p sphere).answer ≡ Refused e
  -- 10 is answered just where the insertion would be accepted and the bytes are too few
  pub ten : (look_call m t w p marks).answer ≡ LookRefused 10 → (length marks < m.used) × ((e : ℕ) → (insert_call m t w p sphere).answer ≢ Refused e)
  pub too_few : length marks < m.used → (r : Report) → (look_call m t w p marks).answer ≢ Reported r
  -- whatever its number, a refusal leaves the marks
  pub marks_stay : (e : ℕ) → (look_call m t w p marks).answer ≡ LookRefused e → (look_call m t w p marks).marks ≡ marks
  -- and an insertion with marks is refused where the plain one is, before its marks count
  pub marked_too : (e : ℕ) → (insert_call m t w p sphere).answer ≡ Refused e → marked_call m t w p marks ≡ insert_call m t w p sphere

-- Lists of calls on a mesh with a table of corrections: what they leave, and condition 3 with document 02 §1's claims about the table.
use Rattle.std.specs.Prelude.{ℕ, false, List, [], ◌∷◌, ◌++◌, ◌≢◌, ◌≡◌, ℤ}
use Rattle.geometry.specs.declared.Position.{Position}
use Rattle.mesh.specs.declared.Mesh.{Mesh}
use Rattle.mesh.specs.Tables.{Tables, point}
use Rattle.mesh.specs.Start.{started_mesh}
use Rattle.mesh.specs.Refusal.{mesh_refusal}
use Rattle.cavity.specs.Answers.{Answers, sphere, handed}
use Rattle.insertion.specs.Inserted.{Inserted}
use Rattle.insertion.specs.Inserted.{Refused}
use Rattle.insertion.specs.Looked.{Refused as NotLooked}
use Rattle.insertion.specs.Listed.{Listed}
use Rattle.insertion.specs.Listed.{Stopped, Refused as AllRefused}
use Rattle.insertion.specs.Look.{LookResult}
use Rattle.calls.specs.Calls.{by_sphere, by_answers, by_marks, by_list, look, record_after, record_after_list, accepted_node, accepted_nodes, Build as MeshBuild, Call as MeshCall, Claim as MeshClaim}
use Rattle.corrections.specs.declared.Correction.{Correction}
use Rattle.corrections.specs.Corrections.{By, Refused as NotCorrected}
use Rattle.corrections.specs.Corrections.{out_of_range}
use Rattle.corrections.specs.Calls.{Left, start_with, insert_with, marked_with, look_with, list_with, is_correction, set_refusal, set_table, correction_call}

-- what one call hands on to the next
pub record Build : Type 0 where
  pub mesh : Mesh
  pub tables : Tables
  pub corrections : List ℤ

-- without the corrections
abbrev pub bare : Build → MeshBuild
bare b = record { mesh = b.mesh; tables = b.tables }

-- what an accepted start leaves, of a box X, Y, Z, tables t, corrections cs and a work area of w entries
unfoldable pub start_build : ℕ → ℕ → ℕ → Tables → List ℤ → ℕ → Build
start_build X Y Z t cs w =
    let l = start_with X Y Z t cs w in
    record { mesh = started_mesh X Y Z; tables = l.tables; corrections = l.corrections }

-- an insertion of any kind or a look; a point's correction set; a position's read. Each has its work area's length first.
pub data Call : Type 0 where
  on_mesh : MeshCall → Call
  set : ℕ → ℕ → Correction → Call
  read : ℕ → Position → Call

-- what a call leaves, and the nodes that it accepts
pub record Outcome : Type 0 where
  pub after : Build
  pub accepted : List Position

unfoldable pub insert_outcome : Mesh → Position → Left Inserted → Outcome
insert_outcome m p l =
    record { after = record { mesh = record_after m l.answer; tables = l.tables; corrections = l.corrections }; accepted = accepted_node p l.answer }

unfoldable pub list_outcome : Mesh → List ℕ → Left Listed → Outcome
list_outcome m ns l =
    record { after = record { mesh = record_after_list m l.answer; tables = l.tables; corrections = l.corrections }; accepted = accepted_nodes ns l.answer }

unfoldable pub look_outcome : Mesh → List ℤ → LookResult → Outcome
look_outcome m cs l = record { after = record { mesh = m; tables = l.tables; corrections = cs }; accepted = [] }

unfoldable pub mesh_outcome : Mesh → Tables → List ℤ → MeshCall → Outcome
mesh_outcome m t cs (by_sphere w p) = insert_outcome m p (insert_with m t cs w p sphere)
mesh_outcome m t cs (by_answers w bytes p) = insert_outcome m p (insert_with m t cs w p (handed bytes))
mesh_outcome m t cs (by_marks w marks p) = insert_outcome m p (marked_with m t cs w p marks)
mesh_outcome m t cs (by_list w ns) = list_outcome m ns (list_with m t cs w ns)
mesh_outcome m t cs (look w marks p) = look_outcome m cs (look_with m t cs w p marks)

unfoldable pub outcome : Build → Call → Outcome
outcome b (on_mesh c) = mesh_outcome b.mesh b.tables b.corrections c
outcome b (set w v d) =
    record { after = record { mesh = b.mesh; tables = b.tables; corrections = set_table b.mesh b.tables b.corrections w v d }; accepted = [] }
outcome b (read w p) = record { after = b; accepted = [] }

-- each call gets record and tables as the last one left them
unfoldable pub build_after : Build → List Call → Build
build_after b [] = b
build_after b (c ∷ cs) = build_after (outcome b c).after cs

unfoldable pub accepted_by : Build → List Call → List Position
accepted_by b [] = []
accepted_by b (c ∷ cs) = (outcome b c).accepted ++ accepted_by (outcome b c).after cs

-- condition 3, and every number of a point of the mesh in range
pub record Claim (X Y Z : ℕ) (b : Build) (ps : List Position) : Type 0 where
  pub mesh : MeshClaim X Y Z (bare b) ps
  pub range : out_of_range b.mesh.points b.corrections ≡ false

-- 12 is answered only for numbers that are handed in
pub record TwelveHandedIn (m : Mesh) (t : Tables) (cs : List ℤ) : Type 0 where
  pub inserted : (w : ℕ) (p : Position) (a : Answers) → (insert_with m t cs w p a).answer ≢ Refused 12
  pub marked : (w : ℕ) (p : Position) (marks : List ℕ) → (marked_with m t cs w p marks).answer ≢ Refused 12
  pub looked : (w : ℕ) (p : Position) (marks : List ℕ) → (look_with m t cs w p marks).answer ≢ NotLooked 12
  pub listed : (w : ℕ) (ns : List ℕ) → (list_with m t cs w ns).answer ≢ AllRefused 12
  pub stopped : (w : ℕ) (ns : List ℕ) (m' : Mesh) (place : ℕ) → (list_with m t cs w ns).answer ≢ Stopped m' place 12
  pub read : (w : ℕ) (p : Position) → correction_call m t cs w p ≢ NotCorrected 12
  pub set : (w v : ℕ) (d : Correction) → set_refusal m t cs w v d ≡ 12 → is_correction d ≡ false

-- 7, no cell holds the position, never occurs (document 02 §9)
pub record NeverUnheldWith (m : Mesh) (t : Tables) (cs : List ℤ) : Type 0 where
  pub inserted : (w : ℕ) (p : Position) (a : Answers) → (insert_with m t cs w p a).answer ≢ Refused 7
  pub marked : (w : ℕ) (p : Position) (marks : List ℕ) → (marked_with m t cs w p marks).answer ≢ Refused 7
  pub looked : (w : ℕ) (p : Position) (marks : List ℕ) → (look_with m t cs w p marks).answer ≢ NotLooked 7
  pub listed : (w : ℕ) (ns : List ℕ) → (list_with m t cs w ns).answer ≢ AllRefused 7
  pub stopped : (w : ℕ) (ns : List ℕ) (m' : Mesh) (place : ℕ) → (list_with m t cs w ns).answer ≢ Stopped m' place 7
  pub read : (w : ℕ) (p : Position) → correction_call m t cs w p ≢ NotCorrected 7

-- what was set is read at the point: by a call whose work area, of w' entries, is long enough
abbrev pub SetThenRead : Mesh → Tables → List ℤ → Type 0
SetThenRead m t cs = (w w' v : ℕ) (d : Correction) → set_refusal m t cs w v d ≡ 0 → mesh_refusal m t w' false ≡ 0 →
    correction_call m t (set_table m t cs w v d) w' (point t v) ≡ By d

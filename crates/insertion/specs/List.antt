-- Inserting a list of nodes by the sphere test: 'A list goes in one by one; at the first refused node it stops'.
use Rattle.std.specs.Prelude.{ℕ, zero, suc, ◌/◌, false, cond, List, ◌≡◌, eqb, length}
use Rattle.geometry.specs.declared.Position.{Position}
use Rattle.mesh.specs.declared.Mesh.{Mesh}
use Rattle.mesh.specs.Tables.{Tables, cleared, point_in}
use Rattle.mesh.specs.Refusal.{mesh_refusal}
use Rattle.cavity.specs.Answers.{sphere}
use Rattle.insertion.specs.Inserted.{Accepted, Refused}
use Rattle.insertion.specs.Listed.{Listed}
use Rattle.insertion.specs.Listed.{Ended, Stopped, Refused as AllRefused}
use Rattle.insertion.specs.Insertion.{Result, insert_node}

-- node i of a list of numbers: three a node, as in a point table
abbrev pub listed_node : List ℕ → ℕ → Position
listed_node ns i = point_in ns i

-- 'One or two numbers after the last whole node are not read.'
abbrev pub listed_count : List ℕ → ℕ
listed_count ns = length ns / 3

-- k nodes from place i on, after tests 1 to 3: 'at the first refused node it stops, and the answer gives that node's place in the
-- list, from 0, and the number. Earlier nodes stay. A list that ends answers how many nodes went in.'
unfoldable pub insert_from : ℕ → ℕ → Mesh → Tables → ℕ → List ℕ → Result Listed
insert_from zero i m t w ns = record { answer = Ended m i; tables = t }
insert_from (suc k) i m t w ns =
    let l = insert_node m t w (listed_node ns i) sphere in
    elim l.answer [
      | Accepted m' r ↦ insert_from k (suc i) m' l.tables w ns
      | Refused e ↦ record { answer = Stopped m i e; tables = l.tables }
    ]

-- 'Refusals 1 to 3 refuse the whole list, an empty one too, and answer their number alone.'
unfoldable pub list_call : Mesh → Tables → ℕ → List ℕ → Result Listed
list_call m t w ns =
    let r = mesh_refusal m t w false in
    cond (eqb r 0) (insert_from (listed_count ns) 0 m t w ns) record { answer = AllRefused r; tables = t }

-- what inserting the list ns answers and leaves in the tables t and the work area ws
pub record ListLeaves (m : Mesh) (t : Tables) (ws ns : List ℕ) (r : Listed) (t' : Tables) (ws' : List ℕ) : Type 0 where
  pub answer : r ≡ (list_call m t (length ws) ns).answer
  pub tables : t' ≡ (list_call m t (length ws) ns).tables
  pub work : ws' ≡ cleared ws

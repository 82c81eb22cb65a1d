-- A node file through a mesh: read, started, inserted as one list, written. Each call gets what the last one left, and answers no
-- refusal.
use Rattle.std.specs.Prelude.{ℕ, ◌*◌, List, ◌≡◌, take, drop}
use Rattle.mesh.specs.declared.Mesh.{Mesh}
use Rattle.mesh.specs.Start.{Accepted}
use Rattle.mesh.specs.Tables.{Tables}
use Rattle.mesh.specs.Start.{StartLeaves}
use Rattle.insertion.specs.Listed.{Ended}
use Rattle.insertion.specs.List.{ListLeaves}
use Rattle.nodefile.specs.declared.Header.{Header}
use Rattle.nodefile.specs.Read.{Nodes}
use Rattle.nodefile.specs.Write.{Bytes}
use Rattle.nodefile.specs.Read.{first_record, ReadLeaves}
use Rattle.nodefile.specs.Write.{WriteLeaves}
use Rattle.nodefile.specs.RoundTrip.{IsBytes}

-- the mesh m in the tables t is built from a file
pub record Built (file : List ℕ) (m : Mesh) (t : Tables) : Type 0 where
  -- the reader's lent numbers may be more than the nodes take
  pub lent : List ℕ
  pub numbers : List ℕ
  pub head : Header
  pub read : ReadLeaves file lent (Nodes head) numbers
  pub t₀ : Tables
  pub t₁ : Tables
  pub m₁ : Mesh
  pub start_work : List ℕ
  pub start_work' : List ℕ
  pub start : StartLeaves head.x head.y head.z t₀ start_work (Accepted m₁) t₁ start_work'
  pub list_work : List ℕ
  pub list_work' : List ℕ
  pub count : ℕ
  pub list : ListLeaves m₁ t₁ list_work (take (3 * head.count) numbers) (Ended m count) t list_work'

-- and written: n bytes at the front of out
pub record Through (file : List ℕ) (n : ℕ) (out : List ℕ) : Type 0 where
  pub m : Mesh
  pub t : Tables
  pub built : Built file m t
  pub write_work : List ℕ
  pub write_work' : List ℕ
  pub lent_out : List ℕ
  pub write : WriteLeaves m t write_work lent_out (Bytes n) write_work' out

-- the same records and trailer are written, without the note
abbrev pub ComesBack : Type 0
ComesBack = (file : List ℕ) (n : ℕ) (out : List ℕ) → IsBytes file → Through file n out → take n out ≡ drop (first_record file) file

-- Writing a node file: document 01, 'Node file'.
use Rattle.std.specs.Prelude.{ℕ, ◌*◌, ◌-◌, false, not, cond, List, ◌∷◌, ◌++◌, [], ◌≡◌, ltb, eqb, length, take, drop, Result, Ok, Err}
use Rattle.refusal.specs.declared.Refusal.{Refusal}
use Rattle.refusal.specs.Refusal.{refusal_number}
use Rattle.mesh.specs.declared.Mesh.{Mesh}
use Rattle.mesh.specs.Tables.{Tables, cleared}
use Rattle.mesh.specs.Start.{over}
use Rattle.mesh.specs.Refusal.{mesh_refusal}
use Rattle.nodefile.specs.declared.Header.{Header}
use Rattle.nodefile.specs.Bytes.{bytes_of}

-- what writing answers: the number of bytes, or the refusal's
pub data Written : Type 0 where
  Bytes : ℕ → Written
  Refused : ℕ → Written

abbrev pub as_written : Result ℕ Refusal → Written
as_written (Ok n) = Bytes n
as_written (Err e) = Refused (refusal_number e)

-- 'Box corners are not recorded.'
unfoldable pub node_count : Mesh → ℕ
node_count m = m.points - 8

-- points 8 onward, of the point table ps
unfoldable pub nodes_of : Mesh → List ℕ → List ℕ
nodes_of m ps = take (3 * node_count m) (drop 24 ps)

-- 'X, Y, Z, the count and the distance back in bytes from the trailer's start to the first record'
unfoldable pub trailer_of : Header → List ℕ
trailer_of h = h.x ∷ h.y ∷ h.z ∷ h.count ∷ 12 * h.count ∷ []

-- the file of these sides and nodes, with no note
unfoldable pub file_of : Header → List ℕ → List ℕ
file_of h nodes = bytes_of (nodes ++ trailer_of h)

-- the sides and the node count of a mesh
unfoldable pub header_of : Mesh → Header
header_of m = record { x = m.x; y = m.y; z = m.z; count = node_count m }

-- 'The writer takes a mesh, puts no note and writes points 8 onward.'
abbrev pub mesh_file : Mesh → List ℕ → List ℕ
mesh_file m ps = file_of (header_of m) (nodes_of m ps)

-- refusals 1 2 3 10
unfoldable pub write_refusal : Mesh → Tables → ℕ → ℕ → ℕ
write_refusal m t w room =
    cond (not (eqb (mesh_refusal m t w false) 0)) (mesh_refusal m t w false) (cond (ltb room (length (mesh_file m t.points))) 10 0)

-- the number of bytes, or the refusal's
unfoldable pub write_answer : Mesh → Tables → ℕ → ℕ → Written
write_answer m t w room =
    cond (eqb (write_refusal m t w room) 0) (Bytes (length (mesh_file m t.points))) (Refused (write_refusal m t w room))

-- 'Output past what is written is unchanged.'
unfoldable pub write_output : Mesh → Tables → ℕ → List ℕ → List ℕ
write_output m t w out = cond (eqb (write_refusal m t w (length out)) 0) (over (mesh_file m t.points) out) out

-- what writing a mesh into out answers and leaves there and in the work area
pub record WriteLeaves (m : Mesh) (t : Tables) (ws out : List ℕ) (r : Written) (ws' out' : List ℕ) : Type 0 where
  pub answer : r ≡ write_answer m t (length ws) (length out)
  pub output : out' ≡ write_output m t (length ws) out
  pub work : ws' ≡ cleared ws

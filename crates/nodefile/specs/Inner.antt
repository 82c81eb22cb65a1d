-- What the inner functions ask.
use Rattle.std.specs.Prelude.{ℕ, ◌+◌, ◌*◌, ◌≤◌, List, ◌≡◌, length}
use Rattle.mesh.specs.declared.Mesh.{Mesh}
use Rattle.nodefile.specs.declared.Header.{Header}
use Rattle.nodefile.specs.Write.{node_count}

-- a mesh whose points are in the table ps, and whose file is at most room bytes long
pub record Writable (m : Mesh) (ps : List ℕ) (room : ℕ) : Type 0 where
  pub points≥ : 8 ≤ m.points
  pub points≤ : m.points ≤ 1024
  pub points_fit : 3 * m.points ≤ length ps
  pub room≥ : 12 * node_count m + 20 ≤ room

-- nodes as many as the header says, whose file is at most room bytes long
pub record FileFits (h : Header) (nodes : List ℕ) (room : ℕ) : Type 0 where
  pub few : h.count ≤ 1016
  pub nodes_here : length nodes ≡ 3 * h.count
  pub room≥ : 12 * h.count + 20 ≤ room

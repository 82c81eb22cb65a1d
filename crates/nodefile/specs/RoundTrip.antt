-- What the round trips speak of.
use Rattle.std.specs.Prelude.{ℕ, ◌+◌, ◌*◌, ◌<◌, List, ◌≡◌, length, get_or, take}
use Rattle.mesh.specs.declared.Mesh.{Mesh}
use Rattle.nodefile.specs.declared.Header.{Header}
use Rattle.nodefile.specs.Write.{nodes_of}

-- a list of bytes
abbrev pub IsBytes : List ℕ → Type 0
IsBytes l = (i : ℕ) → i < length l → get_or l i 0 < 256

-- a mesh with the sides that were read, and with the nodes that were read for its points 8 onward
pub record HoldsRead (m : Mesh) (ps : List ℕ) (h : Header) (out : List ℕ) : Type 0 where
  pub x : m.x ≡ h.x
  pub y : m.y ≡ h.y
  pub z : m.z ≡ h.z
  pub count : m.points ≡ 8 + h.count
  pub nodes : nodes_of m ps ≡ take (3 * h.count) out

-- The refusals that every call on a mesh begins with.
use Rattle.std.specs.Prelude.{ℕ, Bool, not, cond, ◌||◌}
use Rattle.mesh.specs.declared.Mesh.{Mesh}
use Rattle.mesh.specs.Tables.{Tables}
use Rattle.mesh.specs.Check.{legal_box, is_mesh}
use Rattle.mesh.specs.Start.{short}

-- refusals 1 to 3 of a call on a mesh; fewer says that answer bytes are handed in, and fewer than entries are in use
unfoldable pub mesh_refusal : Mesh → Tables → ℕ → Bool → ℕ
mesh_refusal m t w fewer =
    cond (fewer || short t w) 1 (cond (not (legal_box m.x m.y m.z)) 2 (cond (not (is_mesh m t w)) 3 0))

-- What tests 1 to 3 leave a call with; it clears its work area first, and goes on with its length.
use Prim.Native.Nat.{ℕ}
use mathlib.Core.Bool.{Bool, true, false}
use mathlib.Core.List.{List}
use mathlib.Core.Path.{◌≡◌, refl, ap, ◌∙◌}
use native.Mathlib.Omega.{arith}
use lib.ListN.{length, length-replicate}
use Rattle.mesh.specs.declared.Mesh.{Mesh}
use Rattle.mesh.specs.Tables.{Tables, cleared}
use Rattle.mesh.specs.Refusal.{mesh_refusal}

-- with no refusal up to 3 there are enough answer bytes
pub enough : (m : Mesh) (t : Tables) (w : ℕ) (fewer : Bool) → mesh_refusal m t w fewer ≡ 0 → fewer ≡ false
unfolding mesh_refusal
enough m t w true e = absurd (omega (arith, e))
enough m t w false e = refl

pub same_work : (ws : List ℕ) {ws' : List ℕ} → ws' ≡ cleared ws → length ws' ≡ length ws
same_work ws c = ap length c ∙ length-replicate (length ws) 0

-- All that the star asks of the cells that it replaces: they are star-shaped from p.
use Rattle.std.specs.Prelude.{ℕ, ◌<◌, Bool, true, List, ◌⊎◌, ◌≡◌}
use Rattle.geometry.specs.declared.Position.{Position}
use Rattle.mesh.specs.Tables.{Tables, corner, across, IsCell, IsFace}
use Rattle.mesh.specs.Mesh.{OnFace}
use Rattle.cavity.specs.Cavity.{in_set, outer, coplanar, visible}

-- the point number v is on a visible outer face
pub record Exposed (t : Tables) (n : ℕ) (p : Position) (s : List Bool) (v : ℕ) : Type 0 where
  pub face : ℕ
  pub face< : IsFace t n face
  pub face_visible : visible t p s face ≡ true
  pub on : OnFace t face v

pub record StarShaped (t : Tables) (n : ℕ) (p : Position) (s : List Bool) : Type 0 where
  pub cells : (c : ℕ) → in_set s c ≡ true → IsCell t n c
  pub faces : (f : ℕ) → outer (across t) (in_set s) f ≡ true → (visible t p s f ≡ true) ⊎ (coplanar t p f ≡ true)
  pub corners : (c i : ℕ) → in_set s c ≡ true → i < 4 → Exposed t n p s (corner t c i)
  pub some : (c : ℕ) × (in_set s c ≡ true)

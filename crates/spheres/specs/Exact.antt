-- Spheres without points of the mesh inside, and one insertion by the sphere test.
use Rattle.std.specs.Prelude.{ℕ, ◌+◌, ◌<◌, List, ◌≡◌, pos, ◌≤ℤ◌}
use Rattle.geometry.specs.declared.Position.{Position}
use Rattle.mesh.specs.Tables.{Tables, point, IsCell}
use Rattle.cavity.specs.Answers.{sphere, cell_e, says_yes}
use Rattle.cavity.specs.Cavity.{in_set, cavity_of, corrected_cavity, cavity_size}
use Rattle.star.specs.Star.{made_count, used_after, star}

-- 'no point of the mesh at all inside any sphere', strictly: np points, and the cells among n entries
pub record Empty (np n : ℕ) (t : Tables) : Type 0 where
  pub outside : (c k : ℕ) → IsCell t n c → k < np → cell_e t (point t k) c ≤ℤ pos 0

-- p inserted by the sphere test into a mesh of np points and n entries in use, whose chain of freed entries is ch
pub record ExactInsertion (ch : List ℕ) (np n : ℕ) (t : Tables) (p : Position) : Type 0 where
  -- the cavity before correction is just the cells that answer yes
  pub cavity_is : (c : ℕ) → IsCell t n c → in_set (cavity_of t n p (says_yes sphere t p)) c ≡ says_yes sphere t p c
  pub nothing_removed : corrected_cavity t n p (says_yes sphere t p) ≡ cavity_of t n p (says_yes sphere t p)
  pub same_size : cavity_size n (cavity_of t n p (says_yes sphere t p)) ≡ cavity_size n (corrected_cavity t n p (says_yes sphere t p))
  -- the spheres are empty afterwards
  pub empty : let s = corrected_cavity t n p (says_yes sphere t p) in Empty (np + 1) (used_after ch n (made_count t n p s)) (star ch t n p np s)

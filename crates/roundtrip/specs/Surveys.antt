-- Two surveys in one mesh: document 02, §13.
use Rattle.std.specs.Prelude.{ℕ, ◌<◌, true, List, ◌≡◌, take}
use Rattle.geometry.specs.declared.Position.{Position}
use Rattle.mesh.specs.declared.Mesh.{Mesh}
use Rattle.mesh.specs.Tables.{Tables, corner_at, IsCell}
use Rattle.nodefile.specs.Write.{Bytes}
use Rattle.merging.specs.Merge.{surveyed, among, MergeLeaves}
use Rattle.roundtrip.specs.Through.{Built}

-- a corner of a cell, of n entries in use, lies at p
pub record CornerAt (t : Tables) (n : ℕ) (p : Position) : Type 0 where
  pub cell : ℕ
  pub place : ℕ
  pub is_cell : IsCell t n cell
  pub place< : place < 4
  pub is : corner_at t cell place ≡ p

-- 'a mesh built from it without a refusal has every position of either survey as a corner'
abbrev pub EverySurveyed : Type 0
EverySurveyed =
    (first second out : List ℕ) (n : ℕ) (out' : List ℕ) → MergeLeaves first second out (Bytes n) out' →
    (m : Mesh) (t : Tables) → Built (take n out') m t → (p : Position) → among (surveyed first second) p ≡ true → CornerAt t m.used p

-- 'A parked head': while a position's located cell stands, the position is located in it.
use Rattle.std.specs.Prelude.{ℕ, ◌<◌, true, false, List, ◌≡◌}
use Rattle.geometry.specs.declared.Position.{Position}
use Rattle.mesh.specs.declared.Mesh.{Mesh}
use Rattle.mesh.specs.Tables.{Tables, corner, IsCell}
use Rattle.mesh.specs.Check.{is_mesh}
use Rattle.mesh.specs.Refusal.{mesh_refusal}
use Rattle.locate.specs.Locate.{Cell}
use Rattle.locate.specs.Locate.{locate_call}
use Rattle.cavity.specs.Answers.{Answers}
use Rattle.cavity.specs.Cavity.{in_set}
use Rattle.insertion.specs.Insertion.{last_cavity}
use Rattle.calls.specs.Calls.{Build, Call, mesh_after}
use Rattle.located.specs.Claim.{Stands, KeepsNumber}

-- q is located in cell c of t, under its number: the corners there are the cell's, each in its place
pub record LocatedIn (t : Tables) (c : ℕ) (m' : Mesh) (t' : Tables) (w : ℕ) (q : Position) : Type 0 where
  pub located : locate_call m' t' w q ≡ Cell c
  pub corners : (i : ℕ) → i < 4 → corner t' c i ≡ corner t c i

-- cell c is outside the corrected cavity of p
abbrev pub OutsideCavity : Mesh → Tables → Position → Answers → ℕ → Type 0
OutsideCavity m t p a c = in_set (last_cavity m t p a) c ≡ false

-- a locate call answered c before the calls cs; if c stands after them, a locate call that tests 1 to 3 let pass answers it
abbrev pub StaysLocated : Build → List Call → Position → Type 0
StaysLocated b cs q = (w w' c : ℕ) → locate_call b.mesh b.tables w q ≡ Cell c →
    let b' = mesh_after b cs in
    Stands b.tables c b'.tables b'.mesh.used → mesh_refusal b'.mesh b'.tables w' false ≡ 0 →
    LocatedIn b.tables c b'.mesh b'.tables w' q

-- document 02 §11, 'Cell numbers that stay': in tables that pass the mesh check, a cell that stands after the calls cs has its number
abbrev pub NumbersStay : Build → List Call → Type 0
NumbersStay b cs = (w c : ℕ) → is_mesh b.mesh b.tables w ≡ true → IsCell b.tables b.mesh.used c →
    let b' = mesh_after b cs in
    Stands b.tables c b'.tables b'.mesh.used → KeepsNumber b.tables c b'.tables b'.mesh.used

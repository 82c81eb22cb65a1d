-- Document 02 §3 and §11 over lists that hold settings and readings too: laws of lists without corrections, carried over by `as_without`.
use Prim.Native.Nat.{ℕ}
use mathlib.Core.Bool.{true, false}
use mathlib.Core.List.{List}
use mathlib.Core.Path.{◌≡◌, sym, subst}
use Rattle.geometry.specs.declared.Position.{Position}
use Rattle.mesh.specs.Tables.{IsCell}
use Rattle.mesh.specs.Check.{is_mesh}
use Rattle.mesh.specs.Refusal.{mesh_refusal}
use Rattle.locate.specs.Locate.{Cell}
use Rattle.locate.specs.Locate.{locate_call}
use Rattle.calls.specs.Calls.{Build as MeshBuild}
use Rattle.located.specs.Claim.{Stands, KeepsNumber}
use Rattle.located.specs.Parked.{LocatedIn}
use Rattle.located.proofs.Parked.{parked, numbers_stay}
use Rattle.corrected_calls.specs.Calls.{Build, bare, Call, build_after}
use Rattle.corrected_calls.proofs.Theorem.{picked_after, as_without}

-- b' is what is left of the mesh b
abbrev StaysIn : MeshBuild → Position → MeshBuild → Type 0
StaysIn b q b' = (w w' c : ℕ) → locate_call b.mesh b.tables w q ≡ Cell c → Stands b.tables c b'.tables b'.mesh.used →
    mesh_refusal b'.mesh b'.tables w' false ≡ 0 → LocatedIn b.tables c b'.mesh b'.tables w' q

abbrev NumbersKept : MeshBuild → MeshBuild → Type 0
NumbersKept b b' = (w c : ℕ) → is_mesh b.mesh b.tables w ≡ true → IsCell b.tables b.mesh.used c → Stands b.tables c b'.tables b'.mesh.used →
    KeepsNumber b.tables c b'.tables b'.mesh.used

-- while its located cell stands, a position is located in it
pub parked_with : (b : Build) (cs : List Call) (q : Position) (w w' c : ℕ) → locate_call b.mesh b.tables w q ≡ Cell c →
    let b' = build_after b cs in Stands b.tables c b'.tables b'.mesh.used → mesh_refusal b'.mesh b'.tables w' false ≡ 0 →
    LocatedIn b.tables c b'.mesh b'.tables w' q
parked_with b cs q = let W = as_without b cs in subst (StaysIn (bare b) q) (sym (picked_after W.picked)) (parked (bare b) W.calls q)

-- a cell that stands keeps its number
pub numbers_stay_with : (b : Build) (cs : List Call) (w c : ℕ) → is_mesh b.mesh b.tables w ≡ true → IsCell b.tables b.mesh.used c →
    let b' = build_after b cs in Stands b.tables c b'.tables b'.mesh.used → KeepsNumber b.tables c b'.tables b'.mesh.used
numbers_stay_with b cs = let W = as_without b cs in subst (NumbersKept (bare b)) (sym (picked_after W.picked)) (numbers_stay (bare b) W.calls)

-- Document 02 §2 over lists that hold settings and readings too: 'by our own test alone', and what is reported after such a list.
use Rattle.std.specs.Prelude.{ℕ, List, [], ◌∷◌, ◌≡◌}
use Rattle.geometry.specs.declared.Position.{Position}
use Rattle.mesh.specs.declared.Mesh.{Mesh}
use Rattle.cavity.specs.Answers.{sphere}
use Rattle.insertion.specs.declared.Report.{Report}
use Rattle.insertion.specs.Inserted.{Accepted}
use Rattle.corrections.specs.Calls.{insert_with}
use Rattle.spheres.specs.Claim.{OwnCall}
use Rattle.corrected_calls.specs.Calls.{Build, Call, on_mesh, set, read, outcome}

-- each call on the mesh, on what the calls before it left
unfoldable pub OwnCallsWith : Build → List Call → Type 0
OwnCallsWith b [] = Unit {0}
OwnCallsWith b (on_mesh c ∷ cs) = OwnCall c (outcome b (on_mesh c)).accepted × OwnCallsWith (outcome b (on_mesh c)).after cs
OwnCallsWith b (set w v d ∷ cs) = OwnCallsWith (outcome b (set w v d)).after cs
OwnCallsWith b (read w p ∷ cs) = OwnCallsWith (outcome b (read w p)).after cs

-- whatever node our own test lets in next, the report has one size before and after correction
pub record EqualSizesWith (b : Build) : Type 0 where
  pub reported : (w : ℕ) (p : Position) {m : Mesh} {r : Report} → Accepted m r ≡ (insert_with b.mesh b.tables b.corrections w p sphere).answer → r.before ≡ r.after

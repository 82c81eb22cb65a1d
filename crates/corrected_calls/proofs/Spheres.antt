-- Document 02 §2 over lists that hold settings and readings too, carried over from lists without corrections.
use Prim.Native.Nat.{ℕ}
use mathlib.Core.List.{List, ◌∷◌}
use mathlib.Core.Path.{◌≡◌, sym, ap, ◌∙◌, subst}
use lib.IntN.{ℤ}
use Rattle.geometry.specs.declared.Position.{Position}
use Rattle.mesh.specs.declared.Mesh.{Mesh}
use Rattle.mesh.specs.Tables.{Tables}
use Rattle.mesh.specs.Start.{start_refusal}
use Rattle.cavity.specs.Answers.{Answers, sphere}
use Rattle.insertion.specs.declared.Report.{Report}
use Rattle.insertion.specs.Inserted.{Accepted}
use Rattle.insertion.specs.Insertion.{insert_refusal, insert_unless, insert_call}
use Rattle.insertion.proofs.Refusals.{accepted_unless}
use Rattle.calls.specs.Calls.{Call as MeshCall, start_build as plain_start}
use Rattle.spheres.specs.Claim.{OwnCall, OwnCalls, EmptySpheres, EqualSizes}
use Rattle.spheres.proofs.Theorem.{own_spheres, own_reports}
use Rattle.corrections.specs.Calls.{with_length, left_unless, insert_with}
use Rattle.corrected_calls.specs.Calls.{Build, bare, start_build, Call, on_mesh, set, read, outcome, build_after}
use Rattle.corrected_calls.specs.Spheres.{OwnCallsWith, EqualSizesWith}
use Rattle.corrected_calls.proofs.Plain.{stands, stood}
use Rattle.corrected_calls.proofs.Theorem.{Picked, none, taken, passed_over, as_without, start_accepted, bare_start, start_after}

rest : (b : Build) (c : Call) (cs : List Call) → OwnCallsWith b (c ∷ cs) → OwnCallsWith (outcome b c).after cs
unfolding OwnCallsWith
rest b (on_mesh c) cs o = o.1
rest b (set w v d) cs o = o
rest b (read w p) cs o = o

-- of a list by our own test alone, the calls that are picked are so too
picked_own : (b : Build) {ms : List MeshCall} {cs : List Call} → Picked b ms cs → OwnCallsWith b cs → OwnCalls (bare b) ms
unfolding OwnCalls
picked_own b none o = tt
picked_own b {ms = c ∷ ms} (taken s P) o = (subst (OwnCall c) s.accepted (unfold OwnCallsWith in o.0), subst (λ m. OwnCalls m ms) s.after (picked_own _ P (rest b (on_mesh c) _ o)))
picked_own b {ms} (passed_over {c} {cs} e a P) o = subst (λ m. OwnCalls m ms) e (picked_own _ P (rest b c cs o))

-- a node that is accepted over a table is accepted without one, with the same report
accepted_same : (m : Mesh) (t : Tables) (cs : List ℤ) (w : ℕ) (p : Position) (a : Answers) {m' : Mesh} {r : Report} → Accepted m' r ≡ (insert_with m t cs w p a).answer →
    Accepted m' r ≡ (insert_call m t w p a).answer
unfolding insert_with left_unless insert_call
accepted_same m t cs w p a q =
    let S = (stood m t cs (insert_refusal m t w p a) (accepted_unless m t p a q).0).0 in q ∙ ap (λ k. (insert_unless k m t p a).answer) (stands m t cs S (insert_refusal m t w p a))

module _ (X Y Z : ℕ) (t : Tables) (cs : List ℤ) (w : ℕ) (e : with_length t cs (start_refusal X Y Z t w) ≡ 0) (calls : List Call)
    (own : OwnCallsWith (start_build X Y Z t cs w) calls) where
  abbrev start : Build
  start = start_build X Y Z t cs w

  picked : OwnCalls (plain_start X Y Z t w) (as_without start calls).calls
  picked = subst (λ b. OwnCalls b (as_without start calls).calls) (bare_start X Y Z t cs w e) (picked_own start (as_without start calls).picked own)

  spheres : EmptySpheres (bare (build_after start calls))
  spheres = subst EmptySpheres (sym (start_after X Y Z t cs w e calls)) (own_spheres X Y Z t w (start_accepted X Y Z t cs w e) (as_without start calls).calls picked)

  sizes : EqualSizes (bare (build_after start calls))
  sizes = subst EqualSizes (sym (start_after X Y Z t cs w e calls)) (own_reports X Y Z t w (start_accepted X Y Z t cs w e) (as_without start calls).calls picked)

-- after every list by our own test alone no point of the mesh is strictly inside a cell's sphere
pub own_spheres_with : (X Y Z : ℕ) (t : Tables) (cs : List ℤ) (w : ℕ) → with_length t cs (start_refusal X Y Z t w) ≡ 0 → (calls : List Call) →
    OwnCallsWith (start_build X Y Z t cs w) calls → EmptySpheres (bare (build_after (start_build X Y Z t cs w) calls))
own_spheres_with X Y Z t cs w e calls own = spheres X Y Z t cs w e calls own

pub own_reports_with : (X Y Z : ℕ) (t : Tables) (cs : List ℤ) (w : ℕ) → with_length t cs (start_refusal X Y Z t w) ≡ 0 → (calls : List Call) →
    OwnCallsWith (start_build X Y Z t cs w) calls → EqualSizesWith (build_after (start_build X Y Z t cs w) calls)
own_reports_with X Y Z t cs w e calls own =
    let b = build_after (start_build X Y Z t cs w) calls in
    record { reported = λ v p q. (sizes X Y Z t cs w e calls own).reported v p (accepted_same b.mesh b.tables b.corrections v p sphere q) }

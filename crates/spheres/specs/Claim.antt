-- 'A mesh grown from a started box by our own test alone': lists of calls, and what holds after them.
use Rattle.std.specs.Prelude.{ℕ, List, [], ◌∷◌, ◌≢◌, ◌≡◌, pos, ◌≤ℤ◌}
use Rattle.geometry.specs.declared.Position.{Position}
use Rattle.mesh.specs.declared.Mesh.{Mesh}
use Rattle.mesh.specs.Tables.{none, cell_of, opposite, across, corner_at, mate, IsFace}
use Rattle.cavity.specs.Answers.{sphere, cell_e}
use Rattle.insertion.specs.declared.Report.{Report}
use Rattle.insertion.specs.Inserted.{Accepted}
use Rattle.insertion.specs.Insertion.{insert_call}
use Rattle.calls.specs.Calls.{Build, Call, by_sphere, by_answers, by_marks, by_list, look, outcome}
use Rattle.spheres.specs.Exact.{Empty}

-- whether a call that accepts the nodes ps is by our own test: by the sphere test, with marks or without, or a look; or with answers handed in, and no node accepted
unfoldable pub OwnCall : Call → List Position → Type 0
OwnCall (by_sphere w p) ps = Unit {0}
OwnCall (by_answers w bytes p) ps = ps ≡ []
OwnCall (by_marks w marks p) ps = Unit {0}
OwnCall (by_list w ns) ps = Unit {0}
OwnCall (look w marks p) ps = Unit {0}

-- each call, on what those before it left
unfoldable pub OwnCalls : Build → List Call → Type 0
OwnCalls b [] = Unit {0}
OwnCalls b (c ∷ cs) = OwnCall c (outcome b c).accepted × OwnCalls (outcome b c).after cs

pub record EmptySpheres (b : Build) : Type 0 where
  -- 'no neighbour's far corner strictly inside any cell's sphere'
  pub far_corners : (f : ℕ) → IsFace b.tables b.mesh.used f → across b.tables f ≢ none →
      let g = mate b.tables f in cell_e b.tables (corner_at b.tables (cell_of g) (opposite g)) (cell_of f) ≤ℤ pos 0
  -- 'and after that no point of the mesh at all inside any sphere'
  pub points : Empty b.mesh.points b.mesh.used b.tables

-- whatever node our own test lets in next, the correction removes no cell: the report has one size before and after it
pub record EqualSizes (b : Build) : Type 0 where
  pub reported : (w : ℕ) (p : Position) {m : Mesh} {r : Report} → Accepted m r ≡ (insert_call b.mesh b.tables w p sphere).answer → r.before ≡ r.after

-- An insertion and its partner: the same answer, and the same mesh after.
use Prim.Native.Nat.{ℕ, ◌≤◌}
use mathlib.Core.Bool.{false, cond}
use mathlib.Core.List.{List}
use mathlib.Core.Logic.{◌≢◌}
use mathlib.Core.Path.{◌≡◌, refl, sym, ap, ap₂, ◌∙◌, subst}
use native.Mathlib.Decide.{ℕ_discrete}
use borrow.Author.Tests.{ne_eqb, le-ltb, not-false}
use lib.ListN.{length}
use Rattle.arith.proofs.Flags.{clash}
use Rattle.geometry.specs.declared.Position.{Position}
use Rattle.mesh.specs.declared.Mesh.{Mesh}
use Rattle.mesh.specs.Tables.{Tables, cell_capacity, freed, live}
use Rattle.mesh.specs.Refusal.{mesh_refusal}
use Rattle.cavity.specs.Answers.{Answers, sphere, handed}
use Rattle.insertion.specs.Inserted.{Inserted}
use Rattle.insertion.specs.Inserted.{Accepted, Refused}
use Rattle.insertion.specs.Insertion.{node_refusal, fewer_bytes, first_of, insert_refusal, report_of, Result, insert_unless, insert_call}
use Rattle.insertion.specs.Look.{cavity_marks, begins_with, marked_refusal, marked_call}
use Rattle.insertion.proofs.Refusals.{left_to_node, marked_passed, unless_accepted, unless_refused}
use Rattle.calls.specs.Calls.{Build, record_after, insert_outcome}
use Rattle.layouts.specs.Packed.{packed_of, packed_mesh, packed_tables, packed_unless, packed_call, packed_marked}
use Rattle.layouts.specs.Histories.{FollowCells, ZeroWhereFreed}
use Rattle.layouts.specs.Same.{SameInserted, accepted}
use Rattle.layouts.proofs.Alike.{AlikeMeshes}
use Rattle.layouts.proofs.Reports.{Answered, by_corners, by_bytes}
use Rattle.layouts.proofs.Marks.{same_marks}
use Rattle.layouts.proofs.Nodes.{mesh_passes, here, Same, Both, meshes, agree, same_refusal, same_record, both_after, same_report}

-- ---- what the packed layout's calls answer, from their refusals

module _ (m : Mesh) (t : Tables) (p : Position) (a : Answers) {r : ℕ} where
  pub unless_packed : r ≡ 0 → packed_unless r m t p a ≡ record { answer = Accepted (packed_mesh m t p a) (report_of m t p a); tables = packed_tables m t p a }
  unfolding packed_unless
  unless_packed e = rw e

  pub unless_left : {k : ℕ} → r ≡ k → k ≢ 0 → packed_unless r m t p a ≡ record { answer = Refused k; tables = t }
  unfolding packed_unless
  unless_left {k} e d = rw (e, ne_eqb k 0 d)

-- ---- both layouts

-- the same mesh in both
pub record SameBuilds (a b : Build) : Type 0 where
  pub counts : b.mesh ≡ packed_of a.mesh
  pub both : Both a.mesh a.tables b.tables

-- what two insertions answer and leave
pub record SameInsertions (m : Mesh) (p : Position) (l l₁ : Result Inserted) : Type 0 where
  pub answers : SameInserted l.answer l₁.answer
  pub after : SameBuilds (insert_outcome m p l).after (insert_outcome (packed_of m) p l₁).after

module _ {m : Mesh} {t t₁ : Tables} (B : Both m t t₁) (w : ℕ) (h : m.used ≤ cell_capacity t w) where
  abbrev m₁ : Mesh
  m₁ = packed_of m

  abbrev T : AlikeMeshes (Same m t t₁) m.points t m.used t₁ m.cells
  T = meshes B w h

  -- ---- an insertion

  module _ (p : Position) {a a₁ : Answers} (W : Answered T p a a₁) where
    -- with the refusal r of both
    unless_same : (r : ℕ) → (r ≡ 0 → node_refusal m t w p a ≡ 0) → SameInsertions m p (insert_unless r m t p a) (packed_unless r m₁ t₁ p a₁)
    unfolding insert_outcome record_after
    unless_same r fits = go (ℕ_discrete r 0)
      where
        go : Dec (r ≡ 0) → SameInsertions m p (insert_unless r m t p a) (packed_unless r m₁ t₁ p a₁)
        go (yes z) =
            rw (unless_accepted m t p a z, unless_packed m₁ t₁ p a₁ z)
            record { answers = accepted (same_record B w h W (fits z)) (same_report B w h W (fits z)); after = record { counts = same_record B w h W (fits z); both = both_after B w h W (fits z) } }
        go (no d) =
            rw (unless_refused m t p a refl d, unless_left m₁ t₁ p a₁ refl d) record { answers = SameInserted.refused r; after = record { counts = refl; both = B } }

    module _ (enough : fewer_bytes a m.used ≡ false) (enough₁ : fewer_bytes a₁ m.cells ≡ false) where
      -- tests 1 to 3 let both pass
      tests : insert_refusal m t w p a ≡ node_refusal m t w p a
      tests = left_to_node m t w p a (ap (mesh_refusal m t w) enough ∙ mesh_passes m t w (B.valid w h))

      same_tests : insert_refusal (packed_of m) t₁ w p a₁ ≡ insert_refusal m t w p a
      same_tests =
          left_to_node m₁ t₁ w p a₁ (ap (mesh_refusal m₁ t₁ w) enough₁ ∙ mesh_passes m₁ t₁ w (B.valid₁ w h)) ∙
          (sym (same_refusal B w h W) ∙ sym tests)

      insert_same : SameInsertions m p (insert_call m t w p a) (packed_call (packed_of m) t₁ w p a₁)
      unfolding insert_call packed_call
      insert_same =
          subst (λ r. SameInsertions m p (insert_unless (insert_refusal m t w p a) m t p a) (packed_unless r m₁ t₁ p a₁)) (sym same_tests)
          (unless_same (insert_refusal m t w p a) (λ z. sym tests ∙ z))

  -- by the sphere test
  pub sphere_same : (p : Position) → SameInsertions m p (insert_call m t w p sphere) (packed_call (packed_of m) t₁ w p sphere)
  unfolding fewer_bytes
  sphere_same p = insert_same p (by_corners T p) refl refl

  -- by answers handed in
  pub answers_same : (p : Position) (bytes bytes₁ : List ℕ) → FollowCells (here m t) (here (packed_of m) t₁) bytes bytes₁ →
      SameInsertions m p (insert_call m t w p (handed bytes)) (packed_call (packed_of m) t₁ w p (handed bytes₁))
  unfolding fewer_bytes
  answers_same p bytes bytes₁ F =
      insert_same p (by_bytes T p bytes bytes₁ F.same) (le-ltb (length bytes) m.used F.enough.long) (le-ltb (length bytes₁) m.cells F.enough.long₁)

  -- ---- with marks

  module _ (p : Position) where
    pub same_sphere_tests : insert_refusal (packed_of m) t₁ w p sphere ≡ insert_refusal m t w p sphere
    unfolding fewer_bytes
    same_sphere_tests = same_tests p (by_corners T p) refl refl

    pub sphere_tests : insert_refusal m t w p sphere ≡ node_refusal m t w p sphere
    unfolding fewer_bytes
    sphere_tests = tests p (by_corners T p) refl refl

    pub marked_same : (marks marks₁ : List ℕ) → FollowCells (here m t) (here (packed_of m) t₁) marks marks₁ → ZeroWhereFreed (here m t) marks →
        SameInsertions m p (marked_call m t w p marks) (packed_marked (packed_of m) t₁ w p marks₁)
    unfolding marked_call packed_marked
    marked_same marks marks₁ F zeros =
        subst (λ r. SameInsertions m p (insert_unless (marked_refusal (insert_refusal m t w p sphere) m t p sphere marks) m t p sphere) (packed_unless r m₁ t₁ p sphere)) (sym same)
        (unless_same p (by_corners T p) (marked_refusal (insert_refusal m t w p sphere) m t p sphere marks) (λ z. sym sphere_tests ∙ (marked_passed m t p sphere marks z).0))
      where
        begins : begins_with (cavity_marks m t p sphere) marks ≡ begins_with (cavity_marks m₁ t₁ p sphere) marks₁
        begins = unfold cavity_marks in
            same_marks T (agree B w h (by_corners T p)) marks marks₁ F.enough.long F.enough.long₁ F.same
            (λ c l off. zeros c l (unfold live in not-false (freed t c) off)) (λ d l off. clash (B.full d l) off)

        same : marked_refusal (insert_refusal m₁ t₁ w p sphere) m₁ t₁ p sphere marks₁ ≡ marked_refusal (insert_refusal m t w p sphere) m t p sphere marks
        same = unfold marked_refusal in ap₂ (λ r b. first_of r (cond b 0 14)) same_sphere_tests (sym begins)

-- A look, locating and the mesh check in both layouts.
use Prim.Native.Nat.{ℕ, ◌≤◌}
use mathlib.Core.Bool.{true, false, cond}
use mathlib.Core.List.{List}
use mathlib.Core.Logic.{◌⊎◌, inl, inr}
use mathlib.Core.Path.{◌≡◌, refl, sym, ap, ◌∙◌, subst₂}
use native.Mathlib.Decide.{ℕ_discrete}
use native.Mathlib.Omega.{arith}
use borrow.Author.Tests.{ne_eqb, le-ltb, not-true}
use lib.ListN.{length}
use Rattle.arith.specs.Table.{any_below}
use Rattle.arith.proofs.Flags.{split, clash, fails}
use Rattle.arith.proofs.Tables.{Found, any_found, any_intro}
use Rattle.geometry.specs.declared.Position.{Position}
use Rattle.geometry.specs.Volume.{in_box}
use Rattle.mesh.specs.declared.Mesh.{Mesh}
use Rattle.mesh.specs.Tables.{Tables, cell_capacity, freed, live}
use Rattle.mesh.specs.Check.{is_mesh}
use Rattle.mesh.specs.Start.{over}
use Rattle.mesh.specs.Refusal.{mesh_refusal}
use Rattle.mesh.proofs.Valid.{valid_yes}
use Rattle.locate.specs.Locate.{holds, first_holder, locate_call}
use Rattle.locate.proofs.First.{IsFirst, holder_is_first, none_is}
use Rattle.locate.proofs.Finding.{outside, unheld, found}
use Rattle.cavity.specs.Cavity.{in_set}
use Rattle.cavity.specs.Answers.{sphere}
use Rattle.insertion.specs.Insertion.{first_of, insert_refusal, last_cavity}
use Rattle.insertion.specs.Look.{cavity_marks, look_refusal, look_unless, look_call}
use Rattle.layouts.specs.Packed.{packed_of}
use Rattle.layouts.specs.Histories.{LongEnough, FollowCells, ZeroWhereFreed}
use Rattle.layouts.specs.Same.{SameLooked, reported, SameLocated, located}
use Rattle.layouts.proofs.Alike.{AlikeMeshes}
use Rattle.layouts.proofs.Reports.{by_corners}
use Rattle.layouts.proofs.Marks.{left_long, left_at}
use Rattle.layouts.proofs.Locating.{first_joined}
use Rattle.layouts.proofs.Nodes.{mesh_passes, same_held, here, Same, Both, meshes, agree, same_report}
use Rattle.layouts.proofs.Insertions.{same_sphere_tests, sphere_tests}

module _ {m : Mesh} {t t₁ : Tables} (B : Both m t t₁) (w : ℕ) (h : m.used ≤ cell_capacity t w) where
  abbrev m₁ : Mesh
  m₁ = packed_of m

  abbrev T : AlikeMeshes (Same m t t₁) m.points t m.used t₁ m.cells
  T = meshes B w h

  -- ---- a look

  module _ (p : Position) (marks marks₁ : List ℕ) where
    marks_left : List ℕ
    marks_left = over (cavity_marks m t p sphere) marks

    marks_left₁ : List ℕ
    marks_left₁ = over (cavity_marks m₁ t₁ p sphere) marks₁

    left_follow : FollowCells (here m t) (here m₁ t₁) marks_left marks_left₁
    unfolding marks_left marks_left₁ cavity_marks
    left_follow = record {
      enough = record { long = left_long m.used (in_set (last_cavity m t p sphere)) marks; long₁ = left_long m.cells (in_set (last_cavity m₁ t₁ p sphere)) marks₁ };
      same = λ c d x.
          left_at m.used (in_set (last_cavity m t p sphere)) marks c x.cell.below ∙
          (ap (λ b. cond {A = ℕ} b 1 0) ((agree B w h (by_corners T p)).same c d x) ∙
          sym (left_at m.cells (in_set (last_cavity m₁ t₁ p sphere)) marks₁ d x.cell₁.below));
    }

    left_zero : ZeroWhereFreed (here m t) marks_left
    unfolding marks_left cavity_marks
    left_zero c l off =
        left_at m.used (in_set (last_cavity m t p sphere)) marks c l ∙
        ap (λ b. cond {A = ℕ} b 1 0) (fails (in_set (last_cavity m t p sphere) c) (λ q. clash off (not-true (freed t c) (unfold live in ((agree B w h (by_corners T p)).cells c q).lives))))

    pub look_same : LongEnough (here m t) (here (packed_of m) t₁) marks marks₁ →
        SameLooked (here m t) (here (packed_of m) t₁) (look_call m t w p marks) (look_call (packed_of m) t₁ w p marks₁)
    unfolding look_call look_refusal look_unless marks_left marks_left₁
    look_same L =
        rw (le-ltb (length marks) m.used L.long, le-ltb (length marks₁) m.cells L.long₁, same_sphere_tests B w h p) (go (ℕ_discrete r 0))
      where
        r : ℕ
        r = insert_refusal m t w p sphere

        go : Dec (r ≡ 0) → SameLooked (here m t) (here m₁ t₁) (look_unless (first_of r 0) m t p marks) (look_unless (first_of r 0) m₁ t₁ p marks₁)
        go (yes z) = rw z (reported (same_report B w h (by_corners T p) (sym (sphere_tests B w h p) ∙ z)) left_follow left_zero)
        go (no d) = rw (ne_eqb r 0 d, ne_eqb r 0 d) (SameLooked.refused r)

  -- ---- locating and the mesh check

  pub check_same : (is_mesh m t w ≡ true) × (is_mesh (packed_of m) t₁ w ≡ true)
  check_same = (valid_yes m t w (B.valid w h), valid_yes m₁ t₁ w (B.valid₁ w h))

  pub locate_same : (p : Position) → SameLocated (here m t) (here (packed_of m) t₁) (locate_call m t w p) (locate_call (packed_of m) t₁ w p)
  locate_same p = go (split (in_box m.x m.y m.z p)) (split (any_below m.used (holds t p)))
    where
      pass : mesh_refusal m t w false ≡ 0
      pass = mesh_passes m t w (B.valid w h)

      pass₁ : mesh_refusal m₁ t₁ w false ≡ 0
      pass₁ = mesh_passes m₁ t₁ w (B.valid₁ w h)

      first : {n : ℕ} {t : Tables} → Found n (holds t p) → IsFirst t p n (first_holder t n p)
      first {n} {t} q = holder_is_first t p n q.at q.below q.passes

      nobody : (n : ℕ) (t : Tables) → any_below n (holds t p) ≡ false → first_holder t n p ≡ n
      nobody n t e = none_is t p n (λ k l. fails (holds t p k) (λ q. clash (any_intro n (holds t p) k l q) e))

      go : (in_box m.x m.y m.z p ≡ true) ⊎ (in_box m.x m.y m.z p ≡ false) →
          (any_below m.used (holds t p) ≡ true) ⊎ (any_below m.used (holds t p) ≡ false) → SameLocated (here m t) (here m₁ t₁) (locate_call m t w p) (locate_call m₁ t₁ w p)
      go (inr e) q = subst₂ (SameLocated (here m t) (here m₁ t₁)) (outside m t w p pass e) (outside m₁ t₁ w p pass₁ e) (SameLocated.refused 4)
      go (inl e) (inr q) =
          subst₂ (SameLocated (here m t) (here m₁ t₁)) (unheld m t w p pass e (sym (nobody m.used t q)) refl)
          (unheld m₁ t₁ w p pass₁ e (sym (nobody m.cells t₁ (sym (same_held T p) ∙ q))) refl) (SameLocated.refused 7)
      go (inl e) (inl q) =
          let F = first (any_found m.used (holds t p) q) in
          let F₁ = first (any_found m.cells (holds t₁ p) (sym (same_held T p) ∙ q)) in
          subst₂ (SameLocated (here m t) (here m₁ t₁)) (found m t w p pass e refl (λ z. omega (arith, F.cell<, z))) (found m₁ t₁ w p pass₁ e refl (λ z. omega (arith, F₁.cell<, z)))
          (located (first_joined T p (first_holder t m.used p) (first_holder t₁ m.cells p) F F₁))

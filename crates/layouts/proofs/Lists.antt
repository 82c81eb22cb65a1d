-- A list in both layouts, node by node.
use Prim.Native.Nat.{ℕ, zero, suc, ◌≤◌}
use mathlib.Core.List.{List}
use mathlib.Core.Logic.{◌≢◌}
use mathlib.Core.Path.{◌≡◌, refl, sym, ap, ◌∙◌, subst₂}
use native.Mathlib.Decide.{ℕ_discrete}
use Rattle.geometry.specs.declared.Position.{Position}
use Rattle.mesh.specs.declared.Mesh.{Mesh}
use Rattle.mesh.specs.Tables.{Tables, cell_capacity}
use Rattle.cavity.specs.Answers.{sphere}
use Rattle.insertion.specs.declared.Report.{Report}
use Rattle.insertion.specs.Inserted.{Accepted, Refused}
use Rattle.insertion.specs.Listed.{Listed}
use Rattle.insertion.specs.Listed.{Stopped}
use Rattle.insertion.specs.Insertion.{node_refusal, report_of, Result, inserted_mesh, inserted_tables}
use Rattle.insertion.specs.List.{listed_node, listed_count, insert_from, list_call}
use Rattle.insertion.proofs.Refusals.{node_accepted, node_refused}
use Rattle.insertion.proofs.Steps.{list_begins, node_in, node_out}
use Rattle.calls.specs.Calls.{record_after_list, list_outcome}
use Rattle.layouts.specs.Packed.{packed_of, packed_mesh, packed_tables, packed_node, packed_from, packed_list}
use Rattle.layouts.specs.Same.{SameListed, ended, stopped}
use Rattle.layouts.proofs.Reports.{Answered, by_corners}
use Rattle.layouts.proofs.Nodes.{mesh_passes, Both, meshes, same_refusal, same_record, both_after, covers_after}
use Rattle.layouts.proofs.Insertions.{SameBuilds, unless_packed, unless_left}

-- what two lists answer and leave
pub record SameLists (m : Mesh) (ns : List ℕ) (l l₁ : Result Listed) : Type 0 where
  pub answers : SameListed l.answer l₁.answer
  pub after : SameBuilds (list_outcome m ns l).after (list_outcome (packed_of m) ns l₁).after

module _ (m : Mesh) (t : Tables) (w : ℕ) (p : Position) where
  packed_accepted : node_refusal m t w p sphere ≡ 0 → packed_node m t w p sphere ≡ record { answer = Accepted (packed_mesh m t p sphere) (report_of m t p sphere); tables = packed_tables m t p sphere }
  unfolding packed_node
  packed_accepted e = unless_packed m t p sphere e

  packed_refused : {k : ℕ} → node_refusal m t w p sphere ≡ k → k ≢ 0 → packed_node m t w p sphere ≡ record { answer = Refused k; tables = t }
  unfolding packed_node
  packed_refused e d = unless_left m t p sphere e d

module _ (m : Mesh) (t : Tables) (w : ℕ) (ns : List ℕ) (i k : ℕ) where
  packed_in : {m' : Mesh} {r : Report} {t' : Tables} → packed_node m t w (listed_node ns i) sphere ≡ record { answer = Accepted m' r; tables = t' } →
      packed_from (suc k) i m t w ns ≡ packed_from k (suc i) m' t' w ns
  unfolding packed_from
  packed_in e = rw (e, packed_from) (rw e)

  packed_out : {e : ℕ} {t' : Tables} → packed_node m t w (listed_node ns i) sphere ≡ record { answer = Refused e; tables = t' } →
      packed_from (suc k) i m t w ns ≡ record { answer = Stopped m i e; tables = t' }
  unfolding packed_from
  packed_out e = rw (e, packed_from) (rw e)

module _ (m₀ : Mesh) (w : ℕ) (ns : List ℕ) where
  -- k nodes from place i on
  from_same : (k i : ℕ) {m : Mesh} {t t₁ : Tables} → Both m t t₁ → m.used ≤ cell_capacity t w → SameLists m₀ ns (insert_from k i m t w ns) (packed_from k i (packed_of m) t₁ w ns)
  unfolding insert_from packed_from list_outcome record_after_list
  from_same zero i B h = record { answers = ended refl i; after = record { counts = refl; both = B } }
  from_same (suc k) i {m} {t} {t₁} B h = go (λ C l. from_same k (suc i) C l) (ℕ_discrete (node_refusal m t w (listed_node ns i) sphere) 0)
    where
      q : Position
      q = listed_node ns i

      W : Answered (meshes B w h) q sphere sphere
      W = by_corners (meshes B w h) q

      m' : Mesh
      m' = inserted_mesh m t q sphere

      t' : Tables
      t' = inserted_tables m t q sphere

      t₁' : Tables
      t₁' = packed_tables (packed_of m) t₁ q sphere

      go : (Both m' t' t₁' → m'.used ≤ cell_capacity t' w → SameLists m₀ ns (insert_from k (suc i) m' t' w ns) (packed_from k (suc i) (packed_of m') t₁' w ns)) →
          Dec (node_refusal m t w q sphere ≡ 0) → SameLists m₀ ns (insert_from (suc k) i m t w ns) (packed_from (suc k) i (packed_of m) t₁ w ns)
      go rest (yes z) =
          subst₂ (SameLists m₀ ns) (sym (node_in m t w ns i k (node_accepted m t w q sphere z)))
          (sym (packed_in (packed_of m) t₁ w ns i k (packed_accepted (packed_of m) t₁ w q (sym (same_refusal B w h W) ∙ z)) ∙ ap (λ r. packed_from k (suc i) r t₁' w ns) (same_record B w h W z)))
          (rest (both_after B w h W z) (covers_after B w h W z))
      go rest (no d) =
          subst₂ (SameLists m₀ ns) (sym (node_out m t w ns i k (node_refused m t w q sphere refl d))) (sym (packed_out (packed_of m) t₁ w ns i k (packed_refused (packed_of m) t₁ w q (sym (same_refusal B w h W)) d)))
          record { answers = stopped refl i (node_refusal m t w q sphere); after = record { counts = refl; both = B } }

-- the list
pub list_same : {m : Mesh} {t t₁ : Tables} → Both m t t₁ → (w : ℕ) → m.used ≤ cell_capacity t w → (ns : List ℕ) → SameLists m ns (list_call m t w ns) (packed_list (packed_of m) t₁ w ns)
unfolding packed_list
list_same {m} {t} {t₁} B w h ns =
    subst₂ (SameLists m ns) (sym (list_begins m t w ns (mesh_passes m t w (B.valid w h)))) (rw (mesh_passes (packed_of m) t₁ w (B.valid₁ w h)))
    (from_same m w ns (listed_count ns) 0 B h)

-- What each accepted node keeps, every call and every list of calls keeps.
use Prim.Native.Nat.{ℕ, zero, suc, ◌+◌}
use mathlib.Core.Bool.{true, false}
use mathlib.Core.List.{List, [], ◌∷◌, ◌++◌, append-nil, append_assoc}
use mathlib.Core.Path.{◌≡◌, refl, sym, ap, ◌∙◌, subst}
use native.Mathlib.Decide.{ℕ_discrete}
use native.Mathlib.Omega.{arith}
use Rattle.arith.specs.Table.{fill, tabulate}
use Rattle.arith.proofs.Tables.{tabulate_suc}
use Rattle.geometry.specs.declared.Position.{Position}
use Rattle.mesh.specs.declared.Mesh.{Mesh}
use Rattle.mesh.specs.Tables.{Tables}
use Rattle.mesh.specs.Check.{is_mesh}
use Rattle.mesh.specs.Refusal.{mesh_refusal}
use Rattle.mesh.proofs.Valid.{passed}
use Rattle.cavity.specs.Answers.{Answers, sphere, handed}
use Rattle.insertion.specs.Insertion.{node_refusal, fewer_bytes, insert_refusal, inserted_mesh, inserted_tables, insert_unless, insert_call}
use Rattle.insertion.specs.List.{listed_node, listed_count, insert_from, list_call}
use Rattle.insertion.specs.Look.{look_call, marked_refusal, marked_call}
use Rattle.insertion.proofs.Refusals.{marked_passed, unless_accepted, unless_refused, node_accepted, node_refused, tests_passed}
use Rattle.insertion.proofs.Looking.{tables_stay}
use Rattle.insertion.proofs.Growing.{checks_again}
use Rattle.insertion.proofs.Steps.{list_refused, list_begins, node_in, node_out}
use Rattle.calls.specs.Calls.{Build, Call, by_sphere, by_answers, by_marks, by_list, look, record_after, record_after_list, accepted_node, accepted_nodes, Outcome, insert_outcome, list_outcome, look_outcome, outcome, mesh_after, accepted_by}

abbrev pub built : Mesh → Tables → Build
built m t = record { mesh = m; tables = t }

-- P b ps: of the record and tables b, with the nodes ps accepted so far
module _ (P : Build → List Position → Type 0) where
  -- a node accepted by the answers a keeps P
  abbrev pub KeptBy : Answers → Type 0
  KeptBy a = (m : Mesh) (t : Tables) (w : ℕ) (p : Position) (ps : List Position) → is_mesh m t w ≡ true → node_refusal m t w p a ≡ 0 →
      P (built m t) ps → P (built (inserted_mesh m t p a) (inserted_tables m t p a)) (ps ++ (p ∷ []))

  -- an outcome keeps P, with the nodes ps accepted before
  abbrev pub Keeps : List Position → Outcome → Type 0
  Keeps ps o = P o.after (ps ++ o.accepted)

  -- nothing is accepted and nothing changes
  same_kept : (b : Build) (ps : List Position) → P b ps → P b (ps ++ [])
  same_kept b ps K = subst (P b) (sym (append-nil ps)) K

  -- a call with the refusal r, of a node that fits where there is none
  unless_keeps : (a : Answers) → KeptBy a → (m : Mesh) (t : Tables) (w : ℕ) (p : Position) (ps : List Position) (r : ℕ) →
      (r ≡ 0 → insert_refusal m t w p a ≡ 0) → P (built m t) ps → Keeps ps (insert_outcome m p (insert_unless r m t p a))
  unfolding insert_outcome record_after accepted_node
  unless_keeps a more m t w p ps r fits K = go (ℕ_discrete r 0)
    where
      go : Dec (r ≡ 0) → Keeps ps (insert_outcome m p (insert_unless r m t p a))
      go (no d) = rw (unless_refused m t p a refl d) (same_kept (built m t) ps K)
      go (yes z) =
          let h = tests_passed m t w p a (fits z) in
          rw (unless_accepted m t p a z) (more m t w p ps (passed m t w (fewer_bytes a m.used) h.0) h.1 K)

  pub insert_keeps : (a : Answers) → KeptBy a → (m : Mesh) (t : Tables) (w : ℕ) (p : Position) (ps : List Position) → P (built m t) ps →
      Keeps ps (insert_outcome m p (insert_call m t w p a))
  unfolding insert_call
  insert_keeps a more m t w p ps K = unless_keeps a more m t w p ps (insert_refusal m t w p a) (λ z. z) K

  pub marked_keeps : KeptBy sphere → (m : Mesh) (t : Tables) (w : ℕ) (marks : List ℕ) (p : Position) (ps : List Position) → P (built m t) ps →
      Keeps ps (insert_outcome m p (marked_call m t w p marks))
  unfolding marked_call
  marked_keeps more m t w marks p ps K =
      unless_keeps sphere more m t w p ps (marked_refusal (insert_refusal m t w p sphere) m t p sphere marks) (λ e. (marked_passed m t p sphere marks e).0) K

  pub look_keeps : (m : Mesh) (t : Tables) (w : ℕ) (marks : List ℕ) (p : Position) (ps : List Position) → P (built m t) ps →
      Keeps ps (look_outcome m (look_call m t w p marks))
  unfolding look_outcome
  look_keeps m t w marks p ps K = subst (λ x. P (built m x) (ps ++ [])) (sym (tables_stay m t w p marks)) (same_kept (built m t) ps K)

  module _ (more : KeptBy sphere) where
    -- k nodes from place i on, with those before i accepted; m₀ is the record that the list call was given
    nodes_keep : (m₀ : Mesh) (w : ℕ) (ns : List ℕ) (ps : List Position) (k i : ℕ) (m : Mesh) (t : Tables) → i + k ≡ listed_count ns →
        is_mesh m t w ≡ true → P (built m t) (ps ++ tabulate i (listed_node ns)) → Keeps ps (list_outcome m₀ ns (insert_from k i m t w ns))
    nodes_keep m₀ w ns ps zero i m t e M K =
        unfold insert_from list_outcome record_after_list accepted_nodes in
        let q : i ≡ listed_count ns = omega arith in subst (λ n. P (built m t) (ps ++ tabulate n (listed_node ns))) q K
    nodes_keep m₀ w ns ps (suc k) i m t e M K = go (nodes_keep m₀ w ns ps k (suc i) m' t' (omega arith)) (ℕ_discrete (node_refusal m t w p sphere) 0)
      where
        p : Position
        p = listed_node ns i

        m' : Mesh
        m' = inserted_mesh m t p sphere

        t' : Tables
        t' = inserted_tables m t p sphere

        one_more : ps ++ tabulate i (listed_node ns) ++ (p ∷ []) ≡ ps ++ tabulate (suc i) (listed_node ns)
        one_more = append_assoc ps (tabulate i (listed_node ns)) (p ∷ []) ∙ ap (λ l. ps ++ l) (sym (tabulate_suc i (listed_node ns)))

        go : (is_mesh m' t' w ≡ true → P (built m' t') (ps ++ tabulate (suc i) (listed_node ns)) → Keeps ps (list_outcome m₀ ns (insert_from k (suc i) m' t' w ns))) →
            Dec (node_refusal m t w p sphere ≡ 0) → Keeps ps (list_outcome m₀ ns (insert_from (suc k) i m t w ns))
        go rest (yes r) =
            subst (λ l. Keeps ps (list_outcome m₀ ns l)) (sym (node_in m t w ns i k (node_accepted m t w p sphere r)))
            (rest (checks_again m t w p sphere M r) (subst (P (built m' t')) one_more (more m t w p (ps ++ tabulate i (listed_node ns)) M r K)))
        go rest (no d) =
            subst (λ l. Keeps ps (list_outcome m₀ ns l)) (sym (node_out m t w ns i k (node_refused m t w p sphere refl d)))
            (unfold list_outcome record_after_list accepted_nodes in K)

    pub list_keeps : (m : Mesh) (t : Tables) (w : ℕ) (ns : List ℕ) (ps : List Position) → P (built m t) ps → Keeps ps (list_outcome m ns (list_call m t w ns))
    list_keeps m t w ns ps K = go (ℕ_discrete (mesh_refusal m t w false) 0)
      where
        none_yet : P (built m t) (ps ++ tabulate 0 (listed_node ns))
        none_yet = unfold tabulate fill in same_kept (built m t) ps K

        go : Dec (mesh_refusal m t w false ≡ 0) → Keeps ps (list_outcome m ns (list_call m t w ns))
        go (yes z) =
            subst (λ l. Keeps ps (list_outcome m ns l)) (sym (list_begins m t w ns z))
            (nodes_keep m w ns ps (listed_count ns) 0 m t (omega arith) (passed m t w false z) none_yet)
        go (no d) =
            subst (λ l. Keeps ps (list_outcome m ns l)) (sym (list_refused m t w ns refl d))
            (unfold list_outcome record_after_list accepted_nodes in same_kept (built m t) ps K)

  module _ (more : (a : Answers) → KeptBy a) where
    call_keeps : (b : Build) (c : Call) (ps : List Position) → P b ps → Keeps ps (outcome b c)
    unfolding outcome
    call_keeps b (by_sphere w p) ps K = insert_keeps sphere (more sphere) b.mesh b.tables w p ps K
    call_keeps b (by_answers w bytes p) ps K = insert_keeps (handed bytes) (more (handed bytes)) b.mesh b.tables w p ps K
    call_keeps b (by_marks w marks p) ps K = marked_keeps (more sphere) b.mesh b.tables w marks p ps K
    call_keeps b (by_list w ns) ps K = list_keeps (more sphere) b.mesh b.tables w ns ps K
    call_keeps b (look w marks p) ps K = look_keeps b.mesh b.tables w marks p ps K

    pub calls_keep : (b : Build) (cs : List Call) (ps : List Position) → P b ps → P (mesh_after b cs) (ps ++ accepted_by b cs)
    unfolding mesh_after accepted_by
    calls_keep b [] ps K = same_kept b ps K
    calls_keep b (c ∷ cs) ps K =
        let o = outcome b c in
        subst (P (mesh_after o.after cs)) (append_assoc ps o.accepted (accepted_by o.after cs))
        (calls_keep o.after cs (ps ++ o.accepted) (call_keeps b c ps K))

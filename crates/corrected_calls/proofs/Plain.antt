-- A call over a table of corrections does to the mesh what the call without one does, or nothing; and it leaves all numbers in range.
use Prim.Native.Nat.{ℕ, zero, suc, ◌*◌, ◌≤◌}
use mathlib.Core.Bool.{true, false}
use mathlib.Core.List.{List, []}
use mathlib.Core.Logic.{◌≢◌, ◌⊎◌, inl, inr}
use mathlib.Core.Path.{◌≡◌, refl, sym, ap, ◌∙◌, subst}
use native.Mathlib.Decide.{ℕ_discrete}
use native.Mathlib.Omega.{arith}
use borrow.Author.Tests.{ne_eqb, ltb-false}
use lib.ListN.{length}
use lib.IntN.{ℤ}
use Rattle.arith.specs.Table.{fill, tabulate}
use Rattle.arith.proofs.Flags.{split, clash}
use Rattle.geometry.specs.declared.Position.{Position}
use Rattle.mesh.specs.declared.Mesh.{Mesh}
use Rattle.mesh.specs.Tables.{Tables, point_capacity}
use Rattle.mesh.specs.Check.{is_mesh}
use Rattle.mesh.specs.Refusal.{mesh_refusal}
use Rattle.mesh.proofs.Valid.{passed}
use Rattle.cavity.specs.Answers.{Answers, sphere, handed}
use Rattle.insertion.specs.Inserted.{Inserted}
use Rattle.insertion.specs.Listed.{Listed}
use Rattle.insertion.specs.Insertion.{Result, node_refusal, fewer_bytes, insert_refusal, inserted_mesh, inserted_tables, insert_unless, insert_call}
use Rattle.insertion.specs.Look.{look_refusal, look_call, marked_refusal, marked_call}
use Rattle.insertion.specs.List.{listed_node, listed_count, insert_from, list_call}
use Rattle.insertion.proofs.Refusals.{tests_passed, marked_passed, node_accepted, node_refused}
use Rattle.insertion.proofs.Growing.{checks_again, same_point_capacity}
use Rattle.insertion.proofs.Looking.{unless_stays}
use Rattle.insertion.proofs.Steps.{list_begins, list_refused, node_in as plain_in, node_out as plain_out}
use Rattle.calls.specs.Calls.{by_sphere, by_answers, by_marks, by_list, look, record_after, record_after_list, accepted_node, accepted_nodes, Call as MeshCall, Outcome as MeshOutcome, insert_outcome as plain_insert, list_outcome as plain_list, look_outcome as plain_look, outcome as plain_outcome}
use Rattle.corrections.specs.Corrections.{out_of_range, too_short}
use Rattle.corrections.specs.Calls.{Left, with_length, with_range, with_table, with_node, left_unless, insert_with, marked_with, look_with, insert_from_with, list_with}
use Rattle.corrections.proofs.Refusals.{range_in, range_passed, length_long, length_short, length_passed, left_accepted, left_refused}
use Rattle.corrections.proofs.Keeping.{node_length, in_range_after}
use Rattle.corrections.proofs.Listing.{node_in, node_out}
use Rattle.corrected_calls.specs.Calls.{Build, bare, Outcome, insert_outcome, list_outcome, look_outcome, mesh_outcome}

-- ---- refusals

-- a table that refuses no call
pub record Standing (m : Mesh) (t : Tables) (cs : List ℤ) : Type 0 where
  pub long : too_short t cs ≡ false
  pub range : out_of_range m.points cs ≡ false

module _ (m : Mesh) (t : Tables) (cs : List ℤ) where
  -- or one that refuses every call
  pub standing? : Standing m t cs ⊎ ((r : ℕ) → with_table m t cs r ≢ 0)
  standing? = go (split (too_short t cs)) (split (out_of_range m.points cs))
    where
      go : (too_short t cs ≡ true) ⊎ (too_short t cs ≡ false) → (out_of_range m.points cs ≡ true) ⊎ (out_of_range m.points cs ≡ false) →
          Standing m t cs ⊎ ((r : ℕ) → with_table m t cs r ≢ 0)
      go (inl s) o = inr (λ r z. omega (arith, z, length_short t cs (with_range m.points cs r) s))
      go (inr s) (inl o) = inr (λ r z. clash o (range_passed m.points cs (length_passed t cs _ z).1).0)
      go (inr s) (inr o) = inl record { long = s; range = o }

  pub stands : Standing m t cs → (r : ℕ) → with_table m t cs r ≡ r
  stands S r = length_long t cs _ S.long ∙ range_in m.points cs S.range

  -- nothing is refused: the table stands, and the call without it refuses nothing
  pub stood : (r : ℕ) → with_table m t cs r ≡ 0 → Standing m t cs × (r ≡ 0)
  stood r z = let l = length_passed t cs _ z in let h = range_passed m.points cs l.1 in (record { long = l.0; range = h.0 }, h.1)

  pub lent : Standing m t cs → 3 * point_capacity t ≤ length cs
  unfolding too_short
  lent S = ltb-false (length cs) (3 * point_capacity t) S.long

-- ---- outcomes

-- the same mesh is left, and the same nodes are accepted
pub record Same (o : Outcome) (o' : MeshOutcome) : Type 0 where
  pub after : bare o.after ≡ o'.after
  pub accepted : o.accepted ≡ o'.accepted

-- nothing is left but what was there, and no node is accepted
pub record Nothing (b : Build) (o : Outcome) : Type 0 where
  pub after : o.after ≡ b
  pub accepted : o.accepted ≡ []

abbrev pub built : Mesh → Tables → List ℤ → Build
built m t cs = record { mesh = m; tables = t; corrections = cs }

-- every number of a point of the mesh is in range
abbrev pub InRange : Build → Type 0
InRange b = out_of_range b.mesh.points b.corrections ≡ false

-- an insertion that the tests without a table refuse with r
module _ (m : Mesh) (t : Tables) (cs : List ℤ) (p : Position) (a : Answers) (r : ℕ) where
  abbrev left : Left Inserted
  left = left_unless (with_table m t cs r) m t cs p a

  insert_same : Standing m t cs → Same (insert_outcome m p left) (plain_insert m p (insert_unless r m t p a))
  unfolding insert_outcome plain_insert left_unless
  insert_same S = let q = stands m t cs S r in record { after = rw q; accepted = rw q }

  insert_nothing : with_table m t cs r ≢ 0 → Nothing (built m t cs) (insert_outcome m p left)
  unfolding insert_outcome record_after accepted_node
  insert_nothing d = let q = left_refused m t cs p a refl d in record { after = rw q; accepted = rw q }

  insert_range : (w : ℕ) → (r ≡ 0 → insert_refusal m t w p a ≡ 0) → InRange (built m t cs) → InRange (insert_outcome m p left).after
  insert_range w fits e = go (ℕ_discrete (with_table m t cs r) 0)
    where
      go : Dec (with_table m t cs r ≡ 0) → InRange (insert_outcome m p left).after
      go (no d) = subst InRange (sym (insert_nothing d).after) e
      go (yes z) =
          let s = stood m t cs r z in
          let h = tests_passed m t w p a (fits s.1) in
          let k = in_range_after m t cs w p a (passed m t w (fewer_bytes a m.used) h.0) h.1 (lent m t cs s.0) e in
          unfold insert_outcome record_after inserted_mesh in rw (left_accepted m t cs p a z) k

-- ---- lists

-- what a list over a table leaves, beside what it leaves without one; m₀ is the record that the call was given
pub record ListSame (m₀ : Mesh) (l : Left Listed) (l' : Result Listed) : Type 0 where
  pub answer : l.answer ≡ l'.answer
  pub tables : l.tables ≡ l'.tables
  pub range : out_of_range (record_after_list m₀ l.answer).points l.corrections ≡ false

module _ (m₀ : Mesh) (w : ℕ) (ns : List ℕ) where
  nodes_same : (k i : ℕ) (m : Mesh) (t : Tables) (cs : List ℤ) → is_mesh m t w ≡ true → out_of_range m.points cs ≡ false → 3 * point_capacity t ≤ length cs →
      ListSame m₀ (insert_from_with k i m t cs w ns) (insert_from k i m t w ns)
  nodes_same zero i m t cs M e l = unfold insert_from_with insert_from record_after_list in record { answer = refl; tables = refl; range = e }
  nodes_same (suc k) i m t cs M e l =
      go (nodes_same k (suc i) (inserted_mesh m t p sphere) (inserted_tables m t p sphere) (with_node m t cs p)) (ℕ_discrete (node_refusal m t w p sphere) 0)
    where
      p : Position
      p = listed_node ns i

      is : with_range m.points cs (node_refusal m t w p sphere) ≡ node_refusal m t w p sphere
      is = range_in m.points cs e

      go : (is_mesh (inserted_mesh m t p sphere) (inserted_tables m t p sphere) w ≡ true → out_of_range (inserted_mesh m t p sphere).points (with_node m t cs p) ≡ false →
          3 * point_capacity (inserted_tables m t p sphere) ≤ length (with_node m t cs p) →
          ListSame m₀ (insert_from_with k (suc i) (inserted_mesh m t p sphere) (inserted_tables m t p sphere) (with_node m t cs p) w ns) (insert_from k (suc i) (inserted_mesh m t p sphere) (inserted_tables m t p sphere) w ns)) →
          Dec (node_refusal m t w p sphere ≡ 0) → ListSame m₀ (insert_from_with (suc k) i m t cs w ns) (insert_from (suc k) i m t w ns)
      go rest (yes z) =
          rw (node_in m t cs w ns i k (left_accepted m t cs p sphere (is ∙ z)), plain_in m t w ns i k (node_accepted m t w p sphere z))
          (rest (checks_again m t w p sphere M z) (unfold inserted_mesh in in_range_after m t cs w p sphere M z l e)
          (omega (arith, l, same_point_capacity m t p sphere, node_length m t cs p)))
      go rest (no d) =
          rw (node_out m t cs w ns i k (left_refused m t cs p sphere is d), plain_out m t w ns i k (node_refused m t w p sphere refl d))
          (unfold record_after_list in record { answer = refl; tables = refl; range = e })

module _ (m : Mesh) (t : Tables) (cs : List ℤ) (w : ℕ) (ns : List ℕ) where
  pub list_same : Standing m t cs → ListSame m (list_with m t cs w ns) (list_call m t w ns)
  list_same S = go (ℕ_discrete (mesh_refusal m t w false) 0)
    where
      q : with_length t cs (mesh_refusal m t w false) ≡ mesh_refusal m t w false
      q = length_long t cs _ S.long

      go : Dec (mesh_refusal m t w false ≡ 0) → ListSame m (list_with m t cs w ns) (list_call m t w ns)
      go (yes z) =
          rw (list_begins m t w ns z) (unfold list_with in rw (q, z) (nodes_same m w ns (listed_count ns) 0 m t cs (passed m t w false z) S.range (lent m t cs S)))
      go (no d) =
          rw (list_refused m t w ns refl d) (unfold list_with record_after_list in rw (q, ne_eqb (mesh_refusal m t w false) 0 d) record { answer = refl; tables = refl; range = S.range })

  pub list_stays : ((r : ℕ) → with_table m t cs r ≢ 0) → Nothing (built m t cs) (list_outcome m ns (list_with m t cs w ns))
  list_stays none = go (ℕ_discrete (with_length t cs (mesh_refusal m t w false)) 0)
    where
      -- the first node, where the table is long enough and the tests before its own let the list pass
      first : (k : ℕ) → listed_count ns ≡ k → too_short t cs ≡ false → Nothing (built m t cs) (list_outcome m ns (insert_from_with k 0 m t cs w ns))
      first zero e s =
          unfold insert_from_with list_outcome record_after_list accepted_nodes in record { after = refl; accepted = unfold tabulate fill in rw e }
      first (suc k) e s =
          let r = node_refusal m t w (listed_node ns 0) sphere in
          let d : with_range m.points cs r ≢ 0 = λ z. none r (length_long t cs _ s ∙ z) in
          rw (node_out m t cs w ns 0 k (left_refused m t cs (listed_node ns 0) sphere refl d))
          (unfold list_outcome record_after_list accepted_nodes tabulate fill in record { after = refl; accepted = refl })

      go : Dec (with_length t cs (mesh_refusal m t w false) ≡ 0) → Nothing (built m t cs) (list_outcome m ns (list_with m t cs w ns))
      go (yes z) = unfold list_with in rw z (first (listed_count ns) refl (length_passed t cs _ z).0)
      go (no d) =
          unfold list_with list_outcome record_after_list accepted_nodes in rw (ne_eqb (with_length t cs (mesh_refusal m t w false)) 0 d) record { after = refl; accepted = refl }

-- ---- a call

module _ (m : Mesh) (t : Tables) (cs : List ℤ) where
  pub call_same : Standing m t cs → (c : MeshCall) → Same (mesh_outcome m t cs c) (plain_outcome record { mesh = m; tables = t } c)
  call_same S (by_sphere w p) = unfold mesh_outcome plain_outcome insert_with insert_call in insert_same m t cs p sphere (insert_refusal m t w p sphere) S
  call_same S (by_answers w bytes p) = unfold mesh_outcome plain_outcome insert_with insert_call in insert_same m t cs p (handed bytes) (insert_refusal m t w p (handed bytes)) S
  call_same S (by_marks w marks p) =
      unfold mesh_outcome plain_outcome marked_with marked_call in insert_same m t cs p sphere (marked_refusal (insert_refusal m t w p sphere) m t p sphere marks) S
  call_same S (by_list w ns) =
      let L = list_same m t cs w ns S in
      unfold mesh_outcome plain_outcome list_outcome plain_list in
      record { after = λ i. record { mesh = record_after_list m (L.answer i); tables = L.tables i }; accepted = ap (accepted_nodes ns) L.answer }
  call_same S (look w marks p) =
      let q = stands m t cs S (look_refusal (insert_refusal m t w p sphere) m marks) in
      unfold mesh_outcome plain_outcome look_outcome plain_look look_with look_call in record { after = rw q; accepted = refl }

  pub call_nothing : ((r : ℕ) → with_table m t cs r ≢ 0) → (c : MeshCall) → Nothing (built m t cs) (mesh_outcome m t cs c)
  call_nothing none (by_sphere w p) = unfold mesh_outcome insert_with in insert_nothing m t cs p sphere (insert_refusal m t w p sphere) (none _)
  call_nothing none (by_answers w bytes p) = unfold mesh_outcome insert_with in insert_nothing m t cs p (handed bytes) (insert_refusal m t w p (handed bytes)) (none _)
  call_nothing none (by_marks w marks p) =
      unfold mesh_outcome marked_with in insert_nothing m t cs p sphere (marked_refusal (insert_refusal m t w p sphere) m t p sphere marks) (none _)
  call_nothing none (by_list w ns) = unfold mesh_outcome in list_stays m t cs w ns none
  call_nothing none (look w marks p) =
      unfold mesh_outcome look_outcome look_with in
      record { after = ap (λ u. built m u cs) (unless_stays (with_table m t cs (look_refusal (insert_refusal m t w p sphere) m marks)) m t p marks); accepted = refl }

  pub call_range : (c : MeshCall) → InRange (built m t cs) → InRange (mesh_outcome m t cs c).after
  call_range (by_sphere w p) e = unfold mesh_outcome insert_with in insert_range m t cs p sphere (insert_refusal m t w p sphere) w (λ z. z) e
  call_range (by_answers w bytes p) e = unfold mesh_outcome insert_with in insert_range m t cs p (handed bytes) (insert_refusal m t w p (handed bytes)) w (λ z. z) e
  call_range (by_marks w marks p) e =
      unfold mesh_outcome marked_with in
      insert_range m t cs p sphere (marked_refusal (insert_refusal m t w p sphere) m t p sphere marks) w (λ z. (marked_passed m t p sphere marks z).0) e
  call_range (by_list w ns) e = go (standing? m t cs)
    where
      go : Standing m t cs ⊎ ((r : ℕ) → with_table m t cs r ≢ 0) → InRange (mesh_outcome m t cs (by_list w ns)).after
      go (inl S) = unfold mesh_outcome list_outcome in (list_same m t cs w ns S).range
      go (inr none) = subst InRange (sym (call_nothing none (by_list w ns)).after) e
  call_range (look w marks p) e = unfold mesh_outcome look_outcome in e

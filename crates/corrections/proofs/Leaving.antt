-- The calls' contracts from what their parts leave; a call clears its work area first, and goes on with its length.
use Prim.Native.Nat.{ℕ, ◌*◌, ◌-◌, ◌≤◌, ◌<◌}
use mathlib.Core.Bool.{Bool, true, false}
use mathlib.Core.List.{List}
use mathlib.Core.Logic.{◌≢◌, ◌⊎◌, inl, inr}
use mathlib.Core.Path.{◌≡◌, sym, ap, ◌∙◌, subst}
use native.Mathlib.Decide.{ℕ_discrete}
use native.Mathlib.Omega.{arith}
use borrow.Author.Tests.{ne_eqb, ltb-false}
use lib.Dec.{ltb}
use lib.ListN.{length}
use lib.IntN.{ℤ}
use Rattle.arith.proofs.Flags.{split}
use Rattle.geometry.specs.declared.Position.{Position}
use Rattle.mesh.specs.declared.Mesh.{Mesh}
use Rattle.mesh.specs.Tables.{Tables, point_capacity, cleared}
use Rattle.mesh.specs.Check.{is_mesh}
use Rattle.mesh.specs.Refusal.{mesh_refusal}
use Rattle.mesh.proofs.Valid.{passed}
use Rattle.cavity.specs.Answers.{Answers, sphere}
use Rattle.insertion.specs.Inner.{Attempt}
use Rattle.insertion.specs.Inserted.{Refused}
use Rattle.insertion.specs.Listed.{Listed}
use Rattle.insertion.specs.Listed.{Refused as AllRefused}
use Rattle.insertion.specs.Looked.{Looked}
use Rattle.insertion.specs.Looked.{Refused as LookRefused}
use Rattle.insertion.specs.Insertion.{node_refusal, fewer_bytes, insert_refusal}
use Rattle.insertion.specs.Look.{look_refusal, look_unless, marked_refusal, begins_with, cavity_marks}
use Rattle.insertion.specs.Inner.{refusal_with, AttemptLeaves, NodeLooked}
use Rattle.insertion.proofs.Refusals.{first_three_lem, left_to_node, look_refuses, look_passes, marked_refuses, marked_passes}
use Rattle.insertion.proofs.Leaving.{enough, same_work}
use Rattle.corrections.specs.Corrections.{out_of_range, too_short}
use Rattle.corrections.specs.Calls.{Leaves, with_length, with_range, with_table, with_node, left_unless, insert_with, marked_with, look_with, LookLeft, list_with}
use Rattle.corrections.specs.Inner.{early_refusal, AttemptKeeps, NodeLookedWith, NodesKeep}
use Rattle.corrections.proofs.Refusals.{range_in, early_is, early_not_zero, length_long, first_tests, tests_pass, left_refused, left_accepted}

-- ---- a node after tests 1 to 3

module _ (asked : Bool) (marks : List ℕ) (m : Mesh) (t : Tables) (cs : List ℤ) (w : ℕ) (p : Position) (a : Answers) where
  abbrev rest : ℕ
  rest = refusal_with asked marks m t w p a

  -- over a table in range it is the insertion's own, with the new point's numbers
  pub kept : {r : Attempt} {t' : Tables} {cs' : List ℤ} → out_of_range m.points cs ≡ false → AttemptLeaves asked marks m t w p a r t' →
      (r.refusal ≡ 0 → cs' ≡ with_node m t cs p) → (r.refusal ≢ 0 → cs' ≡ cs) → AttemptKeeps asked marks m t cs w p a r t' cs'
  unfolding left_unless
  kept {r} {t'} {cs'} e L new old =
      let q : with_range m.points cs rest ≡ rest = range_in m.points cs e in
      record { refusal = L.refusal ∙ sym q; answer = rw q L.answer; tables = rw q L.tables; corrections = rw q (go (ℕ_discrete r.refusal 0)) }
    where
      go : Dec (r.refusal ≡ 0) → cs' ≡ (left_unless rest m t cs p a).corrections
      go (yes z) = new z ∙ sym (ap (λ l. l.corrections) (left_accepted m t cs p a (sym L.refusal ∙ z)))
      go (no d) = old d ∙ sym (ap (λ l. l.corrections) (left_refused m t cs p a (sym L.refusal) d))

  same : (j : ℕ) → node_refusal m t w p a ≡ j → j ≢ 0 → rest ≡ j
  same j e d = go asked
    where
      go : (asked : Bool) → refusal_with asked marks m t w p a ≡ j
      go false = e
      go true = marked_refuses m t p a marks e d

  none : node_refusal m t w p a ≡ 0 → (rest ≡ 0) ⊎ (5 < rest)
  none z = go asked
    where
      go : (asked : Bool) → (refusal_with asked marks m t w p a ≡ 0) ⊎ (5 < refusal_with asked marks m t w p a)
      go false = inl z
      go true = bytes (split (begins_with (cavity_marks m t p a) marks))
        where
          bytes : (begins_with (cavity_marks m t p a) marks ≡ true) ⊎ (begins_with (cavity_marks m t p a) marks ≡ false) →
              (refusal_with true marks m t w p a ≡ 0) ⊎ (5 < refusal_with true marks m t w p a)
          bytes (inl b) = inl (marked_passes m t p a marks z ∙ rw b)
          bytes (inr b) = let e : refusal_with true marks m t w p a ≡ 14 = marked_passes m t p a marks z ∙ rw b in inr (omega (arith, e))

  -- over a table out of range it is refused by 4, 5 or 12
  pub refused_wrong : {e : ℕ} → out_of_range m.points cs ≡ true → e ≡ early_refusal m t p → AttemptKeeps asked marks m t cs w p a record { refusal = e; inserted = Refused e } t cs
  refused_wrong {e} wrong f =
      let q : with_range m.points cs rest ≡ e = early_is m t w p a cs wrong same none ∙ sym f in
      let l = left_refused m t cs p a q (λ z. early_not_zero m t w p a cs wrong (sym f ∙ z)) in
      record { refusal = sym q; answer = sym (ap (λ l. l.answer) l); tables = sym (ap (λ l. l.tables) l); corrections = sym (ap (λ l. l.corrections) l) }

-- ---- the calls

-- what tests 1 to 3 leave
module _ (m : Mesh) (t : Tables) (cs : List ℤ) (w : ℕ) (fewer : Bool) {k : ℕ} (e : k ≡ with_length t cs (mesh_refusal m t w fewer)) (z : k ≡ 0) where
  pub mesh_at : is_mesh m t w ≡ true
  mesh_at = passed m t w fewer (tests_pass m t cs w fewer e z).1

  pub fewer_at : fewer ≡ false
  fewer_at = enough m t w fewer (tests_pass m t cs w fewer e z).1

  pub long_at : 3 * point_capacity t ≤ length cs
  unfolding too_short
  long_at = ltb-false (length cs) (3 * point_capacity t) (tests_pass m t cs w fewer e z).0

  -- the table's length is no refusal any more
  lent : (r : ℕ) → with_table m t cs r ≡ with_range m.points cs r
  lent r = length_long t cs (with_range m.points cs r) (tests_pass m t cs w fewer e z).0

module _ (m : Mesh) (t : Tables) (cs : List ℤ) (ws : List ℕ) {ws' : List ℕ} (c : ws' ≡ cleared ws) (fewer : Bool) {k : ℕ}
    (e : k ≡ with_length t cs (mesh_refusal m t (length ws') fewer)) where
  tested : k ≡ with_length t cs (mesh_refusal m t (length ws) fewer)
  tested = e ∙ ap (λ w. with_length t cs (mesh_refusal m t w fewer)) (same_work ws c)

  left : (p : Position) (a : Answers) (r : ℕ) → with_table m t cs r ≡ k → k ≢ 0 → Leaves (left_unless (with_table m t cs r) m t cs p a) ws (Refused k) t cs ws'
  left p a r f d =
      let l = left_refused m t cs p a f d in
      record { answer = sym (ap (λ l. l.answer) l); tables = sym (ap (λ l. l.tables) l); corrections = sym (ap (λ l. l.corrections) l); work = c }

  -- r is the call's refusal without the table's
  attempted : (asked : Bool) (marks : List ℕ) (p : Position) (a : Answers) {r : ℕ} → k ≡ 0 → r ≡ refusal_with asked marks m t (length ws) p a → {g : Attempt} {t' : Tables} {cs' : List ℤ} →
      AttemptKeeps asked marks m t cs (length ws') p a g t' cs' → Leaves (left_unless (with_table m t cs r) m t cs p a) ws g.inserted t' cs' ws'
  attempted asked marks p a {r} z f {g} {t'} {cs'} L =
      let N = subst (λ w. AttemptKeeps asked marks m t cs w p a g t' cs') (same_work ws c) L in
      let q : with_table m t cs r ≡ with_range m.points cs (refusal_with asked marks m t (length ws) p a) = lent m t cs (length ws') fewer e z r ∙ ap (with_range m.points cs) f in
      record { answer = rw q N.answer; tables = rw q N.tables; corrections = rw q N.corrections; work = c }

module _ (m : Mesh) (t : Tables) (cs : List ℤ) (ws : List ℕ) {ws' : List ℕ} (c : ws' ≡ cleared ws) (p : Position) where
  module _ (a : Answers) {k : ℕ} (e : k ≡ with_length t cs (mesh_refusal m t (length ws') (fewer_bytes a m.used))) where
    own_tested : k ≡ with_length t cs (mesh_refusal m t (length ws) (fewer_bytes a m.used))
    own_tested = tested m t cs ws c (fewer_bytes a m.used) e

    pub insert_refused : k ≢ 0 → Leaves (insert_with m t cs (length ws) p a) ws (Refused k) t cs ws'
    unfolding insert_with
    insert_refused d =
        left m t cs ws c (fewer_bytes a m.used) e p a _
        (first_tests m t cs (length ws) (fewer_bytes a m.used) own_tested d (λ j q n. first_three_lem m t (length ws) p a q n)) d

    pub insert_kept : {marks : List ℕ} → k ≡ 0 → {g : Attempt} {t' : Tables} {cs' : List ℤ} → AttemptKeeps false marks m t cs (length ws') p a g t' cs' →
        Leaves (insert_with m t cs (length ws) p a) ws g.inserted t' cs' ws'
    unfolding insert_with
    insert_kept {marks} z L =
        attempted m t cs ws c (fewer_bytes a m.used) e false marks p a z
        (left_to_node m t (length ws) p a (tests_pass m t cs (length ws) (fewer_bytes a m.used) own_tested z).1) L

  module _ (marks : List ℕ) {k : ℕ} (e : k ≡ with_length t cs (mesh_refusal m t (length ws') false)) where
    sphere_tested : k ≡ with_length t cs (mesh_refusal m t (length ws) false)
    sphere_tested = tested m t cs ws c false e

    -- tests 1 to 3 refuse it
    three : (j : ℕ) → mesh_refusal m t (length ws) false ≡ j → j ≢ 0 → insert_refusal m t (length ws) p sphere ≡ j
    unfolding fewer_bytes
    three j q n = first_three_lem m t (length ws) p sphere q n

    -- or let it pass
    onward : k ≡ 0 → insert_refusal m t (length ws) p sphere ≡ node_refusal m t (length ws) p sphere
    unfolding fewer_bytes
    onward z = left_to_node m t (length ws) p sphere (tests_pass m t cs (length ws) false sphere_tested z).1

    pub marked_refused : k ≢ 0 → Leaves (marked_with m t cs (length ws) p marks) ws (Refused k) t cs ws'
    unfolding marked_with
    marked_refused d = left m t cs ws c false e p sphere _ (first_tests m t cs (length ws) false sphere_tested d (λ j q n. marked_refuses m t p sphere marks (three j q n) n)) d

    pub marked_kept : k ≡ 0 → {h : Attempt} {t' : Tables} {cs' : List ℤ} → AttemptKeeps true marks m t cs (length ws') p sphere h t' cs' →
        Leaves (marked_with m t cs (length ws) p marks) ws h.inserted t' cs' ws'
    unfolding marked_with
    marked_kept z L = attempted m t cs ws c false e true marks p sphere z (ap (λ r. marked_refusal r m t p sphere marks) (onward z)) L

    pub look_refused : k ≢ 0 → LookLeft (look_with m t cs (length ws) p marks) ws (LookRefused k) t ws' marks
    unfolding look_with look_unless
    look_refused d =
        let q = first_tests m t cs (length ws) false sphere_tested d (λ j q n. look_refuses m marks (three j q n) n) in
        record { answer = rw (q, ne_eqb k 0 d); tables = rw (q, ne_eqb k 0 d); marks_left = rw (q, ne_eqb k 0 d); work = c }

    pub look_kept : k ≡ 0 → {r : Looked} {t' : Tables} {marks' : List ℕ} → NodeLookedWith m t cs (length ws') p marks r t' marks' →
        LookLeft (look_with m t cs (length ws) p marks) ws r t' ws' marks'
    unfolding look_with
    look_kept z {r} {t'} {marks'} L =
        let N = subst (λ w. NodeLookedWith m t cs w p marks r t' marks') (same_work ws c) L in
        let q = lent m t cs (length ws') false e z (look_refusal (insert_refusal m t (length ws) p sphere) m marks) ∙ ap (λ r. with_range m.points cs (look_refusal r m marks)) (onward z) in
        record { answer = rw q N.answer; tables = rw q N.tables; marks_left = rw q N.marks_left; work = c }

-- ---- a look after tests 1 to 3

module _ (m : Mesh) (t : Tables) (cs : List ℤ) (w : ℕ) (p : Position) (marks : List ℕ) where
  abbrev look_refusal_lem : ℕ
  look_refusal_lem = look_refusal (node_refusal m t w p sphere) m marks

  pub looked_in_range : {r : Looked} {t' : Tables} {marks' : List ℕ} → out_of_range m.points cs ≡ false → NodeLooked m t w p marks r t' marks' →
      NodeLookedWith m t cs w p marks r t' marks'
  looked_in_range e L =
      let q : with_range m.points cs look_refusal_lem ≡ look_refusal_lem = range_in m.points cs e in
      record { answer = rw q L.answer; tables = rw q L.tables; marks_left = rw q L.marks_left }

  pub looked_wrong : {e : ℕ} → out_of_range m.points cs ≡ true → e ≡ early_refusal m t p → NodeLookedWith m t cs w p marks (LookRefused e) t marks
  unfolding look_unless
  looked_wrong {e} wrong f =
      let q : with_range m.points cs look_refusal_lem ≡ e = early_is m t w p sphere cs wrong (λ j q n. look_refuses m marks q n) none ∙ sym f in
      let n = ne_eqb e 0 (λ z. early_not_zero m t w p sphere cs wrong (sym f ∙ z)) in
      record { answer = rw (q, n); tables = rw (q, n); marks_left = rw (q, n) }
    where
      none : node_refusal m t w p sphere ≡ 0 → (look_refusal_lem ≡ 0) ⊎ (5 < look_refusal_lem)
      none z = go (split (ltb (length marks) m.used))
        where
          go : (ltb (length marks) m.used ≡ true) ⊎ (ltb (length marks) m.used ≡ false) → (look_refusal_lem ≡ 0) ⊎ (5 < look_refusal_lem)
          go (inl b) = let e : look_refusal_lem ≡ 10 = look_passes m marks z ∙ rw b in inr (omega (arith, e))
          go (inr b) = inl (look_passes m marks z ∙ rw b)

-- ---- a list

module _ (m : Mesh) (t : Tables) (cs : List ℤ) (ws : List ℕ) {ws' : List ℕ} (c : ws' ≡ cleared ws) (ns : List ℕ) {k : ℕ}
    (e : k ≡ with_length t cs (mesh_refusal m t (length ws') false)) where
  list_tested : k ≡ with_length t cs (mesh_refusal m t (length ws) false)
  list_tested = tested m t cs ws c false e

  pub list_refused : k ≢ 0 → Leaves (list_with m t cs (length ws) ns) ws (AllRefused k) t cs ws'
  unfolding list_with
  list_refused d = record { answer = rw (sym list_tested, ne_eqb k 0 d); tables = rw (sym list_tested, ne_eqb k 0 d); corrections = rw (sym list_tested, ne_eqb k 0 d); work = c }

  pub list_kept : k ≡ 0 → {r : Listed} {t' : Tables} {cs' : List ℤ} → NodesKeep m t cs (length ws') ns r t' cs' → Leaves (list_with m t cs (length ws) ns) ws r t' cs' ws'
  unfolding list_with
  list_kept z {r} {t'} {cs'} L =
      let N = subst (λ w. NodesKeep m t cs w ns r t' cs') (same_work ws c) L in
      let q = sym list_tested ∙ z in
      record { answer = rw q N.answer; tables = rw q N.tables; corrections = rw q N.corrections; work = c }

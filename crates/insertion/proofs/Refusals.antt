-- Refusals from the tests that give them, and back; answers from refusals.
use Prim.Native.Nat.{ℕ, ◌+◌, ◌≤◌, ◌<◌}
use mathlib.Core.Bool.{Bool, true, false, not, cond, ◌||◌}
use mathlib.Core.List.{List}
use mathlib.Core.Logic.{◌≢◌}
use mathlib.Core.Path.{◌≡◌, refl, sym, ap, ◌∙◌}
use native.Mathlib.Decide.{ℕ_discrete}
use native.Mathlib.Omega.{arith}
use borrow.Author.Tests.{eqb-false, ne_eqb, ltb-false, not-false}
use lib.Dec.{ltb, eqb}
use lib.ListN.{length}
use Rattle.arith.specs.Table.{any_below}
use Rattle.arith.proofs.Flags.{clash}
use Rattle.arith.proofs.Tables.{Found, any_found, any_intro}
use Rattle.geometry.specs.declared.Position.{Position}
use Rattle.geometry.specs.Volume.{InBox, in_box, same_position}
use Rattle.geometry.proofs.Ranges.{box_in}
use Rattle.mesh.specs.declared.Mesh.{Mesh}
use Rattle.mesh.specs.Tables.{Tables, point_capacity, cell_capacity, point}
use Rattle.mesh.specs.Check.{legal_box, is_mesh}
use Rattle.mesh.specs.Start.{short}
use Rattle.mesh.specs.Refusal.{mesh_refusal}
use Rattle.mesh.proofs.Checked.{same_position_yes}
use Rattle.locate.specs.Locate.{holds}
use Rattle.cavity.specs.Answers.{Answers}
use Rattle.insertion.specs.declared.Report.{Report}
use Rattle.insertion.specs.Inserted.{Accepted, Refused}
use Rattle.insertion.specs.Insertion.{cells_made, node_refusal, fewer_bytes, first_of, insert_refusal, report_of, inserted_mesh, inserted_tables, insert_unless, insert_node, insert_call}
use Rattle.insertion.specs.Look.{cavity_marks, look_refusal, begins_with, marked_refusal}

-- a test of a chain of refusals that comes to 0
pub test_to_zero : {b : Bool} {k r : ℕ} → 1 ≤ k → cond b k r ≡ 0 → (b ≡ false) × (r ≡ 0)
test_to_zero {b} {k} {r} h e = go b e
  where
    go : (b : Bool) → cond b k r ≡ 0 → (b ≡ false) × (r ≡ 0)
    go true q = absurd (omega arith)
    go false q = (refl, q)

-- the numbers of a chain are bounded by each
pub chain≤ : (b : Bool) {k r n : ℕ} → k ≤ n → r ≤ n → cond b k r ≤ n
chain≤ true h l = h
chain≤ false h l = l

-- ---- the first of two refusals

pub first_refuses : {r e : ℕ} (k : ℕ) → r ≡ e → e ≢ 0 → first_of r k ≡ e
first_refuses {e = e} k q d = rw (q, ne_eqb e 0 d)

pub first_passes : {r : ℕ} (k : ℕ) → r ≡ 0 → first_of r k ≡ k
first_passes k q = rw q

pub both_pass : (r k : ℕ) → first_of r k ≡ 0 → (r ≡ 0) × (k ≡ 0)
both_pass r k e = go (ℕ_discrete r 0)
  where
    go : Dec (r ≡ 0) → (r ≡ 0) × (k ≡ 0)
    go (yes z) = (z, rw z at e)
    go (no d) = absurd (d (rw (ne_eqb r 0 d) at e))

-- of a look: r is the insertion's
module _ (m : Mesh) (marks : List ℕ) where
  abbrev short_marks : ℕ
  short_marks = cond (ltb (length marks) m.used) 10 0

  module _ {r : ℕ} where
    pub look_refuses : {e : ℕ} → r ≡ e → e ≢ 0 → look_refusal r m marks ≡ e
    unfolding look_refusal
    look_refuses q d = first_refuses short_marks q d

    pub look_passes : r ≡ 0 → look_refusal r m marks ≡ short_marks
    unfolding look_refusal
    look_passes q = first_passes short_marks q

    pub look_passed : look_refusal r m marks ≡ 0 → (r ≡ 0) × (short_marks ≡ 0)
    unfolding look_refusal
    look_passed q = both_pass r short_marks q

-- and of an insertion with marks: r is the plain one's
module _ (m : Mesh) (t : Tables) (p : Position) (a : Answers) (marks : List ℕ) where
  abbrev other_marks : ℕ
  other_marks = cond (begins_with (cavity_marks m t p a) marks) 0 14

  module _ {r : ℕ} where
    pub marked_refuses : {e : ℕ} → r ≡ e → e ≢ 0 → marked_refusal r m t p a marks ≡ e
    unfolding marked_refusal
    marked_refuses q d = first_refuses other_marks q d

    pub marked_passes : r ≡ 0 → marked_refusal r m t p a marks ≡ other_marks
    unfolding marked_refusal
    marked_passes q = first_passes other_marks q

    pub marked_passed : marked_refusal r m t p a marks ≡ 0 → (r ≡ 0) × (other_marks ≡ 0)
    unfolding marked_refusal
    marked_passed q = both_pass r other_marks q

-- ---- what a refusal or none answers and leaves

module _ (m : Mesh) (t : Tables) (p : Position) (a : Answers) {r : ℕ} where
  pub unless_accepted : r ≡ 0 →
      insert_unless r m t p a ≡ record { answer = Accepted (inserted_mesh m t p a) (report_of m t p a); tables = inserted_tables m t p a }
  unfolding insert_unless
  unless_accepted e = rw e

  pub unless_refused : {k : ℕ} → r ≡ k → k ≢ 0 → insert_unless r m t p a ≡ record { answer = Refused k; tables = t }
  unfolding insert_unless
  unless_refused {k} e d = rw (e, ne_eqb k 0 d)

  -- and back: an answer with a report
  pub accepted_unless : {m' : Mesh} {g : Report} → Accepted m' g ≡ (insert_unless r m t p a).answer →
      (r ≡ 0) × ((m' ≡ inserted_mesh m t p a) × ((insert_unless r m t p a).tables ≡ inserted_tables m t p a))
  accepted_unless {m'} {g} e = go (ℕ_discrete r 0)
    where
      go : Dec (r ≡ 0) → (r ≡ 0) × ((m' ≡ inserted_mesh m t p a) × ((insert_unless r m t p a).tables ≡ inserted_tables m t p a))
      go (yes h) =
          let q = unless_accepted h in
          let f : Accepted m' g ≡ Accepted (inserted_mesh m t p a) (report_of m t p a) = e ∙ ap (λ l. l.answer) q in
          (h, (cc, ap (λ l. l.tables) q))
      go (no h) =
          let f : Accepted m' g ≡ Refused r = e ∙ ap (λ l. l.answer) (unless_refused refl h) in
          let z : ◌≡◌ {A = ℕ} 0 1 = cc in absurd (omega arith)

  -- and one with a number
  pub refused_unless : {e : ℕ} → Refused e ≡ (insert_unless r m t p a).answer → (r ≢ 0) × (r ≡ e)
  refused_unless {e} q = go (ℕ_discrete r 0)
    where
      go : Dec (r ≡ 0) → (r ≢ 0) × (r ≡ e)
      go (yes h) =
          let f : Refused e ≡ Accepted (inserted_mesh m t p a) (report_of m t p a) = q ∙ ap (λ l. l.answer) (unless_accepted h) in
          let z : ◌≡◌ {A = ℕ} 0 1 = cc in absurd (omega arith)
      go (no h) = let f : Refused e ≡ Refused r = q ∙ ap (λ l. l.answer) (unless_refused refl h) in (h, cc)

module _ (m : Mesh) (t : Tables) (w : ℕ) (p : Position) (a : Answers) where
  abbrev inside : Bool
  inside = in_box m.x m.y m.z p

  abbrev there : ℕ → Bool
  there k = same_position (point t k) p

  abbrev some_there : Bool
  some_there = any_below m.points there

  abbrev points_full : Bool
  points_full = eqb m.points (point_capacity t)

  abbrev held : Bool
  held = any_below m.used (holds t p)

  abbrev pub cells_full : Bool
  cells_full = ltb (cell_capacity t w) (m.cells + cells_made m t p a)

  -- ---- from the tests to the number

  pub is_outside : inside ≡ false → node_refusal m t w p a ≡ 4
  unfolding node_refusal
  is_outside b = rw b

  pub is_taken : inside ≡ true → some_there ≡ true → node_refusal m t w p a ≡ 5
  unfolding node_refusal
  is_taken b s = rw (b, s)

  pub is_points_full : inside ≡ true → some_there ≡ false → points_full ≡ true → node_refusal m t w p a ≡ 6
  unfolding node_refusal
  is_points_full b s f = rw (b, s, f)

  pub is_unheld : inside ≡ true → some_there ≡ false → points_full ≡ false → held ≡ false → node_refusal m t w p a ≡ 7
  unfolding node_refusal
  is_unheld b s f h = rw (b, s, f, h)

  pub is_cells_full : inside ≡ true → some_there ≡ false → points_full ≡ false → held ≡ true → cells_full ≡ true → node_refusal m t w p a ≡ 8
  unfolding node_refusal
  is_cells_full b s f h c = rw (b, s, f, h, c)

  pub is_accepted : inside ≡ true → some_there ≡ false → points_full ≡ false → held ≡ true → cells_full ≡ false → node_refusal m t w p a ≡ 0
  unfolding node_refusal
  is_accepted b s f h c = rw (b, s, f, h, c)

  -- ---- and back

  pub record NodeFits : Type 0 where
    pub box : InBox m.x m.y m.z p
    pub free : (k : ℕ) → k < m.points → p ≢ point t k
    pub next : m.points ≢ point_capacity t
    pub holder : Found m.used (holds t p)
    pub cells : m.cells + cells_made m t p a ≤ cell_capacity t w

  pub node_fits : node_refusal m t w p a ≡ 0 → NodeFits
  unfolding node_refusal
  node_fits e =
      let t₁ = test_to_zero {b = not inside} {k = 4} (omega arith) e in
      let t₂ = test_to_zero {b = some_there} {k = 5} (omega arith) t₁.1 in
      let t₃ = test_to_zero {b = points_full} {k = 6} (omega arith) t₂.1 in
      let t₄ = test_to_zero {b = not held} {k = 7} (omega arith) t₃.1 in
      let t₅ = test_to_zero {b = cells_full} {k = 8} {r = 0} (omega arith) t₄.1 in
      record {
        box = box_in (not-false inside t₁.0);
        free = λ k l q. clash (any_intro m.points there k l (same_position_yes (point t k) p (sym q))) t₂.0;
        next = eqb-false m.points (point_capacity t) t₃.0;
        holder = any_found m.used (holds t p) (not-false held t₄.0);
        cells = ltb-false (cell_capacity t w) (m.cells + cells_made m t p a) t₅.0;
      }

  -- ---- answers from refusals

  abbrev first_three : ℕ
  first_three = mesh_refusal m t w (fewer_bytes a m.used)

  pub node_accepted : node_refusal m t w p a ≡ 0 →
      insert_node m t w p a ≡ record { answer = Accepted (inserted_mesh m t p a) (report_of m t p a); tables = inserted_tables m t p a }
  unfolding insert_node
  node_accepted e = unless_accepted m t p a e

  pub node_refused : {k : ℕ} → node_refusal m t w p a ≡ k → k ≢ 0 → insert_node m t w p a ≡ record { answer = Refused k; tables = t }
  unfolding insert_node
  node_refused e d = unless_refused m t p a e d

  pub up_to_eight : insert_refusal m t w p a ≤ 8
  unfolding insert_refusal mesh_refusal node_refusal
  up_to_eight =
      chain≤ (eqb first_three 0)
      (chain≤ (not inside) (omega arith) (chain≤ some_there (omega arith) (chain≤ points_full (omega arith) (chain≤ (not held) (omega arith) (chain≤ cells_full (omega arith) (omega arith))))))
      (chain≤ (fewer_bytes a m.used || short t w) (omega arith) (chain≤ (not (legal_box m.x m.y m.z)) (omega arith) (chain≤ (not (is_mesh m t w)) (omega arith) (omega arith))))

  -- a call that no test refuses
  pub tests_passed : insert_refusal m t w p a ≡ 0 → (first_three ≡ 0) × (node_refusal m t w p a ≡ 0)
  unfolding insert_refusal
  tests_passed e = both_pass first_three (node_refusal m t w p a) e

  -- a call that tests 1 to 3 refuse
  pub first_three_lem : {k : ℕ} → first_three ≡ k → k ≢ 0 → insert_refusal m t w p a ≡ k
  unfolding insert_refusal
  first_three_lem e d = first_refuses (node_refusal m t w p a) e d

  -- and one that they let pass
  pub left_to_node : first_three ≡ 0 → insert_refusal m t w p a ≡ node_refusal m t w p a
  unfolding insert_refusal
  left_to_node e = first_passes (node_refusal m t w p a) e

  pub call_is_node : first_three ≡ 0 → insert_call m t w p a ≡ insert_node m t w p a
  unfolding insert_call insert_node
  call_is_node e = ap (λ r. insert_unless r m t p a) (left_to_node e)

  -- an answer with a report: no test failed, and the record is the definition's
  pub accepted_node_lem : {m' : Mesh} {r : Report} → Accepted m' r ≡ (insert_node m t w p a).answer →
      (node_refusal m t w p a ≡ 0) × ((m' ≡ inserted_mesh m t p a) × ((insert_node m t w p a).tables ≡ inserted_tables m t p a))
  unfolding insert_node
  accepted_node_lem e = accepted_unless m t p a e

  -- of a call: tests 1 to 3 let it pass
  pub accepted_call : {m' : Mesh} {r : Report} → Accepted m' r ≡ (insert_call m t w p a).answer → first_three ≡ 0
  unfolding insert_call
  accepted_call e = (tests_passed (accepted_unless m t p a e).0).0

  -- an answer without one: the number is the refusal's
  pub refused_number : {e : ℕ} → Refused e ≡ (insert_node m t w p a).answer → node_refusal m t w p a ≡ e
  unfolding insert_node
  refused_number q = (refused_unless m t p a q).1

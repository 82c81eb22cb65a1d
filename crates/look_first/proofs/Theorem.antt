-- Document 02 §6: a look, then the insertion with its marks or with others.
use Prim.Native.Nat.{ℕ, ◌<◌}
use mathlib.Core.Bool.{Bool, true, false, cond, true≢false}
use mathlib.Core.List.{List, [], ◌∷◌}
use mathlib.Core.Logic.{◌≢◌, ◌⊎◌, inl, inr}
use mathlib.Core.Path.{◌≡◌, refl, sym, ap, ap₂, ◌∙◌, subst}
use native.Mathlib.Decide.{ℕ_discrete}
use native.Mathlib.Omega.{arith}
use borrow.Author.Tests.{eq-eqb, ne_eqb, eqb-true, lt-ltb, ltb-true}
use lib.Dec.{ltb, eqb}
use lib.IntN.{ℤ}
use lib.ListN.{length, get_or, take}
use lib.Seq.{take_at, get_or-take}
use Rattle.arith.proofs.Flags.{split, clash, and_left, and_right, and_intro, fails}
use Rattle.geometry.specs.declared.Position.{Position}
use Rattle.mesh.specs.declared.Mesh.{Mesh}
use Rattle.mesh.specs.Tables.{Tables, live, IsCell}
use Rattle.mesh.specs.Check.{is_mesh}
use Rattle.mesh.specs.Start.{over}
use Rattle.mesh.specs.Refusal.{mesh_refusal}
use Rattle.mesh.proofs.Valid.{valid_of, passed}
use Rattle.cavity.specs.Answers.{sphere}
use Rattle.cavity.specs.Cavity.{in_set}
use Rattle.insertion.specs.declared.Report.{Report}
use Rattle.insertion.specs.Inserted.{Inserted}
use Rattle.insertion.specs.Inserted.{Accepted, Refused}
use Rattle.insertion.specs.Looked.{Reported, Refused as LookRefused}
use Rattle.insertion.specs.Insertion.{last_cavity, node_refusal, fewer_bytes, first_of, insert_refusal, report_of, inserted_mesh, inserted_tables, insert_unless, insert_call}
use Rattle.insertion.specs.Look.{cavity_marks, look_refusal, look_unless, look_call, begins_with, marked_refusal, marked_call}
use Rattle.insertion.proofs.Refusals.{first_refuses, first_passes, look_refuses, look_passes, look_passed, marked_refuses, marked_passes, marked_passed, unless_accepted, unless_refused, accepted_unless, refused_unless, up_to_eight, node_fits, tests_passed}
use Rattle.insertion.proofs.Growing.{star_shaped}
use Rattle.insertion.proofs.Looking.{marks_length, mark_at, tables_stay}
use Rattle.located.specs.Claim.{Stands, KeepsNumber}
use Rattle.located.specs.Parked.{OutsideCavity}
use Rattle.located.proofs.Parked.{outside_keeps, stands_outside, inside_freed}
use Rattle.corrections.specs.Calls.{Leaves, with_table, left_unless, insert_with, marked_with, look_with, LookLeft}
use Rattle.corrected_calls.proofs.Plain.{Standing, stands, stood}
use Rattle.look_first.specs.Claim.{counted, AfterLook, RefusedAlike}

-- ---- bytes

-- the first bytes are all of expected, or they are not
begins_taken : (expected bytes : List ℕ) → take (length expected) bytes ≡ expected → begins_with expected bytes ≡ true
unfolding begins_with
begins_taken [] bytes e = refl
begins_taken (x ∷ expected) [] e = absurd (omega (arith, ap length e))
begins_taken (x ∷ expected) (b ∷ bytes) e =
    let h : b ≡ x = cc in
    let t : take (length expected) bytes ≡ expected = cc in
    and_intro (eq-eqb b x h) (begins_taken expected bytes t)

taken_begins : (expected bytes : List ℕ) → begins_with expected bytes ≡ true → take (length expected) bytes ≡ expected
unfolding begins_with
taken_begins [] bytes e = refl
taken_begins (x ∷ expected) [] e = absurd (true≢false (sym e))
taken_begins (x ∷ expected) (b ∷ bytes) e =
    ap₂ (λ (h : ℕ) t. h ∷ t) (eqb-true b x (and_left (eqb b x) (begins_with expected bytes) e)) (taken_begins expected bytes (and_right (eqb b x) (begins_with expected bytes) e))

-- ---- refusals

-- a test that answers nothing leaves the one before
then_none : (r : ℕ) → first_of r 0 ≡ r
then_none r = go (ℕ_discrete r 0)
  where
    go : Dec (r ≡ 0) → first_of r 0 ≡ r
    go (yes z) = first_passes 0 z ∙ sym z
    go (no d) = first_refuses 0 refl d

module _ (m : Mesh) (t : Tables) (w : ℕ) (p : Position) where
  abbrev R : ℕ
  R = insert_refusal m t w p sphere

  insert_accepted : R ≡ 0 → insert_call m t w p sphere ≡ record { answer = Accepted (inserted_mesh m t p sphere) (report_of m t p sphere); tables = inserted_tables m t p sphere }
  unfolding insert_call
  insert_accepted z = unless_accepted m t p sphere z

  -- the number of a refusal
  refused_number : (e : ℕ) → (insert_call m t w p sphere).answer ≡ Refused e → (R ≢ 0) × (R ≡ e)
  unfolding insert_call
  refused_number e q = refused_unless m t p sphere (sym q)

  never_refused : R ≡ 0 → (e : ℕ) → (insert_call m t w p sphere).answer ≢ Refused e
  never_refused z e q = (refused_number e q).0 z

  insert_refused : R ≢ 0 → insert_call m t w p sphere ≡ record { answer = Refused R; tables = t }
  unfolding insert_call
  insert_refused d = unless_refused m t p sphere refl d

  module _ (marks : List ℕ) where
    abbrev L : ℕ
    L = look_refusal R m marks

    look_accepted : L ≡ 0 → look_call m t w p marks ≡ record { answer = Reported (report_of m t p sphere); tables = t; marks = over (cavity_marks m t p sphere) marks }
    unfolding look_call look_unless
    look_accepted z = rw z

    look_refused : L ≢ 0 → look_call m t w p marks ≡ record { answer = LookRefused L; tables = t; marks = marks }
    unfolding look_call look_unless
    look_refused d = rw (ne_eqb L 0 d)

    reported : (r : Report) → (look_call m t w p marks).answer ≡ Reported r → (L ≡ 0) × (report_of m t p sphere ≡ r)
    reported r q = go (ℕ_discrete L 0)
      where
        go : Dec (L ≡ 0) → (L ≡ 0) × (report_of m t p sphere ≡ r)
        go (yes z) = let f : Reported (report_of m t p sphere) ≡ Reported r = sym (ap (λ l. l.answer) (look_accepted z)) ∙ q in (z, cc)
        go (no d) =
            let f : LookRefused L ≡ Reported r = sym (ap (λ l. l.answer) (look_refused d)) ∙ q in
            let o : ◌≡◌ {A = ℕ} 0 1 = cc in absurd (omega arith)

    look_number : (e : ℕ) → (look_call m t w p marks).answer ≡ LookRefused e → (L ≢ 0) × (L ≡ e)
    look_number e q = go (ℕ_discrete L 0)
      where
        go : Dec (L ≡ 0) → (L ≢ 0) × (L ≡ e)
        go (yes z) =
            let f : Reported (report_of m t p sphere) ≡ LookRefused e = sym (ap (λ l. l.answer) (look_accepted z)) ∙ q in
            let o : ◌≡◌ {A = ℕ} 0 1 = cc in absurd (omega arith)
        go (no d) = let f : LookRefused L ≡ LookRefused e = sym (ap (λ l. l.answer) (look_refused d)) ∙ q in (d, cc)

    -- the look's number, by the insertion's
    where_refused : R ≢ 0 → L ≡ R
    where_refused d = look_refuses m marks refl d

    where_accepted : R ≡ 0 → L ≡ cond (ltb (length marks) m.used) 10 0
    where_accepted z = look_passes m marks z

    refused_alike : RefusedAlike m t w p marks
    unfolding marked_call insert_call
    refused_alike = record {
      look_too = λ e q. let h = refused_number e q in
          let z = where_refused h.0 in
          ap (λ l. l.answer) (look_refused (subst (λ k. k ≢ 0) (sym z) h.0)) ∙ ap LookRefused (z ∙ h.1);
      insertion_too = insertion_too;
      ten = λ q. ten (look_number 10 q).1;
      too_few = λ h r q. few h (reported r q).0;
      marks_stay = λ e q. ap (λ l. l.marks) (look_refused (look_number e q).0);
      marked_too = λ e q. let h = refused_number e q in ap (λ r. insert_unless r m t p sphere) (marked_refuses m t p sphere marks refl h.0);
    }
      where
        few : length marks < m.used → L ≡ 0 → ⊥
        few h z = omega (arith, rw (lt-ltb (length marks) m.used h) at (look_passed m marks z).1)

        by_marks : (b : Bool) → b ≡ ltb (length marks) m.used → (e : ℕ) → cond {A = ℕ} b 10 0 ≢ 0 → cond b 10 0 ≡ e → (e ≡ 10) × (length marks < m.used)
        by_marks true f e d q = (sym q, ltb-true (length marks) m.used (sym f))
        by_marks false f e d q = absurd (d refl)

        insertion_too : (e : ℕ) → (look_call m t w p marks).answer ≡ LookRefused e → e ≢ 10 → (insert_call m t w p sphere).answer ≡ Refused e
        insertion_too e q d = go (ℕ_discrete R 0) (look_number e q)
          where
            go : Dec (R ≡ 0) → (L ≢ 0) × (L ≡ e) → (insert_call m t w p sphere).answer ≡ Refused e
            go (no r) h = ap (λ l. l.answer) (insert_refused r) ∙ ap Refused (sym (where_refused r) ∙ h.1)
            go (yes z) h =
                let k = where_accepted z in
                absurd (d (by_marks (ltb (length marks) m.used) refl e (subst (λ x. x ≢ 0) k h.0) (sym k ∙ h.1)).0)

        ten : L ≡ 10 → (length marks < m.used) × ((e : ℕ) → (insert_call m t w p sphere).answer ≢ Refused e)
        ten q = go (ℕ_discrete R 0)
          where
            go : Dec (R ≡ 0) → (length marks < m.used) × ((e : ℕ) → (insert_call m t w p sphere).answer ≢ Refused e)
            go (no r) = absurd (omega (arith, up_to_eight m t w p sphere, where_refused r, q))
            go (yes z) =
                let k = where_accepted z in
                ((by_marks (ltb (length marks) m.used) refl 10 (λ f. omega (arith, f, k, q)) (sym k ∙ q)).1, never_refused z)

-- ---- a look that answers a report

marks_long : (m : Mesh) (t : Tables) (p : Position) → length (cavity_marks m t p sphere) ≡ m.used
unfolding cavity_marks
marks_long m t p = marks_length m.used (in_set (last_cavity m t p sphere))

module _ (m : Mesh) (t : Tables) (w : ℕ) (p : Position) (seen : List ℕ) where
  abbrev expected : List ℕ
  expected = cavity_marks m t p sphere

  -- marks that are those of a look, and others
  same_marks : (marks : List ℕ) → counted m marks ≡ expected → (v : ℕ) → marked_call m t v p marks ≡ insert_call m t v p sphere
  unfolding marked_call marked_refusal insert_call
  same_marks marks e v =
      let b = begins_taken expected marks (ap (λ n. take n marks) (marks_long m t p) ∙ e) in
      ap (λ r. insert_unless r m t p sphere) (rw b (then_none (insert_refusal m t v p sphere)))

  other_marks_lem : insert_refusal m t w p sphere ≡ 0 → (marks : List ℕ) → counted m marks ≢ expected → marked_call m t w p marks ≡ record { answer = Refused 14; tables = t }
  unfolding marked_call
  other_marks_lem z marks d =
      let b = fails (begins_with expected marks) (λ b. d (sym (ap (λ n. take n marks) (marks_long m t p)) ∙ taken_begins expected marks b)) in
      unless_refused m t p sphere (marked_passes m t p sphere marks z ∙ rw b) (λ o. omega arith)

  module _ (z : insert_refusal m t w p sphere ≡ 0) (e : counted m seen ≡ expected) where
    mark_is : (c : ℕ) → c < m.used → get_or seen c 0 ≡ cond (in_set (last_cavity m t p sphere) c) 1 0
    unfolding cavity_marks
    mark_is c h = sym (get_or-take m.used seen c 0 h) ∙ (ap (λ l. get_or l c 0) e ∙ mark_at m.used (in_set (last_cavity m t p sphere)) c h)

    -- 1 or 0, and which of them says whether the cell is replaced
    marked : (c : ℕ) → c < m.used → (get_or seen c 0 ≡ 1) ⊎ (get_or seen c 0 ≡ 0)
    marked c h = go (in_set (last_cavity m t p sphere) c) (mark_is c h)
      where
        go : (b : Bool) → get_or seen c 0 ≡ cond b 1 0 → (get_or seen c 0 ≡ 1) ⊎ (get_or seen c 0 ≡ 0)
        go true q = inl q
        go false q = inr q

    outside_where : (c : ℕ) → c < m.used → get_or seen c 0 ≡ 0 → OutsideCavity m t p sphere c
    outside_where c h o = fails (in_set (last_cavity m t p sphere) c) (λ b. omega (arith, o, rw b at (mark_is c h)))

    inside_where : (c : ℕ) → c < m.used → get_or seen c 0 ≡ 1 → in_set (last_cavity m t p sphere) c ≡ true
    inside_where c h o = go (split (in_set (last_cavity m t p sphere) c))
      where
        go : (in_set (last_cavity m t p sphere) c ≡ true) ⊎ (in_set (last_cavity m t p sphere) c ≡ false) → in_set (last_cavity m t p sphere) c ≡ true
        go (inl b) = b
        go (inr b) = absurd (omega (arith, o, rw b at (mark_is c h)))

    passes : (mesh_refusal m t w (fewer_bytes sphere m.used) ≡ 0) × (node_refusal m t w p sphere ≡ 0)
    passes = tests_passed m t w p sphere z

    a_mesh : is_mesh m t w ≡ true
    a_mesh = passed m t w (fewer_bytes sphere m.used) passes.0

    -- what is marked 1 is a cell
    inside_cell : (c : ℕ) → in_set (last_cavity m t p sphere) c ≡ true → IsCell t m.used c
    inside_cell = (star_shaped m t w w p sphere (valid_of m t w a_mesh) (node_fits m t w p sphere passes.1) (omega arith)).cells

    tables_are : (insert_call m t w p sphere).tables ≡ inserted_tables m t p sphere
    tables_are = ap (λ l. l.tables) (insert_accepted m t w p z)

    after_look : AfterLook m t w p (report_of m t p sphere) seen
    after_look = record {
      mesh = inserted_mesh m t p sphere;
      goes_in = ap (λ l. l.answer) (same_marks seen e w ∙ insert_accepted m t w p z);
      same_marks = λ marks q. same_marks marks (q ∙ e);
      other_marks = λ marks d. other_marks_lem z marks (λ q. d (q ∙ sym e));
      replaced = λ c h o S.
          let b = inside_where c h o in
          clash b (stands_outside m t w p sphere a_mesh passes.1 c (inside_cell c b) (subst (λ x. Stands t c x (inserted_mesh m t p sphere).used) tables_are S));
      number_freed = λ c h o. ap (λ x. live x c) tables_are ∙ inside_freed m t w p sphere a_mesh passes.1 c (inside_where c h o);
      kept = λ c h o.
          subst (λ x. KeepsNumber t c x (inserted_mesh m t p sphere).used) (sym tables_are)
          (outside_keeps m t w p sphere a_mesh passes.1 c h (outside_where c h.below o));
      freed = λ c h a. mark_is c h ∙ rw (fails (in_set (last_cavity m t p sphere) c) (λ b. clash (inside_cell c b).lives a));
      marked = marked;
    }

-- DOCUMENT 02 §6: for all records, tables, work areas, nodes and marks. Where a look answers a report:
pub look_first : (m : Mesh) (t : Tables) (w : ℕ) (p : Position) (marks : List ℕ) (r : Report) → (look_call m t w p marks).answer ≡ Reported r →
    AfterLook m t w p r (look_call m t w p marks).marks
look_first m t w p marks r q =
    let h = reported m t w p marks r q in
    let z = (look_passed m marks h.0).0 in
    let e : counted m (look_call m t w p marks).marks ≡ cavity_marks m t p sphere =
    ap (λ l. take m.used l.marks) (look_accepted m t w p marks h.0) ∙ take_at (cavity_marks m t p sphere) _ m.used (marks_long m t p) in
    subst (λ r. AfterLook m t w p r (look_call m t w p marks).marks) h.1 (after_look m t w p (look_call m t w p marks).marks z e)

-- and where it is refused
pub refused_as_insertion : (m : Mesh) (t : Tables) (w : ℕ) (p : Position) (marks : List ℕ) → RefusedAlike m t w p marks
refused_as_insertion m t w p marks = refused_alike m t w p marks

-- a look over a table of corrections that answers a report: the table refuses nothing
look_stands : (m : Mesh) (t : Tables) (cs : List ℤ) (w : ℕ) (p : Position) (marks : List ℕ) (r : Report) → (look_with m t cs w p marks).answer ≡ Reported r → Standing m t cs
unfolding look_with look_unless
look_stands m t cs w p marks r e = (stood m t cs _ (go (ℕ_discrete refusal 0))).0
  where
    refusal : ℕ
    refusal = with_table m t cs (look_refusal (insert_refusal m t w p sphere) m marks)

    go : Dec (refusal ≡ 0) → refusal ≡ 0
    go (yes z) = z
    go (no d) = let f : LookRefused refusal ≡ Reported r = rw (ne_eqb refusal 0 d) at e in let n : ◌≡◌ {A = ℕ} 0 1 = cc in absurd (omega arith)

-- the same in the words of the calls' contracts, over a table of corrections: a look that answers a report, then an insertion with the tables and
-- marks that it left, and as much work area. It leaves what the plain insertion leaves in the tables that the look was lent.
pub look_then_insert : (m : Mesh) (t t₁ t₂ : Tables) (cs cs' : List ℤ) (ws ws' vs vs' : List ℕ) (p : Position) (marks marks' : List ℕ) (r : Report) (g : Inserted) →
    LookLeft (look_with m t cs (length ws) p marks) ws (Reported r) t₁ ws' marks' → Leaves (marked_with m t₁ cs (length vs) p marks') vs g t₂ cs' vs' → length vs ≡ length ws →
    Leaves (insert_with m t cs (length vs) p sphere) vs g t₂ cs' vs' × ((m' : Mesh) × (g ≡ Accepted m' r))
unfolding look_with marked_with insert_with left_unless look_call marked_call insert_call
look_then_insert m t t₁ t₂ cs cs' ws ws' vs vs' p marks marks' r g L N₁ e =
    let S = look_stands m t cs (length ws) p marks r (sym L.answer) in
    let ql = stands m t cs S (look_refusal (insert_refusal m t (length ws) p sphere) m marks) in
    let same : t₁ ≡ t = L.tables ∙ rw ql (tables_stay m t (length ws) p marks) in
    let N = subst (λ x. Leaves (marked_with m x cs (length vs) p marks') vs g t₂ cs' vs') same N₁ in
    let A = look_first m t (length ws) p marks r (sym (L.answer ∙ rw ql)) in
    let q : marks' ≡ (look_call m t (length ws) p marks).marks = L.marks_left ∙ rw ql in
    let qm = stands m t cs S (marked_refusal (insert_refusal m t (length vs) p sphere) m t p sphere marks') in
    let qi = stands m t cs S (insert_refusal m t (length vs) p sphere) in
    let s = A.same_marks marks' (ap (counted m) q) (length vs) in
    let goes : (marked_call m t (length vs) p marks').answer ≡ Accepted A.mesh r = ap₂ (λ w l. (marked_call m t w p l).answer) e q ∙ A.goes_in in
    let z : marked_refusal (insert_refusal m t (length vs) p sphere) m t p sphere marks' ≡ 0 = (accepted_unless m t p sphere (sym goes)).0 in
    let y : insert_refusal m t (length vs) p sphere ≡ 0 = (marked_passed m t p sphere marks' z).0 in (
      record {
        answer = N.answer ∙ rw (qm, qi) (ap (λ l. l.answer) s);
        tables = N.tables ∙ rw (qm, qi) (ap (λ l. l.tables) s);
        corrections = N.corrections ∙ rw (qm, qi, z, y);
        work = N.work;
      },
      (A.mesh, N.answer ∙ rw qm goes),
    )

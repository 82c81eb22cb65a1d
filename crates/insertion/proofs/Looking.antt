-- A look, and an insertion with marks: their refusals, and their contracts from what their parts leave.
use Prim.Native.Nat.{ℕ, ◌+◌, ◌≤◌, ◌<◌}
use mathlib.Core.Bool.{Bool, true, false, ◌&&◌, cond, true≢false}
use mathlib.Core.List.{List, [], ◌∷◌}
use mathlib.Core.Logic.{◌≢◌, ◌⊎◌, inl, inr}
use mathlib.Core.Path.{◌≡◌, refl, sym, ap, ◌∙◌}
use native.Mathlib.Numerals.{add-one}
use native.Mathlib.Omega.{arith}
use borrow.Author.Tests.{eq-eqb, ne_eqb, lt-ltb, le-ltb}
use mir.Val.{bool_byte}
use lib.Dec.{eqb}
use lib.ListN.{length, get_or, drop, drop_of_length-le}
use lib.Seq.{drop-cons}
use Rattle.arith.proofs.Flags.{split, and_right, fails}
use Rattle.arith.proofs.Tables.{tabulate_length, tabulate_at}
use Rattle.geometry.specs.declared.Position.{Position}
use Rattle.mesh.specs.declared.Mesh.{Mesh}
use Rattle.mesh.specs.Tables.{Tables}
use Rattle.mesh.specs.Start.{over}
use Rattle.cavity.specs.declared.Node.{Node}
use Rattle.cavity.specs.Answers.{sphere, answers_of}
use Rattle.cavity.specs.Inner.{inside}
use Rattle.insertion.specs.Inner.{Found}
use Rattle.insertion.specs.declared.Report.{Report}
use Rattle.insertion.specs.Looked.{Reported, Refused as LookRefused}
use Rattle.insertion.specs.Insertion.{node_refusal, insert_refusal, report_of}
use Rattle.insertion.specs.Look.{marks_of, cavity_marks, look_refusal, look_unless, look_call, begins_with}
use Rattle.insertion.specs.Inner.{Starable, Tested, report_with, state_marks, marks_allow, NodeLooked}
use Rattle.insertion.proofs.Refusals.{look_refuses, look_passes}
use Rattle.insertion.proofs.Acceptance.{none_refused, report_is, marks_are}

-- ---- bytes

-- a flag as code turns it into a byte
pub byte_is : (b : Bool) → bool_byte b ≡ cond b 1 0
byte_is true = refl
byte_is false = refl

pub begins_long : (expected bytes : List ℕ) → begins_with expected bytes ≡ true → length expected ≤ length bytes
unfolding begins_with
begins_long [] bytes e = omega arith
begins_long (x ∷ expected) [] e = absurd (true≢false (sym e))
begins_long (x ∷ expected) (b ∷ bytes) e =
    let h = begins_long expected bytes (and_right (eqb b x) (begins_with expected bytes) e) in omega arith

-- from place i on
pub begins_at : (expected bytes : List ℕ) (i : ℕ) → i < length expected → i < length bytes →
    begins_with (drop i expected) (drop i bytes) ≡ (eqb (get_or bytes i 0) (get_or expected i 0) && begins_with (drop (i + 1) expected) (drop (i + 1) bytes))
unfolding begins_with
begins_at expected bytes i h k = rw (drop-cons expected i 0 h, drop-cons bytes i 0 k, add-one)

-- ---- marks of n entries

pub marks_length : (n : ℕ) (is_marked : ℕ → Bool) → length (marks_of n is_marked) ≡ n
marks_length n is_marked = tabulate_length n _

pub mark_at : (n : ℕ) (is_marked : ℕ → Bool) (c : ℕ) → c < n → get_or (marks_of n is_marked) c 0 ≡ cond (is_marked c) 1 0
mark_at n is_marked c h = tabulate_at n _ c 0 h

-- with the states st
module _ (n : ℕ) (st : List ℕ) where
  module _ (marks : List ℕ) where
    -- the first c bytes are these marks
    abbrev pub Matching : ℕ → Type 0
    Matching c = begins_with (drop c (state_marks n st)) (drop c marks) ≡ begins_with (state_marks n st) marks

    one_mark : (c : ℕ) → c < n → c < length marks →
        begins_with (drop c (state_marks n st)) (drop c marks) ≡
        (eqb (get_or marks c 0) (cond (inside st c) 1 0) && begins_with (drop (c + 1) (state_marks n st)) (drop (c + 1) marks))
    one_mark c h k =
        begins_at (state_marks n st) marks c (omega (arith, h, marks_length n (inside st))) k ∙
        ap (λ x. eqb (get_or marks c 0) x && begins_with (drop (c + 1) (state_marks n st)) (drop (c + 1) marks)) (mark_at n (inside st) c h)

    pub matching_more : (c : ℕ) → c < n → c < length marks → Matching c → get_or marks c 0 ≡ cond (inside st c) 1 0 → Matching (c + 1)
    matching_more c h k M e = sym (rw (eq-eqb (get_or marks c 0) (cond (inside st c) 1 0) e) at (one_mark c h k)) ∙ M

    pub no_marks_asked : {asked : Bool} → asked ≡ false → true ≡ marks_allow asked n st marks
    unfolding marks_allow
    no_marks_asked e = rw e

    module _ {asked : Bool} (e : asked ≡ true) where
      asked_is : marks_allow asked n st marks ≡ begins_with (state_marks n st) marks
      unfolding marks_allow
      asked_is = rw e

      pub too_few_marks : length marks < n → false ≡ marks_allow asked n st marks
      too_few_marks h =
          sym (asked_is ∙ fails (begins_with (state_marks n st) marks) (λ b. omega (arith, begins_long (state_marks n st) marks b, marks_length n (inside st))))

      pub mark_differs : (c : ℕ) → c < n → c < length marks → Matching c → get_or marks c 0 ≢ cond (inside st c) 1 0 → false ≡ marks_allow asked n st marks
      mark_differs c h k M d = sym (asked_is ∙ (sym M ∙ rw (ne_eqb (get_or marks c 0) (cond (inside st c) 1 0) d) at (one_mark c h k)))

      pub marks_match : (c : ℕ) → n ≤ c → Matching c → true ≡ marks_allow asked n st marks
      unfolding begins_with
      marks_match c h M = sym (asked_is ∙ (sym M ∙ rw (drop_of_length-le (state_marks n st) {i = c} (omega (arith, h, marks_length n (inside st))))))

-- ---- the calls

-- a look leaves the tables
pub unless_stays : (r : ℕ) (m : Mesh) (t : Tables) (p : Position) (marks : List ℕ) → (look_unless r m t p marks).tables ≡ t
unfolding look_unless
unless_stays r m t p marks = go (split (eqb r 0))
  where
    go : (eqb r 0 ≡ true) ⊎ (eqb r 0 ≡ false) → (look_unless r m t p marks).tables ≡ t
    go (inl e) = rw e
    go (inr e) = rw e

pub tables_stay : (m : Mesh) (t : Tables) (w : ℕ) (p : Position) (marks : List ℕ) → (look_call m t w p marks).tables ≡ t
unfolding look_call
tables_stay m t w p marks = unless_stays (look_refusal (insert_refusal m t w p sphere) m marks) m t p marks

-- ---- a look after tests 1 to 3: a node by the sphere test, with marks to write

pub looked_refused : {m : Mesh} {t : Tables} {bytes : List ℕ} {d : Node} {st li fa de nu : List ℕ} {r : Found} →
    Tested m t bytes d st li fa de nu r → answers_of d.handed bytes ≡ sphere → (marks : List ℕ) → r.refusal ≢ 0 →
    NodeLooked m t d.work d.position marks (LookRefused r.refusal) t marks
unfolding look_unless
looked_refused {m} {t} {d = d} {r = r} T own marks z =
    let n : node_refusal m t d.work d.position sphere ≡ r.refusal = sym (T.refusal_is ∙ ap (node_refusal m t d.work d.position) own) in
    let q = look_refuses m marks n z in
    let f = ne_eqb r.refusal 0 z in
    record { answer = rw (q, f); tables = rw (q, f); marks_left = rw (q, f) }

module _ {m : Mesh} {t : Tables} {bytes : List ℕ} {d : Node} {st li fa nu : List ℕ} {r : Found} (S : Starable m t bytes d st li fa nu r)
    (own : answers_of d.handed bytes ≡ sphere) (marks : List ℕ) where
  abbrev p : Position
  p = d.position

  accepted : node_refusal m t d.work p sphere ≡ 0
  accepted = sym (ap (node_refusal m t d.work p) own) ∙ none_refused S

  count : d.used ≡ m.used
  count = S.admitted.node.used_are

  pub looked_short : length marks < d.used → NodeLooked m t d.work d.position marks (LookRefused 10) t marks
  unfolding look_unless
  looked_short h =
      let q = look_passes m marks accepted in
      let f = lt-ltb (length marks) m.used (omega (arith, h, count)) in
      record { answer = rw (q, f); tables = rw (q, f); marks_left = rw (q, f) }

  pub looked_reported : d.used ≤ length marks → {g : Report} {marks' : List ℕ} → g ≡ report_with m r → marks' ≡ over (state_marks d.used st) marks →
      NodeLooked m t d.work d.position marks (Reported g) t marks'
  unfolding look_unless
  looked_reported h eg em =
      let q = look_passes m marks accepted in
      let f = le-ltb (length marks) m.used (omega (arith, h, count)) in
      record {
        answer = rw (q, f) (ap Reported (eg ∙ (report_is S ∙ ap (report_of m t p) own)));
        tables = rw (q, f);
        marks_left = rw (q, f) (em ∙ ap (λ l. over l marks) (marks_are S ∙ ap (cavity_marks m t p) own));
      }

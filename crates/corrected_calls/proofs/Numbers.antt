-- Which refusals a table can give: 12 only where a number out of range stands in it or is handed in, and 7 never.
use Prim.Native.Nat.{ℕ, zero, suc, ◌≤◌}
use mathlib.Core.Bool.{Bool, true, false, not, cond, ◌||◌}
use mathlib.Core.List.{List}
use mathlib.Core.Logic.{◌≢◌, ◌⊎◌, inl, inr}
use mathlib.Core.Path.{◌≡◌, refl, sym, ap, ◌∙◌, subst}
use native.Mathlib.Decide.{ℕ_discrete}
use native.Mathlib.Omega.{arith}
use borrow.Author.Tests.{ne_eqb}
use lib.Dec.{ltb, eqb}
use lib.ListN.{length}
use lib.IntN.{ℤ}
use Rattle.arith.specs.Table.{any_below}
use Rattle.arith.proofs.Flags.{split, fails, clash}
use Rattle.geometry.specs.declared.Position.{Position}
use Rattle.geometry.specs.Volume.{in_box, same_position}
use Rattle.mesh.specs.declared.Mesh.{Mesh}
use Rattle.mesh.specs.Tables.{Tables, point_capacity, point}
use Rattle.mesh.specs.Start.{start_refusal}
use Rattle.mesh.specs.Refusal.{mesh_refusal}
use Rattle.locate.specs.Locate.{Refused as NotLocated}
use Rattle.locate.specs.Locate.{holds, locate_refusal, locate_call}
use Rattle.cavity.specs.Answers.{Answers, sphere}
use Rattle.insertion.specs.Inserted.{Refused}
use Rattle.insertion.specs.Looked.{Reported, Refused as NotLooked}
use Rattle.insertion.specs.Listed.{Listed}
use Rattle.insertion.specs.Listed.{Ended, Stopped, Refused as AllRefused}
use Rattle.insertion.specs.Insertion.{node_refusal, first_of, insert_refusal, insert_unless, insert_call}
use Rattle.insertion.specs.Look.{look_refusal, look_unless, look_call, marked_refusal, marked_call, cavity_marks, begins_with}
use Rattle.insertion.specs.List.{listed_node, listed_count, insert_from, list_call}
use Rattle.insertion.proofs.Refusals.{chain≤, up_to_eight, cells_full, refused_unless, unless_refused, node_accepted, node_refused}
use Rattle.insertion.proofs.Steps.{list_begins, list_refused, node_in as plain_in, node_out as plain_out}
use Rattle.covering.proofs.NeverSeven.{never_seven}
use Rattle.corrections.specs.declared.Correction.{Correction}
use Rattle.corrections.specs.Corrections.{By, Refused as NotCorrected}
use Rattle.corrections.specs.Corrections.{out_of_range, too_short}
use Rattle.corrections.specs.Calls.{with_length, with_range, with_table, left_unless, insert_with, marked_with, look_with, list_with, is_correction, set_refusal, correction_refusal, correction_call, insert_from_with}
use Rattle.corrections.proofs.Refusals.{range_in, length_long, length_short, mesh_three, range_late, range_passed, left_refused}
use Rattle.corrections.proofs.Listing.{node_out}
use Rattle.corrected_calls.specs.Calls.{start_build, Call, build_after, TwelveHandedIn, NeverUnheldWith}
use Rattle.corrected_calls.proofs.Plain.{Standing, standing?, list_same}
use Rattle.corrected_calls.proofs.Theorem.{every_list_of_calls}

-- ---- a table's refusals

module _ (m : Mesh) (t : Tables) (cs : List ℤ) where
  -- a number that is neither 1 nor 12 is the call's own
  own_range : (r k : ℕ) → k ≢ 12 → with_range m.points cs r ≡ k → r ≡ k
  unfolding with_range
  own_range r k n = go (split (out_of_range m.points cs)) (split (eqb r 0 || ltb 5 r))
    where
      go : (out_of_range m.points cs ≡ true) ⊎ (out_of_range m.points cs ≡ false) → ((eqb r 0 || ltb 5 r) ≡ true) ⊎ ((eqb r 0 || ltb 5 r) ≡ false) →
          with_range m.points cs r ≡ k → r ≡ k
      go (inl o) (inl b) q = absurd (n (sym (rw (o, b) at q)))
      go (inl o) (inr b) q = rw (o, b) at q
      go (inr o) b q = rw o at q

  own_number : (r k : ℕ) → k ≢ 1 → k ≢ 12 → with_table m t cs r ≡ k → r ≡ k
  own_number r k d n q = go (split (too_short t cs))
    where
      go : (too_short t cs ≡ true) ⊎ (too_short t cs ≡ false) → r ≡ k
      go (inl s) = absurd (d (sym q ∙ length_short t cs _ s))
      go (inr s) = own_range r k n (sym (length_long t cs _ s) ∙ q)

  -- over numbers in range, 12 is the call's own too
  own_twelve : out_of_range m.points cs ≡ false → (r : ℕ) → with_table m t cs r ≡ 12 → r ≡ 12
  own_twelve o r q = go (split (too_short t cs))
    where
      go : (too_short t cs ≡ true) ⊎ (too_short t cs ≡ false) → r ≡ 12
      go (inl s) = absurd (omega (arith, q, length_short t cs (with_range m.points cs r) s))
      go (inr s) = sym (length_long t cs _ s ∙ range_in m.points cs o) ∙ q

-- ---- answers with a number

look_number : (r : ℕ) (m : Mesh) (t : Tables) (p : Position) (marks : List ℕ) {k : ℕ} → (look_unless r m t p marks).answer ≡ NotLooked k → r ≡ k
unfolding look_unless
look_number r m t p marks {k} q = go (split (eqb r 0))
  where
    go : (eqb r 0 ≡ true) ⊎ (eqb r 0 ≡ false) → r ≡ k
    go (inl e) = let f : Reported _ ≡ NotLooked k = rw e at q in let z : ◌≡◌ {A = ℕ} 0 1 = cc in absurd (omega arith)
    go (inr e) = let f : NotLooked r ≡ NotLooked k = rw e at q in cc

read_number : (m : Mesh) (t : Tables) (cs : List ℤ) (w : ℕ) (p : Position) {k : ℕ} → correction_call m t cs w p ≡ NotCorrected k → correction_refusal m t cs w p ≡ k
unfolding correction_call
read_number m t cs w p {k} q = go (split (eqb (correction_refusal m t cs w p) 0))
  where
    go : (eqb (correction_refusal m t cs w p) 0 ≡ true) ⊎ (eqb (correction_refusal m t cs w p) 0 ≡ false) → correction_refusal m t cs w p ≡ k
    go (inl e) = let f : By _ ≡ NotCorrected k = rw e at q in let z : ◌≡◌ {A = ℕ} 0 1 = cc in absurd (omega arith)
    go (inr e) = let f : NotCorrected (correction_refusal m t cs w p) ≡ NotCorrected k = rw e at q in cc

-- the number that a list ends with, 0 where it ends
abbrev stop : Listed → ℕ
stop (Ended m k) = 0
stop (Stopped m place e) = e
stop (AllRefused e) = e

-- an answer with a number has that one
stop_all : {r : Listed} {k : ℕ} → r ≡ AllRefused k → stop r ≡ k
stop_all e = ap stop e

stop_at : {r : Listed} {m : Mesh} {place k : ℕ} → r ≡ Stopped m place k → stop r ≡ k
stop_at e = ap stop e

-- ---- tests 4 to 8 give no number above 8

node_eight : (m : Mesh) (t : Tables) (w : ℕ) (p : Position) (a : Answers) → node_refusal m t w p a ≤ 8
unfolding node_refusal
node_eight m t w p a =
    chain≤ (not (in_box m.x m.y m.z p)) (omega arith)
    (chain≤ (any_below m.points (λ k. same_position (point t k) p)) (omega arith)
    (chain≤ (eqb m.points (point_capacity t)) (omega arith)
    (chain≤ (not (any_below m.used (holds t p))) (omega arith) (chain≤ (cells_full m t w p a) (omega arith) (omega arith)))))

location_seven : (m : Mesh) (t : Tables) (w : ℕ) (p : Position) → locate_refusal m t w p ≤ 7
unfolding locate_refusal
location_seven m t w p =
    chain≤ (not (eqb (mesh_refusal m t w false) 0)) (omega (arith, mesh_three m t w false))
    (chain≤ (not (in_box m.x m.y m.z p)) (omega arith) (chain≤ (not (any_below m.used (holds t p))) (omega arith) (omega arith)))

nodes_eight : (w : ℕ) (ns : List ℕ) (k i : ℕ) (m : Mesh) (t : Tables) → stop (insert_from k i m t w ns).answer ≤ 8
unfolding insert_from
nodes_eight w ns zero i m t = omega arith
nodes_eight w ns (suc k) i m t = go (ℕ_discrete (node_refusal m t w (listed_node ns i) sphere) 0) (λ m t. nodes_eight w ns k (suc i) m t)
  where
    go : Dec (node_refusal m t w (listed_node ns i) sphere ≡ 0) → ((m : Mesh) (t : Tables) → stop (insert_from k (suc i) m t w ns).answer ≤ 8) →
        stop (insert_from (suc k) i m t w ns).answer ≤ 8
    go (yes z) ih = subst (λ l. stop l.answer ≤ 8) (sym (plain_in m t w ns i k (node_accepted m t w (listed_node ns i) sphere z))) (ih _ _)
    go (no d) ih =
        subst (λ l. stop l.answer ≤ 8) (sym (plain_out m t w ns i k (node_refused m t w (listed_node ns i) sphere refl d))) (node_eight m t w (listed_node ns i) sphere)

list_eight : (m : Mesh) (t : Tables) (w : ℕ) (ns : List ℕ) → stop (list_call m t w ns).answer ≤ 8
list_eight m t w ns = go (ℕ_discrete (mesh_refusal m t w false) 0)
  where
    go : Dec (mesh_refusal m t w false ≡ 0) → stop (list_call m t w ns).answer ≤ 8
    go (yes z) = subst (λ l. stop l.answer ≤ 8) (sym (list_begins m t w ns z)) (nodes_eight w ns (listed_count ns) 0 m t)
    go (no d) = subst (λ l. stop l.answer ≤ 8) (sym (list_refused m t w ns refl d)) (omega (arith, mesh_three m t w false))

-- a further test that gives k or nothing
further : (r k : ℕ) (b : Bool) {n : ℕ} → n ≢ k → n ≢ 0 → first_of r (cond b k 0) ≡ n → r ≡ n
further r k b {n} d z q = go (split (eqb r 0)) (split b)
  where
    go : (eqb r 0 ≡ true) ⊎ (eqb r 0 ≡ false) → (b ≡ true) ⊎ (b ≡ false) → r ≡ n
    go (inl e) (inl f) = absurd (d (sym (rw (e, f) at q)))
    go (inl e) (inr f) = absurd (z (sym (rw (e, f) at q)))
    go (inr e) f = rw e at q

otherwise : (r k : ℕ) (b : Bool) {n : ℕ} → n ≢ k → n ≢ 0 → first_of r (cond b 0 k) ≡ n → r ≡ n
otherwise r k b {n} d z q = go (split (eqb r 0)) (split b)
  where
    go : (eqb r 0 ≡ true) ⊎ (eqb r 0 ≡ false) → (b ≡ true) ⊎ (b ≡ false) → r ≡ n
    go (inl e) (inl f) = absurd (z (sym (rw (e, f) at q)))
    go (inl e) (inr f) = absurd (d (sym (rw (e, f) at q)))
    go (inr e) f = rw e at q

-- ---- 12 IS ANSWERED ONLY FOR NUMBERS THAT ARE HANDED IN, where those of the mesh's points are in range

module _ (m : Mesh) (t : Tables) (cs : List ℤ) (o : out_of_range m.points cs ≡ false) where
  list_never : (w : ℕ) (ns : List ℕ) → stop (list_with m t cs w ns).answer ≢ 12
  unfolding list_with
  list_never w ns = go (split (too_short t cs))
    where
      go : (too_short t cs ≡ true) ⊎ (too_short t cs ≡ false) → stop (list_with m t cs w ns).answer ≢ 12
      go (inl s) = rw (length_short t cs (mesh_refusal m t w false) s) (λ q. omega arith)
      go (inr s) = λ q. omega (arith, list_eight m t w ns, ap stop (list_same m t cs w ns record { long = s; range = o }).answer, q)

  set_number : (w v : ℕ) (d : Correction) → set_refusal m t cs w v d ≡ 12 → is_correction d ≡ false
  unfolding set_refusal with_length
  set_number w v d q = fails (is_correction d) (λ f. impossible f (split (too_short t cs)) (split (eqb (mesh_refusal m t w false) 0)) (split (ltb v m.points)))
    where
      impossible : is_correction d ≡ true → (too_short t cs ≡ true) ⊎ (too_short t cs ≡ false) →
          (eqb (mesh_refusal m t w false) 0 ≡ true) ⊎ (eqb (mesh_refusal m t w false) 0 ≡ false) → (ltb v m.points ≡ true) ⊎ (ltb v m.points ≡ false) → ⊥
      impossible f (inl s) r b = let z : ◌≡◌ {A = ℕ} 1 12 = rw s at q in omega (arith, z)
      impossible f (inr s) (inr r) b = let z : mesh_refusal m t w false ≡ 12 = rw (s, r) at q in omega (arith, z, mesh_three m t w false)
      impossible f (inr s) (inl r) (inl b) = let z : ◌≡◌ {A = ℕ} 0 12 = rw (s, r, b, f, o) at q in omega (arith, z)
      impossible f (inr s) (inl r) (inr b) = let z : ◌≡◌ {A = ℕ} 13 12 = rw (s, r, b) at q in omega (arith, z)

  pub twelve_handed_in : TwelveHandedIn m t cs
  unfolding insert_with marked_with look_with left_unless marked_refusal look_refusal correction_refusal
  twelve_handed_in = record {
    inserted = λ w p a q. omega (arith, up_to_eight m t w p a, own_twelve m t cs o _ (refused_unless m t p a (sym q)).1);
    marked = λ w p marks q.
        omega (
          arith,
          up_to_eight m t w p sphere,
          otherwise (insert_refusal m t w p sphere) 14 (begins_with (cavity_marks m t p sphere) marks) (λ e. omega arith) (λ e. omega arith)
              (own_twelve m t cs o _ (refused_unless m t p sphere (sym q)).1),
        );
    looked = λ w p marks q.
        omega (
          arith,
          up_to_eight m t w p sphere,
          further (insert_refusal m t w p sphere) 10 (ltb (length marks) m.used) (λ e. omega arith) (λ e. omega arith)
              (own_twelve m t cs o _ (look_number _ m t p marks q)),
        );
    listed = λ w ns q. list_never w ns (stop_all q);
    stopped = λ w ns m' place q. list_never w ns (stop_at q);
    read = λ w p q. omega (arith, location_seven m t w p, own_twelve m t cs o _ (read_number m t cs w p q));
    set = set_number;
  }

-- after every list of calls from an accepted start
pub only_handed_in : (X Y Z : ℕ) (t : Tables) (cs : List ℤ) (w : ℕ) → with_length t cs (start_refusal X Y Z t w) ≡ 0 → (calls : List Call) →
    let b = build_after (start_build X Y Z t cs w) calls in TwelveHandedIn b.mesh b.tables b.corrections
only_handed_in X Y Z t cs w e calls =
    let b = build_after (start_build X Y Z t cs w) calls in
    twelve_handed_in b.mesh b.tables b.corrections (every_list_of_calls X Y Z t cs w e calls).range

-- ---- 7 NEVER OCCURS

module _ (m : Mesh) (t : Tables) (cs : List ℤ) where
  seven : (r : ℕ) → with_table m t cs r ≡ 7 → r ≡ 7
  seven r q = own_number m t cs r 7 (λ e. omega arith) (λ e. omega arith) q

  -- an insertion without the table would answer 7 too
  insert_seven : (p : Position) (a : Answers) (r : ℕ) → (left_unless (with_table m t cs r) m t cs p a).answer ≡ Refused 7 → (insert_unless r m t p a).answer ≡ Refused 7
  unfolding left_unless
  insert_seven p a r q = ap (λ l. l.answer) (unless_refused m t p a (seven r (refused_unless m t p a (sym q)).1) (λ e. omega arith))

  look_seven : (p : Position) (marks : List ℕ) (r : ℕ) → (look_unless (with_table m t cs r) m t p marks).answer ≡ NotLooked 7 → (look_unless r m t p marks).answer ≡ NotLooked 7
  unfolding look_unless
  look_seven p marks r q = rw (seven r (look_number _ m t p marks q))

  read_seven : (w : ℕ) (p : Position) → correction_call m t cs w p ≡ NotCorrected 7 → locate_call m t w p ≡ NotLocated 7
  unfolding locate_call correction_refusal
  read_seven w p q = rw (seven (locate_refusal m t w p) (read_number m t cs w p q))

  -- over a table out of range the first node stops a list, with 4, 5 or 12
  first_stops : out_of_range m.points cs ≡ true → (w : ℕ) (ns : List ℕ) (k : ℕ) → stop (insert_from_with k 0 m t cs w ns).answer ≢ 7
  unfolding insert_from_with
  first_stops o w ns zero = λ q. omega arith
  first_stops o w ns (suc k) =
      let r = node_refusal m t w (listed_node ns 0) sphere in
      let late : r ≡ 7 → with_range m.points cs r ≡ 12 = λ e. range_late m.points cs o (inr (omega (arith, e))) in
      let d : with_range m.points cs r ≢ 0 = λ z. clash o (range_passed m.points cs z).0 in
      subst (λ l. stop l.answer ≢ 7) (sym (node_out m t cs w ns 0 k (left_refused m t cs (listed_node ns 0) sphere refl d)))
      (λ q. omega (arith, q, late (own_range m t cs r 7 (λ e. omega arith) q)))

  -- a list over a table that refuses every call
  list_refused_seven : ((r : ℕ) → with_table m t cs r ≢ 0) → (w : ℕ) (ns : List ℕ) → stop (list_with m t cs w ns).answer ≢ 7
  unfolding list_with
  list_refused_seven none w ns = go (split (too_short t cs)) (ℕ_discrete (mesh_refusal m t w false) 0) (split (out_of_range m.points cs))
    where
      go : (too_short t cs ≡ true) ⊎ (too_short t cs ≡ false) → Dec (mesh_refusal m t w false ≡ 0) → (out_of_range m.points cs ≡ true) ⊎ (out_of_range m.points cs ≡ false) →
          stop (list_with m t cs w ns).answer ≢ 7
      go (inl s) z o = rw (length_short t cs (mesh_refusal m t w false) s) (λ q. omega arith)
      go (inr s) (no d) o = rw (length_long t cs (mesh_refusal m t w false) s, ne_eqb (mesh_refusal m t w false) 0 d) (λ q. omega (arith, q, mesh_three m t w false))
      go (inr s) (yes z) (inl o) = rw (length_long t cs (mesh_refusal m t w false) s, z) (first_stops o w ns (listed_count ns))
      go (inr s) (yes z) (inr o) = absurd (none 0 (length_long t cs _ s ∙ range_in m.points cs o))

  pub never_seven_with : NeverUnheldWith m t cs
  unfolding insert_with marked_with look_with insert_call marked_call look_call
  never_seven_with = record {
    inserted = λ w p a q. never_seven.inserted m t w p a (insert_seven p a (insert_refusal m t w p a) q);
    marked = λ w p marks q. never_seven.marked m t w p marks (insert_seven p sphere (marked_refusal (insert_refusal m t w p sphere) m t p sphere marks) q);
    looked = λ w p marks q. never_seven.looked m t w p marks (look_seven p marks (look_refusal (insert_refusal m t w p sphere) m marks) q);
    listed = λ w ns q. listed w ns q (standing? m t cs);
    stopped = λ w ns m' place q. stopped w ns m' place q (standing? m t cs);
    read = λ w p q. never_seven.located m t w p (read_seven w p q);
  }
    where
      listed : (w : ℕ) (ns : List ℕ) → (list_with m t cs w ns).answer ≡ AllRefused 7 → Standing m t cs ⊎ ((r : ℕ) → with_table m t cs r ≢ 0) → ⊥
      listed w ns q (inl S) = never_seven.listed m t w ns (sym (list_same m t cs w ns S).answer ∙ q)
      listed w ns q (inr none) = list_refused_seven none w ns (stop_all q)

      stopped : (w : ℕ) (ns : List ℕ) (m' : Mesh) (place : ℕ) → (list_with m t cs w ns).answer ≡ Stopped m' place 7 → Standing m t cs ⊎ ((r : ℕ) → with_table m t cs r ≢ 0) → ⊥
      stopped w ns m' place q (inl S) = never_seven.stopped m m' t w ns place (sym (list_same m t cs w ns S).answer ∙ q)
      stopped w ns m' place q (inr none) = list_refused_seven none w ns (stop_at q)

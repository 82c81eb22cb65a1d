-- Condition 3 over lists of calls that hold settings and readings too, and what document 02 §1 claims of the corrections.
use Prim.Native.Nat.{ℕ, ◌+◌, ◌*◌, ◌≤◌, ◌<◌}
use mathlib.Core.Bool.{true, false, not, ◌||◌}
use mathlib.Core.List.{List, [], ◌∷◌, ◌++◌}
use mathlib.Core.Logic.{◌≢◌, ◌⊎◌, inl, inr}
use mathlib.Core.Path.{◌≡◌, refl, sym, ap, ap₂, ◌∙◌, subst}
use native.Mathlib.Decide.{ℕ_discrete}
use native.Mathlib.Omega.{arith}
use borrow.Author.Tests.{ne_eqb, ltb-true, ltb-false, not-false}
use lib.Dec.{ltb}
use lib.ListN.{length, get_or, replicate, drop, get_or-replicate, get_or-append}
use lib.IntN.{ℤ, pos}
use Rattle.arith.specs.Table.{any_below}
use Rattle.arith.proofs.Flags.{clash, or_left, or_right, fails}
use Rattle.arith.proofs.Tables.{any_intro}
use Rattle.geometry.specs.declared.Position.{Position}
use Rattle.geometry.specs.Volume.{in_box}
use Rattle.geometry.proofs.Ranges.{in_box_lem}
use Rattle.mesh.specs.declared.Mesh.{Mesh}
use Rattle.mesh.specs.Tables.{Tables, point_capacity, point}
use Rattle.mesh.specs.Start.{start_refusal, start_tables}
use Rattle.mesh.specs.Refusal.{mesh_refusal}
use Rattle.mesh.proofs.Room.{room_of}
use Rattle.mesh.proofs.Valid.{valid_of, passed}
use Rattle.locate.specs.Locate.{holds, first_holder, locate_refusal}
use Rattle.locate.proofs.First.{holder_is_first}
use Rattle.covering.specs.Claim.{Covering}
use Rattle.covering.proofs.Theorem.{checked_covering, some_holds, every_list_covers as covers_without}
use Rattle.insertion.proofs.Refusals.{test_to_zero, both_pass}
use Rattle.calls.specs.Calls.{mesh_after, accepted_by as mesh_accepted, Call as MeshCall, outcome as mesh_outcome, start_build as plain_start, Claim as MeshClaim}
use Rattle.calls.proofs.Calls.{every_list_of_calls as every_list_without}
use Rattle.corrections.specs.declared.Correction.{Correction}
use Rattle.corrections.specs.Corrections.{By}
use Rattle.corrections.specs.Corrections.{out_of_range, too_short, in_range, with_correction, correction_at}
use Rattle.corrections.specs.Calls.{with_length, with_table, corners_cleared, start_with, is_correction, set_refusal, set_table, correction_refusal, correction_call}
use Rattle.corrections.proofs.Refusals.{range_in, length_long, length_passed}
use Rattle.corrections.proofs.Values.{correction_at_a_point}
use Rattle.corrections.proofs.Keeping.{set_length, set_own, range_intro, range_again}
use Rattle.corrected_calls.specs.Calls.{Build, bare, start_build, Call, on_mesh, set, read, outcome, build_after, accepted_by, Claim, SetThenRead}
use Rattle.corrected_calls.proofs.Plain.{Standing, standing?, Same, InRange, call_same, call_nothing, call_range}

-- ---- what a list of calls does to the mesh, some of its calls do without corrections

-- of the calls on the mesh b and its corrections some are picked, in their order: those do the same without corrections, and the others nothing
pub data Picked : Build → List MeshCall → List Call → Type 0 where
  none : {b : Build} → Picked b [] []
  taken : {b : Build} {c : MeshCall} {ms : List MeshCall} {cs : List Call} →
      Same (outcome b (on_mesh c)) (mesh_outcome (bare b) c) → Picked (outcome b (on_mesh c)).after ms cs → Picked b (c ∷ ms) (on_mesh c ∷ cs)
  passed_over : {b : Build} {c : Call} {ms : List MeshCall} {cs : List Call} →
      bare (outcome b c).after ≡ bare b → (outcome b c).accepted ≡ [] → Picked (outcome b c).after ms cs → Picked b ms (c ∷ cs)

pub picked_after : {b : Build} {ms : List MeshCall} {cs : List Call} → Picked b ms cs → bare (build_after b cs) ≡ mesh_after (bare b) ms
unfolding build_after mesh_after
picked_after none = refl
picked_after {ms = c ∷ ms} (taken s P) = picked_after P ∙ ap (λ b. mesh_after b ms) s.after
picked_after {ms} (passed_over e a P) = picked_after P ∙ ap (λ b. mesh_after b ms) e

picked_accepted : {b : Build} {ms : List MeshCall} {cs : List Call} → Picked b ms cs → accepted_by b cs ≡ mesh_accepted (bare b) ms
unfolding accepted_by mesh_accepted
picked_accepted none = refl
picked_accepted {ms = c ∷ ms} (taken s P) = ap₂ (λ ps qs. ps ++ qs) s.accepted (picked_accepted P ∙ ap (λ b. mesh_accepted b ms) s.after)
picked_accepted {ms} (passed_over e a P) = ap₂ (λ ps qs. ps ++ qs) a (picked_accepted P ∙ ap (λ b. mesh_accepted b ms) e)

pub record Without (b : Build) (cs : List Call) : Type 0 where
  pub calls : List MeshCall
  pub picked : Picked b calls cs

on_either : (b : Build) (c : MeshCall) (cs : List Call) → Standing b.mesh b.tables b.corrections ⊎ ((r : ℕ) → with_table b.mesh b.tables b.corrections r ≢ 0) →
    Without (outcome b (on_mesh c)).after cs → Without b (on_mesh c ∷ cs)
unfolding outcome
on_either b c cs (inl S) W = record { calls = c ∷ W.calls; picked = taken (call_same b.mesh b.tables b.corrections S c) W.picked }
on_either b c cs (inr refuses) W =
    let N = call_nothing b.mesh b.tables b.corrections refuses c in record { calls = W.calls; picked = passed_over (ap bare N.after) N.accepted W.picked }

-- EVERY LIST OF CALLS LEAVES THE MESH THAT SOME OF ITS CALLS LEAVE WITHOUT CORRECTIONS, AND ACCEPTS THEIR NODES
pub as_without : (b : Build) (cs : List Call) → Without b cs
unfolding outcome
as_without b [] = record { calls = []; picked = none }
as_without b (set w v d ∷ cs) = let W = as_without (outcome b (set w v d)).after cs in record { calls = W.calls; picked = passed_over refl refl W.picked }
as_without b (read w p ∷ cs) = let W = as_without b cs in record { calls = W.calls; picked = passed_over refl refl W.picked }
as_without b (on_mesh c ∷ cs) = on_either b c cs (standing? b.mesh b.tables b.corrections) (as_without (outcome b (on_mesh c)).after cs)

-- ---- settings

-- what a set that is not refused has
record Settable (m : Mesh) (t : Tables) (cs : List ℤ) (w v : ℕ) (d : Correction) : Type 0 where
  long : too_short t cs ≡ false
  mesh : mesh_refusal m t w false ≡ 0
  point< : v < m.points
  given : is_correction d ≡ true
  range : out_of_range m.points cs ≡ false

module _ (m : Mesh) (t : Tables) (cs : List ℤ) (w v : ℕ) (d : Correction) where
  settable : set_refusal m t cs w v d ≡ 0 → Settable m t cs w v d
  unfolding set_refusal
  settable e =
      let l = length_passed t cs _ e in
      let h = both_pass (mesh_refusal m t w false) _ l.1 in
      let k = test_to_zero {b = not (ltb v m.points)} {k = 13} (omega arith) h.1 in
      let g = (test_to_zero {b = not (is_correction d) || out_of_range m.points cs} {k = 12} {r = 0} (omega arith) k.1).0 in
      record {
        long = l.0;
        mesh = h.0;
        point< = ltb-true v m.points (not-false _ k.0);
        given = not-false _ (fails (not (is_correction d)) (λ q. clash (or_left _ (out_of_range m.points cs) q) g));
        range = fails (out_of_range m.points cs) (λ q. clash (or_right (not (is_correction d)) _ q) g);
      }

  -- there is room for the point's numbers
  entries< : Settable m t cs w v d → 3 * v + 2 < length cs
  unfolding too_short
  entries< S =
      omega (arith, ltb-false (length cs) (3 * point_capacity t) S.long, S.point<, (valid_of m t w (passed m t w false S.mesh)).mesh.points≤)

  set_range : out_of_range m.points cs ≡ false → out_of_range m.points (set_table m t cs w v d) ≡ false
  unfolding set_table
  set_range e = go (ℕ_discrete (set_refusal m t cs w v d) 0)
    where
      go : Dec (set_refusal m t cs w v d ≡ 0) → out_of_range m.points (set_table m t cs w v d) ≡ false
      go (yes z) = let S = settable z in rw z (range_again m.points cs v d e S.given (entries< S))
      go (no n) = rw (ne_eqb (set_refusal m t cs w v d) 0 n) e

-- ---- ranges

-- eight points' numbers are 0 after a start
pub started_range : (cs : List ℤ) → out_of_range 8 (corners_cleared cs) ≡ false
unfolding in_range
started_range cs = range_intro 8 (corners_cleared cs) (λ i h. ap in_range (zero_at i h))
  where
    zero_at : (i : ℕ) → i < 24 → get_or (corners_cleared cs) i (pos 0) ≡ pos 0
    zero_at i h = unfold corners_cleared in get_or-append (replicate 24 (pos 0)) (drop 24 cs) (pos 0) i h ∙ get_or-replicate 24 i (pos 0) (pos 0) h

ranges : (b : Build) (cs : List Call) → InRange b → InRange (build_after b cs)
unfolding build_after outcome
ranges b [] e = e
ranges b (on_mesh c ∷ cs) e = ranges (outcome b (on_mesh c)).after cs (call_range b.mesh b.tables b.corrections c e)
ranges b (set w v d ∷ cs) e = ranges (outcome b (set w v d)).after cs (set_range b.mesh b.tables b.corrections w v d e)
ranges b (read w p ∷ cs) e = ranges b cs e

-- ---- the theorem

module _ (X Y Z : ℕ) (t : Tables) (cs : List ℤ) (w : ℕ) (e : with_length t cs (start_refusal X Y Z t w) ≡ 0) where
  abbrev start : Build
  start = start_build X Y Z t cs w

  pub start_accepted : start_refusal X Y Z t w ≡ 0
  start_accepted = (length_passed t cs _ e).1

  pub bare_start : bare start ≡ plain_start X Y Z t w
  unfolding start_build start_with plain_start start_tables
  bare_start = rw (e, start_accepted)

  -- what is left after the start is what the picked calls leave after the start without corrections
  pub start_after : (calls : List Call) → bare (build_after start calls) ≡ mesh_after (plain_start X Y Z t w) (as_without start calls).calls
  start_after calls = let W = as_without start calls in picked_after W.picked ∙ ap (λ b. mesh_after b W.calls) bare_start

  start_range : InRange start
  unfolding start_build start_with
  start_range = rw e (started_range cs)

  -- CONDITION 3, AND EVERY NUMBER IN RANGE: from every accepted start, whatever the calls
  pub every_list_of_calls : (calls : List Call) → Claim X Y Z (build_after start calls) (accepted_by start calls)
  every_list_of_calls calls =
      let W = as_without start calls in
      record {
        mesh =
            subst (λ b. MeshClaim X Y Z b (accepted_by start calls)) (sym (start_after calls))
            (subst (MeshClaim X Y Z (mesh_after (plain_start X Y Z t w) W.calls)) (sym (picked_accepted W.picked ∙ ap (λ b. mesh_accepted b W.calls) bare_start))
            (every_list_without X Y Z t w start_accepted W.calls));
        range = ranges start calls start_range;
      }

  -- no place is uncovered and none strictly inside two cells: a law of lists without corrections, carried over by `as_without`
  pub every_list_covers : (calls : List Call) → let b = build_after start calls in Covering X Y Z b.mesh.used b.tables
  every_list_covers calls =
      let W = as_without start calls in
      subst (λ b. Covering X Y Z b.mesh.used b.tables) (sym (start_after calls)) (covers_without X Y Z t w start_accepted W.calls)

-- ---- WHAT WAS SET IS READ AT THE POINT

in_a_cell : (m : Mesh) (t : Tables) (w : ℕ) (p : Position) → mesh_refusal m t w false ≡ 0 → in_box m.x m.y m.z p ≡ true → any_below m.used (holds t p) ≡ true → locate_refusal m t w p ≡ 0
unfolding locate_refusal
in_a_cell m t w p z b h = rw (z, b, h)

pub set_then_read : (m : Mesh) (t : Tables) (cs : List ℤ) → SetThenRead m t cs
unfolding set_table correction_call correction_refusal correction_at too_short
set_then_read m t cs w w' v d e f =
    let S = settable m t cs w v d e in
    let M = passed m t w' false f in
    let N = (valid_of m t w' M).mesh in
    let box = N.inside v S.point< in
    let h = some_holds (checked_covering m t w' M) (point t v) box in
    let first = holder_is_first t (point t v) m.used h.0 h.1 h.2 in
    let room = entries< m t cs w v d S in
    let same : too_short t (with_correction cs v d) ≡ false = ap (λ n. ltb n (3 * point_capacity t)) (set_length cs v d) ∙ S.long in
    let range = range_again m.points cs v d S.range S.given room in
    let held : locate_refusal m t w' (point t v) ≡ 0 = in_a_cell m t w' (point t v) f (in_box_lem {X = m.x} {Y = m.y} {Z = m.z} box) (any_intro m.used (holds t (point t v)) h.0 h.1 h.2) in
    let zero : with_table m t (with_correction cs v d) (locate_refusal m t w' (point t v)) ≡ 0 = length_long t (with_correction cs v d) _ same ∙ (range_in m.points (with_correction cs v d) range ∙ held) in
    rw (e, zero)
    (ap By (correction_at_a_point N (room_of t w') v (first_holder t m.used (point t v)) S.point< first.cell< first.holding (with_correction cs v d) ∙ set_own cs v d room))

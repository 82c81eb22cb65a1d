-- A start and a list over a table long enough and in range leave what they leave without one.
use Prim.Native.Nat.{ℕ, ◌*◌, ◌≤◌}
use mathlib.Core.Bool.{false}
use mathlib.Core.List.{List}
use mathlib.Core.Path.{◌≡◌, sym, ap, ◌∙◌}
use native.Mathlib.Decide.{ℕ_discrete}
use native.Mathlib.Omega.{arith}
use borrow.Author.Tests.{le-ltb, ne_eqb}
use lib.ListN.{length}
use lib.IntN.{ℤ}
use Rattle.mesh.specs.declared.Mesh.{Mesh}
use Rattle.mesh.specs.Start.{Started}
use Rattle.mesh.specs.Start.{Accepted, Refused}
use Rattle.mesh.specs.Tables.{Tables, point_capacity}
use Rattle.mesh.specs.Start.{started_mesh, start_refusal, start_answer, start_tables, StartLeaves}
use Rattle.insertion.specs.Listed.{Listed}
use Rattle.insertion.specs.List.{ListLeaves}
use Rattle.corrections.specs.Corrections.{out_of_range, too_short}
use Rattle.corrections.specs.Calls.{Leaves, with_length, start_with, list_with}
use Rattle.corrections.proofs.Refusals.{length_long}
use Rattle.corrected_calls.proofs.Plain.{list_same}
use Rattle.corrected_calls.proofs.Theorem.{started_range}

pub long_enough : (t : Tables) (cs : List ℤ) → 3072 ≤ length cs → too_short t cs ≡ false
unfolding too_short point_capacity
long_enough t cs h = le-ltb (length cs) (3 * point_capacity t) (omega (arith, h))

module _ (X Y Z : ℕ) (t : Tables) (cs : List ℤ) (ws : List ℕ) {t' : Tables} {cs' : List ℤ} {ws' : List ℕ} {r : Started} (s : too_short t cs ≡ false)
    (L : Leaves (start_with X Y Z t cs (length ws)) ws r t' cs' ws') where
  same : with_length t cs (start_refusal X Y Z t (length ws)) ≡ start_refusal X Y Z t (length ws)
  same = length_long t cs _ s

  pub start_without : StartLeaves X Y Z t ws r t' ws'
  unfolding start_with start_answer start_tables
  start_without = go (ℕ_discrete (start_refusal X Y Z t (length ws)) 0)
    where
      go : Dec (start_refusal X Y Z t (length ws) ≡ 0) → StartLeaves X Y Z t ws r t' ws'
      go (yes z) = record { answer = L.answer ∙ rw (same, z); tables = L.tables ∙ rw (same, z); work = L.work }
      go (no d) =
          let n = ne_eqb (start_refusal X Y Z t (length ws)) 0 d in
          record { answer = L.answer ∙ rw (same, n); tables = L.tables ∙ rw (same, n); work = L.work }

  -- an accepted one leaves all numbers in range
  pub start_in_range : {m : Mesh} → r ≡ Accepted m → out_of_range m.points cs' ≡ false
  unfolding start_with
  start_in_range {m} e = go (ℕ_discrete (start_refusal X Y Z t (length ws)) 0)
    where
      go : Dec (start_refusal X Y Z t (length ws) ≡ 0) → out_of_range m.points cs' ≡ false
      go (yes z) =
          let f : Accepted m ≡ Accepted (started_mesh X Y Z) = sym e ∙ (L.answer ∙ rw (same, z)) in
          let q : m ≡ started_mesh X Y Z = cc in
          ap (λ m. out_of_range m.points cs') q ∙ (ap (out_of_range 8) (L.corrections ∙ rw (same, z)) ∙ started_range cs)
      go (no d) =
          let f : Accepted m ≡ Refused (start_refusal X Y Z t (length ws)) = sym e ∙ (L.answer ∙ rw (same, ne_eqb (start_refusal X Y Z t (length ws)) 0 d)) in
          let n : ◌≡◌ {A = ℕ} 0 1 = cc in absurd (omega arith)

pub list_without : (m : Mesh) (t : Tables) (cs : List ℤ) (ws ns : List ℕ) {t' : Tables} {cs' : List ℤ} {ws' : List ℕ} {r : Listed} → too_short t cs ≡ false → out_of_range m.points cs ≡ false →
    Leaves (list_with m t cs (length ws) ns) ws r t' cs' ws' → ListLeaves m t ws ns r t' ws'
list_without m t cs ws ns s o L =
    let S = list_same m t cs (length ws) ns record { long = s; range = o } in
    record { answer = L.answer ∙ S.answer; tables = L.tables ∙ S.tables; work = L.work }

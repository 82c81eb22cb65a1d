-- The start's contract, from that of the start without corrections.
use Prim.Native.Nat.{ℕ, zero, suc, ◌+◌, ◌*◌, ◌≤◌, ◌<◌}
use mathlib.Core.Bool.{true, false}
use mathlib.Core.List.{List, [], ◌∷◌, ◌++◌}
use mathlib.Core.Path.{◌≡◌, refl, sym, ap, ◌∙◌, subst}
use native.Mathlib.Decide.{ℕ_discrete}
use native.Mathlib.Nat.{not-suc-le-zero, le_of_suc-le-suc}
use native.Mathlib.Numerals.{add-one}
use native.Mathlib.Omega.{arith}
use borrow.Author.Tests.{ne_eqb, ltb-false}
use lib.ListN.{length, set, drop, replicate}
use lib.IntN.{ℤ, pos}
use Rattle.arith.proofs.Flags.{clash, fails, or_left}
use Rattle.mesh.specs.declared.Mesh.{Mesh}
use Rattle.mesh.specs.Start.{Started}
use Rattle.mesh.specs.Start.{Accepted, Refused}
use Rattle.mesh.specs.Tables.{Tables, point_capacity, cleared}
use Rattle.mesh.specs.Start.{short, started_mesh, start_refusal, start_answer, start_tables, StartLeaves}
use Rattle.insertion.proofs.Refusals.{test_to_zero}
use Rattle.corrections.specs.Corrections.{too_short}
use Rattle.corrections.specs.Calls.{Leaves, with_length, corners_cleared, start_with}
use Rattle.corrections.proofs.Refusals.{length_long, length_short}

-- a table filled from the front: one entry more
fill_suc : (n : ℕ) (d : List ℤ) → n < length d → set (replicate n (pos 0) ++ drop n d) n (pos 0) ≡ replicate (suc n) (pos 0) ++ drop (suc n) d
fill_suc n [] l = absurd (not-suc-le-zero l)
fill_suc zero (x ∷ d) l = refl
fill_suc (suc n) (x ∷ d) l = ap (λ (t : List ℤ). pos 0 ∷ t) (fill_suc n d (le_of_suc-le-suc l))

pub one_cleared : (n : ℕ) (d : List ℤ) → n < length d → set (replicate n (pos 0) ++ drop n d) n (pos 0) ≡ replicate (n + 1) (pos 0) ++ drop (n + 1) d
one_cleared n d l = subst (λ k. set (replicate n (pos 0) ++ drop n d) n (pos 0) ≡ replicate k (pos 0) ++ drop k d) (sym (add-one n)) (fill_suc n d l)

same : (X Y Z : ℕ) (t : Tables) (cs : List ℤ) (w : ℕ) → too_short t cs ≡ false → with_length t cs (start_refusal X Y Z t w) ≡ start_refusal X Y Z t w
same X Y Z t cs w s = length_long t cs _ s

module _ (X Y Z : ℕ) (t : Tables) (cs : List ℤ) (ws : List ℕ) {ws' : List ℕ} where
  pub start_short : too_short t cs ≡ true → ws' ≡ cleared ws → Leaves (start_with X Y Z t cs (length ws)) ws (Refused 1) t cs ws'
  unfolding start_with
  start_short s c = let q = length_short t cs (start_refusal X Y Z t (length ws)) s in record { answer = rw q; tables = rw q; corrections = rw q; work = c }

  module _ (s : too_short t cs ≡ false) {t' : Tables} where
    pub start_refused : {r : Started} {e : ℕ} → r ≡ Refused e → StartLeaves X Y Z t ws r t' ws' → Leaves (start_with X Y Z t cs (length ws)) ws r t' cs ws'
    unfolding start_with start_answer start_tables
    start_refused {r} {e} q L = go (ℕ_discrete (start_refusal X Y Z t (length ws)) 0)
      where
        go : Dec (start_refusal X Y Z t (length ws) ≡ 0) → Leaves (start_with X Y Z t cs (length ws)) ws r t' cs ws'
        go (yes z) =
            let f : Refused e ≡ Accepted (started_mesh X Y Z) = sym q ∙ (L.answer ∙ rw z) in
            let n : ◌≡◌ {A = ℕ} 0 1 = cc in absurd (omega arith)
        go (no d) =
            let n = ne_eqb (start_refusal X Y Z t (length ws)) 0 d in
            record { answer = L.answer ∙ rw (same X Y Z t cs (length ws) s, n); tables = L.tables ∙ rw (same X Y Z t cs (length ws) s, n); corrections = rw (same X Y Z t cs (length ws) s, n); work = L.work }

    module _ {r : Started} {m : Mesh} (q : r ≡ Accepted m) (L : StartLeaves X Y Z t ws r t' ws') where
      passes : start_refusal X Y Z t (length ws) ≡ 0
      unfolding start_answer
      passes = go (ℕ_discrete (start_refusal X Y Z t (length ws)) 0)
        where
          go : Dec (start_refusal X Y Z t (length ws) ≡ 0) → start_refusal X Y Z t (length ws) ≡ 0
          go (yes z) = z
          go (no d) =
              let f : Accepted m ≡ Refused (start_refusal X Y Z t (length ws)) = sym q ∙ (L.answer ∙ rw (ne_eqb (start_refusal X Y Z t (length ws)) 0 d)) in
              let n : ◌≡◌ {A = ℕ} 0 1 = cc in absurd (omega arith)

      -- eight points' numbers are there
      pub corners_lent : 24 ≤ length cs
      unfolding start_refusal short too_short
      corners_lent =
          let h = (test_to_zero {b = short t (length ws)} {k = 1} (omega arith) passes).0 in
          omega (arith, ltb-false (length cs) (3 * point_capacity t) s, ltb-false (point_capacity t) 8 (fails _ (λ a. clash (or_left _ _ a) h)))

      pub start_accepted : Leaves (start_with X Y Z t cs (length ws)) ws r t' (corners_cleared cs) ws'
      unfolding start_with start_answer start_tables
      start_accepted = let z = passes in record { answer = L.answer ∙ rw (same X Y Z t cs (length ws) s, z); tables = L.tables ∙ rw (same X Y Z t cs (length ws) s, z); corrections = rw (same X Y Z t cs (length ws) s, z); work = L.work }

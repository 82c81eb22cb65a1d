-- The states are set back to 0 through the list of the cells inside.
use Prim.Native.Nat.{ℕ, ◌+◌, ◌≤◌, ◌<◌}
use mathlib.Core.Bool.{true}
use mathlib.Core.List.{List}
use mathlib.Core.Logic.{◌≢◌}
use mathlib.Core.Path.{◌≡◌, sym, ap, ◌∙◌, subst}
use native.Mathlib.Omega.{arith}
use native.Mathlib.Decide.{ℕ_discrete}
use lib.Dec.{ltb}
use lib.ListN.{length, get_or, set, length-set}
use lib.Seq.{get_or-set_same, get_or-set_other}
use borrow.Author.Tests.{le-ltb}
use Rattle.arith.proofs.Flags.{clash}
use Rattle.cavity.specs.Inner.{inside, Listed}
use Rattle.cavity.specs.Inner.Growth.{Empty}
use Rattle.cavity.proofs.Gathering.{none_inside}

-- after the first h listed cells, what is still inside is listed at place h or later
pub record ClearedTo (li : List ℕ) (size h : ℕ) (st : List ℕ) : Type 0 where
  pub states : length st ≡ 4096
  pub rest : (c : ℕ) → inside st c ≡ true → (k : ℕ) × (h ≤ k) × (k < size) × (get_or li k 0 ≡ c)

pub cleared_none : {st li : List ℕ} {size : ℕ} → Listed st li size → ClearedTo li size 0 st
cleared_none L = record { states = L.list.states; rest = λ c e. let k = L.list.all c e in (k.0, omega arith, k.1, k.2) }

pub cleared_more : {li : List ℕ} {size h : ℕ} {st : List ℕ} → ClearedTo li size h st → get_or li h 0 < 4096 → ClearedTo li size (h + 1) (set st (get_or li h 0) 0)
cleared_more {li} {size} {h} {st} C l = record {
  states = length-set st d 0 ∙ C.states;
  rest = λ c e. go c e (ℕ_discrete c d);
}
  where
    d : ℕ
    d = get_or li h 0

    out : inside (set st d 0) d ≡ true → ⊥
    out e = clash e (ap (ltb 0) (get_or-set_same st d 0 0 (omega (arith, C.states))) ∙ le-ltb 0 0 (omega arith))

    later : (c k : ℕ) → c ≢ d → get_or li k 0 ≡ c → k ≢ h
    later c k n e q = n (sym e ∙ ap (λ j. get_or li j 0) q)

    go : (c : ℕ) → inside (set st d 0) c ≡ true → Dec (c ≡ d) → (k : ℕ) × (h + 1 ≤ k) × (k < size) × (get_or li k 0 ≡ c)
    go c e (yes q) = absurd (out (subst (λ c. inside (set st d 0) c ≡ true) q e))
    go c e (no n) =
        let k = C.rest c (sym (ap (ltb 0) (get_or-set_other st d c 0 0 n)) ∙ e) in
        (k.0, omega (arith, k.1, later c k.0 n k.3), k.2, k.3)

pub cleared_all : {li : List ℕ} {size h : ℕ} {st : List ℕ} → size ≤ h → ClearedTo li size h st → length li ≡ 4096 → Empty st li
cleared_all {li} {size} {h} {st} s C l = record {
  states = C.states;
  entries = l;
  zero = none_inside st (λ c e. let k = C.rest c e in omega (arith, k.1, k.2));
}

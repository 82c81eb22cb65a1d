-- An array of codes, written point by point, and as the definition has it.
use Prim.Native.Nat.{ℕ, ◌+◌, ◌≤◌, ◌<◌}
use mathlib.Core.Bool.{true, false, cond}
use mathlib.Core.List.{List}
use mathlib.Core.Logic.{◌⊎◌, inl, inr}
use mathlib.Core.Path.{◌≡◌, sym, ◌∙◌, subst}
use native.Mathlib.Omega.{arith}
use borrow.Author.Tests.{ltb-true, ltb-false}
use lib.Dec.{ltb}
use lib.ListN.{length, get_or, set, length-set, replicate}
use lib.Seq.{ext_get_or, get_or-set_same, get_or-set_other}
use Rattle.std.proofs.lemmas.List.{length-replicate}
use Rattle.arith.proofs.Flags.{split}
use Rattle.arith.proofs.Tables.{tabulate_at, zeros_at, below_more}
use Rattle.locate.specs.Inner.{codes_below}
use Rattle.locate.proofs.Codes.{codes_length}

-- the codes of v points are such as P asks, and the rest 0
pub record Coded (P : ℕ → ℕ → Type 0) (v : ℕ) (codes : List ℕ) : Type 0 where
  pub long : length codes ≡ 1024
  pub coded : (k : ℕ) → k < v → P k (get_or codes k 0)
  pub rest : (k : ℕ) → v ≤ k → get_or codes k 0 ≡ 0

pub coded_none : (P : ℕ → ℕ → Type 0) → Coded P 0 (replicate 1024 0)
coded_none P = record { long = length-replicate {A = ℕ} 1024 0; coded = λ k h. absurd (omega arith); rest = λ k h. zeros_at 1024 k }

pub coded_more : {P : ℕ → ℕ → Type 0} {v : ℕ} {codes : List ℕ} → Coded P v codes → v < 1024 → {x : ℕ} → P v x → Coded P (v + 1) (set codes v x)
coded_more {P} {v} {codes} C h {x} p = record {
  long = length-set codes v x ∙ C.long;
  coded = below_more (λ k. P k (get_or (set codes v x) k 0)) v
      (λ k l. subst (P k) (sym (get_or-set_other codes v k x 0 (λ e. absurd (omega (arith, e, l))))) (C.coded k l))
      (subst (P v) (sym (get_or-set_same codes v x 0 (omega (arith, C.long)))) p);
  rest = λ k l. get_or-set_other codes v k x 0 (λ e. absurd (omega (arith, e, l))) ∙ C.rest k (omega arith);
}

pub coded_is : (f : ℕ → ℕ) {np : ℕ} {codes : List ℕ} → Coded (λ v x. x ≡ f v) np codes → codes ≡ codes_below np f
unfolding codes_below
coded_is f {np} {codes} C =
    ext_get_or 0 codes (codes_below np f) (C.long ∙ sym (codes_length np f)) (λ k l.
    at k (omega (arith, C.long)) ∙ sym (tabulate_at 1024 (λ v. cond (ltb v np) (f v) 0) k 0 (omega (arith, C.long))))
  where
    at : (k : ℕ) → k < 1024 → get_or codes k 0 ≡ cond (ltb k np) (f k) 0
    at k l = go (split (ltb k np))
      where
        go : (ltb k np ≡ true) ⊎ (ltb k np ≡ false) → get_or codes k 0 ≡ cond (ltb k np) (f k) 0
        go (inl e) = rw e (C.coded k (ltb-true k np e))
        go (inr e) = rw e (C.rest k (ltb-false k np e))

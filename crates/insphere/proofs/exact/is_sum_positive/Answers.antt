use Prim.Native.Nat.{◌^◌, ◌<◌}
use mathlib.Core.Path.{◌≡◌, sym, ap, ◌∙◌, subst}
use native.Mathlib.Omega.{arith}
use lib.Dec.{ltb}
use lib.IntN.{pos, nat_abs}
use lib.Signed.{lt_z}
use mir.Syntax.{w64}
use mir.Val.{to_z, of_z}
use Rattle.arith.proofs.Machine.{back, back_64}
use Rattle.insphere.specs.declared.Terms.{Terms}
use Rattle.insphere.specs.declared.Words.{Words}
use Rattle.insphere.specs.Inner.{TermsInRange, exact_sum, unit, value_of, term_words, sum_words}
use Rattle.insphere.proofs.TwoWords.{term_within, sum_high, sum_is, sum_low, high_tells, low_tells}
use Rattle.insphere.proofs.exact.is_sum_positive.Goals as goal

-- the words of the four terms, and their sum
module _ {x : Terms} (h : TermsInRange x) {a b c d w : Words} (ea : a ≡ term_words x.t0) (eb : b ≡ term_words x.t1) (ec : c ≡ term_words x.t2)
    (ed : d ≡ term_words x.t3) (e : w ≡ sum_words a b c d) where
  added : w ≡ sum_words (term_words x.t0) (term_words x.t1) (term_words x.t2) (term_words x.t3)
  added = e ∙ λ i. sum_words (ea i) (eb i) (ec i) (ed i)

  value_is : value_of w ≡ exact_sum x
  value_is = ap value_of added ∙ sum_is h

  high_read : back w64 w.high ≡ w.high
  high_read =
      back_64 w.high (subst (λ (w : Words). nat_abs w.high < 2 ^ 63) (sym added)
      (omega (arith, sum_high (term_within h.t0) (term_within h.t1) (term_within h.t2) (term_within h.t3))))

  low_below : w.low < unit
  low_below = subst (λ (w : Words). w.low < unit) (sym e) (sum_low a b c d)

  by_low : of_z w64 w.high ≡ 0 → ltb 0 w.low ≡ lt_z (pos 0) (exact_sum x)
  by_low zero = low_tells w (sym high_read ∙ ap (to_z w64) zero) ∙ ap (lt_z (pos 0)) value_is

  by_high : (of_z w64 w.high ≡ 0 → ⊥) → lt_z (pos 0) (back w64 w.high) ≡ lt_z (pos 0) (exact_sum x)
  by_high other = ap (lt_z (pos 0)) high_read ∙ (high_tells w low_below (λ z. other (ap (of_z w64) z)) ∙ ap (lt_z (pos 0)) value_is)

pub add-sum-requires : goal.add-sum-requires
add-sum-requires c =
    let h = c.requires in
    rw (c.multiply.ensures, c.multiply-2.ensures, c.multiply-3.ensures, c.multiply-4.ensures)
    (term_within h.t0, term_within h.t1, term_within h.t2, term_within h.t3)

pub returns-then-sum-eq0 : goal.returns-then-sum-eq0
returns-then-sum-eq0 c =
    by_low c.requires c.multiply.ensures c.multiply-2.ensures c.multiply-3.ensures c.multiply-4.ensures c.add-sum.ensures c.if-sum-eq0.true

pub returns-else-sum-eq0 : goal.returns-else-sum-eq0
returns-else-sum-eq0 c =
    by_high c.requires c.multiply.ensures c.multiply-2.ensures c.multiply-3.ensures c.multiply-4.ensures c.add-sum.ensures c.if-sum-eq0.false

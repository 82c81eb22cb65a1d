-- The table of powers of ten, and whether a digit is written.
use Rattle.std.proofs.Common.{◌≡◌, ℕ, ◌+◌, ◌-◌, ◌/◌, ◌%◌, ◌^◌, ◌<◌, ◌≤◌, true, ◌||◌, List, [], ◌∷◌, length, get_or, set, refl, subst, eqb, ltb, arith}
use native.Mathlib.Decide.{dec_lt, ℕ_discrete}
use mathlib.Core.Logic.{◌≢◌}
use borrow.Author.Tests.{eq-eqb, ne_eqb, lt-ltb, le-ltb}
use Rattle.lines.specs.Text.{digit}
use Rattle.lines.specs.Inner.{Wrote}
use Rattle.lines.proofs.Putting.{digit_shown, digit_hidden, digit_fits}
use Rattle.arith.proofs.Flags.{below_five, or_left, or_right}

abbrev pub powers : List ℕ
powers = 1 ∷ 10 ∷ 100 ∷ 1000 ∷ 10000 ∷ 100000 ∷ 1000000 ∷ 10000000 ∷ 100000000 ∷ 1000000000 ∷ []

pub power_at : (p : ℕ) → p < 10 → get_or powers p 0 ≡ 10 ^ p
power_at p h = go (dec_lt p 5)
  where
    go : Dec (p < 5) → get_or powers p 0 ≡ 10 ^ p
    go (yes l) = below_five (λ p. get_or powers p 0 ≡ 10 ^ p) refl refl refl refl refl p l
    go (no l) =
        let q : 5 + (p - 5) ≡ p = omega arith in
        subst (λ p. get_or powers p 0 ≡ 10 ^ p) q (below_five (λ k. get_or powers (5 + k) 0 ≡ 10 ^ (5 + k)) refl refl refl refl refl (p - 5) (omega arith))

module _ (k p at : ℕ) (out : List ℕ) (h : p < 10) (room : at + length (digit k p) ≤ length out) where
  pub no_digit : 0 < p → k / get_or powers p 0 ≡ 0 → Wrote (digit k p) out at at out
  no_digit l e = digit_hidden k p _ (power_at p h) refl out at (rw (ne_eqb p 0 (omega arith), le-ltb 0 (k / get_or powers p 0) (omega arith))) room

  module _ (c : p ≢ 0 → k / get_or powers p 0 ≢ 0) where
    counts : (eqb p 0 || ltb 0 (k / get_or powers p 0)) ≡ true
    counts = go (ℕ_discrete p 0)
      where
        go : Dec (p ≡ 0) → (eqb p 0 || ltb 0 (k / get_or powers p 0)) ≡ true
        go (yes e) = or_left (eqb p 0) (ltb 0 (k / get_or powers p 0)) (eq-eqb p 0 e)
        go (no d) = let n = c d in or_right (eqb p 0) (ltb 0 (k / get_or powers p 0)) (lt-ltb 0 (k / get_or powers p 0) (omega arith))

    pub digit_within : at < length out
    digit_within = digit_fits k p _ (power_at p h) refl out at counts room

    pub one_digit : Wrote (digit k p) out at (at + 1) (set out at (48 + k / get_or powers p 0 % 10))
    one_digit = digit_shown k p _ (power_at p h) refl out at counts room

-- A sum and a volume in 64 bits: their sizes, and the quotient with the sum's sign.
use Prim.Native.Nat.{ℕ, ◌+◌, ◌*◌, ◌/◌, ◌^◌, ◌≤◌, ◌<◌}
use mathlib.Core.Bool.{Bool, true, false, cond}
use mathlib.Core.Path.{◌≡◌, sym, ap, ap₂, ◌∙◌, subst}
use native.Mathlib.Nat.{div-le_self}
use native.Mathlib.Omega.{arith}
use lib.IntN.{ℤ, pos, neg_ℤ, nat_abs, ◌-ℤ◌}
use lib.Signed.{◌<ℤ◌, lt_z}
use mir.Syntax.{w64}
use Rattle.arith.proofs.Machine.{back, back_64, below_zero, negated}
use Rattle.corrections.specs.Rounding.{Nearest, rounded}
use Rattle.corrections.proofs.Rounding.{rounded_is}
use Rattle.corrections_round.proofs.round.Goals as goal

module _ (s v : ℤ) (h : (nat_abs s ≤ 1000 * 2 ^ 52) × (pos 0 <ℤ v) × (nat_abs v ≤ 2 ^ 52))
    {a b q : ℕ} (ea : a ≡ nat_abs (back w64 s)) (eb : b ≡ nat_abs (back w64 v)) (eq : q ≡ (2 * a + b) / (2 * b)) where
  sum< : nat_abs s < 2 ^ 63
  sum< = omega (arith, h.0)

  size_sum : a ≡ nat_abs s
  size_sum = ea ∙ ap nat_abs (back_64 s sum<)

  size_volume : b ≡ nat_abs v
  size_volume = eb ∙ ap nat_abs (back_64 v (omega (arith, h.2)))

  quotient< : q < 2 ^ 63
  quotient< = omega (arith, div-le_self (2 * a + b) (2 * b), size_sum, size_volume, h.0, h.2)

  rounded_by : {b : Bool} → lt_z (back w64 s) (pos 0) ≡ b → rounded s v ≡ cond b (neg_ℤ (pos q)) (pos q)
  unfolding rounded
  rounded_by e =
      ap₂ (λ b q. cond b (neg_ℤ (pos q)) (pos q)) (below_zero s sum< e) (ap₂ (λ a b. (2 * a + b) / (2 * b)) (sym size_sum) (sym size_volume) ∙ sym eq)

  nearest_below : lt_z (back w64 s) (pos 0) ≡ true → Nearest s v (back w64 (pos 0 -ℤ back w64 (pos q)))
  nearest_below e = subst (Nearest s v) (rounded_by e ∙ sym (negated (pos q) quotient<)) (rounded_is h.1)

  nearest_not_below : lt_z (back w64 s) (pos 0) ≡ false → Nearest s v (back w64 (pos q))
  nearest_not_below e = subst (Nearest s v) (rounded_by e ∙ sym (back_64 (pos q) quotient<)) (rounded_is h.1)

pub returns-then-sum-lt0 : goal.returns-then-sum-lt0
returns-then-sum-lt0 c =
    nearest_below c.args.sum c.args.volume c.requires c.unsigned_abs.ensures.value c.unsigned_abs-2.ensures.value c.quotient-q.ensures c.if-sum-lt0.true

pub returns-else-sum-lt0 : goal.returns-else-sum-lt0
returns-else-sum-lt0 c =
    nearest_not_below c.args.sum c.args.volume c.requires c.unsigned_abs.ensures.value c.unsigned_abs-2.ensures.value c.quotient-q.ensures c.if-sum-lt0.false

-- 'rounded to the nearest whole number, halves away from zero'
use Rattle.std.specs.Prelude.{◌+◌, ◌*◌, ◌/◌, cond, ℤ, pos, nat_abs, neg_ℤ, ◌+ℤ◌, ◌-ℤ◌, ◌*ℤ◌, ◌<ℤ◌, ◌≤ℤ◌}
use Rattle.std.specs.Int.Signed.{lt_z}

-- r is s over v, for v above 0, so rounded: it is off by a half at most, and of two numbers that are, the farther from 0. Just one number is:
-- `just_one` and `rounded_is` (proofs/Rounding).
pub record Nearest (s v r : ℤ) : Type 0 where
  pub not_above : (v *ℤ (pos 2 *ℤ r -ℤ pos 1)) ≤ℤ (pos 2 *ℤ s)
  pub not_below : (pos 2 *ℤ s) ≤ℤ (v *ℤ (pos 2 *ℤ r +ℤ pos 1))
  pub half_up : pos 0 ≤ℤ s → (pos 2 *ℤ s) <ℤ (v *ℤ (pos 2 *ℤ r +ℤ pos 1))
  pub half_down : s ≤ℤ pos 0 → (v *ℤ (pos 2 *ℤ r -ℤ pos 1)) <ℤ (pos 2 *ℤ s)

-- the whole part of a number's size and a half, with its sign
unfoldable pub rounded : ℤ → ℤ → ℤ
rounded s v = let q = (2 * nat_abs s + nat_abs v) / (2 * nat_abs v) in cond (lt_z s (pos 0)) (neg_ℤ (pos q)) (pos q)

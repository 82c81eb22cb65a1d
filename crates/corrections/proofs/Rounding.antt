-- Rounding: there is just one nearest number, the same for the same ratio, and it is within whole bounds of the ratio.
use Prim.Native.Nat.{ℕ, zero, suc, ◌+◌, ◌*◌, ◌/◌, ◌≤◌, ◌<◌}
use mathlib.Core.Bool.{cond}
use mathlib.Core.List.{[], ◌∷◌}
use mathlib.Core.Logic.{◌⊎◌, inl, inr}
use mathlib.Core.Path.{◌≡◌, sym, ap, ap₂, ◌∙◌, subst}
use native.Mathlib.Nat.{div-mul-le_self, lt-div-mul-add, mul-div-mul_right}
use native.Mathlib.Omega.{arith}
use borrow.Author.Tests.{le-ltb}
use lib.IntN.{ℤ, pos, negsuc, neg_ℤ, nat_abs, ◌+ℤ◌, ◌-ℤ◌, ◌*ℤ◌}
use lib.Signed.{◌≤ℤ◌, ◌<ℤ◌, lt_z, ≤ℤ_refl}
use Rattle.arith.proofs.Flags.{bool_ext}
use Rattle.arith.proofs.Integers.{*-distl-sub}
use Rattle.arith.proofs.Magnitude.{abs_parts, abs-*}
use Rattle.arith.proofs.Order.{arithℤ, pos_part, neg_part, Parts, atom, ◌⊞◌, ◌⊠◌, parts_add, parts_sub, parts_mul, parts_neg, total, <→≤, ≡→≤, ≤-<-trans, ≤-antisym, <-irrefl, lt_z_true, lt_lt_z, sub_pos, cancel_pos, *-nonneg, *-neg-l}
use Rattle.arith.proofs.Ring.{var, con, ◌⊕◌, ◌⊖◌, ◌⊗◌, ring}
use Rattle.corrections.specs.Rounding.{Nearest, rounded}

-- ---- `rounded` is nearest

minus_is : (q : ℕ) → pos_part (neg_ℤ (pos q)) + q ≡ 0 + neg_part (neg_ℤ (pos q))
minus_is q = omega (arith, parts_neg (pos q))

abbrev minus : (q : ℕ) → Parts (neg_ℤ (pos q))
minus q = record { p = 0; n = q; is = minus_is q }

-- q is the whole part of (2a + v) / 2v
module _ (a v q : ℕ) (h : 1 ≤ v) (k : q * (2 * v) ≤ 2 * a + v) (l : 2 * a + v < q * (2 * v) + 2 * v) where
  nearest_up : Nearest (pos a) (pos v) (pos q)
  nearest_up =
      let above = (atom (pos v) ⊠ (atom (pos 2) ⊠ atom (pos q) ⊞ atom (pos 1))).is in
      let below = (atom (pos v) ⊠ (atom (pos 2) ⊠ atom (pos q) ⊞ atom (negsuc 0))).is in
      record {
        not_above = omega arithℤ;
        not_below = omega arithℤ;
        half_up = λ z. omega arithℤ;
        half_down = λ z. let r = nothing v q h (omega arithℤ) in omega arithℤ;
      }
    where
      nothing : (v q : ℕ) → 1 ≤ v → q * (2 * v) ≤ v → q * v ≡ 0
      nothing v zero h k = omega arith
      nothing v (suc q) h k = omega arith

  nearest_down : 1 ≤ a → Nearest (neg_ℤ (pos a)) (pos v) (neg_ℤ (pos q))
  nearest_down m =
      let above = (atom (pos v) ⊠ (atom (pos 2) ⊠ minus q ⊞ atom (pos 1))).is in
      let below = (atom (pos v) ⊠ (atom (pos 2) ⊠ minus q ⊞ atom (negsuc 0))).is in
      let twice = (atom (pos 2) ⊠ minus a).is in
      let less = parts_neg (pos a) in
      record { not_above = omega arithℤ; not_below = omega arithℤ; half_up = λ z. omega arithℤ; half_down = λ z. omega arithℤ }

-- the definition is nearest
pub rounded_is : {s v : ℤ} → pos 0 <ℤ v → Nearest s v (rounded s v)
unfolding rounded
rounded_is {s = pos a} {v = pos v} h = rw (le-ltb a 0 (omega arith)) (nearest_up a v _ (omega arithℤ) (div-mul-le_self _ _) (lt-div-mul-add (omega arithℤ)))
rounded_is {s = negsuc a} {v = pos v} h = nearest_down (suc a) v _ (omega arithℤ) (div-mul-le_self _ _) (lt-div-mul-add (omega arithℤ)) (omega arith)
rounded_is {s} {v = negsuc v} h = absurd h.lt

-- a whole ratio
whole_is : (a : ℤ) {v : ℤ} → pos 0 <ℤ v → Nearest (a *ℤ v) v a
whole_is a {v} h =
    let double = con (pos 2) ⊗ (var 0 ⊗ var 1) in
    let up = ring (var 1 ⊗ (con (pos 2) ⊗ var 0 ⊕ con (pos 1))) (double ⊕ var 1) tt (a ∷ v ∷ []) in
    let down = ring (var 1 ⊗ (con (pos 2) ⊗ var 0 ⊖ con (pos 1))) (double ⊖ var 1) tt (a ∷ v ∷ []) in
    let more = parts_add (pos 2 *ℤ (a *ℤ v)) v in
    let less = parts_sub (pos 2 *ℤ (a *ℤ v)) v in
    record { not_above = omega arithℤ; not_below = omega arithℤ; half_up = λ z. omega arithℤ; half_down = λ z. omega arithℤ }

-- ---- the order

-- a greater sum has no smaller nearest number
monotone : {s s' v r r' : ℤ} → pos 0 <ℤ v → s ≤ℤ s' → Nearest s v r → Nearest s' v r' → r ≤ℤ r'
monotone {s} {s'} {v} {r} {r'} h l N N' = by (total (pos 0) s')
  where
    below : ℤ
    below = pos 2 *ℤ r -ℤ pos 1

    above : ℤ
    above = pos 2 *ℤ r' +ℤ pos 1

    close : (v *ℤ below) <ℤ (v *ℤ above) → r ≤ℤ r'
    close k =
        let m : below <ℤ above = sub_pos.1 (cancel_pos (above -ℤ below) h (subst (λ z. pos 0 <ℤ z) (sym (*-distl-sub v above below)) (sub_pos.0 k))) in
        omega (arithℤ, parts_sub (pos 2 *ℤ r) (pos 1), parts_mul (pos 2) r, parts_add (pos 2 *ℤ r') (pos 1), parts_mul (pos 2) r')

    by : (pos 0 ≤ℤ s') ⊎ (s' <ℤ pos 0) → r ≤ℤ r'
    by (inl k) = close (omega (arithℤ, N.not_above, N'.half_up k, parts_mul (pos 2) s, parts_mul (pos 2) s'))
    by (inr k) = close (omega (arithℤ, N.half_down (omega arithℤ), N'.not_below, parts_mul (pos 2) s, parts_mul (pos 2) s'))

-- just one number is nearest
pub just_one : {s v r r' : ℤ} → pos 0 <ℤ v → Nearest s v r → Nearest s v r' → r ≡ r'
just_one {s} h N N' = ≤-antisym (monotone h (≤ℤ_refl s) N N') (monotone h (≤ℤ_refl s) N' N)

module _ {s v : ℤ} (a : ℤ) (h : pos 0 <ℤ v) where
  -- a whole number that the ratio is not below, or not above, bounds what it is rounded to
  pub at_least : (a *ℤ v) ≤ℤ s → a ≤ℤ rounded s v
  at_least k = monotone h k (whole_is a h) (rounded_is h)

  pub at_most : s ≤ℤ (a *ℤ v) → rounded s v ≤ℤ a
  at_most k = monotone h k (rounded_is h) (whole_is a h)

  -- a whole ratio is rounded to itself
  pub exactly : s ≡ a *ℤ v → rounded s v ≡ a
  exactly e = ≤-antisym (at_most (≡→≤ e)) (at_least (≡→≤ (sym e)))

-- ---- equal ratios

module _ (s v s' v' : ℤ) (h : pos 0 <ℤ v) (h' : pos 0 <ℤ v') (e : s *ℤ v' ≡ s' *ℤ v) where
  below_zero : s <ℤ pos 0 → s' <ℤ pos 0
  below_zero k = by (total (pos 0) s')
    where
      by : (pos 0 ≤ℤ s') ⊎ (s' <ℤ pos 0) → s' <ℤ pos 0
      by (inl l) = absurd (<-irrefl (≤-<-trans (*-nonneg l (<→≤ h)) (subst (λ z. z <ℤ pos 0) e (*-neg-l k h'))))
      by (inr l) = l

-- equal ratios are rounded alike
pub same_ratio : (s v s' v' : ℤ) → pos 0 <ℤ v → pos 0 <ℤ v' → s *ℤ v' ≡ s' *ℤ v → rounded s v ≡ rounded s' v'
unfolding rounded
same_ratio s v s' v' h h' e = ap₂ (λ b q. cond b (neg_ℤ (pos q)) (pos q)) sign (quotients (nat_abs s) (nat_abs v) (nat_abs s') (nat_abs v') (size v h) (size v' h') sizes)
  where
    sign : lt_z s (pos 0) ≡ lt_z s' (pos 0)
    sign =
        bool_ext (lt_z s (pos 0)) (lt_z s' (pos 0)) (λ k. lt_lt_z (below_zero s v s' v' h h' e (lt_z_true s (pos 0) k)))
        (λ k. lt_lt_z (below_zero s' v' s v h' h (sym e) (lt_z_true s' (pos 0) k)))

    size : (v : ℤ) → pos 0 <ℤ v → 1 ≤ nat_abs v
    size v h = omega (arithℤ, abs_parts v)

    sizes : nat_abs s * nat_abs v' ≡ nat_abs s' * nat_abs v
    sizes = sym (abs-* s v') ∙ (ap nat_abs e ∙ abs-* s' v)

    quotients : (a v b w : ℕ) → 1 ≤ v → 1 ≤ w → a * w ≡ b * v → (2 * a + v) / (2 * v) ≡ (2 * b + w) / (2 * w)
    quotients a v b w h k e =
        let over : (2 * a + v) * w ≡ (2 * b + w) * v = omega (arith, e) in
        let under : 2 * v * w ≡ 2 * w * v = omega arith in
        sym (mul-div-mul_right (2 * a + v) (2 * v) k) ∙ (ap₂ ◌/◌ over under ∙ mul-div-mul_right (2 * b + w) (2 * w) h)

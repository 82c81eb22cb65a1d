-- Products of two numbers up to 2^52 in two words, from parts of 26 bits.
use Prim.Native.Nat.{ℕ, ◌+◌, ◌*◌, ◌/◌, ◌%◌, ◌^◌, ◌≤◌, ◌<◌}
use mathlib.Core.List.{[], ◌∷◌}
use mathlib.Core.Logic.{◌≢◌}
use mathlib.Core.Path.{◌≡◌, sym, ap, ap₂, ◌∙◌}
use native.Mathlib.Nat.{mul-le-mul}
use native.Mathlib.Omega.{arith}
use borrow.Author.Tests.{ltb-true, lt-ltb, leb-true, le-leb}
use lib.Dec.{ltb, leb}
use lib.IntN.{pos, nat_abs}
use Rattle.arith.proofs.Flags.{bool_ext}
use Rattle.arith.proofs.Ring.{var, con, ◌⊕◌, ◌⊗◌, ring}
use Rattle.segment.specs.declared.Product.{Product}
use Rattle.segment.specs.Inner.{product_of}

-- 2^26
abbrev part : ℕ
part = 67108864

module _ (x y : ℕ) where
  abbrev low : ℕ
  low = x % part * (y % part)

  abbrev middle : ℕ
  middle = x / part * (y % part) + x % part * (y / part) + low / part

  -- the product of the parts
  spread : x * y ≡ x / part * (y / part) * 2 ^ 52 + (x / part * (y % part) + x % part * (y / part)) * part + low
  spread = ap₂ ◌*◌ (whole x) (whole y) ∙ ap nat_abs
      (ring ((var 0 ⊗ con (pos part) ⊕ var 1) ⊗ (var 2 ⊗ con (pos part) ⊕ var 3))
      (var 0 ⊗ var 2 ⊗ con (pos (2 ^ 52)) ⊕ (var 0 ⊗ var 3 ⊕ var 1 ⊗ var 2) ⊗ con (pos part) ⊕ var 1 ⊗ var 3) tt
      (pos (x / part) ∷ pos (x % part) ∷ pos (y / part) ∷ pos (y % part) ∷ []))
    where
      whole : (z : ℕ) → z ≡ z / part * part + z % part
      whole z = omega arith

  pub words_are : record { high = x / part * (y / part) + middle / part; low = middle % part * part + low % part } ≡ product_of x y
  unfolding product_of
  words_are = λ i. record { high = high i; low = rest i }
    where
      carried : (a b d : ℕ) → a + (b + d / part) / part ≡ (a * 2 ^ 52 + b * part + d) / 2 ^ 52
      carried a b d = omega arith

      left : (a b d : ℕ) → (b + d / part) % part * part + d % part ≡ (a * 2 ^ 52 + b * part + d) % 2 ^ 52
      left a b d = omega arith

      high : x / part * (y / part) + middle / part ≡ x * y / 2 ^ 52
      high = carried (x / part * (y / part)) (x / part * (y % part) + x % part * (y / part)) low ∙ ap (λ z. z / 2 ^ 52) (sym spread)

      rest : middle % part * part + low % part ≡ x * y % 2 ^ 52
      rest = left (x / part * (y / part)) (x / part * (y % part) + x % part * (y / part)) low ∙ ap (λ z. z % 2 ^ 52) (sym spread)

  -- how far the products reach
  module _ (hx : x ≤ 2 ^ 52) (hy : y ≤ 2 ^ 52) where
    within : (u v : ℕ) → u ≤ part → v ≤ part → u * v ≤ 2 ^ 52
    within u v h k = mul-le-mul h k

    pub low≤ : low ≤ 2 ^ 52
    low≤ = within (x % part) (y % part) (omega arith) (omega arith)

    pub first≤ : x / part * (y % part) ≤ 2 ^ 52
    first≤ = within (x / part) (y % part) (omega arith) (omega arith)

    pub second≤ : x % part * (y / part) ≤ 2 ^ 52
    second≤ = within (x % part) (y / part) (omega arith) (omega arith)

    pub high≤ : x / part * (y / part) ≤ 2 ^ 52
    high≤ = within (x / part) (y / part) (omega arith) (omega arith)

-- two products are compared by their high words, and by the low ones where those are equal
module _ (x y u w : ℕ) {p q : Product} (P : p ≡ product_of x y) (Q : q ≡ product_of u w) where
  high_p : p.high ≡ x * y / 2 ^ 52
  unfolding product_of
  high_p = ap (λ r. r.high) P

  high_q : q.high ≡ u * w / 2 ^ 52
  unfolding product_of
  high_q = ap (λ r. r.high) Q

  low_p : p.low ≡ x * y % 2 ^ 52
  unfolding product_of
  low_p = ap (λ r. r.low) P

  low_q : q.low ≡ u * w % 2 ^ 52
  unfolding product_of
  low_q = ap (λ r. r.low) Q

  pub by_high : p.high ≢ q.high → ltb p.high q.high ≡ leb (x * y) (u * w)
  by_high d =
      bool_ext (ltb p.high q.high) (leb (x * y) (u * w))
      (λ e. le-leb (x * y) (u * w) (omega (arith, ltb-true p.high q.high e, high_p, high_q)))
      (λ e. lt-ltb p.high q.high (less p.high q.high (x * y) (u * w) d high_p high_q (leb-true (x * y) (u * w) e)))
    where
      less : (g h a b : ℕ) → g ≢ h → g ≡ a / 2 ^ 52 → h ≡ b / 2 ^ 52 → a ≤ b → g < h
      less g h a b d e f l = omega arith

  pub by_low : p.high ≡ q.high → leb p.low q.low ≡ leb (x * y) (u * w)
  by_low e =
      bool_ext (leb p.low q.low) (leb (x * y) (u * w))
      (λ g. le-leb (x * y) (u * w) (omega (arith, leb-true p.low q.low g, e, high_p, high_q, low_p, low_q)))
      (λ g. le-leb p.low q.low (omega (arith, leb-true (x * y) (u * w) g, e, high_p, high_q, low_p, low_q)))

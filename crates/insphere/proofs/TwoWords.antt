-- E in two words: what each step is worth, how far it reaches, and that the sign of the sum's words is that of E.
use Prim.Native.Nat.{ℕ, zero, suc, ◌+◌, ◌*◌, ◌/◌, ◌%◌, ◌^◌, ◌≤◌, ◌<◌}
use mathlib.Core.Logic.{◌≢◌}
use mathlib.Core.Path.{◌≡◌, refl, sym, ap, ap₂, ◌∙◌, subst}
use mathlib.Core.List.{[], ◌∷◌}
use native.Mathlib.Nat.{mul-le-mul}
use native.Mathlib.Omega.{arith}
use lib.Dec.{ltb}
use lib.IntN.{ℤ, pos, negsuc, nat_abs, ◌+ℤ◌, ◌-ℤ◌, ◌*ℤ◌}
use lib.Signed.{lt_z, ◌<ℤ◌, ◌≤ℤ◌, pos-nat_abs, yes_non_neg}
use Rattle.arith.proofs.Order.{arithℤ, parts_add, parts_mul, lt_z_true, lt_lt_z}
use Rattle.arith.proofs.Flags.{bool_ext}
use Rattle.arith.proofs.Magnitude.{abs_parts, abs-*, abs-+}
use Rattle.arith.proofs.Ring.{var, con, ◌⊕◌, ◌⊖◌, ◌⊗◌, ring}
use Rattle.insphere.specs.declared.Term.{Term}
use Rattle.insphere.specs.declared.Terms.{Terms}
use Rattle.insphere.specs.declared.Words.{Words}
use Rattle.insphere.specs.Inner.{TermInRange, TermsInRange, exact_sum, unit, value_of, parted, scaled, term_words, WordsInRange, sum_words}

-- ---- what the steps are worth

-- a number and its units
units : (x : ℕ) → pos x ≡ pos (x / unit) *ℤ pos unit +ℤ pos (x % unit)
units x = ap pos (two x)
  where
    two : (x : ℕ) → x ≡ x / unit * unit + x % unit
    two x = omega arith

-- 2^52 makes a volume at least 0
raised_nonneg : (v : ℤ) → nat_abs v ≤ 2 ^ 52 → pos 0 ≤ℤ (v +ℤ pos (2 ^ 52))
raised_nonneg v h = omega (arithℤ, parts_add v (pos (2 ^ 52)), abs_parts v)

parted_value : (v : ℤ) → nat_abs v ≤ 2 ^ 52 → value_of (parted v) ≡ v
unfolding value_of parted
parted_value v h =
    ring ((var 0 ⊖ con (pos (2 ^ 25))) ⊗ con (pos unit) ⊕ var 1) (var 0 ⊗ con (pos unit) ⊕ var 1 ⊖ con (pos (2 ^ 52))) tt (pos (u / unit) ∷ pos (u % unit) ∷ []) ∙
    (ap (λ z. z -ℤ pos (2 ^ 52)) (sym (units u) ∙ pos-nat_abs (v +ℤ pos (2 ^ 52)) (yes_non_neg (raised_nonneg v h))) ∙
    ring (var 0 ⊕ con (pos (2 ^ 52)) ⊖ con (pos (2 ^ 52))) (var 0) tt (v ∷ []))
  where
    u : ℕ
    u = nat_abs (v +ℤ pos (2 ^ 52))

scaled_value : (w : Words) (l : ℕ) → value_of (scaled w l) ≡ value_of w *ℤ pos l
unfolding value_of scaled
scaled_value w l =
    ring ((var 0 ⊗ var 1 ⊕ var 2) ⊗ var 3 ⊕ var 4) (var 0 ⊗ var 3 ⊗ var 1 ⊕ (var 2 ⊗ var 3 ⊕ var 4)) tt
    (w.high ∷ pos l ∷ pos (w.low * l / unit) ∷ pos unit ∷ pos (w.low * l % unit) ∷ []) ∙
    (ap (λ z. w.high *ℤ pos unit *ℤ pos l +ℤ z) (sym (units (w.low * l))) ∙
    ring (var 0 ⊗ var 3 ⊗ var 1 ⊕ var 2 ⊗ var 1) ((var 0 ⊗ var 3 ⊕ var 2) ⊗ var 1) tt (w.high ∷ pos l ∷ pos w.low ∷ pos unit ∷ []))

pub term_value : {x : Term} → TermInRange x → value_of (term_words x) ≡ x.volume *ℤ x.distance
unfolding term_words
term_value {x} h = scaled_value (parted x.volume) (nat_abs x.distance) ∙ ap₂ ◌*ℤ◌ (parted_value x.volume h.volume≤) (pos-nat_abs x.distance (yes_non_neg h.distance≥))

sum_value : (a b c d : Words) → value_of (sum_words a b c d) ≡ value_of a +ℤ value_of b +ℤ value_of c +ℤ value_of d
unfolding value_of sum_words
sum_value a b c d =
    ring ((var 0 ⊕ var 1) ⊗ var 2 ⊕ var 3) (var 0 ⊗ var 2 ⊕ (var 1 ⊗ var 2 ⊕ var 3)) tt (high ∷ pos (low / unit) ∷ pos unit ∷ pos (low % unit) ∷ []) ∙
    (ap (λ z. high *ℤ pos unit +ℤ z) (sym (units low)) ∙
    ring ((var 0 ⊕ var 1 ⊕ var 2 ⊕ var 3) ⊗ var 8 ⊕ (var 4 ⊕ var 5 ⊕ var 6 ⊕ var 7)) (var 0 ⊗ var 8 ⊕ var 4 ⊕ (var 1 ⊗ var 8 ⊕ var 5) ⊕ (var 2 ⊗ var 8 ⊕ var 6) ⊕ (var 3 ⊗ var 8 ⊕ var 7)) tt
    (a.high ∷ b.high ∷ c.high ∷ d.high ∷ pos a.low ∷ pos b.low ∷ pos c.low ∷ pos d.low ∷ pos unit ∷ []))
  where
    high : ℤ
    high = a.high +ℤ b.high +ℤ c.high +ℤ d.high

    low : ℕ
    low = a.low + b.low + c.low + d.low

-- ---- how far they reach

pub record Parted (w : Words) : Type 0 where
  pub high≤ : nat_abs w.high ≤ 2 ^ 25
  pub low< : w.low < unit

pub parted_within : (v : ℤ) → nat_abs v ≤ 2 ^ 52 → Parted (parted v)
parted_within v h = record { high≤ = high (parted v).high (parted v).low (unfold value_of in reach) low; low< = low }
  where
    reach : nat_abs (value_of (parted v)) ≤ 2 ^ 52
    reach = subst (λ z. nat_abs z ≤ 2 ^ 52) (sym (parted_value v h)) h

    low : (parted v).low < unit
    low = unfold parted in omega arith

    high : (z : ℤ) (x : ℕ) → nat_abs (z *ℤ pos unit +ℤ pos x) ≤ 2 ^ 52 → x < unit → nat_abs z ≤ 2 ^ 25
    high (pos z) x h l = omega (arith, h)
    high (negsuc z) x h l = omega (arith, parts_add (negsuc z *ℤ pos unit) (pos x), parts_mul (negsuc z) (pos unit), abs_parts (negsuc z *ℤ pos unit +ℤ pos x))

module _ (w : Words) (l : ℕ) (W : Parted w) (l≤ : l ≤ 3 * 2 ^ 34) where
  -- h·L, l·L and the units of l·L
  pub high_product : nat_abs (w.high *ℤ pos l) ≤ 3 * 2 ^ 59
  high_product = omega (arith, abs-* w.high (pos l), mul-le-mul W.high≤ l≤)

  pub low_product : w.low * l ≤ 3 * 2 ^ 61
  low_product = let h : w.low ≤ unit = omega (arith, W.low<) in omega (arith, mul-le-mul h l≤)

  pub units_moved : w.low * l / unit ≤ 3 * 2 ^ 34
  units_moved = omega (arith, low_product)

  pub scaled_within : WordsInRange (scaled w l)
  unfolding scaled
  scaled_within = record { high≤ = omega (arith, abs-+ (w.high *ℤ pos l) (pos (w.low * l / unit)), high_product, units_moved); low< = omega arith }

pub term_within : {x : Term} → TermInRange x → WordsInRange (term_words x)
unfolding term_words
term_within {x} h = scaled_within (parted x.volume) (nat_abs x.distance) (parted_within x.volume h.volume≤) h.distance≤

-- four high words, and the units of four low ones
pub sum_high : {a b c d : Words} → WordsInRange a → WordsInRange b → WordsInRange c → WordsInRange d → nat_abs (sum_words a b c d).high ≤ 7 * 2 ^ 60 + 4
unfolding sum_words
sum_high {a} {b} {c} {d} A B C D =
    omega (
      arith,
      A.high≤,
      B.high≤,
      C.high≤,
      D.high≤,
      A.low<,
      B.low<,
      C.low<,
      D.low<,
      abs-+ a.high b.high,
      abs-+ (a.high +ℤ b.high) c.high,
      abs-+ (a.high +ℤ b.high +ℤ c.high) d.high,
      abs-+ (a.high +ℤ b.high +ℤ c.high +ℤ d.high) (pos ((a.low + b.low + c.low + d.low) / unit)),
    )

-- ---- the sign of the sum

pub sum_low : (a b c d : Words) → (sum_words a b c d).low < unit
unfolding sum_words
sum_low a b c d = omega arith

pub sum_is : {x : Terms} → TermsInRange x → value_of (sum_words (term_words x.t0) (term_words x.t1) (term_words x.t2) (term_words x.t3)) ≡ exact_sum x
unfolding exact_sum
sum_is {x} h =
    sum_value (term_words x.t0) (term_words x.t1) (term_words x.t2) (term_words x.t3) ∙
    ap₂ ◌+ℤ◌ (ap₂ ◌+ℤ◌ (ap₂ ◌+ℤ◌ (term_value h.t0) (term_value h.t1)) (term_value h.t2)) (term_value h.t3)

-- the high word where it is not 0, else the low one
pub high_tells : (w : Words) → w.low < unit → w.high ≢ pos 0 → lt_z (pos 0) w.high ≡ lt_z (pos 0) (value_of w)
unfolding value_of
high_tells w l d = bool_ext (lt_z (pos 0) w.high) (lt_z (pos 0) (value_of w)) (λ e. lt_lt_z (up w.high (lt_z_true _ _ e))) (λ e. lt_lt_z (down w.high d (lt_z_true _ _ e)))
  where
    up : (h : ℤ) → pos 0 <ℤ h → pos 0 <ℤ (h *ℤ pos unit +ℤ pos w.low)
    up h e = omega (arithℤ, parts_add (h *ℤ pos unit) (pos w.low), parts_mul h (pos unit))

    down : (h : ℤ) → h ≢ pos 0 → pos 0 <ℤ (h *ℤ pos unit +ℤ pos w.low) → pos 0 <ℤ h
    down (pos zero) d e = absurd (d refl)
    down (pos (suc n)) d e = omega arithℤ
    down (negsuc n) d e = absurd (omega (arithℤ, parts_add (negsuc n *ℤ pos unit) (pos w.low), parts_mul (negsuc n) (pos unit)))

pub low_tells : (w : Words) → w.high ≡ pos 0 → ltb 0 w.low ≡ lt_z (pos 0) (value_of w)
unfolding value_of
low_tells w e = ap (λ l. ltb 0 l) (sym (zero_add w.low)) ∙ sym (ap (λ h. lt_z (pos 0) (h *ℤ pos unit +ℤ pos w.low)) e)
  where
    zero_add : (l : ℕ) → 0 + l ≡ l
    zero_add l = omega arith

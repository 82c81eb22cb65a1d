-- Four volumes, and their sum weighted by numbers in range, in 64 bits.
use Prim.Native.Nat.{ℕ, ◌+◌, ◌*◌, ◌^◌, ◌≤◌, ◌<◌}
use mathlib.Core.Bool.{Bool, true, not}
use mathlib.Core.Path.{◌≡◌, refl, sym, ap, ap₂, ◌∙◌, subst}
use native.Mathlib.Nat.{le_refl, mul-le-mul_right}
use native.Mathlib.Omega.{arith}
use mathlib.Core.List.{List, [], ◌∷◌}
use lib.IntN.{ℤ, pos, negsuc, nat_abs, ◌+ℤ◌, ◌*ℤ◌, +ℤ_idl}
use lib.ListN.{length, get_or, set}
use lib.Signed.{◌≤ℤ◌, ◌<ℤ◌, le_z, mag, yes_non_neg, pos-nat_abs}
use mir.Syntax.{w32, w64}
use mir.Val.{SFits}
use mir.ValLaws.{to_z-of_z}
use Rattle.arith.specs.Table.{sum}
use Rattle.arith.proofs.Flags.{below_four}
use Rattle.arith.proofs.Machine.{back, mach, fits_64, back_64}
use Rattle.arith.proofs.Magnitude.{abs_parts, parts_abs, abs-+, abs-*, mag_le}
use Rattle.arith.proofs.Order.{arithℤ, parts_mul, <→≤, le_z_true}
use Rattle.arith.proofs.Ring.{Expr, var, ◌⊕◌, ◌⊗◌}
use Rattle.arith.proofs.Tables.{all_at}
use Rattle.geometry.specs.declared.Volumes.{Volumes}
use Rattle.corrections.specs.declared.Correction.{Correction}
use Rattle.corrections.specs.Corrections.{number_of, with_correction, in_range}
use Rattle.corrections.specs.Rounding.{Nearest, rounded}
use Rattle.corrections.proofs.Rounding.{rounded_is, just_one, at_least, at_most}
use Rattle.corrections.proofs.Values.{in_range_size}
use Rattle.locate.specs.Inner.{volume_at, none_negative}

-- y, read back, is x, of size at most n
pub record Word (y x : ℤ) (n : ℕ) : Type 0 where
  pub is : back w64 y ≡ x
  pub size : nat_abs x ≤ n

module _ {y x y' x' : ℤ} {n n' : ℕ} (A : Word y x n) (B : Word y' x' n') (h : n + n' < 2 ^ 63) where
  added : back w64 y +ℤ back w64 y' ≡ x +ℤ x'
  added = ap₂ ◌+ℤ◌ A.is B.is

  size≤ : nat_abs (x +ℤ x') ≤ n + n'
  size≤ = omega (arith, abs-+ x x', A.size, B.size)

  pub sum_fits : SFits w64 (back w64 y +ℤ back w64 y')
  sum_fits = subst (SFits w64) (sym added) (fits_64 (x +ℤ x') (omega (arith, size≤)))

  pub sum_word : Word (back w64 y +ℤ back w64 y') (x +ℤ x') (n + n')
  sum_word = record { is = ap (λ z. back w64 z) added ∙ back_64 (x +ℤ x') (omega (arith, size≤)); size = size≤ }

module _ (x a : ℤ) (h : nat_abs x ≤ 2 ^ 52) (k : nat_abs a ≤ 1000) where
  multiplied : x *ℤ back w64 a ≡ x *ℤ a
  multiplied = ap (λ z. x *ℤ z) (back_64 a (omega arith))

  product≤ : nat_abs (x *ℤ a) ≤ 1000 * nat_abs x
  product≤ = omega (arith, abs-* x a, mul-le-mul_right (nat_abs x) k)

  pub product_fits : SFits w64 (x *ℤ back w64 a)
  product_fits = subst (SFits w64) (sym multiplied) (fits_64 (x *ℤ a) (omega (arith, product≤)))

  pub product_word : Word (x *ℤ back w64 a) (x *ℤ a) (1000 * nat_abs x)
  product_word = record { is = ap (λ z. back w64 z) multiplied ∙ back_64 (x *ℤ a) (omega (arith, product≤)); size = product≤ }

four_sizes : (a b c d : ℤ) → pos 0 ≤ℤ a → pos 0 ≤ℤ b → pos 0 ≤ℤ c → pos 0 ≤ℤ d → nat_abs (a +ℤ b +ℤ c +ℤ d) ≡ nat_abs a + nat_abs b + nat_abs c + nat_abs d
four_sizes (pos a) (pos b) (pos c) (pos d) h k l m = omega arith
four_sizes (pos a) (pos b) (pos c) (negsuc d) h k l m = absurd m.le
four_sizes (pos a) (pos b) (negsuc c) d h k l m = absurd l.le
four_sizes (pos a) (negsuc b) c d h k l m = absurd k.le
four_sizes (negsuc a) b c d h k l m = absurd h.le

module _ (v : Volumes) where
  pub four_added : volume_at v 0 +ℤ volume_at v 1 +ℤ volume_at v 2 +ℤ volume_at v 3 ≡ sum 4 (volume_at v)
  unfolding sum
  four_added = ap (λ z. z +ℤ volume_at v 1 +ℤ volume_at v 2 +ℤ volume_at v 3) (sym (+ℤ_idl (volume_at v 0)))

  -- none is below 0, so no partial sum is above the whole
  pub whole_size : none_negative v ≡ true → nat_abs (sum 4 (volume_at v)) ≡ nat_abs (volume_at v 0) + nat_abs (volume_at v 1) + nat_abs (volume_at v 2) + nat_abs (volume_at v 3)
  unfolding none_negative
  whole_size e =
      sym (ap nat_abs four_added) ∙
      four_sizes (volume_at v 0) (volume_at v 1) (volume_at v 2) (volume_at v 3) (at 0 (omega arith)) (at 1 (omega arith)) (at 2 (omega arith)) (at 3 (omega arith))
    where
      at : (i : ℕ) → i < 4 → pos 0 ≤ℤ volume_at v i
      at i l = le_z_true (pos 0) (volume_at v i) (all_at 4 (λ i. le_z (pos 0) (volume_at v i)) e i l)

  abbrev pub words : ℤ → ℤ → ℤ → ℤ → List ℤ
  words a b c d = v.v0 ∷ v.v1 ∷ v.v2 ∷ v.v3 ∷ a ∷ b ∷ c ∷ d ∷ []

-- the first two, three and four volumes, and the same weighted
abbrev pub volumes₂ : Expr
volumes₂ = var 0 ⊕ var 1

abbrev pub volumes₃ : Expr
volumes₃ = volumes₂ ⊕ var 2

abbrev pub terms₂ : Expr
terms₂ = var 0 ⊗ var 4 ⊕ var 1 ⊗ var 5

abbrev pub terms₃ : Expr
terms₃ = terms₂ ⊕ var 2 ⊗ var 6

abbrev pub terms₄ : Expr
terms₄ = terms₃ ⊕ var 3 ⊗ var 7

module _ (v : Volumes) (h : (none_negative v ≡ true) × (nat_abs (sum 4 (volume_at v)) ≤ 2 ^ 52)) where
  held : (y : ℤ) → Word y (back w64 y) (nat_abs (back w64 y))
  held y = record { is = refl; size = le_refl (nat_abs (back w64 y)) }

  abbrev ρ : List ℤ
  ρ = words v (pos 0) (pos 0) (pos 0) (pos 0)

  small : nat_abs (volume_at v 0) + nat_abs (volume_at v 1) + nat_abs (volume_at v 2) + nat_abs (volume_at v 3) < 2 ^ 63
  small = omega (arith, whole_size v h.0, h.1)

  two : Word (mach w64 ρ volumes₂) (volume_at v 0 +ℤ volume_at v 1) (nat_abs (volume_at v 0) + nat_abs (volume_at v 1))
  two = sum_word (held v.v0) (held v.v1) (omega (arith, small))

  three : Word (mach w64 ρ volumes₃) (volume_at v 0 +ℤ volume_at v 1 +ℤ volume_at v 2) (nat_abs (volume_at v 0) + nat_abs (volume_at v 1) + nat_abs (volume_at v 2))
  three = sum_word two (held v.v2) (omega (arith, small))

  pub volumes₂_fit : SFits w64 (mach w64 ρ volumes₂)
  volumes₂_fit = sum_fits (held v.v0) (held v.v1) (omega (arith, small))

  pub volumes₃_fit : SFits w64 (mach w64 ρ volumes₃)
  volumes₃_fit = sum_fits two (held v.v2) (omega (arith, small))

  pub volumes₄_fit : SFits w64 (mach w64 ρ (volumes₃ ⊕ var 3))
  volumes₄_fit = sum_fits three (held v.v3) small

  pub volumes_added : back w64 (mach w64 ρ (volumes₃ ⊕ var 3)) ≡ sum 4 (volume_at v)
  volumes_added = (sum_word three (held v.v3) small).is ∙ four_added v

module _ (v : Volumes) (a b c d : ℤ)
    (h : (none_negative v ≡ true) × (nat_abs (sum 4 (volume_at v)) ≤ 2 ^ 52) × (nat_abs a ≤ 1000) × (nat_abs b ≤ 1000) × (nat_abs c ≤ 1000) × (nat_abs d ≤ 1000)) where
  abbrev τ : List ℤ
  τ = words v a b c d

  sizes : nat_abs (volume_at v 0) + nat_abs (volume_at v 1) + nat_abs (volume_at v 2) + nat_abs (volume_at v 3) ≤ 2 ^ 52
  sizes = omega (arith, whole_size v h.0, h.1)

  pub term_fits : (i : ℕ) → i < 4 → SFits w64 (mach w64 τ (var i ⊗ var (i + 4)))
  term_fits =
      below_four (λ i. SFits w64 (mach w64 τ (var i ⊗ var (i + 4))))
      (product_fits (volume_at v 0) a (omega (arith, sizes)) h.2)
      (product_fits (volume_at v 1) b (omega (arith, sizes)) h.3)
      (product_fits (volume_at v 2) c (omega (arith, sizes)) h.4)
      (product_fits (volume_at v 3) d (omega (arith, sizes)) h.5)

  first : Word (mach w64 τ (var 0 ⊗ var 4)) (volume_at v 0 *ℤ a) (1000 * nat_abs (volume_at v 0))
  first = product_word (volume_at v 0) a (omega (arith, sizes)) h.2

  second : Word (mach w64 τ (var 1 ⊗ var 5)) (volume_at v 1 *ℤ b) (1000 * nat_abs (volume_at v 1))
  second = product_word (volume_at v 1) b (omega (arith, sizes)) h.3

  third : Word (mach w64 τ (var 2 ⊗ var 6)) (volume_at v 2 *ℤ c) (1000 * nat_abs (volume_at v 2))
  third = product_word (volume_at v 2) c (omega (arith, sizes)) h.4

  fourth : Word (mach w64 τ (var 3 ⊗ var 7)) (volume_at v 3 *ℤ d) (1000 * nat_abs (volume_at v 3))
  fourth = product_word (volume_at v 3) d (omega (arith, sizes)) h.5

  terms₂_word : Word (mach w64 τ terms₂) (volume_at v 0 *ℤ a +ℤ volume_at v 1 *ℤ b) (1000 * nat_abs (volume_at v 0) + 1000 * nat_abs (volume_at v 1))
  terms₂_word = sum_word first second (omega (arith, sizes))

  terms₃_word : Word (mach w64 τ terms₃) (volume_at v 0 *ℤ a +ℤ volume_at v 1 *ℤ b +ℤ volume_at v 2 *ℤ c) (1000 * nat_abs (volume_at v 0) + 1000 * nat_abs (volume_at v 1) + 1000 * nat_abs (volume_at v 2))
  terms₃_word = sum_word terms₂_word third (omega (arith, sizes))

  pub terms₂_fit : SFits w64 (mach w64 τ terms₂)
  terms₂_fit = sum_fits first second (omega (arith, sizes))

  pub terms₃_fit : SFits w64 (mach w64 τ terms₃)
  terms₃_fit = sum_fits terms₂_word third (omega (arith, sizes))

  pub terms₄_fit : SFits w64 (mach w64 τ terms₄)
  terms₄_fit = sum_fits terms₃_word fourth (omega (arith, sizes))

  pub terms_added : back w64 (mach w64 τ terms₄) ≡ volume_at v 0 *ℤ a +ℤ volume_at v 1 *ℤ b +ℤ volume_at v 2 *ℤ c +ℤ volume_at v 3 *ℤ d
  terms_added = (sum_word terms₃_word fourth (omega (arith, sizes))).is

  pub terms≤ : nat_abs (volume_at v 0 *ℤ a +ℤ volume_at v 1 *ℤ b +ℤ volume_at v 2 *ℤ c +ℤ volume_at v 3 *ℤ d) ≤ 1000 * nat_abs (sum 4 (volume_at v))
  terms≤ = omega (arith, (sum_word terms₃_word fourth (omega (arith, sizes))).size, whole_size v h.0)

-- ---- a number of 32 bits

module _ (z : ℤ) (h : mag z < 2 ^ 31) where
  pub read_32 : back w32 z ≡ z
  read_32 = to_z-of_z w32 z record { sfits = h }

  fits : SFits w64 z
  fits = record { sfits = omega arith }

  pub widened : {r : ℤ} → r ≡ back w32 z → back w64 r ≡ z
  widened e = ap (λ x. back w64 x) (e ∙ read_32) ∙ to_z-of_z w64 z fits

pub numbers_put : (cs : List ℤ) (v : ℕ) (d : Correction) → mag d.x < 2 ^ 31 → mag d.y < 2 ^ 31 → mag d.z < 2 ^ 31 →
    set (set (set cs (3 * v) (back w32 d.x)) (3 * v + 1) (back w32 d.y)) (3 * v + 2) (back w32 d.z) ≡ with_correction cs v d
unfolding with_correction
numbers_put cs v d hx hy hz =
    λ i. set (set (set cs (3 * v) (read_32 d.x hx i)) (3 * v + 1) (read_32 d.y hy i)) (3 * v + 2) (read_32 d.z hz i)

pub tested : (z : ℤ) → mag z < 2 ^ 31 → {r : Bool} → r ≡ in_range (back w32 z) → not (in_range z) ≡ not r
tested z h e = sym (ap not (e ∙ ap in_range (read_32 z h)))

-- ---- the value on an axis

-- the first three facts are of the volumes, the last of the four numbers
module _ (cs : List ℤ) (k : List ℕ) (axis : ℕ) (v : Volumes)
    (h : (none_negative v ≡ true) × (pos 0 <ℤ sum 4 (volume_at v)) × (nat_abs (sum 4 (volume_at v)) ≤ 2 ^ 52)
    × ((i : ℕ) → i < 4 → (3 * get_or k i 0 + axis < length cs) × (in_range (number_of cs axis (get_or k i 0)) ≡ true))) where
  abbrev f : ℕ → ℤ
  f i = number_of cs axis (get_or k i 0)

  abbrev whole : ℤ
  whole = sum 4 (volume_at v)

  abbrev weighted : ℤ
  weighted = sum 4 (λ i. volume_at v i *ℤ f i)

  number≤ : (i : ℕ) → i < 4 → nat_abs (f i) ≤ 1000
  number≤ i l = in_range_size (f i) (h.3 i l).1

  small_numbers : (none_negative v ≡ true) × (nat_abs whole ≤ 2 ^ 52) × (nat_abs (f 0) ≤ 1000) × (nat_abs (f 1) ≤ 1000) × (nat_abs (f 2) ≤ 1000) × (nat_abs (f 3) ≤ 1000)
  small_numbers = (h.0, h.2, number≤ 0 (omega arith), number≤ 1 (omega arith), number≤ 2 (omega arith), number≤ 3 (omega arith))

  terms_are : volume_at v 0 *ℤ f 0 +ℤ volume_at v 1 *ℤ f 1 +ℤ volume_at v 2 *ℤ f 2 +ℤ volume_at v 3 *ℤ f 3 ≡ weighted
  unfolding sum
  terms_are = ap (λ z. z +ℤ volume_at v 1 *ℤ f 1 +ℤ volume_at v 2 *ℤ f 2 +ℤ volume_at v 3 *ℤ f 3) (sym (+ℤ_idl (volume_at v 0 *ℤ f 0)))

  whole_above : pos (nat_abs whole) ≡ whole
  whole_above = pos-nat_abs whole (yes_non_neg (<→≤ h.1))

  weighted≤ : nat_abs weighted ≤ 1000 * nat_abs whole
  weighted≤ = subst (λ z. nat_abs z ≤ 1000 * nat_abs whole) terms_are (terms≤ v (f 0) (f 1) (f 2) (f 3) small_numbers)

  -- as the numbers are read
  module _ {a b c d : ℤ} (ea : a ≡ f 0) (eb : b ≡ f 1) (ec : c ≡ f 2) (ed : d ≡ f 3) where
    read : (i : ℕ) → i < 4 → {x : ℤ} → x ≡ f i → back w64 x ≡ f i
    read i l e = ap (λ z. back w64 z) e ∙ back_64 (f i) (omega (arith, number≤ i l))

    pub read_small : (none_negative v ≡ true) × (nat_abs whole ≤ 2 ^ 52) × (nat_abs (back w64 a) ≤ 1000) × (nat_abs (back w64 b) ≤ 1000) × (nat_abs (back w64 c) ≤ 1000) × (nat_abs (back w64 d) ≤ 1000)
    read_small = (
      h.0,
      h.2,
      omega (arith, ap nat_abs (read 0 (omega arith) ea), number≤ 0 (omega arith)),
      omega (arith, ap nat_abs (read 1 (omega arith) eb), number≤ 1 (omega arith)),
      omega (arith, ap nat_abs (read 2 (omega arith) ec), number≤ 2 (omega arith)),
      omega (arith, ap nat_abs (read 3 (omega arith) ed), number≤ 3 (omega arith)),
    )

    module _ {w u : ℤ} (ew : w ≡ volume_at v 0 *ℤ back w64 a +ℤ volume_at v 1 *ℤ back w64 b +ℤ volume_at v 2 *ℤ back w64 c +ℤ volume_at v 3 *ℤ back w64 d) (eu : u ≡ whole) where
      sum_read : back w64 w ≡ weighted
      sum_read =
          ap (λ z. back w64 z) (ew ∙ ((λ i. volume_at v 0 *ℤ read 0 (omega arith) ea i +ℤ volume_at v 1 *ℤ read 1 (omega arith) eb i +ℤ volume_at v 2 *ℤ read 2 (omega arith) ec i +ℤ volume_at v 3 *ℤ read 3 (omega arith) ed i) ∙ terms_are)) ∙
          back_64 weighted (omega (arith, weighted≤, h.2))

      volume_read : back w64 u ≡ whole
      volume_read = ap (λ z. back w64 z) eu ∙ back_64 whole (omega (arith, h.2))

      pub ratio_within : (nat_abs (back w64 w) ≤ 1000 * 2 ^ 52) × (pos 0 <ℤ back w64 u) × (nat_abs (back w64 u) ≤ 2 ^ 52)
      ratio_within = (
        omega (arith, ap nat_abs sum_read, weighted≤, h.2),
        subst (λ z. pos 0 <ℤ z) (sym volume_read) h.1,
        omega (arith, ap nat_abs volume_read, h.2),
      )

      module _ {r : ℤ} (N : Nearest (back w64 w) (back w64 u) r) where
        is : r ≡ rounded weighted whole
        is = just_one h.1 (subst (λ z. Nearest z whole r) sum_read (subst (λ z. Nearest (back w64 w) z r) volume_read N)) (rounded_is h.1)

        low : negsuc 999 ≤ℤ r
        low = subst (λ z. negsuc 999 ≤ℤ z) (sym is) (at_least (negsuc 999) h.1 (omega (arithℤ, weighted≤, whole_above, abs_parts weighted, abs_parts whole, parts_mul (negsuc 999) whole)))

        high : r ≤ℤ pos 1000
        high = subst (λ z. z ≤ℤ pos 1000) (sym is) (at_most (pos 1000) h.1 (omega (arithℤ, weighted≤, whole_above, abs_parts weighted, abs_parts whole, parts_mul (pos 1000) whole)))

        small_value : nat_abs r ≤ 1000
        small_value = parts_abs r 1000 (omega (arithℤ, low, high)) (omega (arithℤ, low, high))

        value_read : back w64 r ≡ r
        value_read = back_64 r (omega (arith, small_value))

        pub value_fits : SFits w32 (back w64 r)
        value_fits = subst (SFits w32) (sym value_read) record { sfits = omega (arith, mag_le r, small_value) }

        pub value_is : back w32 (back w64 r) ≡ rounded weighted whole
        value_is = to_z-of_z w32 (back w64 r) value_fits ∙ (value_read ∙ is)

use Prim.Native.Nat.{ℕ, ◌*◌, ◌/◌, ◌%◌, ◌^◌, ◌≤◌, ◌<◌}
use mathlib.Core.Path.{◌≡◌, ◌∙◌, sym, ap}
use native.Mathlib.Omega.{arith}
use lib.IntN.{ℤ, pos, nat_abs, ◌+ℤ◌, ◌*ℤ◌}
use lib.Signed.{pos-nat_abs, yes_non_neg}
use mir.Syntax.{w64}
use Rattle.arith.proofs.Machine.{back, fits_64, back_64}
use Rattle.insphere.specs.declared.Term.{Term}
use Rattle.insphere.specs.declared.Words.{Words}
use Rattle.insphere.specs.Inner.{TermInRange, unit, parted, scaled, term_words}
use Rattle.insphere.proofs.TwoWords.{Parted, parted_within, high_product, low_product, units_moved, scaled_within}
use Rattle.insphere.proofs.exact.multiply.Goals as goal

module _ {x : Term} (h : TermInRange x) where
  -- the words and the distance
  abbrev w : Words
  w = parted x.volume

  abbrev l : ℕ
  l = nat_abs x.distance

  within : Parted w
  within = parted_within x.volume h.volume≤

  parted_is : {r : Words} → r ≡ parted (back w64 x.volume) → r ≡ w
  parted_is e = e ∙ ap parted (back_64 x.volume (omega (arith, h.volume≤)))

  distance_read : back w64 x.distance ≡ pos l
  distance_read = back_64 x.distance (omega (arith, h.distance≤)) ∙ sym (pos-nat_abs x.distance (yes_non_neg h.distance≥))

  high_read : back w64 w.high ≡ w.high
  high_read = back_64 w.high (omega (arith, within.high≤))

  low_small : w.low * l < 2 ^ 64
  low_small = omega (arith, low_product w l within h.distance≤)

  -- the high product, the low product's units, and their sum
  abbrev upper : ℤ
  upper = w.high *ℤ pos l

  upper_small : nat_abs upper < 2 ^ 63
  upper_small = omega (arith, high_product w l within h.distance≤)

  abbrev units : ℕ
  units = w.low * l / unit

  units_small : units < 2 ^ 63
  units_small = omega (arith, units_moved w l within h.distance≤)

  sum_small : nat_abs (upper +ℤ pos units) < 2 ^ 63
  unfolding scaled
  sum_small = let k : nat_abs (upper +ℤ pos units) ≤ 7 * 2 ^ 58 = (scaled_within w l within h.distance≤).high≤ in omega (arith, k)

  upper_read : back w64 upper ≡ upper
  upper_read = back_64 upper upper_small

  units_read : back w64 (pos units) ≡ pos units
  units_read = back_64 (pos units) units_small

pub overflow_mul-low : goal.overflow_mul-low
overflow_mul-low c =
    let h = c.requires in
    rw (parted_is h c.part-w.ensures, distance_read h) record { fits = low_small h }

pub overflow_mul-result : goal.overflow_mul-result
overflow_mul-result c =
    let h = c.requires in
    rw (parted_is h c.part-w.ensures, distance_read h, high_read h) (fits_64 (upper h) (upper_small h))

pub overflow_cast-result : goal.overflow_cast-result
overflow_cast-result c =
    let h = c.requires in
    rw (parted_is h c.part-w.ensures, distance_read h) (fits_64 (pos (units h)) (units_small h))

pub overflow_add-result : goal.overflow_add-result
overflow_add-result c =
    let h = c.requires in
    rw (parted_is h c.part-w.ensures, distance_read h, high_read h, upper_read h, units_read h)
    (fits_64 (upper h +ℤ pos (units h)) (sum_small h))

pub returns : goal.returns
unfolding term_words scaled
returns c =
    let h = c.requires in
    rw (parted_is h c.part-w.ensures, distance_read h, high_read h, upper_read h, units_read h)
    (λ i. record { high = back_64 (upper h +ℤ pos (units h)) (sum_small h) i; low = (w h).low * l h % unit })

use Prim.Native.Nat.{◌/◌, ◌%◌, ◌^◌, ◌≤◌}
use mathlib.Core.Path.{◌≡◌}
use mathlib.Core.List.{[], ◌∷◌}
use native.Mathlib.Omega.{arith}
use lib.IntN.{ℤ, pos, nat_abs, ◌+ℤ◌, ◌-ℤ◌}
use mir.Syntax.{w64}
use Rattle.arith.proofs.Magnitude.{abs-+}
use Rattle.arith.proofs.Machine.{back, exact, back_64}
use Rattle.arith.proofs.Ring.{var, con, ◌⊕◌}
use Rattle.insphere.specs.Inner.{unit, parted}
use Rattle.insphere.proofs.TwoWords.{parted_within}
use Rattle.insphere.proofs.exact.part.Goals as goal

module _ (v : ℤ) (h : nat_abs v ≤ 2 ^ 52) where
  abbrev u : ℤ
  u = v +ℤ pos (2 ^ 52)

  raised_is : back w64 (back w64 v +ℤ pos (2 ^ 52)) ≡ u
  raised_is = exact w64 (var 0 ⊕ con (pos (2 ^ 52))) (v ∷ []) (2 ^ 52 ∷ []) tt (h, tt)

  units_read : back w64 (pos (nat_abs u / unit)) ≡ pos (nat_abs u / unit)
  units_read = back_64 (pos (nat_abs u / unit)) (omega (arith, abs-+ v (pos (2 ^ 52)), h))

  -- of its units 2^25 are taken away
  abbrev high : ℤ
  high = pos (nat_abs u / unit) -ℤ pos (2 ^ 25)

  high_read : back w64 high ≡ high
  unfolding parted
  high_read = let k : nat_abs high ≤ 2 ^ 25 = (parted_within v h).high≤ in back_64 high (omega (arith, k))

pub returns : goal.returns
unfolding parted
returns c =
    let v = c.args.v in
    let h = c.requires in
    rw (raised_is v h, units_read v h) (λ i. record { high = high_read v h i; low = nat_abs (u v h) % unit })

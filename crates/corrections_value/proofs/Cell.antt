-- A cell that holds a position, as its corners and its four volumes are read: what the value on an axis asks, and what it is.
use Prim.Native.Nat.{ℕ, ◌+◌, ◌*◌, ◌^◌, ◌≤◌, ◌<◌}
use mathlib.Core.Bool.{true}
use mathlib.Core.List.{List, []}
use mathlib.Core.Path.{◌≡◌, sym, ap, ap₂, ◌∙◌, subst}
use native.Mathlib.Omega.{arith}
use lib.IntN.{ℤ, pos, nat_abs, ◌*ℤ◌}
use lib.ListN.{length, get_or}
use lib.Signed.{◌<ℤ◌}
use mir.Syntax.{w32}
use Rattle.arith.specs.Table.{sum}
use Rattle.arith.proofs.Machine.{back}
use Rattle.arith.proofs.Magnitude.{mag_le}
use Rattle.arith.proofs.Sums.{sum_cong}
use Rattle.geometry.specs.declared.Position.{Position}
use Rattle.geometry.specs.declared.Volumes.{Volumes}
use Rattle.geometry.specs.Volume.{InRange, volume, replaced}
use Rattle.geometry.specs.Inner.{volumes_at}
use Rattle.geometry.proofs.Bounds.{volume_within}
use Rattle.mesh.specs.Tables.{Tables, tables, point_in, corner, corner_at, cell_volume, side, freed, live, IsCell}
use Rattle.mesh.specs.Inner.{four_at, positions_of, Cornered}
use Rattle.mesh.proofs.Corners.{placed_cornered}
use Rattle.mesh.proofs.Numbers.{four_corner}
use Rattle.locate.specs.Inner.{volume_at, none_negative}
use Rattle.locate.proofs.Codes.{measured, none_negative_is, side_of_four, holds_is, holder_cell}
use Rattle.corrections.specs.Rounding.{rounded}
use Rattle.corrections.specs.Corrections.{number_of, in_range, weighted_sum, value_in}
use Rattle.corrections.specs.Inner.{Readable}
use Rattle.corrections.proofs.Values.{weights_add, in_range_size, number_in_range, value_in_range}
use Rattle.corrections_value.proofs.Words.{read_32}

module _ (ps ks : List ℕ) (cs : List ℤ) (q : Position) (c : ℕ) (R : Readable ps ks cs q c) where
  abbrev t : Tables
  t = tables ps ks []

  cell : IsCell t R.n c
  cell = holder_cell t q R.cell< R.held

  entry : IsCell (tables [] ks []) R.n c
  unfolding live freed corner
  entry = record { below = R.cell<; lives = cell.lives }

  above : pos 0 <ℤ cell_volume t c
  above = R.solid.positive c entry

  corner< : (i : ℕ) → i < 4 → corner t c i < R.np
  unfolding corner
  corner< i h = R.solid.below c i entry h

  module _ {k : List ℕ} (ek : k ≡ four_at ks c) where
    corner_is : (i : ℕ) → i < 4 → get_or k i 0 ≡ corner t c i
    corner_is i h = ap (λ k. get_or k i 0) ek ∙ four_corner t c i h

    pub cornered : Cornered ps k
    cornered = placed_cornered R.solid.placed (λ i h. subst (λ v. v < R.np) (sym (corner_is i h)) (corner< i h))

    module _ {v : Volumes} (ev : v ≡ volumes_at (positions_of ps k) q) where
      volume_is : (i : ℕ) → i < 4 → volume_at v i ≡ side t q (4 * c + i)
      volume_is i h =
          measured ps k q ev cornered R.position i h ∙
          (ap (λ k. volume (replaced (λ j. point_in ps (get_or k j 0)) i q)) ek ∙ side_of_four ps ks [] c i q h)

      whole_is : sum 4 (volume_at v) ≡ cell_volume t c
      whole_is = sum_cong 4 (volume_at v) (λ i. side t q (4 * c + i)) volume_is ∙ weights_add t q c

      whole≤ : nat_abs (cell_volume t c) ≤ 2 ^ 52
      unfolding cell_volume corner_at volume
      whole≤ = volume_within _ _ _ _ (at 0 (omega arith)) (at 1 (omega arith)) (at 2 (omega arith)) (at 3 (omega arith))
        where
          at : (i : ℕ) → i < 4 → InRange (point_in ps (corner t c i))
          at i h = R.solid.placed.in_range (corner t c i) (corner< i h)

      pub asked : (axis : ℕ) → axis < 3 → (none_negative v ≡ true) × (pos 0 <ℤ sum 4 (volume_at v)) × (nat_abs (sum 4 (volume_at v)) ≤ 2 ^ 52)
          × ((i : ℕ) → i < 4 → (3 * get_or k i 0 + axis < length cs) × (in_range (number_of cs axis (get_or k i 0)) ≡ true))
      asked axis l = (
        none_negative_is ps k q ev cornered R.position ∙ (holds_is ps ks [] c q cell.lives ek ∙ R.held),
        subst (λ z. pos 0 <ℤ z) (sym whole_is) above,
        subst (λ z. nat_abs z ≤ 2 ^ 52) (sym whole_is) whole≤,
        λ i h.
            let e = corner_is i h in
            (omega (arith, corner< i h, R.standing.long), subst (λ u. in_range (number_of cs axis u) ≡ true) (sym e) (number_in_range R.np cs R.standing.range axis (corner t c i) l (corner< i h))),
      )

      pub value : (axis : ℕ) → axis < 3 → {r : ℤ} → r ≡ rounded (sum 4 (λ i. volume_at v i *ℤ number_of cs axis (get_or k i 0))) (sum 4 (volume_at v)) → back w32 r ≡ value_in t q (number_of cs axis) c
      value axis l {r} e = ap (λ z. back w32 z) is ∙ read_32 (value_in t q (number_of cs axis) c) (omega (arith, mag_le (value_in t q (number_of cs axis) c), in_range_size _ range))
        where
          is : r ≡ value_in t q (number_of cs axis) c
          is =
              unfold value_in weighted_sum in
              e ∙ ap₂ rounded (sum_cong 4 (λ i. volume_at v i *ℤ number_of cs axis (get_or k i 0)) (λ i. side t q (4 * c + i) *ℤ number_of cs axis (corner t c i))
              (λ i h. ap₂ (λ a u. a *ℤ number_of cs axis u) (volume_is i h) (corner_is i h))) whole_is

          range : in_range (value_in t q (number_of cs axis) c) ≡ true
          range = value_in_range R.np cs R.standing.range t q c axis above R.held l corner<

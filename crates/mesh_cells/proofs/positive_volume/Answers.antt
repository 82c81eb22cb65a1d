use Rattle.std.proofs.Common.{ℕ, ◌≡◌, ◌≢◌, Bool, true, false, ◌&&◌, cond, ltb, List, get_or, ℤ, pos, refl, sym, ◌∙◌, arith}
use lib.IntN.{negsuc, nat_abs}
use lib.Signed.{lt_z}
use mir.Val.{to_z, of_z}
use mir.Syntax.{w64}
use mir.Facts.{to_z-of_z}
use borrow.Author.Tests.{ltb-true}
use Rattle.arith.proofs.Tables.{all_at}
use Rattle.geometry.specs.Volume.{volume}
use Rattle.mesh.specs.Inner.{volume_of_four}
use Rattle.mesh.specs.Inner.Cells.{numbers_below, four_ok, volume_or_zero}
use Rattle.mesh.proofs.Corners.{placed_cornered, read_in_range}
use Rattle.mesh_cells.proofs.positive_volume.Goals as goal

-- ---- by the sign of the volume z

value : (ps : List ℕ) (np : ℕ) (k : List ℕ) (z : ℤ) → numbers_below np k ≡ true → z ≡ volume_of_four ps k → lt_z (pos 0) z ≡ true → nat_abs z ≡ volume_or_zero ps np k
unfolding volume_or_zero four_ok
value ps np k z below e h = rw (below, sym e, h)

no_value : (ps : List ℕ) (np : ℕ) (k : List ℕ) (z : ℤ) → z ≡ volume_of_four ps k → lt_z (pos 0) z ≡ false → volume_or_zero ps np k ≡ 0
unfolding volume_or_zero four_ok
no_value ps np k z e h = rw (sym e, h) (none (numbers_below np k))
  where
    none : (b : Bool) → ◌≡◌ {A = ℕ} (cond (b && false) (nat_abs z) 0) 0
    none true = refl
    none false = refl

not_zero : (z : ℤ) → lt_z (pos 0) z ≡ true → nat_abs z ≢ 0
not_zero (pos n) h = λ e. absurd (omega (arith, ltb-true 0 n h, e))
not_zero (negsuc n) h = cc

-- ---- the code

pub returns-then-not-all_below : goal.returns-then-not-all_below
unfolding volume_or_zero four_ok
returns-then-not-all_below c = rw (sym c.all_below.ensures ∙ c.if-not-all_below.true)

pub positions-requires : goal.positions-requires
unfolding numbers_below
positions-requires c =
    let a = c.args in
    let below = sym c.all_below.ensures ∙ c.if-not-all_below.false in
    (placed_cornered c.requires (λ i l. ltb-true _ _ (all_at 4 (λ i. ltb (get_or a.k i 0) a.np) below i l))).has

pub volume-v-requires : goal.volume-v-requires
unfolding numbers_below
volume-v-requires c =
    let a = c.args in
    let below = sym c.all_below.ensures ∙ c.if-not-all_below.false in
    read_in_range c.positions.ensures (placed_cornered c.requires (λ i l. ltb-true _ _ (all_at 4 (λ i. ltb (get_or a.k i 0) a.np) below i l)))

pub returns-then-v-gt0 : goal.returns-then-v-gt0
unfolding volume
returns-then-v-gt0 c =
    let a = c.args in
    let v = c.volume-v in
    let below = sym c.all_below.ensures ∙ c.if-not-all_below.false in
    let read : to_z w64 (of_z w64 v.result) ≡ v.result = to_z-of_z {w = w64} (record { sfits = v.type_inv }) in
    let is : to_z w64 (of_z w64 v.result) ≡ volume_of_four a.points.now a.k = read ∙ (v.ensures ∙ rw c.positions.ensures) in
    let e = c.unsigned_abs.ensures.value in
    (rw e (not_zero (to_z w64 (of_z w64 v.result)) c.if-v-gt0.true), e ∙ value a.points.now a.np a.k (to_z w64 (of_z w64 v.result)) below is c.if-v-gt0.true)

pub returns-else-v-gt0 : goal.returns-else-v-gt0
unfolding volume
returns-else-v-gt0 c =
    let a = c.args in
    let v = c.volume-v in
    let read : to_z w64 (of_z w64 v.result) ≡ v.result = to_z-of_z {w = w64} (record { sfits = v.type_inv }) in
    no_value a.points.now a.np a.k (to_z w64 (of_z w64 v.result)) (read ∙ (v.ensures ∙ rw c.positions.ensures)) c.if-v-gt0.false

use Rattle.std.proofs.Common.{◌≡◌, ℕ, List, [], false, refl, sym, ◌∙◌, arith}
use Rattle.refusal.specs.Refusal.{refusal_number}
use Rattle.refusal.proofs.Numbers.{number-positive, handed-on}
use Rattle.mesh.specs.Tables.{tables, corner, corner_at, side, freed, live}
use Rattle.mesh.proofs.Valid.{solid, in_range_lem}
use Rattle.geometry.specs.declared.Position.{Position}
use Rattle.locate.specs.Locate.{holds, sorted_corners, earlier_holder, first_holder}
use Rattle.corrections.proofs.Keeping.{numbers_lent}
use Rattle.corrections.proofs.Leaving.{mesh_at, long_at}
use Rattle.corrections.proofs.Reading.{read_refused, read_outside, read_wrong, read_unheld, read_asks, read_found}
use Rattle.corrections_call.proofs.correction.Goals as goal

-- a cell is held by its corners alone
with_neighbours : (ps cs ns : List ℕ) (n : ℕ) (q : Position) → first_holder (tables ps cs []) n q ≡ first_holder (tables ps cs ns) n q
unfolding first_holder earlier_holder holds sorted_corners live freed side corner_at corner
with_neighbours ps cs ns n q = refl

pub returns-in_err-test_tables : goal.returns-in_err-test_tables
returns-in_err-test_tables c =
    let e = c.in_err-test_tables.field-0.0 in
    rw (handed-on _ c.from_residual.ensures.1)
    (read_refused _ _ _ c.args.work.now c.clear.ensures _ c.in_err-test_tables.ensures (λ (z : refusal_number e ≡ 0). omega (arith, number-positive e, z)), c.clear.ensures)

pub returns-then-not-in_box : goal.returns-then-not-in_box
returns-then-not-in_box c =
    (read_outside _ _ _ c.args.work.now c.clear.ensures _ c.in_ok-test_tables.ensures refl (sym c.in_box.ensures ∙ c.if-not-in_box.true), c.clear.ensures)

pub out_of_range-requires : goal.out_of_range-requires
out_of_range-requires c =
    let e = c.in_ok-test_tables.ensures in
    numbers_lent _ _ _ (mesh_at _ _ _ _ false e refl) (long_at _ _ _ _ false e refl)

pub returns-then-out_of_range : goal.returns-then-out_of_range
returns-then-out_of_range c =
    (read_wrong _ _ _ c.args.work.now c.clear.ensures _ c.in_ok-test_tables.ensures refl (sym c.in_box.ensures ∙ c.if-not-in_box.false) (sym c.out_of_range.ensures ∙ c.if-out_of_range.true), c.clear.ensures)

pub first_holder-requires : goal.first_holder-requires
first_holder-requires c =
    let M = mesh_at _ _ _ _ false c.in_ok-test_tables.ensures refl in
    (solid _ _ _ _ _ M, in_range_lem _ _ _ M (sym c.in_box.ensures ∙ c.if-not-in_box.false))

pub returns-in_default : goal.returns-in_default
returns-in_default c = (
  read_unheld _ _ _ c.args.work.now c.clear.ensures _ c.in_ok-test_tables.ensures refl (sym c.in_box.ensures ∙ c.if-not-in_box.false) (sym c.out_of_range.ensures ∙ c.if-out_of_range.false)
      (c.in_default.ensures.first ∙ with_neighbours _ _ c.args.neighbours.now _ _) refl,
  c.clear.ensures,
)

pub correction_in-requires : goal.correction_in-requires
correction_in-requires c =
    let b = c.in-Some.ensures.below in
    let e = c.in_ok-test_tables.ensures in
    let M = mesh_at _ _ _ _ false e refl in
    read_asks _ _ _ c.args.work.now c.clear.ensures _ e refl (sym c.in_box.ensures ∙ c.if-not-in_box.false) (sym c.out_of_range.ensures ∙ c.if-out_of_range.false)
    (c.in-Some.ensures.first ∙ with_neighbours _ _ c.args.neighbours.now _ _) (λ n. absurd (omega (arith, n, b))) M (numbers_lent _ _ _ M (long_at _ _ _ _ false e refl))

pub returns : goal.returns
returns c =
    let b = c.in-Some.ensures.below in (
      read_found _ _ _ c.args.work.now c.clear.ensures _ c.in_ok-test_tables.ensures refl (sym c.in_box.ensures ∙ c.if-not-in_box.false) (sym c.out_of_range.ensures ∙ c.if-out_of_range.false)
          (c.in-Some.ensures.first ∙ with_neighbours _ _ c.args.neighbours.now _ _) (λ n. absurd (omega (arith, n, b))) c.correction_in.ensures,
      c.clear.ensures,
    )

use Rattle.std.proofs.Common.{◌≡◌, ◌∙◌, false, refl, sym, arith}
use Rattle.refusal.specs.Refusal.{refusal_number}
use Rattle.refusal.proofs.Numbers.{number-positive, handed-on}
use Rattle.corrections.proofs.Keeping.{numbers_lent, points_lent}
use Rattle.corrections.proofs.Leaving.{mesh_at, long_at, look_refused, look_kept, looked_in_range, looked_wrong}
use Rattle.corrections_look.proofs.look.Goals as goal

pub returns-in_err-test_tables : goal.returns-in_err-test_tables
returns-in_err-test_tables c =
    let e = c.in_err-test_tables.field-0.0 in
    rw (handed-on _ c.from_residual.ensures.1)
    (look_refused _ _ _ _ c.clear.ensures _ _ c.in_err-test_tables.ensures (λ (z : refusal_number e ≡ 0). omega (arith, number-positive e, z)))

pub out_of_range-requires : goal.out_of_range-requires
out_of_range-requires c =
    let e = c.in_ok-test_tables.ensures in
    numbers_lent _ _ _ (mesh_at _ _ _ _ false e refl) (long_at _ _ _ _ false e refl)

pub early_refusal-requires : goal.early_refusal-requires
early_refusal-requires c = points_lent _ _ _ (mesh_at _ _ _ _ false c.in_ok-test_tables.ensures refl)

pub returns-then-out_of_range : goal.returns-then-out_of_range
returns-then-out_of_range c =
    look_kept _ _ _ _ c.clear.ensures _ _ c.in_ok-test_tables.ensures refl
    (looked_wrong _ _ _ _ _ _ (sym c.out_of_range.ensures ∙ c.if-out_of_range.true) (c.early_refusal.ensures _ _))

pub look_node-requires : goal.look_node-requires
look_node-requires c = mesh_at _ _ _ _ false c.in_ok-test_tables.ensures refl

pub returns : goal.returns
returns c =
    look_kept _ _ _ _ c.clear.ensures _ _ c.in_ok-test_tables.ensures refl
    (looked_in_range _ _ _ _ _ _ (sym c.out_of_range.ensures ∙ c.if-out_of_range.false) c.look_node.ensures)

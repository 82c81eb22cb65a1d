use Rattle.std.proofs.Common.{false, refl, sym, ◌∙◌, arith}
use Rattle.refusal.proofs.Numbers.{number-positive, handed-on}
use Rattle.corrections.proofs.Keeping.{numbers_lent, points_lent}
use Rattle.corrections.proofs.Leaving.{mesh_at, long_at, list_refused, list_kept}
use Rattle.corrections.proofs.Listing.{nodes_refused}
use Rattle.corrections_list.proofs.insert_list.Goals as goal

pub returns-in_err-test_tables : goal.returns-in_err-test_tables
returns-in_err-test_tables c =
    let t = c.in_err-test_tables in
    rw (handed-on _ c.from_residual.ensures.1)
    (list_refused _ _ _ _ c.clear.ensures _ t.ensures (λ z. absurd (omega (arith, number-positive t.field-0.0, z))))

pub out_of_range-requires : goal.out_of_range-requires
out_of_range-requires c =
    let e = c.in_ok-test_tables.ensures in
    numbers_lent _ _ _ (mesh_at _ _ _ _ false e refl) (long_at _ _ _ _ false e refl)

pub refuse_nodes-requires : goal.refuse_nodes-requires
refuse_nodes-requires c = points_lent _ _ _ (mesh_at _ _ _ _ false c.in_ok-test_tables.ensures refl)

pub returns-then-out_of_range : goal.returns-then-out_of_range
returns-then-out_of_range c =
    list_kept _ _ _ _ c.clear.ensures _ c.in_ok-test_tables.ensures refl
    (nodes_refused _ _ _ _ _ (sym c.out_of_range.ensures ∙ c.if-out_of_range.true) c.refuse_nodes.ensures)

pub insert_nodes-requires : goal.insert_nodes-requires
insert_nodes-requires c =
    let e = c.in_ok-test_tables.ensures in
    let M = mesh_at _ _ _ _ false e refl in
    let l = long_at _ _ _ _ false e refl in
    (M, record { long = numbers_lent _ _ _ M l; range = sym c.out_of_range.ensures ∙ c.if-out_of_range.false }, l)

pub returns-else-out_of_range : goal.returns-else-out_of_range
returns-else-out_of_range c = list_kept _ _ _ _ c.clear.ensures _ c.in_ok-test_tables.ensures refl c.insert_nodes.ensures

use Rattle.std.proofs.Common.{false, true≢false, refl, sym, arith}
use Rattle.refusal.proofs.Numbers.{handed-on, number-positive}
use Rattle.corrections.proofs.Leaving.{mesh_at, long_at, marked_refused, marked_kept}
use Rattle.corrections_marked.proofs.insert_marked.Goals as goal

pub returns-in_err-test_tables : goal.returns-in_err-test_tables
returns-in_err-test_tables c =
    let e = c.in_err-test_tables in
    rw (handed-on _ c.from_residual.ensures.1)
    (marked_refused _ _ _ _ c.clear.ensures _ _ e.ensures (λ z. absurd (omega (arith, number-positive e.field-0.0, z))))

pub insert_node-requires : goal.insert_node-requires
insert_node-requires c =
    let e = c.in_ok-test_tables.ensures in
    (mesh_at _ _ _ _ false e refl, (λ h. absurd (true≢false (sym h))), long_at _ _ _ _ false e refl)

pub returns : goal.returns
returns c = marked_kept _ _ _ _ c.clear.ensures _ _ c.in_ok-test_tables.ensures refl c.insert_node.ensures

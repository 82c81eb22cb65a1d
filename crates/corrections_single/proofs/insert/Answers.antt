use Rattle.std.proofs.Common.{false, true≢false, refl, sym, arith}
use Rattle.refusal.proofs.Numbers.{handed-on, number-positive}
use Rattle.cavity.specs.Answers.{sphere}
use Rattle.insertion.specs.Insertion.{fewer_bytes}
use Rattle.corrections.proofs.Leaving.{mesh_at, long_at, insert_refused, insert_kept}
use Rattle.corrections_single.proofs.insert.Goals as goal

pub returns-in_err-test_tables : goal.returns-in_err-test_tables
unfolding fewer_bytes
returns-in_err-test_tables c =
    let e = c.in_err-test_tables in
    rw (handed-on _ c.from_residual.ensures.1)
    (insert_refused _ _ _ _ c.clear.ensures _ sphere e.ensures (λ z. absurd (omega (arith, number-positive e.field-0.0, z))))

pub insert_node-requires : goal.insert_node-requires
insert_node-requires c =
    let e = c.in_ok-test_tables.ensures in
    (mesh_at _ _ _ _ false e refl, (λ h. absurd (true≢false (sym h))), long_at _ _ _ _ false e refl)

pub returns : goal.returns
unfolding fewer_bytes
returns c = insert_kept _ _ _ _ c.clear.ensures _ sphere c.in_ok-test_tables.ensures refl c.insert_node.ensures

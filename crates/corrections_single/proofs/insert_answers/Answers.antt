use Rattle.std.proofs.Common.{refl, arith}
use borrow.Author.Tests.{ltb-false}
use Rattle.refusal.proofs.Numbers.{handed-on, number-positive}
use Rattle.cavity.specs.Answers.{handed}
use Rattle.insertion.specs.Insertion.{fewer_bytes}
use Rattle.corrections.proofs.Leaving.{mesh_at, fewer_at, long_at, insert_refused, insert_kept}
use Rattle.corrections_single.proofs.insert_answers.Goals as goal

pub returns-in_err-test_tables : goal.returns-in_err-test_tables
unfolding fewer_bytes
returns-in_err-test_tables c =
    let e = c.in_err-test_tables in
    rw (handed-on _ c.from_residual.ensures.1)
    (insert_refused _ _ _ _ c.clear.ensures _ (handed _) e.ensures (λ z. absurd (omega (arith, number-positive e.field-0.0, z))))

pub insert_node-requires : goal.insert_node-requires
insert_node-requires c =
    let e = c.in_ok-test_tables.ensures in
    (mesh_at _ _ _ _ _ e refl, (λ h. ltb-false _ _ (fewer_at _ _ _ _ _ e refl)), long_at _ _ _ _ _ e refl)

pub returns : goal.returns
unfolding fewer_bytes
returns c = insert_kept _ _ _ _ c.clear.ensures _ (handed _) c.in_ok-test_tables.ensures refl c.insert_node.ensures

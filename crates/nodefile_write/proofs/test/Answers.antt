use Rattle.std.proofs.Common.{sym, arith}
use Rattle.refusal.proofs.Numbers.{handed-on, number-positive}
use Rattle.nodefile.specs.Write.{node_count}
use Rattle.nodefile.proofs.Answers.{file_mesh, mesh_refused, no_place, place}
use Rattle.nodefile_write.proofs.test.Goals as goal

pub returns-in_err-test_mesh : goal.returns-in_err-test_mesh
returns-in_err-test_mesh c =
    let e = c.in_err-test_mesh.ensures in
    rw (handed-on _ c.from_residual.ensures.1)
    (mesh_refused c.args.mesh _ c.args.work c.args.room e (λ z. absurd (omega (arith, number-positive c.in_err-test_mesh.field-0.0, z))))

pub overflow_sub-count : goal.overflow_sub-count
overflow_sub-count c = (file_mesh _ _ _ (sym c.in_ok-test_mesh.ensures)).points≥

pub returns-then-room-count : goal.returns-then-room-count
unfolding node_count
returns-then-room-count c = no_place _ _ _ _ (sym c.in_ok-test_mesh.ensures) c.if-room-count.true

pub returns-else-room-count : goal.returns-else-room-count
unfolding node_count
returns-else-room-count c = place _ _ _ _ (sym c.in_ok-test_mesh.ensures) c.if-room-count.false

use Rattle.std.proofs.Common.{◌∙◌, ◌++◌, refl, ap, drop, arith}
use Rattle.refusal.proofs.Numbers.{handed-on, number-positive}
use Rattle.mesh.specs.Start.{start_points}
use Rattle.mesh.proofs.Outcomes.{start_refused, start_accepted}
use Rattle.mesh_start.proofs.start.Goals as goal

pub returns-in_err-test_start : goal.returns-in_err-test_start
returns-in_err-test_start c =
    let a = c.args in
    rw (handed-on _ c.from_residual.ensures.1)
    (start_refused a.x a.y a.z a.points.now a.corners.now a.neighbours.now a.work.now
    c.in_err-test_start.ensures (λ z. absurd (omega (arith, number-positive c.in_err-test_start.field-0.0, z))) c.clear.ensures)

pub returns : goal.returns
unfolding start_points
returns c =
    let a = c.args in
    let e = c.copy_from_slice.ensures.after ∙ c.start_points.ensures in
    rw c.from.ensures
    (start_accepted a.x a.y a.z a.points.now a.corners.now a.neighbours.now a.work.now
    c.in_ok-test_start.ensures refl c.clear.ensures
    (ap (λ l. l ++ drop 24 a.points.now) e) c.write_cells.ensures.0 c.write_cells.ensures.1)

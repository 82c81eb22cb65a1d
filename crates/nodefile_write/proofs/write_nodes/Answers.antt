use Rattle.std.proofs.Common.{sym, refl, arith}
use Rattle.refusal.proofs.Numbers.{handed-on, number-positive}
use Rattle.nodefile.proofs.Answers.{writable, write_refused, write_accepted}
use Rattle.nodefile_write.proofs.write_nodes.Goals as goal

pub returns-in_err-test : goal.returns-in_err-test
returns-in_err-test c =
    let e = c.in_err-test.ensures in
    rw (handed-on _ c.from_residual.ensures.1)
    (write_refused c.args.mesh _ _ _ e c.clear.ensures (λ z. absurd (omega (arith, number-positive c.in_err-test.field-0.0, z))))

pub write_mesh-requires : goal.write_mesh-requires
write_mesh-requires c = writable _ _ _ _ (sym c.in_ok-test.ensures)

pub returns : goal.returns
returns c =
    let w = c.write_mesh.ensures in
    write_accepted c.args.mesh _ _ _ c.in_ok-test.ensures c.clear.ensures refl w.0 w.1

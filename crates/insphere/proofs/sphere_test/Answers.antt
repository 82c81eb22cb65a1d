use Rattle.std.proofs.Common.{sym, ap}
use Rattle.refusal.proofs.Numbers.{handed-on, not-zero, is-zero}
use Rattle.insphere.specs.Sphere.{Answered, Refused, as_tested, sphere_call}
use Rattle.insphere.proofs.Promises.{answer_near, accepted_in}
use Rattle.insphere.proofs.sphere_test.Goals as goal

pub returns-in_err-test-clause-value : goal.returns-in_err-test-clause-value
unfolding sphere_call
returns-in_err-test-clause-value c =
    let n = c.in_err-test.ensures in
    rw (handed-on _ c.from_residual.ensures.1, not-zero _ c.in_err-test.field-0.0 n)
    (ap Refused n)

pub sphere_answer-requires : goal.sphere_answer-requires
sphere_answer-requires c = accepted_in _ _ _ _ _ (sym c.in_ok-test.ensures)

pub returns-clause-value : goal.returns-clause-value
unfolding sphere_call
returns-clause-value c = rw (is-zero _ c.in_ok-test.ensures) (ap Answered c.sphere_answer.ensures)

pub returns-clause-near : goal.returns-clause-near
returns-clause-near c =
    let h = accepted_in _ _ _ _ _ (sym c.in_ok-test.ensures) in
    rw c.sphere_answer.ensures (answer_near _ _ h.0 h.1)

use Rattle.std.proofs.Common.{◌≡◌, refl, sym, arith}
use mathlib.Core.Bool.{true≢false}
use Rattle.refusal.specs.Refusal.{refusal_number}
use Rattle.refusal.proofs.Numbers.{number-positive, handed-on}
use Rattle.insertion.proofs.Acceptance.{states_long, report_asks, fresh}
use Rattle.insertion.proofs.Looking.{looked_refused, looked_short, looked_reported}
use Rattle.corrections_look.proofs.look_node.Goals as goal

pub find-requires : goal.find-requires
find-requires c =
    let p = c.requires in
    (record { mesh = p; points_are = refl; cells_are = refl; used_are = refl; answered = λ h. absurd (true≢false (sym h)) }, fresh _ _ _ p)

pub returns-in_err-replacement : goal.returns-in_err-replacement
returns-in_err-replacement c =
    let e = c.in_err-replacement.field-0.0 in
    rw (handed-on _ c.from_residual.ensures.1)
    (looked_refused c.in_err-replacement.ensures refl _ (λ (z : refusal_number e ≡ 0). omega (arith, number-positive e, z)))

pub returns-then-marks-node : goal.returns-then-marks-node
returns-then-marks-node c = looked_short (c.in_ok-replacement.ensures.starable refl) refl _ c.if-marks-node.true

pub write_marks-requires : goal.write_marks-requires
write_marks-requires c = (states_long (c.in_ok-replacement.ensures.starable refl), c.if-marks-node.false)

pub report-requires : goal.report-requires
report-requires c = report_asks (c.in_ok-replacement.ensures.starable refl)

pub returns : goal.returns
returns c = looked_reported (c.in_ok-replacement.ensures.starable refl) refl _ c.if-marks-node.false c.report.ensures c.write_marks.ensures

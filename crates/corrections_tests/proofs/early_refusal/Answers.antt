use Rattle.std.proofs.Common.{◌≡◌, ◌∙◌, sym, ap, arith, length}
use Rattle.mesh.specs.Tables.{tables}
use Rattle.locate.proofs.Codes.{side_codes_length}
use Rattle.insertion.proofs.Admission.{taken_is}
use Rattle.corrections.proofs.Refusals.{early_outside, early_taken, early_wrong}
use Rattle.corrections_tests.proofs.early_refusal.Goals as goal

pub some_zero-requires : goal.some_zero-requires
some_zero-requires c = omega (arith, ap length c.side_codes.ensures ∙ side_codes_length _ _ _, c.requires.0)

pub returns-then-not-in_box : goal.returns-then-not-in_box
returns-then-not-in_box c = λ ks ns. early_outside _ _ _ (sym c.in_box.ensures ∙ c.if-not-in_box.true)

pub returns-then-some_zero : goal.returns-then-some_zero
returns-then-some_zero c =
    λ ks ns. early_taken _ _ _ (sym c.in_box.ensures ∙ c.if-not-in_box.false)
    (sym (c.some_zero.ensures ∙ taken_is (tables c.args.points.now ks ns) c.args.mesh.points c.args.q c.requires.0 c.side_codes.ensures) ∙ c.if-some_zero.true)

pub returns-else-some_zero : goal.returns-else-some_zero
returns-else-some_zero c =
    λ ks ns. early_wrong _ _ _ (sym c.in_box.ensures ∙ c.if-not-in_box.false)
    (sym (c.some_zero.ensures ∙ taken_is (tables c.args.points.now ks ns) c.args.mesh.points c.args.q c.requires.0 c.side_codes.ensures) ∙ c.if-some_zero.false)

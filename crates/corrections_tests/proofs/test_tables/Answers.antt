use Rattle.std.proofs.Common.{◌≡◌, ◌∙◌, sym}
use Rattle.corrections.proofs.Refusals.{length_short, length_long}
use Rattle.corrections_tests.proofs.test_tables.Goals as goal

pub returns-then-too_short : goal.returns-then-too_short
returns-then-too_short c = sym (length_short _ _ _ (sym (c.too_short.ensures _ _) ∙ c.if-too_short.true))

pub returns-else-too_short : goal.returns-else-too_short
returns-else-too_short c = c.test_mesh.ensures ∙ sym (length_long _ _ _ (sym (c.too_short.ensures _ _) ∙ c.if-too_short.false))

use Rattle.std.proofs.Common.{refl, sym, ◌∙◌}
use Rattle.insertion.proofs.Acceptance.{fresh}
use Rattle.corrections.proofs.Keeping.{numbers_lent, points_lent}
use Rattle.corrections.proofs.Leaving.{refused_wrong}
use Rattle.corrections_insert.proofs.insert_node.Goals as goal

pub out_of_range-requires : goal.out_of_range-requires
out_of_range-requires c =
    let p = c.requires in
    numbers_lent _ _ _ p.0 p.2

pub early_refusal-requires : goal.early_refusal-requires
early_refusal-requires c = points_lent _ _ _ c.requires.0

pub returns-then-out_of_range : goal.returns-then-out_of_range
returns-then-out_of_range c = refused_wrong _ _ _ _ _ _ _ _ (sym c.out_of_range.ensures ∙ c.if-out_of_range.true) (c.early_refusal.ensures _ _)

pub attempt_node-requires : goal.attempt_node-requires
attempt_node-requires c =
    let p = c.requires in
    (p.0, p.1, record { long = numbers_lent _ _ _ p.0 p.2; range = sym c.out_of_range.ensures ∙ c.if-out_of_range.false }, p.2, fresh _ _ _ p.0, refl)

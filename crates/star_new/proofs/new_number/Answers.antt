use Rattle.std.proofs.Common.{◌+◌, get_or, sym, ap₂, ◌∙◌}
use Rattle.star.specs.Inner.{number_at}
use Rattle.star_new.proofs.new_number.Goals as goal

pub returns-then-is_visible : goal.returns-then-is_visible
unfolding number_at
returns-then-is_visible c =
    rw (sym c.is_visible.ensures ∙ c.if-is_visible.true) (ap₂ (λ r m. get_or c.args.slots.now (r + m) 0) c.from.ensures c.visible_below.ensures)

pub returns-else-is_visible : goal.returns-else-is_visible
unfolding number_at
returns-else-is_visible c = rw (sym c.is_visible.ensures ∙ c.if-is_visible.false)

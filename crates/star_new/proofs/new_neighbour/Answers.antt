use Rattle.std.proofs.Common.{◌∙◌}
use Rattle.star.specs.Inner.{state_of}
use Rattle.star.proofs.Around.{has_neighbours, set_below}
use Rattle.star.proofs.Slots.{has_number, own_across, reached}
use Rattle.star_new.proofs.new_neighbour.Goals as goal

pub behind-requires : goal.behind-requires
behind-requires c =
    let p = c.requires in
    (has_neighbours p.0.standing _ (set_below _ _ _ p.1.held), p.2)

pub new_number-requires : goal.new_number-requires
new_number-requires c =
    let p = c.requires in
    let g = reached p.0 _ _ _ p.1 p.2 c.if-j-k.false (state_of c.turn-g.result) (c.turn-g.ensures p.0.standing) in
    has_number p.0 _ _ g.held g.exit<

pub returns-then-j-k : goal.returns-then-j-k
returns-then-j-k c b = c.behind.ensures ∙ own_across b _ _ _ c.requires.1 c.if-j-k.true

pub returns-else-j-k : goal.returns-else-j-k
returns-else-j-k c b =
    let p = c.requires in
    c.new_number.ensures ∙ (reached b _ _ _ p.1 p.2 c.if-j-k.false (state_of c.turn-g.result) (c.turn-g.ensures b.standing)).is

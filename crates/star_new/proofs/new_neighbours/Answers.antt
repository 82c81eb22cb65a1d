use Rattle.arith.proofs.Flags.{below_four}
use Rattle.star_new.proofs.new_neighbours.Goals as goal

pub returns : goal.returns
returns c b =
    below_four _ (c.new_neighbour.ensures b) (c.new_neighbour-2.ensures b)
    (c.new_neighbour-3.ensures b) (c.new_neighbour-4.ensures b)

use Rattle.locate.specs.Inner.{shared_bits}
use Rattle.locate_holding.proofs.shared_bits.Goals as goal

pub returns : goal.returns
unfolding shared_bits
returns c = cc

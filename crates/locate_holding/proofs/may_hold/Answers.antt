use Rattle.std.proofs.Common.{ap, eqb}
use borrow.Author.Tests.{eq-eqb, ne_eqb}
use Rattle.mesh.specs.Tables.{none}
use Rattle.locate.specs.Inner.{may_hold}
use Rattle.locate_holding.proofs.may_hold.Goals as goal

pub returns-then-k : goal.returns-then-k
unfolding may_hold
returns-then-k c = rw (ne_eqb _ none c.if-k.true) (ap (λ b. eqb b 0) c.shared_bits.ensures)

pub returns-else-k : goal.returns-else-k
unfolding may_hold
returns-else-k c = rw (eq-eqb _ none c.if-k.false)

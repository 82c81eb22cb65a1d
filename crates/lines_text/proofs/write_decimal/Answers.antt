use Rattle.std.proofs.Common.{arith}
use Rattle.lines.specs.Text.{decimal}
use Rattle.lines.proofs.Putting.{none_written, next_fits, one_written, all_written}
use Rattle.lines_text.proofs.write_decimal.Goals as goal

pub loop-i-init : goal.loop-i-init
unfolding decimal
loop-i-init c = none_written _ 10 _ _ c.requires

pub write_digit-next-requires : goal.write_digit-next-requires
write_digit-next-requires c = (omega arith, next_fits c.loop-i.invariant (omega arith))

pub loop-i-preserved : goal.loop-i-preserved
loop-i-preserved c = one_written c.loop-i.invariant (omega arith) c.write_digit-next.ensures

pub returns : goal.returns
unfolding decimal
returns c = all_written c.loop-i.invariant (omega arith)

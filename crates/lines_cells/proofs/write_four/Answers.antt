use Rattle.lines.proofs.Putting.{none_written, next_fits, one_written, all_written}
use Rattle.lines_cells.specs.Words.{four_words}
use Rattle.lines_cells.proofs.write_four.Goals as goal

pub loop-number-init : goal.loop-number-init
unfolding four_words
loop-number-init c = none_written _ 4 _ _ c.requires

pub write_word-next-requires : goal.write_word-next-requires
write_word-next-requires c = next_fits c.loop-number.invariant c.loop-number-test.true

pub loop-number-preserved : goal.loop-number-preserved
loop-number-preserved c = one_written c.loop-number.invariant c.loop-number-test.true c.write_word-next.ensures

pub returns : goal.returns
unfolding four_words
returns c = all_written c.loop-number.invariant c.loop-number-test.false

use Rattle.std.proofs.Common.{get_or}
use Rattle.lines.proofs.Putting.{Concatenating}
use Rattle.lines_cells.specs.Words.{word}
use Rattle.lines_cells.proofs.write_four.Given as goal

abbrev pub invariant-loop-number : goal.invariant-loop-number
invariant-loop-number l = Concatenating (λ i. word l.none (get_or l.fn.numbers i 0)) 4 l.fn.out l.at l.number-index l.next l.out

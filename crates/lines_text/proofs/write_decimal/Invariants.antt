use Rattle.std.proofs.Common.{◌-◌}
use Rattle.lines.specs.Text.{digit}
use Rattle.lines.proofs.Putting.{Concatenating}
use Rattle.lines_text.proofs.write_decimal.Given as goal

abbrev pub invariant-loop-i : goal.invariant-loop-i
invariant-loop-i l = Concatenating (λ i. digit l.number (9 - i)) 10 l.fn.out l.at l.i l.next l.out

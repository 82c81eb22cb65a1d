use Rattle.std.proofs.Common.{arith}
use Rattle.std.proofs.lemmas.List.{length-append}
use Rattle.lines.proofs.Putting.{then}
use Rattle.lines_text.proofs.write_number.Goals as goal

pub write_decimal-requires : goal.write_decimal-requires
write_decimal-requires c = omega (arith, simp length-append at c.requires, c.write_bytes-next.ensures.next_is)

pub returns : goal.returns
returns c = then c.write_bytes-next.ensures c.write_decimal.ensures

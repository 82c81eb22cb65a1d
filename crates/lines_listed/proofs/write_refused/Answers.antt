use Rattle.std.proofs.Common.{ap, ◌∙◌, arith}
use Rattle.lines.specs.Listing.{refused_line}
use Rattle.lines.proofs.Putting.{then, reads_as}
use Rattle.lines.proofs.Lengths.{decimal_at_most}
use Rattle.lines_listed.proofs.write_refused.Goals as goal

pub write_number-end-requires : goal.write_number-end-requires
write_number-end-requires c = omega (arith, decimal_at_most c.from.result)

pub write_bytes-requires : goal.write_bytes-requires
write_bytes-requires c = omega (arith, decimal_at_most c.from.result, c.write_number-end.ensures.next_is)

pub returns : goal.returns
unfolding refused_line
returns c = reads_as (then c.write_number-end.ensures c.write_bytes.ensures) (ap refused_line (c.from.ensures ∙ c.number.ensures))

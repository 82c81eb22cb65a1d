use Rattle.std.proofs.Common.{length, ap, ◌∙◌, arith}
use Rattle.std.proofs.lemmas.List.{length-append}
use Rattle.lines.specs.Text.{decimal}
use Rattle.lines.specs.Listing.{stopped_line}
use Rattle.lines.proofs.Putting.{then, reads_as}
use Rattle.lines_listed.proofs.write_stopped.Goals as goal

pub write_number-next-requires : goal.write_number-next-requires
unfolding stopped_line
write_number-next-requires c = omega (arith, simp length-append at c.requires)

pub write_number-end-requires : goal.write_number-end-requires
unfolding stopped_line
write_number-end-requires c =
    omega (arith, ap (λ n. length (decimal n)) (c.from.ensures ∙ c.number.ensures), simp length-append at c.requires)

pub write_bytes-requires : goal.write_bytes-requires
unfolding stopped_line
write_bytes-requires c =
    omega (arith, ap (λ n. length (decimal n)) (c.from.ensures ∙ c.number.ensures), simp length-append at c.requires)

pub returns : goal.returns
unfolding stopped_line
returns c =
    reads_as (then (then c.write_number-next.ensures c.write_number-end.ensures) c.write_bytes.ensures)
    (ap (stopped_line c.args.place) (c.from.ensures ∙ c.number.ensures))

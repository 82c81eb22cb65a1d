use Rattle.std.proofs.Common.{arith}
use Rattle.std.proofs.lemmas.List.{length-append}
use Rattle.lines.specs.Listing.{box_line}
use Rattle.lines.proofs.Putting.{then}
use Rattle.lines_mesh.proofs.write_box.Goals as goal

pub write_number-y-requires : goal.write_number-y-requires
unfolding box_line
write_number-y-requires c = omega (arith, simp length-append at c.requires)

pub write_number-z-requires : goal.write_number-z-requires
unfolding box_line
write_number-z-requires c = omega (arith, simp length-append at c.requires)

pub write_number-points-requires : goal.write_number-points-requires
unfolding box_line
write_number-points-requires c = omega (arith, simp length-append at c.requires)

pub write_number-cells-requires : goal.write_number-cells-requires
unfolding box_line
write_number-cells-requires c = omega (arith, simp length-append at c.requires)

pub write_number-end-requires : goal.write_number-end-requires
unfolding box_line
write_number-end-requires c = omega (arith, simp length-append at c.requires)

pub write_bytes-requires : goal.write_bytes-requires
unfolding box_line
write_bytes-requires c = omega (arith, simp length-append at c.requires)

pub returns : goal.returns
unfolding box_line
returns c =
    then (then (then (then (then c.write_number-y.ensures c.write_number-z.ensures) c.write_number-points.ensures)
    c.write_number-cells.ensures) c.write_number-end.ensures) c.write_bytes.ensures

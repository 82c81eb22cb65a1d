use Rattle.std.proofs.Common.{length, ap, arith}
use Rattle.std.proofs.lemmas.List.{length-append}
use Rattle.lines.specs.Listing.{cell_line}
use Rattle.lines.proofs.Putting.{then, reads_as}
use Rattle.lines_cells.proofs.Words.{corners_read, neighbours_read}
use Rattle.lines_cells.proofs.write_cell.Goals as goal

pub write_decimal-second-requires : goal.write_decimal-second-requires
unfolding cell_line
write_decimal-second-requires c = omega (arith, simp length-append at c.requires.2)

pub write_four-third-requires : goal.write_four-third-requires
unfolding cell_line
write_four-third-requires c =
    let n = ap length (corners_read c.args.corners.now c.args.neighbours.now c.args.cell c.four_at.ensures) in
    omega (arith, simp length-append at c.requires.2)

pub write_four-fourth-requires : goal.write_four-fourth-requires
unfolding cell_line
write_four-fourth-requires c =
    let n = ap length (corners_read c.args.corners.now c.args.neighbours.now c.args.cell c.four_at.ensures) in
    let m = ap length (neighbours_read c.args.corners.now c.args.neighbours.now c.args.cell c.requires.1.fits c.four_at-2.ensures) in
    omega (arith, simp length-append at c.requires.2)

pub write_bytes-requires : goal.write_bytes-requires
unfolding cell_line
write_bytes-requires c =
    let n = ap length (corners_read c.args.corners.now c.args.neighbours.now c.args.cell c.four_at.ensures) in
    let m = ap length (neighbours_read c.args.corners.now c.args.neighbours.now c.args.cell c.requires.1.fits c.four_at-2.ensures) in
    omega (arith, simp length-append at c.requires.2)

pub returns : goal.returns
unfolding cell_line
returns c =
    let third = reads_as c.write_four-third.ensures (corners_read c.args.corners.now c.args.neighbours.now c.args.cell c.four_at.ensures) in
    let fourth = reads_as c.write_four-fourth.ensures (neighbours_read c.args.corners.now c.args.neighbours.now c.args.cell c.requires.1.fits c.four_at-2.ensures) in
    then (then (then c.write_decimal-second.ensures third) fourth) c.write_bytes.ensures

use Rattle.std.proofs.Common.{arith}
use Rattle.lines.proofs.Putting.{none_written, next_fits, one_written, all_written}
use Rattle.lines_cells.proofs.write_cells.Goals as goal

pub loop-c-init : goal.loop-c-init
loop-c-init c = none_written _ _ _ _ c.requires.2

pub write_entry-next-requires : goal.write_entry-next-requires
write_entry-next-requires c =
    let p = c.requires in
    (record { few = omega (arith, p.0.cells_few); fits = omega (arith, p.0.cells_fit) }, record { few = omega (arith, p.1.cells_few); fits = omega (arith, p.1.cells_fit) }, next_fits c.loop-c.invariant (omega arith))

pub loop-c-preserved : goal.loop-c-preserved
loop-c-preserved c = one_written c.loop-c.invariant (omega arith) c.write_entry-next.ensures

pub returns : goal.returns
returns c = all_written c.loop-c.invariant (omega arith)

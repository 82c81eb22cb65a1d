use Rattle.std.proofs.Common.{◌*◌, arith}
use Rattle.mesh.specs.Inner.{with_four}
use Rattle.mesh_tables.proofs.Writes.{four_written}
use Rattle.mesh_tables.proofs.put_four.Goals as goal

pub returns : goal.returns
unfolding with_four
returns c = four_written c.args.s.now _ c.args.v (4 * c.args.c) (omega arith) c.copy_from_slice.ensures.after (omega arith)

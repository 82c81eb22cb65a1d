use Rattle.std.proofs.Common.{◌*◌, arith}
use Rattle.mesh.specs.Inner.{with_point}
use Rattle.mesh_tables.proofs.Writes.{three_written}
use Rattle.mesh_tables.proofs.put_point.Goals as goal

pub returns : goal.returns
unfolding with_point
returns c = three_written c.args.points.now _ (3 * c.args.k) _ _ _ (omega arith) c.copy_from_slice.ensures.after

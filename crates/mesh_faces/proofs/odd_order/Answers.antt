use Rattle.mesh.specs.Inner.Faces.{odd_order}
use Rattle.mesh_faces.proofs.odd_order.Goals as goal

pub returns : goal.returns
unfolding odd_order
returns c = rw (c.from.ensures, c.from-2.ensures, c.from-3.ensures)

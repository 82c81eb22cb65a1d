use Rattle.std.proofs.Common.{arith}
use Rattle.std.proofs.lemmas.List.{length-append}
use Rattle.lines.specs.Listing.{mesh_text}
use Rattle.lines.proofs.Putting.{then}
use Rattle.lines_mesh.proofs.write_mesh.Goals as goal

pub write_box-next-requires : goal.write_box-next-requires
unfolding mesh_text
write_box-next-requires c = omega (arith, simp length-append at c.requires.2)

pub write_cells-requires : goal.write_cells-requires
unfolding mesh_text
write_cells-requires c = (c.requires.0, c.requires.1, omega (arith, simp length-append at c.requires.2))

pub returns : goal.returns
unfolding mesh_text
returns c = then c.write_box-next.ensures c.write_cells.ensures

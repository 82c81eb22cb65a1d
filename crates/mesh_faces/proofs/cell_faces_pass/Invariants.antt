use Rattle.std.proofs.Common.{◌≡◌, true}
use Rattle.arith.specs.Table.{all_below}
use Rattle.mesh.specs.Tables.{tables}
use Rattle.mesh.specs.Inner.Faces.{face_numbers}
use Rattle.mesh_faces.proofs.cell_faces_pass.Given as goal

abbrev pub invariant-loop-i : goal.invariant-loop-i
invariant-loop-i l = all_below l.i (face_numbers l.mesh.x l.mesh.y l.mesh.z (tables l.points l.corners l.neighbours) l.mesh.used l.c) ≡ true

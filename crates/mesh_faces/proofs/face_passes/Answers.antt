use Rattle.std.proofs.Common.{sym, ap, ◌∙◌}
use Rattle.std.proofs.lemmas.Bool.{eq-eqb, ne_eqb}
use borrow.Author.Tests.{lt-ltb, le-ltb}
use Rattle.mesh.specs.Tables.{none}
use Rattle.mesh.specs.Inner.{cell_at}
use Rattle.mesh.specs.Inner.Faces.{face_test, faces_back}
use Rattle.mesh_faces.proofs.face_passes.Goals as goal

pub returns-then-face-eq-NONE : goal.returns-then-face-eq-NONE
unfolding face_test
returns-then-face-eq-NONE c =
    rw (eq-eqb c.args.face.across none c.if-face-eq-NONE.true)
    (c.on_one_wall.ensures ∙
    rw (c.point_at-p.ensures, c.point_at-q.ensures, c.point_at-r.ensures, c.from.ensures, c.from-then-face-eq-NONE.ensures, c.from-then-face-eq-NONE-2.ensures))

pub returns-then-from-mesh : goal.returns-then-from-mesh
unfolding face_test
returns-then-from-mesh c =
    let f = c.args.face in
    rw (ne_eqb f.across none c.if-face-eq-NONE.false, ← c.from-else-face-eq-NONE.ensures, lt-ltb c.from-else-face-eq-NONE.result c.args.mesh.used c.if-from-mesh.true)
    (c.faces_back.ensures ∙
    ap (faces_back f.cell f.place f.p f.q f.r)
    (c.load.ensures ∙ ap (cell_at c.args.corners.now c.args.neighbours.now) (c.from-then-from-mesh.ensures ∙ sym c.from-else-face-eq-NONE.ensures)))

pub returns-else-from-mesh : goal.returns-else-from-mesh
unfolding face_test
returns-else-from-mesh c =
    rw (ne_eqb c.args.face.across none c.if-face-eq-NONE.false, ← c.from-else-face-eq-NONE.ensures, le-ltb c.from-else-face-eq-NONE.result c.args.mesh.used c.if-from-mesh.false)

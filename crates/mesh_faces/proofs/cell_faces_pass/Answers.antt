use Rattle.std.proofs.Common.{ℕ, ◌≡◌, ◌<◌, List, false, not, get_or, refl, sym, ap, ◌∙◌, subst, arith}
use Rattle.arith.specs.Table.{all_below}
use Rattle.arith.proofs.Tables.{all_more, all_fewer, all_fails}
use Rattle.mesh.specs.declared.Cell.{Cell}
use Rattle.mesh.specs.Tables.{corner, freed, live, tables}
use Rattle.mesh.specs.Inner.{CornersBelow, cell_at}
use Rattle.mesh.specs.Inner.Cells.{four_freed}
use Rattle.mesh.specs.Inner.Faces.{first, second, third, face_numbers, faces_of}
use Rattle.mesh.proofs.Live.{four_freed_lem}
use Rattle.mesh.proofs.Numbers.{others, four_entry, loaded_face}
use Rattle.mesh.proofs.Reading.{loaded_corners}
use Rattle.mesh_faces.proofs.cell_faces_pass.Goals as goal

module _ (ps cs ns : List ℕ) (c : ℕ) {cell : Cell} (e : cell ≡ cell_at cs ns c) where
  entry_freed : four_freed cell.corners ≡ freed (tables ps cs ns) c
  entry_freed = ap four_freed (loaded_corners cs ns c e) ∙ four_freed_lem (tables ps cs ns) c

  -- the corners of a cell are points
  corner< : (np n : ℕ) → CornersBelow cs np n → c < n → freed (tables ps cs ns) c ≡ false → (l : ℕ) → l < 4 → get_or cell.corners l 0 < np
  unfolding live freed corner
  corner< np n below c< f l h =
      subst (λ v. v < np) (sym (ap (λ k. get_or k l 0) (loaded_corners cs ns c e) ∙ four_entry cs c l h))
      (below c l record { below = c<; lives = ap not f } h)

pub returns-then-is_freed : goal.returns-then-is_freed
unfolding faces_of
returns-then-is_freed c =
    let a = c.args in
    rw (sym (c.is_freed.ensures ∙ entry_freed a.points.now a.corners.now a.neighbours.now a.c c.load-cell.ensures) ∙ c.if-is_freed.true)

pub loop-i-init : goal.loop-i-init
unfolding all_below
loop-i-init c = refl

pub face_passes-requires : goal.face_passes-requires
face_passes-requires c =
    let a = c.args in
    let e = c.face_of.ensures in
    let off = sym (c.is_freed.ensures ∙ entry_freed a.points.now a.corners.now a.neighbours.now a.c c.load-cell.ensures) ∙ c.if-is_freed.false in
    let k< = corner< a.points.now a.corners.now a.neighbours.now a.c c.load-cell.ensures a.mesh.points a.mesh.used c.requires.2 c.requires.1 off in
    let o = others c.loop-i.i c.loop-i-test.true in (
      c.requires.0,
      subst (λ f. f.place < 4) (sym e) c.loop-i-test.true,
      subst (λ f. f.p < a.mesh.points) (sym e) (k< (first c.loop-i.i) o.first<),
      subst (λ f. f.q < a.mesh.points) (sym e) (k< (second c.loop-i.i) o.second<),
      subst (λ f. f.r < a.mesh.points) (sym e) (k< (third c.loop-i.i) o.third<),
    )

pub returns-then-not-face_passes : goal.returns-then-not-face_passes
unfolding faces_of
returns-then-not-face_passes c =
    let a = c.args in
    let m = a.mesh in
    let t = tables a.points.now a.corners.now a.neighbours.now in
    let off = sym (c.is_freed.ensures ∙ entry_freed a.points.now a.corners.now a.neighbours.now a.c c.load-cell.ensures) ∙ c.if-is_freed.false in
    let is = c.face_passes.ensures ∙ (rw c.face_of.ensures (loaded_face m.x m.y m.z t m.used a.c (omega (arith, c.requires.0.neighbours.cells_fit, c.requires.1)) c.load-cell.ensures c.loop-i.i c.loop-i-test.true)) in
    rw off (sym (all_fails 4 (face_numbers m.x m.y m.z t m.used a.c) c.loop-i.i c.loop-i-test.true (sym is ∙ c.if-not-face_passes.true)))

pub loop-i-preserved : goal.loop-i-preserved
loop-i-preserved c =
    let a = c.args in
    let m = a.mesh in
    let t = tables a.points.now a.corners.now a.neighbours.now in
    let is = c.face_passes.ensures ∙ (rw c.face_of.ensures (loaded_face m.x m.y m.z t m.used a.c (omega (arith, c.requires.0.neighbours.cells_fit, c.requires.1)) c.load-cell.ensures c.loop-i.i c.loop-i-test.true)) in
    all_more c.loop-i.i (face_numbers m.x m.y m.z t m.used a.c) c.loop-i.invariant (sym is ∙ c.if-not-face_passes.false)

pub returns : goal.returns
unfolding faces_of
returns c =
    let a = c.args in
    let m = a.mesh in
    let t = tables a.points.now a.corners.now a.neighbours.now in
    let off = sym (c.is_freed.ensures ∙ entry_freed a.points.now a.corners.now a.neighbours.now a.c c.load-cell.ensures) ∙ c.if-is_freed.false in
    rw off (sym (all_fewer c.loop-i.i 4 (face_numbers m.x m.y m.z t m.used a.c) (omega arith) c.loop-i.invariant))

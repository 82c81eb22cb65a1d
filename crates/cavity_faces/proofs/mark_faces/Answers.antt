use Rattle.std.proofs.Common.{◌≡◌, refl, ap, ◌∙◌, add-one, arith}
use Rattle.cavity.specs.Inner.Correction.{with_faces}
use Rattle.cavity_faces.proofs.mark_faces.Goals as goal

pub loop-i-init : goal.loop-i-init
unfolding with_faces
loop-i-init c = refl

pub loop-i-preserved : goal.loop-i-preserved
unfolding with_faces
loop-i-preserved c = rw (add-one c.loop-i.i) (c.mark_face.ensures ∙ rw (c.other_places-at.ensures, c.loop-i.invariant))

pub returns : goal.returns
returns c =
    let e : c.loop-i.i ≡ 4 = omega arith in
    c.loop-i.invariant ∙ ap (λ i. with_faces i c.args.exposed.now c.args.k c.args.v) e

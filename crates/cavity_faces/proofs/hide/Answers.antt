use Rattle.std.proofs.Common.{◌≡◌, refl, ap, ◌∙◌, add-one, arith}
use Rattle.cavity.specs.Inner.Correction.{without_corners}
use Rattle.cavity_faces.proofs.Hiding.{without_first}
use Rattle.cavity_faces.proofs.hide.Goals as goal

pub loop-v-init : goal.loop-v-init
unfolding without_first
loop-v-init c = refl

pub loop-v-preserved : goal.loop-v-preserved
unfolding without_first
loop-v-preserved c = rw (add-one c.loop-v.v-index, c.loop-v.invariant, c.from.ensures)

pub returns : goal.returns
unfolding without_first without_corners
returns c =
    let e : c.loop-v.v-index ≡ 4 = omega arith in
    c.loop-v.invariant ∙ ap (λ i. without_first i c.args.exposed.now c.args.k) e

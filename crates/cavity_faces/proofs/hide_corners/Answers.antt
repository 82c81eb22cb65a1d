use Rattle.std.proofs.Common.{◌≡◌, ◌+◌, ◌<◌, [], get_or, sym, ap, ◌∙◌, subst, arith}
use Rattle.std.proofs.lemmas.List.{get_or-take, length-take-le}
use Rattle.mesh.specs.Tables.{tables}
use Rattle.cavity.specs.Inner.Correction.{NoneExposed, without_corners}
use Rattle.cavity.proofs.Rounds.{none_exposed_more}
use Rattle.cavity_faces.proofs.hide_corners.Goals as goal
use Rattle.cavity_faces.proofs.hide_corners.Goals.{After-from}

within : (c : After-from) → c.loop-c.c-index < c.args.size
within c = omega (arith, length-take-le c.args.size c.args.list.now c.requires.0.entries)

cell : (c : After-from) → c.from.result ≡ get_or c.args.list.now c.loop-c.c-index 0
cell c = c.from.ensures ∙ get_or-take c.args.size c.args.list.now c.loop-c.c-index 0 (within c)

pub loop-c-init : goal.loop-c-init
loop-c-init c = record { long = c.requires.1; zero = λ k j h. absurd (omega arith) }

pub four_at-requires : goal.four_at-requires
four_at-requires c =
    let f = (goal.at.four_at-requires c).After-from in
    rw (cell f) (c.requires.0.cells c.loop-c.c-index (within f))

pub hide-requires : goal.hide-requires
hide-requires c j l =
    let f = (goal.at.hide-requires c).After-from in
    let e = ap (λ k. get_or k j 0) (rw (cell f) at c.four_at.ensures) in
    omega (arith, e, c.requires.0.few c.loop-c.c-index j (within f) l, c.loop-c.invariant.long)

pub loop-c-preserved : goal.loop-c-preserved
loop-c-preserved c =
    let l = c.loop-c in
    let f = (goal.at.loop-c-preserved c).After-from in
    let e = rw (cell f) at c.four_at.ensures in
    subst (NoneExposed (tables [] c.args.corners.now []) c.args.list.now (l.c-index + 1))
    (sym (c.hide.ensures ∙ ap (without_corners l.exposed) e))
    (none_exposed_more [] c.args.corners.now [] c.args.list.now l.c-index l.invariant (λ j i. omega (arith, c.requires.0.few l.c-index j (within f) i, l.invariant.long)))

pub returns : goal.returns
returns c =
    let l = c.loop-c in
    let e : l.c-index ≡ c.args.size = omega (arith, length-take-le c.args.size c.args.list.now c.requires.0.entries) in
    subst (λ h. NoneExposed (tables [] c.args.corners.now []) c.args.list.now h l.exposed) e l.invariant

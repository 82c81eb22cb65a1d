use Rattle.std.proofs.Common.{refl, ap, ◌∙◌, ◌≡◌, ◌<◌, ◌∷◌, [], arith}
use Rattle.std.proofs.lemmas.List.{length-take, get_or-take}
use Rattle.mesh.specs.Tables.{none}
use Rattle.mesh.specs.Inner.{with_four}
use Rattle.star.proofs.Freed.{last_none, last_more, joined_none, joined_more, joined_all}
use Rattle.star_free.proofs.free_cells.Goals as goal

pub loop-c-init : goal.loop-c-init
loop-c-init c = (last_none _ _ refl, λ n s L. joined_none s _ _ _ _ refl)

pub loop-c-preserved : goal.loop-c-preserved
loop-c-preserved c =
    let l = c.loop-c in
    let k = l.c-index in
    let list = c.args.list.now in
    let k< : k < c.args.size = omega (arith, length-take c.args.size list) in
    let same = get_or-take c.args.size list k 0 k< in
    let h = c.requires.1 k k< in
    let e = c.free_cell.ensures in
    let at = c.from.ensures ∙ same in (
      same ∙ last_more _ _ _ refl,
      λ n s L. joined_more L _ _ (l.invariant.1 n s L) k< refl h.0 h.1 l.invariant.0
          (e.0 ∙ ap (λ d. with_four l.corners d (none ∷ none ∷ none ∷ none ∷ [])) at)
          (e.1 ∙ ap (λ d. with_four l.neighbours d (l.next ∷ none ∷ none ∷ none ∷ [])) at),
    )

pub returns : goal.returns
returns c n s L =
    let l = c.loop-c in
    let all : l.c-index ≡ c.args.size = omega (arith, length-take c.args.size c.args.list.now) in
    joined_all L _ (l.invariant.1 n s L) all l.invariant.0

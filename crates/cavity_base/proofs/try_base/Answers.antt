use Rattle.std.proofs.Common.{◌≡◌, sym, ◌∙◌, subst, arith}
use Rattle.std.proofs.lemmas.Bool.{not_from_false, not_from_true}
use Rattle.arith.proofs.Flags.{test_failed, test_passed}
use Rattle.mesh.specs.Tables.{tables}
use Rattle.mesh.specs.Inner.{Cornered}
use Rattle.locate.specs.Locate.{holds}
use Rattle.locate.proofs.Codes.{holds_is}
use Rattle.mesh.proofs.Reading.{has_corners, cornered, cells_few}
use Rattle.cavity.proofs.Answering.{answer_t}
use Rattle.cavity.proofs.Visiting.{not_yet, scan_past, scan_join}
use Rattle.cavity.proofs.Gathering.{size<}
use Rattle.cavity_base.proofs.try_base.Goals as goal
use Rattle.cavity_base.proofs.try_base.Goals.{After-cell_holds}

tested : (c : After-cell_holds) → let a = c.args in
    c.cell_holds.result ≡ holds (tables a.points.now a.corners.now a.neighbours.now) a.node.position a.c
tested c =
    let a = c.args in
    c.cell_holds.ensures ∙ holds_is a.points.now a.corners.now a.neighbours.now a.c a.node.position c.requires.1.lives c.four_at.ensures

pub four_at-requires : goal.four_at-requires
four_at-requires c = has_corners c.requires.0.mesh _ c.requires.1.below

pub cell_holds-requires : goal.cell_holds-requires
cell_holds-requires c =
    (subst (Cornered _) (sym c.four_at.ensures) (cornered c.requires.0.mesh _ c.requires.1), c.requires.0.position)

pub returns-then-not-cell_holds : goal.returns-then-not-cell_holds
returns-then-not-cell_holds c =
    scan_past c.requires.0.mesh _ c.requires.0.position c.requires.2
    (test_failed (tested (goal.at.returns-then-not-cell_holds c).After-cell_holds) (not_from_false _ c.if-not-cell_holds.true))

pub join-requires : goal.join-requires
join-requires c =
    let g = c.requires.2.growing in
    let n = cells_few c.requires.0.mesh in
    let b = c.requires.1.below in
    let z = size< g n _ b c.requires.1.lives (not_yet c.requires.0.mesh _ c.requires.0.position c.requires.2 b) in
    (omega (arith, z, n), omega (arith, z, n, g.list.entries), omega (arith, n, b), omega (arith, n, b, g.list.states))

pub returns : goal.returns
returns c =
    scan_join c.requires.0.mesh _ c.requires.0.position c.requires.2 c.requires.1.below
    (test_passed (tested (goal.at.returns c).After-cell_holds) (not_from_true _ c.if-not-cell_holds.false))
    (answer_t _ _ _ _ c.answer_of-answer.ensures) c.join.ensures.0 c.join.ensures.1 c.join.ensures.2

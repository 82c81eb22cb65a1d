use Rattle.std.proofs.Common.{◌<◌, sym, ◌∙◌, arith}
use Rattle.arith.proofs.Flags.{clash}
use Rattle.mesh.proofs.Reading.{cells_few, points_few}
use Rattle.cavity.proofs.Answering.{answer_t, answer_yes}
use Rattle.cavity.proofs.Visiting.{visit_join}
use Rattle.cavity.proofs.Gathering.{size<, grew_none, state_out, denied_more}
use Rattle.cavity_growth.proofs.visit.Goals as goal
use Rattle.cavity_growth.proofs.visit.Goals.{Else-d-eq-NONE}

-- the cell is one of the mesh
below : (c : Else-d-eq-NONE) → c.args.d < 4096
below c = omega (arith, (c.requires.2 c.if-d-eq-NONE.false).0.below, cells_few c.requires.0.mesh)

pub overflow_cast-stamp : goal.overflow_cast-stamp
overflow_cast-stamp c = omega (arith, points_few c.requires.0.mesh)

pub bounds-state-c : goal.bounds-state-c
bounds-state-c c = omega (arith, below (goal.at.bounds-state-c c).Else-d-eq-NONE, c.requires.1.growing.list.states)

pub bounds-denied-c : goal.bounds-denied-c
bounds-denied-c c = omega (arith, below (goal.at.bounds-denied-c c).Else-d-eq-NONE, c.requires.3.long)

pub join-requires : goal.join-requires
join-requires c =
    let g = c.requires.1.growing in
    let n = cells_few c.requires.0.mesh in
    let d = (c.requires.2 c.if-d-eq-NONE.false).0 in
    let out = rw c.from-c.ensures at c.if-state-c-ne0.false in
    let z = size< g n _ d.below d.lives (state_out out) in
    (omega (arith, z, n), omega (arith, z, n, g.list.entries), omega (arith, n, d.below), omega (arith, n, d.below, g.list.states))

pub bounds-denied-c-else-answer : goal.bounds-denied-c-else-answer
bounds-denied-c-else-answer c = omega (arith, below (goal.at.bounds-denied-c-else-answer c).Else-d-eq-NONE, c.requires.3.long)

pub returns-then-answer : goal.returns-then-answer
returns-then-answer c =
    let e = c.from-c.ensures in
    let j = c.join.ensures in
    let d = c.requires.2 c.if-d-eq-NONE.false in
    let a = rw e at c.answer_of-answer.ensures in
    let out = rw e at c.if-state-c-ne0.false in
    let v =
    visit_join c.requires.0.mesh _ c.requires.0.position c.requires.1 _ d.0.below (state_out out)
    (d.1 (sym (answer_yes _ _ _ _ a) ∙ c.if-answer.true)) (answer_t _ _ _ _ a) (rw e at j.0) (rw e at j.1) (rw e at j.2) in
    (v.0, v.1, v.2, c.requires.3)

pub returns-else-answer : goal.returns-else-answer
returns-else-answer c =
    let e = c.from-c.ensures in
    let no = sym (answer_yes _ _ _ _ (rw e at c.answer_of-answer.ensures)) ∙ c.if-answer.false in (
      c.requires.1,
      grew_none,
      (λ d y. clash y no),
      rw e (denied_more _ _ _ c.requires.3 _ (below (goal.at.returns-else-answer c).Else-d-eq-NONE) no),
    )

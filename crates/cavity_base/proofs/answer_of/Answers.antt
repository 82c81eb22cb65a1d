use Rattle.std.proofs.Common.{◌≡◌, sym, ap, ◌∙◌, subst}
use lib.Ieee.{of_bits}
use Rattle.insphere.specs.Sphere.{sphere_answer}
use Rattle.mesh.specs.Tables.{tables, corner_at}
use Rattle.mesh.specs.Inner.{positions_of, Cornered}
use Rattle.mesh.proofs.Corners.{read_in_range}
use Rattle.mesh.proofs.Reading.{has_corners, cornered}
use Rattle.cavity.proofs.Answering.{read_answer, answered_by_byte, answered_by_sphere}
use Rattle.cavity_base.proofs.answer_of.Goals as goal
use Rattle.cavity_base.proofs.answer_of.Goals.{After-four_at, After-sphere_answer}

corners_are : (c : After-four_at) → Cornered c.args.points.now c.four_at.result
corners_are c = subst (Cornered _) (sym c.four_at.ensures) (cornered c.requires.0.mesh _ c.requires.1)

answer_here : (c : After-sphere_answer) → let a = c.args in let t = tables a.points.now a.corners.now a.neighbours.now in
    c.sphere_answer.result ≡ sphere_answer (corner_at t a.c 0) (corner_at t a.c 1) (corner_at t a.c 2) (corner_at t a.c 3) a.node.position
answer_here c =
    let a = c.args in
    c.sphere_answer.ensures ∙
    (ap (λ k. sphere_answer k.a k.b k.c k.d a.node.position) (c.positions.ensures ∙ ap (positions_of a.points.now) c.four_at.ensures) ∙
    read_answer a.points.now a.corners.now a.neighbours.now a.c a.node.position)

pub returns-then-node : goal.returns-then-node
unfolding of_bits
returns-then-node c =
    answered_by_byte (tables c.args.points.now c.args.corners.now c.args.neighbours.now) c.args.node.position c.args.c c.args.node.handed c.args.answers.now c.if-node.true

pub four_at-requires : goal.four_at-requires
four_at-requires c = has_corners c.requires.0.mesh _ c.requires.1.below

pub positions-requires : goal.positions-requires
positions-requires c = (corners_are c).has

pub sphere_answer-requires : goal.sphere_answer-requires
sphere_answer-requires c =
    (read_in_range c.positions.ensures (corners_are (goal.at.sphere_answer-requires c).After-four_at), c.requires.0.position)

pub returns-in-Inside : goal.returns-in-Inside
returns-in-Inside c =
    answered_by_sphere _ _ _ c.args.answers.now c.if-node.false _ (sym c.in-Inside.is ∙ answer_here (goal.at.returns-in-Inside c).After-sphere_answer)

pub returns-in-Outside : goal.returns-in-Outside
returns-in-Outside c =
    answered_by_sphere _ _ _ c.args.answers.now c.if-node.false _ (sym c.in-Outside.is ∙ answer_here (goal.at.returns-in-Outside c).After-sphere_answer)

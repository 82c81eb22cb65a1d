use Rattle.std.proofs.Common.{◌≡◌, ◌∙◌, sym}
use Rattle.mesh.specs.Refusal.{mesh_refusal}
use Rattle.mesh.proofs.Outcomes.{short_is}
use Rattle.mesh_check.proofs.test_mesh.Goals as goal

pub returns-then-fewer : goal.returns-then-fewer
unfolding mesh_refusal
returns-then-fewer c = rw c.if-fewer.true

pub returns-then-too_short : goal.returns-then-too_short
unfolding mesh_refusal
returns-then-too_short c = rw (c.if-fewer.false, sym (c.too_short.ensures ∙ short_is c.args.points.now c.args.corners.now c.args.neighbours.now c.args.work) ∙ c.if-too_short.true)

pub returns-then-not-legal_box : goal.returns-then-not-legal_box
unfolding mesh_refusal
returns-then-not-legal_box c =
    rw (
      c.if-fewer.false,
      sym (c.too_short.ensures ∙ short_is c.args.points.now c.args.corners.now c.args.neighbours.now c.args.work) ∙ c.if-too_short.false,
      sym c.legal_box.ensures ∙ c.if-not-legal_box.true,
    )

pub returns-then-not-is_mesh : goal.returns-then-not-is_mesh
unfolding mesh_refusal
returns-then-not-is_mesh c =
    rw (
      c.if-fewer.false,
      sym (c.too_short.ensures ∙ short_is c.args.points.now c.args.corners.now c.args.neighbours.now c.args.work) ∙ c.if-too_short.false,
      sym c.legal_box.ensures ∙ c.if-not-legal_box.false,
      sym c.is_mesh.ensures ∙ c.if-not-is_mesh.true,
    )

pub returns : goal.returns
unfolding mesh_refusal
returns c =
    rw (
      c.if-fewer.false,
      sym (c.too_short.ensures ∙ short_is c.args.points.now c.args.corners.now c.args.neighbours.now c.args.work) ∙ c.if-too_short.false,
      sym c.legal_box.ensures ∙ c.if-not-legal_box.false,
      sym c.is_mesh.ensures ∙ c.if-not-is_mesh.false,
    )

use mathlib.Core.Path.{ap, ◌∙◌}
use native.Mathlib.Omega.{arith}
use borrow.Author.Rules.{rules}
use Rattle.geometry.specs.Inner.{volumes_at}
use Rattle.mesh.proofs.Corners.{read_in_range}
use Rattle.corrections.specs.Corrections.{correction_in}
use Rattle.corrections_value.proofs.Cell.{cornered, asked, value}
use Rattle.corrections_value.proofs.correction_in.Statement.{statement}
use Rattle.corrections_value.proofs.correction_in.Tie as tie

four-at-requires : tie.Need-four_at-k-requires
four-at-requires c κs = search rules

positions-requires : tie.Need-positions-requires
positions-requires c κs =
    (cornered c.args.points.now c.args.corners.now c.args.corrections.now c.args.q c.args.c c.requires c.four_at-k.ensures).has

volumes-at-requires : tie.Need-volumes_at-v-requires
volumes-at-requires c κs =
    (read_in_range c.positions.ensures (cornered c.args.points.now c.args.corners.now c.args.corrections.now c.args.q c.args.c c.requires c.four_at-k.ensures), c.requires.position)

axis-value-requires : tie.Need-axis_value-x-requires
axis-value-requires c κs =
    asked c.args.points.now c.args.corners.now c.args.corrections.now c.args.q c.args.c c.requires c.four_at-k.ensures (c.volumes_at-v.ensures ∙ ap (λ t. volumes_at t c.args.q) c.positions.ensures) 0 (omega arith)

axis-value-requires-2 : tie.Need-axis_value-y-requires
axis-value-requires-2 c κs =
    asked c.args.points.now c.args.corners.now c.args.corrections.now c.args.q c.args.c c.requires c.four_at-k.ensures (c.volumes_at-v.ensures ∙ ap (λ t. volumes_at t c.args.q) c.positions.ensures) 1 (omega arith)

axis-value-requires-3 : tie.Need-axis_value-z-requires
axis-value-requires-3 c κs =
    asked c.args.points.now c.args.corners.now c.args.corrections.now c.args.q c.args.c c.requires c.four_at-k.ensures (c.volumes_at-v.ensures ∙ ap (λ t. volumes_at t c.args.q) c.positions.ensures) 2 (omega arith)

returns : tie.Need-returns
unfolding correction_in
returns c =
    λ ι. record { x = value c.args.points.now c.args.corners.now c.args.corrections.now c.args.q c.args.c c.requires c.four_at-k.ensures (c.volumes_at-v.ensures ∙ ap (λ t. volumes_at t c.args.q) c.positions.ensures) 0 (omega arith) c.axis_value-x.ensures ι; y = value c.args.points.now c.args.corners.now c.args.corrections.now c.args.q c.args.c c.requires c.four_at-k.ensures (c.volumes_at-v.ensures ∙ ap (λ t. volumes_at t c.args.q) c.positions.ensures) 1 (omega arith) c.axis_value-y.ensures ι; z = value c.args.points.now c.args.corners.now c.args.corrections.now c.args.q c.args.c c.requires c.four_at-k.ensures (c.volumes_at-v.ensures ∙ ap (λ t. volumes_at t c.args.q) c.positions.ensures) 2 (omega arith) c.axis_value-z.ensures ι }

pub correction_in_spec : {M : Type 1} → statement M
correction_in_spec =
    tie.close (tie.spec four-at-requires positions-requires volumes-at-requires axis-value-requires axis-value-requires-2 axis-value-requires-3 returns)

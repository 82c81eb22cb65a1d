use mathlib.Core.Path.{ap, ◌∙◌}
use borrow.Author.Rules.{rules}
use Rattle.geometry.specs.Inner.{volumes_at}
use Rattle.mesh.proofs.Corners.{read_in_range}
use Rattle.segment.proofs.Volumes.{volume≤, volumes_meet_is}
use Rattle.segment_test.proofs.cell_touches.Statement.{statement}
use Rattle.segment_test.proofs.cell_touches.Tie as tie

positions-requires : tie.Need-positions-s-requires
positions-requires c κs = search rules

volumes-at-requires : tie.Need-volumes_at-requires
volumes-at-requires c κs = let h = c.requires in (read_in_range c.positions-s.ensures h.0, h.1)

volumes-at-requires-2 : tie.Need-volumes_at-requires-2
volumes-at-requires-2 c κs = let h = c.requires in (read_in_range c.positions-s.ensures h.0, h.2)

volumes-meet-requires : tie.Need-volumes_meet-requires
volumes-meet-requires c κs =
    let s = c.before.before.before.before in
    let e = c.positions-s.ensures in (
      volume≤ _ _ s.args.a s.requires.0 s.requires.1 (c.volumes_at.ensures ∙ ap (λ t. volumes_at t s.args.a) e),
      volume≤ _ _ s.args.b s.requires.0 s.requires.2 (c.volumes_at-2.ensures ∙ ap (λ t. volumes_at t s.args.b) e),
    )

returns : tie.Need-returns
returns c =
    let s = c.before.before.before.before.before in
    let e = c.positions-s.ensures in
    c.volumes_meet.ensures ∙
    volumes_meet_is _ _ s.args.a s.args.b s.requires.0 s.requires.1 s.requires.2 (c.volumes_at.ensures ∙ ap (λ t. volumes_at t s.args.a) e) (c.volumes_at-2.ensures ∙ ap (λ t. volumes_at t s.args.b) e)

pub cell_touches_spec : {M : Type 1} → statement M
cell_touches_spec =
    tie.close
    (tie.spec
    positions-requires
    volumes-at-requires
    volumes-at-requires-2
    volumes-meet-requires
    returns)

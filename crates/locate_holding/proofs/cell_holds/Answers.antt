use Rattle.std.proofs.Common.{ap, ◌∙◌}
use Rattle.geometry.specs.Inner.{volumes_at}
use Rattle.locate.proofs.Codes.{none_negative_is}
use Rattle.locate_holding.proofs.cell_holds.Goals as goal

pub returns : goal.returns
returns c =
    c.none_negative.ensures ∙
    none_negative_is _ _ _ (c.volumes_at.ensures ∙ ap (λ t. volumes_at t c.args.q) c.positions.ensures) c.requires.0 c.requires.1

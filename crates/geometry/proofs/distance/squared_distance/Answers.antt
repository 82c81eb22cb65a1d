use mathlib.Core.Path.{ap₂, ◌∙◌}
use mir.Syntax.{w64}
use mir.Facts.{to_z-of_z}
use Rattle.geometry.specs.Inner.{dot_product, between}
use Rattle.geometry.specs.Volume.{squared_distance}
use Rattle.geometry.proofs.Products.{difference_bounded, wider}
use Rattle.geometry.proofs.distance.squared_distance.Goals as goal

pub dot-requires : goal.dot-requires
dot-requires c =
    let small = difference_bounded c.difference-u.ensures c.requires.1 c.requires.0 in
    (small, wider small)

pub returns : goal.returns
unfolding squared_distance dot_product between
returns c =
    to_z-of_z {w = w64} (record { sfits = c.dot.type_inv }) ∙ (c.dot.ensures ∙ ap₂ dot_product c.difference-u.ensures c.difference-u.ensures)

-- A triple product of three differences.
use mathlib.Core.Path.{◌∙◌}
use Rattle.geometry.proofs.Products.{difference_bounded, kept, triple_bounded, triple_result}
use Rattle.geometry.proofs.volume.volume.Goals as goal

pub cross-requires : goal.cross-requires
cross-requires c =
    let h = c.requires in
    (difference_bounded c.difference-2.ensures h.a h.c, difference_bounded c.difference-3.ensures h.a h.d)

pub dot-requires : goal.dot-requires
dot-requires c =
    let h = c.requires in
    triple_bounded c.difference.ensures c.difference-2.ensures c.difference-3.ensures c.cross.ensures h.a h.b h.c h.d

pub returns : goal.returns
returns c =
    let h = c.requires in
    let v =
    triple_result c.difference.ensures c.difference-2.ensures c.difference-3.ensures c.cross.ensures h.a h.b h.c h.d
    c.dot.result c.dot.ensures in
    kept c.dot.result v.0 ∙ v.1

-- Four triple products over two cross products, seen from p.
use mathlib.Core.Path.{ap, ◌∙◌}
use lib.IntN.{neg_ℤ}
use Rattle.arith.proofs.Machine.{negated_fits, negated}
use Rattle.geometry.specs.Inner.{volumes_at}
use Rattle.geometry.proofs.Products.{difference_bounded, triple_bounded, triple_result, word, kept, seen_1, seen_2, seen_3}
use Rattle.geometry.proofs.volume.volumes_at.Goals as goal

pub cross-ab-requires : goal.cross-ab-requires
cross-ab-requires c =
    let h = c.requires in
    (difference_bounded c.difference-a.ensures h.1 h.0.a, difference_bounded c.difference-b.ensures h.1 h.0.b)

pub cross-cd-requires : goal.cross-cd-requires
cross-cd-requires c =
    let h = c.requires in
    (difference_bounded c.difference-c.ensures h.1 h.0.c, difference_bounded c.difference-d.ensures h.1 h.0.d)

pub dot-requires : goal.dot-requires
dot-requires c = let h = c.requires in triple_bounded c.difference-b.ensures c.difference-c.ensures c.difference-d.ensures c.cross-cd.ensures h.1 h.0.b h.0.c h.0.d

pub dot-requires-2 : goal.dot-requires-2
dot-requires-2 c = let h = c.requires in triple_bounded c.difference-a.ensures c.difference-c.ensures c.difference-d.ensures c.cross-cd.ensures h.1 h.0.a h.0.c h.0.d

pub dot-requires-3 : goal.dot-requires-3
dot-requires-3 c = let h = c.requires in triple_bounded c.difference-d.ensures c.difference-a.ensures c.difference-b.ensures c.cross-ab.ensures h.1 h.0.d h.0.a h.0.b

pub dot-requires-4 : goal.dot-requires-4
dot-requires-4 c = let h = c.requires in triple_bounded c.difference-c.ensures c.difference-a.ensures c.difference-b.ensures c.cross-ab.ensures h.1 h.0.c h.0.a h.0.b

pub overflow_sub-result : goal.overflow_sub-result
overflow_sub-result c =
    let h = c.requires in
    let v = triple_result c.difference-a.ensures c.difference-c.ensures c.difference-d.ensures c.cross-cd.ensures h.1 h.0.a h.0.c h.0.d c.dot-2.result c.dot-2.ensures in
    negated_fits c.dot-2.result (word c.dot-2.result v.0)

pub overflow_sub-result-2 : goal.overflow_sub-result-2
overflow_sub-result-2 c =
    let h = c.requires in
    let v = triple_result c.difference-c.ensures c.difference-a.ensures c.difference-b.ensures c.cross-ab.ensures h.1 h.0.c h.0.a h.0.b c.dot-4.result c.dot-4.ensures in
    negated_fits c.dot-4.result (word c.dot-4.result v.0)

pub returns : goal.returns
unfolding volumes_at
returns c =
    let t = c.args.t in
    let p = c.args.p in
    let h = c.requires in
    let v0 = triple_result c.difference-b.ensures c.difference-c.ensures c.difference-d.ensures c.cross-cd.ensures h.1 h.0.b h.0.c h.0.d c.dot.result c.dot.ensures in
    let v1 = triple_result c.difference-a.ensures c.difference-c.ensures c.difference-d.ensures c.cross-cd.ensures h.1 h.0.a h.0.c h.0.d c.dot-2.result c.dot-2.ensures in
    let v2 = triple_result c.difference-d.ensures c.difference-a.ensures c.difference-b.ensures c.cross-ab.ensures h.1 h.0.d h.0.a h.0.b c.dot-3.result c.dot-3.ensures in
    let v3 = triple_result c.difference-c.ensures c.difference-a.ensures c.difference-b.ensures c.cross-ab.ensures h.1 h.0.c h.0.a h.0.b c.dot-4.result c.dot-4.ensures in
    rw (
      kept c.dot.result v0.0 ∙ v0.1,
      negated c.dot-2.result (word c.dot-2.result v1.0) ∙ (ap neg_ℤ v1.1 ∙ seen_1 t.a t.b t.c t.d p),
      kept c.dot-3.result v2.0 ∙ (v2.1 ∙ seen_2 t.a t.b t.c t.d p),
      negated c.dot-4.result (word c.dot-4.result v3.0) ∙ (ap neg_ℤ v3.1 ∙ seen_3 t.a t.b t.c t.d p),
    )

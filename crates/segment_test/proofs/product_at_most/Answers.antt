use Rattle.std.proofs.Common.{sym, ◌∙◌, arith}
use borrow.Author.Tests.{ne_eqb, le-ltb}
use Rattle.segment.proofs.Products.{by_high, by_low}
use Rattle.segment_test.proofs.product_at_most.Goals as goal

pub returns-then-p-q : goal.returns-then-p-q
returns-then-p-q c = let a = c.args in by_high a.x a.y a.u a.w c.product-p.ensures c.product-q.ensures (λ e. absurd (omega (arith, e, c.if-p-q.true)))

pub returns-then-p-q-2 : goal.returns-then-p-q-2
returns-then-p-q-2 c = let a = c.args in by_low a.x a.y a.u a.w c.product-p.ensures c.product-q.ensures c.if-p-q-2.true

pub returns-else-p-q-2 : goal.returns-else-p-q-2
returns-else-p-q-2 c =
    let a = c.args in
    ne_eqb _ _ c.if-p-q-2.false ∙ (sym (le-ltb _ _ c.if-p-q.false) ∙ by_high a.x a.y a.u a.w c.product-p.ensures c.product-q.ensures c.if-p-q-2.false)

-- A sum of three products, which fits.
use Rattle.arith.proofs.Ring.{Expr, var, ◌⊕◌, ◌⊗◌}
use Rattle.geometry.specs.Inner.{dot_product}
use Rattle.geometry.proofs.Products.{fit, holds}
use Rattle.geometry.proofs.vectors.dot.Goals as goal

abbrev two : Expr
two = var 0 ⊗ var 3 ⊕ var 1 ⊗ var 4

abbrev whole : Expr
whole = two ⊕ var 2 ⊗ var 5

pub overflow_add-result : goal.overflow_add-result
overflow_add-result c = fit c.requires two tt

pub overflow_mul-result-3 : goal.overflow_mul-result-3
overflow_mul-result-3 c = fit c.requires (var 2 ⊗ var 5) tt

pub overflow_add-result-2 : goal.overflow_add-result-2
overflow_add-result-2 c = fit c.requires whole tt

pub returns : goal.returns
unfolding dot_product
returns c = holds c.requires whole tt

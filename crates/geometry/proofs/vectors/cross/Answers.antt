-- Each component is a difference of two products, and fits.
use Rattle.arith.proofs.Ring.{Expr, var, ◌⊖◌, ◌⊗◌}
use Rattle.geometry.specs.Inner.{cross_product}
use Rattle.geometry.proofs.Products.{fit, holds}
use Rattle.geometry.proofs.vectors.cross.Goals as goal

abbrev minor : Expr → Expr → Expr → Expr → Expr
minor a b c d = a ⊗ b ⊖ c ⊗ d

pub overflow_sub-result : goal.overflow_sub-result
overflow_sub-result c = fit c.requires (minor (var 1) (var 5) (var 2) (var 4)) tt

pub overflow_mul-result-3 : goal.overflow_mul-result-3
overflow_mul-result-3 c = fit c.requires (var 2 ⊗ var 3) tt

pub overflow_mul-result-4 : goal.overflow_mul-result-4
overflow_mul-result-4 c = fit c.requires (var 0 ⊗ var 5) tt

pub overflow_sub-result-2 : goal.overflow_sub-result-2
overflow_sub-result-2 c = fit c.requires (minor (var 2) (var 3) (var 0) (var 5)) tt

pub overflow_mul-result-5 : goal.overflow_mul-result-5
overflow_mul-result-5 c = fit c.requires (var 0 ⊗ var 4) tt

pub overflow_mul-result-6 : goal.overflow_mul-result-6
overflow_mul-result-6 c = fit c.requires (var 1 ⊗ var 3) tt

pub overflow_sub-result-3 : goal.overflow_sub-result-3
overflow_sub-result-3 c = fit c.requires (minor (var 0) (var 4) (var 1) (var 3)) tt

pub returns : goal.returns
unfolding cross_product
returns c =
    rw (
      holds c.requires (minor (var 1) (var 5) (var 2) (var 4)) tt,
      holds c.requires (minor (var 2) (var 3) (var 0) (var 5)) tt,
      holds c.requires (minor (var 0) (var 4) (var 1) (var 3)) tt,
    )

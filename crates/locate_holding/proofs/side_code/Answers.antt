use Rattle.std.proofs.Common.{◌≡◌, ℕ, ◌≤◌, ◌+◌, ◌*◌, sym, subst, arith}
use Rattle.locate.specs.Inner.{axis_code, side_code}
use Rattle.locate.proofs.Codes.{axis≤}
use Rattle.locate_holding.proofs.side_code.Goals as goal

small : {n : ℕ} (a b : ℕ) → n ≡ axis_code a b → n ≤ 3
small a b e = subst (λ n. n ≤ 3) (sym e) (axis≤ a b)

pub overflow_mul-result : goal.overflow_mul-result
overflow_mul-result c = record { fits = omega (arith, small _ _ c.axis_code-2.ensures) }

pub overflow_add-result : goal.overflow_add-result
overflow_add-result c = record { fits = omega (arith, small _ _ c.axis_code.ensures, small _ _ c.axis_code-2.ensures) }

pub overflow_mul-result-2 : goal.overflow_mul-result-2
overflow_mul-result-2 c = record { fits = omega (arith, small _ _ c.axis_code-3.ensures) }

pub overflow_add-result-2 : goal.overflow_add-result-2
overflow_add-result-2 c =
    record { fits = omega (arith, small _ _ c.axis_code.ensures, small _ _ c.axis_code-2.ensures, small _ _ c.axis_code-3.ensures) }

pub returns : goal.returns
unfolding side_code
returns c = λ i. c.axis_code.ensures i + 4 * c.axis_code-2.ensures i + 16 * c.axis_code-3.ensures i

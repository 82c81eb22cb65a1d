use native.Mathlib.Omega.{arith}
use borrow.Author.Rules.{rules}
use Rattle.segment.proofs.Products.{words_are, low≤, first≤, second≤, high≤}
use Rattle.segment_test.proofs.product.Statement.{statement}
use Rattle.segment_test.proofs.product.Tie as tie

mul_low : tie.Need-overflow_mul-low
mul_low c = record { fits = omega (arith, low≤ c.args.x c.args.y c.requires.0 c.requires.1) }

mul-middle : tie.Need-overflow_mul-middle
mul-middle c = record { fits = omega (arith, first≤ c.args.x c.args.y c.requires.0 c.requires.1) }

mul-middle-2 : tie.Need-overflow_mul-middle-2
mul-middle-2 c = record { fits = omega (arith, second≤ c.args.x c.args.y c.requires.0 c.requires.1) }

add-middle : tie.Need-overflow_add-middle
add-middle c = record { fits = omega (arith, first≤ c.args.x c.args.y c.requires.0 c.requires.1, second≤ c.args.x c.args.y c.requires.0 c.requires.1) }

add-middle-2 : tie.Need-overflow_add-middle-2
add-middle-2 c = record { fits = omega (arith, first≤ c.args.x c.args.y c.requires.0 c.requires.1, second≤ c.args.x c.args.y c.requires.0 c.requires.1, low≤ c.args.x c.args.y c.requires.0 c.requires.1) }

mul-t9 : tie.Need-overflow_mul-result
mul-t9 c = record { fits = omega (arith, high≤ c.args.x c.args.y c.requires.0 c.requires.1) }

add-t11 : tie.Need-overflow_add-result
add-t11 c = record { fits = omega (arith, high≤ c.args.x c.args.y c.requires.0 c.requires.1, first≤ c.args.x c.args.y c.requires.0 c.requires.1, second≤ c.args.x c.args.y c.requires.0 c.requires.1, low≤ c.args.x c.args.y c.requires.0 c.requires.1) }

mul-t13 : tie.Need-overflow_mul-result-2
mul-t13 c = search rules

add-t15 : tie.Need-overflow_add-result-2
add-t15 c = search rules

returns : tie.Need-returns
returns c = words_are c.args.x c.args.y

pub product_spec : {M : Type 1} → statement M
product_spec =
    tie.close
    (tie.spec
    mul_low
    mul-middle
    mul-middle-2
    add-middle
    add-middle-2
    mul-t9
    add-t11
    mul-t13
    add-t15
    returns)

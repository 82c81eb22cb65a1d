use native.Mathlib.Omega.{arith}
use Rattle.corrections_value.proofs.Words.{term_fits, terms₂_fit, terms₃_fit, terms₄_fit, terms_added}
use Rattle.corrections_value.proofs.weighted_sum.Statement.{statement}
use Rattle.corrections_value.proofs.weighted_sum.Tie as tie

mul-result : tie.Need-overflow_mul-result
mul-result c = term_fits c.args.v c.args.a c.args.b c.args.c c.args.d c.requires 0 (omega arith)

mul-result-2 : tie.Need-overflow_mul-result-2
mul-result-2 c = term_fits c.args.v c.args.a c.args.b c.args.c c.args.d c.requires 1 (omega arith)

add-result : tie.Need-overflow_add-result
add-result c = terms₂_fit c.args.v c.args.a c.args.b c.args.c c.args.d c.requires

mul-result-3 : tie.Need-overflow_mul-result-3
mul-result-3 c = term_fits c.args.v c.args.a c.args.b c.args.c c.args.d c.requires 2 (omega arith)

add-result-2 : tie.Need-overflow_add-result-2
add-result-2 c = terms₃_fit c.args.v c.args.a c.args.b c.args.c c.args.d c.requires

mul-result-4 : tie.Need-overflow_mul-result-4
mul-result-4 c = term_fits c.args.v c.args.a c.args.b c.args.c c.args.d c.requires 3 (omega arith)

add-result-3 : tie.Need-overflow_add-result-3
add-result-3 c = terms₄_fit c.args.v c.args.a c.args.b c.args.c c.args.d c.requires

returns : tie.Need-returns
returns c = terms_added c.args.v c.args.a c.args.b c.args.c c.args.d c.requires

pub weighted_sum_spec : {M : Type 1} → statement M
weighted_sum_spec = tie.close (tie.spec mul-result mul-result-2 add-result mul-result-3 add-result-2 mul-result-4 add-result-3 returns)

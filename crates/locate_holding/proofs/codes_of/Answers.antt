use Rattle.std.proofs.Common.{subst, arith}
use Rattle.locate_holding.proofs.Codes.{coded_none, coded_more}
use Rattle.locate_holding.proofs.codes_of.Given as given
use Rattle.locate_holding.proofs.codes_of.Goals as goal

pub loop-v-init : goal.loop-v-init
loop-v-init g c = coded_none _

pub loop-v-preserved : goal.loop-v-preserved
loop-v-preserved g c = coded_more c.loop-v.invariant (omega arith) (subst (λ p. given.F-post g c.args.code p c.code.result) c.point_at.ensures c.code.ensures)

pub returns-clause-long : goal.returns-clause-long
returns-clause-long g c = c.loop-v.invariant.long

pub returns-clause-coded : goal.returns-clause-coded
returns-clause-coded g c = λ v h. c.loop-v.invariant.coded v (omega arith)

pub returns-clause-rest : goal.returns-clause-rest
returns-clause-rest g c = λ v h. c.loop-v.invariant.rest v (omega arith)

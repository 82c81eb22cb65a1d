use Rattle.mesh.specs.Tables.{point_in}
use Rattle.locate_holding.proofs.Codes.{Coded}
use Rattle.locate_holding.proofs.codes_of.Given as goal

abbrev pub invariant-loop-v : goal.invariant-loop-v
invariant-loop-v g l = Coded (λ k x. goal.F-post g l.code (point_in l.points k) x) l.v l.codes

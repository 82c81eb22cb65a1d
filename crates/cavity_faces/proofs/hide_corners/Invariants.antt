use Rattle.std.proofs.Common.{[]}
use Rattle.mesh.specs.Tables.{tables}
use Rattle.cavity.specs.Inner.Correction.{NoneExposed}
use Rattle.cavity_faces.proofs.hide_corners.Given as goal

abbrev pub invariant-loop-c : goal.invariant-loop-c
invariant-loop-c l = NoneExposed (tables [] l.corners []) l.list l.c-index l.exposed

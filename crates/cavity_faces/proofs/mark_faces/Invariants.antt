use Rattle.std.proofs.Common.{◌≡◌}
use Rattle.cavity.specs.Inner.Correction.{with_faces}
use Rattle.cavity_faces.proofs.mark_faces.Given as goal

abbrev pub invariant-loop-i : goal.invariant-loop-i
invariant-loop-i l = l.exposed ≡ with_faces l.i l.initial.exposed l.k l.v

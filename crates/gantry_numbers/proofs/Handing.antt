-- The float of the sphere test's answer, handed on.
use Rattle.std.proofs.Common.{ℤ, arith, Result, Ok, Err}
use Rattle.refusal.specs.declared.Refusal.{Refusal}
use Rattle.refusal.proofs.Numbers.{number-positive}
use Rattle.insphere.specs.declared.Sphere.{Sphere}
use Rattle.insphere.specs.declared.Sphere.TheVariants.{Inside, Outside}
use Rattle.insphere.specs.Sphere.{as_tested, CarriesNear}
use Rattle.gantry_numbers.specs.Numbers.{sphere_of, tested_of}
use Rattle.gantry_numbers.specs.Promises.{GivesNear}

pub gives_near : {e : ℤ} (r : Result Sphere Refusal) → CarriesNear e (as_tested r) → GivesNear e (tested_of (as_tested r))
unfolding tested_of sphere_of
gives_near (Ok (Inside t)) near accepted = near
gives_near (Ok (Outside t)) near accepted = near
gives_near (Err refusal) near accepted = absurd (omega (arith, number-positive refusal, accepted))

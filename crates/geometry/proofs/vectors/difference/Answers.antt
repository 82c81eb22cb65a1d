use Rattle.geometry.specs.Inner.{between}
use Rattle.geometry.proofs.Products.{gap_holds}
use Rattle.geometry.proofs.vectors.difference.Goals as goal

pub returns : goal.returns
unfolding between
returns c =
    rw (
      c.from.ensures,
      c.from-2.ensures,
      c.from-3.ensures,
      c.from-4.ensures,
      c.from-5.ensures,
      c.from-6.ensures,
      gap_holds c.requires.1.x≤ c.requires.0.x≤,
      gap_holds c.requires.1.y≤ c.requires.0.y≤,
      gap_holds c.requires.1.z≤ c.requires.0.z≤,
    )

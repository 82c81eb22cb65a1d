use mathlib.Core.Path.{ap}
use Rattle.geometry.specs.Inner.{volumes_at}
use Rattle.geometry.proofs.ReadBack.{held_volume, held_distance}
use Rattle.insphere.specs.Inner.{terms_at}
use Rattle.insphere.proofs.terms_at.Goals as goal

pub returns : goal.returns
unfolding terms_at volumes_at
returns c =
    let h = c.requires.0 in
    let k = c.requires.1 in
    let e = c.volumes_at-v.ensures in
    λ i. record {
      t0 = record { volume = (held_volume _ _ _ _ (ap (λ v. v.v0) e) k h.b h.c h.d).is i; distance = (held_distance _ _ c.squared_distance.ensures h.a k).is i };
      t1 = record { volume = (held_volume _ _ _ _ (ap (λ v. v.v1) e) h.a k h.c h.d).is i; distance = (held_distance _ _ c.squared_distance-2.ensures h.b k).is i };
      t2 = record { volume = (held_volume _ _ _ _ (ap (λ v. v.v2) e) h.a h.b k h.d).is i; distance = (held_distance _ _ c.squared_distance-3.ensures h.c k).is i };
      t3 = record { volume = (held_volume _ _ _ _ (ap (λ v. v.v3) e) h.a h.b h.c k).is i; distance = (held_distance _ _ c.squared_distance-4.ensures h.d k).is i };
    }

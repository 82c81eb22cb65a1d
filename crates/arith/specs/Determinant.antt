-- Determinants of vectors and the in-sphere sum, over any carrier with a sum, a difference and a product: over ℤ, and over the
-- ring solver's expressions (proofs/Determinant).
use Rattle.std.specs.Prelude.{ℤ, ◌+ℤ◌, ◌-ℤ◌, ◌*ℤ◌}

pub record Vector (A : Type 0) : Type 0 where
  pub x : A
  pub y : A
  pub z : A

module _ (A : Type 0) (◌+◌ ◌-◌ ◌*◌ : A → A → A) where
  infixl 6 ◌+◌ ◌-◌
  infixl 7 ◌*◌
  abbrev pub from : Vector A → Vector A → Vector A
  from a b = record { x = b.x - a.x; y = b.y - a.y; z = b.z - a.z }

  abbrev pub det3_of : Vector A → Vector A → Vector A → A
  det3_of u v w =
      u.x * (v.y * w.z - v.z * w.y) - u.y * (v.x * w.z - v.z * w.x) + u.z * (v.x * w.y - v.y * w.x)

  -- the determinant of b − a, c − a, d − a
  abbrev pub det4_of : Vector A → Vector A → Vector A → Vector A → A
  det4_of a b c d = det3_of (from a b) (from a c) (from a d)

  abbrev pub squared_of : Vector A → Vector A → A
  squared_of a p = (a.x - p.x) * (a.x - p.x) + (a.y - p.y) * (a.y - p.y) + (a.z - p.z) * (a.z - p.z)

  -- the sum over the corners of the determinant with that corner replaced by p, times the corner's squared distance from p
  abbrev pub in_sphere_of : Vector A → Vector A → Vector A → Vector A → Vector A → A
  in_sphere_of a b c d p =
      det4_of p b c d * squared_of a p + det4_of a p c d * squared_of b p + det4_of a b p d * squared_of c p + det4_of a b c p * squared_of d p

abbrev pub det4 : Vector ℤ → Vector ℤ → Vector ℤ → Vector ℤ → ℤ
det4 = det4_of ℤ ◌+ℤ◌ ◌-ℤ◌ ◌*ℤ◌

abbrev pub in_sphere : Vector ℤ → Vector ℤ → Vector ℤ → Vector ℤ → Vector ℤ → ℤ
in_sphere = in_sphere_of ℤ ◌+ℤ◌ ◌-ℤ◌ ◌*ℤ◌

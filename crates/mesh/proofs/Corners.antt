-- The corners of a cell as numbers of points in range.
use Prim.Native.Nat.{ℕ, ◌<◌}
use mathlib.Core.List.{List}
use mathlib.Core.Path.{◌≡◌, sym, subst}
use native.Mathlib.Omega.{arith}
use lib.ListN.{get_or}
use Rattle.geometry.specs.declared.Tetrahedron.{Tetrahedron}
use Rattle.geometry.specs.Inner.{CornersInRange}
use Rattle.mesh.specs.Inner.{positions_of, Cornered, Placed}

pub placed_cornered : {ps k : List ℕ} {np : ℕ} → Placed ps np → ((i : ℕ) → i < 4 → get_or k i 0 < np) → Cornered ps k
placed_cornered p h =
    record {
      has = λ i l. record { fits = omega (arith, h i l, p.points_fit) };
      in_range = λ i l. p.in_range _ (h i l);
    }

pub corners_in_range_lem : {ps k : List ℕ} → Cornered ps k → CornersInRange (positions_of ps k)
corners_in_range_lem c =
    record {
      a = c.in_range 0 (omega arith);
      b = c.in_range 1 (omega arith);
      c = c.in_range 2 (omega arith);
      d = c.in_range 3 (omega arith);
    }

-- of positions that were read
pub read_in_range : {ps k : List ℕ} {t : Tetrahedron} → t ≡ positions_of ps k → Cornered ps k → CornersInRange t
read_in_range e c = subst CornersInRange (sym e) (corners_in_range_lem c)

-- By computation: for seven of the fourteen clauses of the mesh check, tables that meet all the others and cover a place twice or not at all. Kk is cell k of
-- the started box.
use Prim.Native.Nat.{ℕ, ◌+◌, ◌<◌}
use mathlib.Core.Bool.{true, false, cond}
use mathlib.Core.List.{List, [], ◌∷◌, ◌++◌, map}
use mathlib.Core.Logic.{◌≢◌}
use mathlib.Core.Path.{◌≡◌, refl}
use native.Mathlib.Omega.{arith}
use lib.Dec.{eqb}
use lib.ListN.{replicate}
use Rattle.arith.specs.Table.{any_below, all_below, count_below, sum}
use Rattle.arith.proofs.Flags.{clash}
use Rattle.arith.proofs.Tables.{any_intro}
use Rattle.geometry.specs.Volume.{volume6, volume}
use Rattle.mesh.specs.declared.Mesh.{Mesh}
use Rattle.mesh.specs.Tables.{Tables, tables, point_capacity, cell_capacity, none, point_in, corner, across, corner_at, cell_volume, side, face_has, same_face, freed, live}
use Rattle.mesh.specs.Chain.{chain_ok}
use Rattle.mesh.specs.Check.{counts_ok, box_ok, used_ok, points_ok, cell_ok, wall_ok, some_wall, mated_ok, face_ok, mesh_check, entries_ok, is_mesh}
use Rattle.mesh.specs.Start.{start_points, start_corners, start_neighbours}
use Rattle.locate.specs.Locate.{holds}
use Rattle.covering.specs.Place.{Place, InBoxAt, tables_in_parts, holds_at, side_at, inside_at}
use Rattle.covering.specs.Clauses.{no_clause, cell_ok_but, mated_ok_but, face_ok_but, mesh_check_but, entries_ok_but, is_mesh_but}
use Rattle.covering.specs.Claim.{Covering, NeededClauses}

pub none_left_out : (m : Mesh) (t : Tables) (w : ℕ) → is_mesh_but no_clause m t w ≡ is_mesh m t w
unfolding is_mesh_but mesh_check_but face_ok_but mated_ok_but cell_ok_but entries_ok_but is_mesh mesh_check points_ok face_ok mated_ok cell_ok entries_ok
none_left_out m t w = refl

-- ---- what contradicts covering

module _ {X Y Z n : ℕ} {t : Tables} where
  twice : (q : Place) (c d : ℕ) → c < n → d < n → c ≢ d → inside_at t q c ≡ true → inside_at t q d ≡ true → Covering X Y Z n t → ⊥
  twice q c d lc ld apart ic id C = apart (C.nowhere_twice q c d lc ld ic id)

  uncovered : (q : Place) → InBoxAt X Y Z q → any_below n (holds_at t q) ≡ false → Covering X Y Z n t → ⊥
  uncovered q box e C =
      let h = C.nowhere_uncovered q box in
      clash (any_intro n (holds_at t q) h.0 h.1 h.2) e

-- ---- the tables, in a box of side 4

-- (0.5, 1, 1.5), (0.5, 1.5, 1), (1, 0.5, 1.5) and (1.5, 1, 0.5), strictly inside the cells that they are named after
abbrev in_K3 : Place
in_K3 = record { x = 1; y = 2; z = 3; w = 2 }

abbrev in_K2 : Place
in_K2 = record { x = 1; y = 3; z = 2; w = 2 }

abbrev in_K4 : Place
in_K4 = record { x = 2; y = 1; z = 3; w = 2 }

abbrev in_K0 : Place
in_K0 = record { x = 3; y = 2; z = 1; w = 2 }

abbrev side_4 : ℕ → ℕ → Mesh
side_4 points cells = record { x = 4; y = 4; z = 4; points = points; cells = cells; chain = none; used = cells }

-- the neighbours of cells whose numbers are n higher
abbrev shifted : ℕ → List ℕ → List ℕ
shifted n l = map (λ u. cond (eqb u none) none (u + n)) l

-- two whole boxes on doubled points
doubled : Tables
doubled =
    tables (start_points 4 4 4 ++ start_points 4 4 4) (start_corners ++ map (λ v. v + 8) start_corners)
    (start_neighbours ++ shifted 6 start_neighbours)

-- cells 0 and 1, 2 and 3, 4 and 5: each the other's neighbour on all four faces
pairs : List ℕ
pairs = 1 ∷ 1 ∷ 1 ∷ 1 ∷ 0 ∷ 0 ∷ 0 ∷ 0 ∷ 3 ∷ 3 ∷ 3 ∷ 3 ∷ 2 ∷ 2 ∷ 2 ∷ 2 ∷ 5 ∷ 5 ∷ 5 ∷ 5 ∷ 4 ∷ 4 ∷ 4 ∷ 4 ∷ []

-- folded pairs: K0, K2 and K4, each twice
folded : Tables
folded = tables (start_points 4 4 4) (0 ∷ 1 ∷ 3 ∷ 7 ∷ 0 ∷ 1 ∷ 3 ∷ 7 ∷ 0 ∷ 2 ∷ 6 ∷ 7 ∷ 0 ∷ 2 ∷ 6 ∷ 7 ∷ 0 ∷ 4 ∷ 5 ∷ 7 ∷ 0 ∷ 4 ∷ 5 ∷ 7 ∷ []) pairs

-- two whole boxes, and the folded pairs with two corners swapped: their negative volumes take one box off the sum
turned : Tables
turned =
    tables doubled.points
    (doubled.corners ++ (0 ∷ 1 ∷ 7 ∷ 3 ∷ 0 ∷ 1 ∷ 7 ∷ 3 ∷ 0 ∷ 2 ∷ 7 ∷ 6 ∷ 0 ∷ 2 ∷ 7 ∷ 6 ∷ 0 ∷ 4 ∷ 7 ∷ 5 ∷ 0 ∷ 4 ∷ 7 ∷ 5 ∷ []))
    (doubled.neighbours ++ shifted 12 pairs)

-- K2 again in the place of K0, with no neighbours
unshared : Tables
unshared =
    tables (start_points 4 4 4) (0 ∷ 2 ∷ 6 ∷ 7 ∷ 0 ∷ 3 ∷ 2 ∷ 7 ∷ 0 ∷ 2 ∷ 6 ∷ 7 ∷ 0 ∷ 6 ∷ 4 ∷ 7 ∷ 0 ∷ 4 ∷ 5 ∷ 7 ∷ 0 ∷ 5 ∷ 1 ∷ 7 ∷ [])
    (none ∷ none ∷ none ∷ none ∷ none ∷ 2 ∷ none ∷ none ∷ none ∷ 3 ∷ 1 ∷ none ∷ none ∷ 4 ∷ 2 ∷ none ∷ none ∷ 5 ∷ 3 ∷ none ∷ none ∷ none ∷ 4 ∷ none ∷ [])

-- the box twice on the same points: of each, K0, K2 and K4 are counted, and K1, K3 and K5 stand past the count
uncounted : Tables
uncounted =
    tables (start_points 4 4 4)
    (0 ∷ 1 ∷ 3 ∷ 7 ∷ 0 ∷ 2 ∷ 6 ∷ 7 ∷ 0 ∷ 4 ∷ 5 ∷ 7 ∷ 0 ∷ 1 ∷ 3 ∷ 7 ∷ 0 ∷ 2 ∷ 6 ∷ 7 ∷ 0 ∷ 4 ∷ 5 ∷ 7 ∷
    0 ∷ 3 ∷ 2 ∷ 7 ∷ 0 ∷ 6 ∷ 4 ∷ 7 ∷ 0 ∷ 5 ∷ 1 ∷ 7 ∷ 0 ∷ 3 ∷ 2 ∷ 7 ∷ 0 ∷ 6 ∷ 4 ∷ 7 ∷ 0 ∷ 5 ∷ 1 ∷ 7 ∷ [])
    (none ∷ 6 ∷ 8 ∷ none ∷ none ∷ 7 ∷ 6 ∷ none ∷ none ∷ 8 ∷ 7 ∷ none ∷ none ∷ 9 ∷ 11 ∷ none ∷ none ∷ 10 ∷ 9 ∷ none ∷ none ∷ 11 ∷ 10 ∷ none ∷
    none ∷ 1 ∷ 0 ∷ none ∷ none ∷ 2 ∷ 1 ∷ none ∷ none ∷ 0 ∷ 2 ∷ none ∷ none ∷ 4 ∷ 3 ∷ none ∷ none ∷ 5 ∷ 4 ∷ none ∷ none ∷ 3 ∷ 5 ∷ none ∷ [])

-- neighbours whose faces have other points: cells 2 and 5 are both K4
mismatched : Tables
mismatched =
    tables (start_points 4 4 4) (0 ∷ 2 ∷ 4 ∷ 3 ∷ 1 ∷ 2 ∷ 7 ∷ 3 ∷ 0 ∷ 4 ∷ 5 ∷ 7 ∷ 1 ∷ 2 ∷ 6 ∷ 3 ∷ 2 ∷ 4 ∷ 7 ∷ 6 ∷ 0 ∷ 4 ∷ 5 ∷ 7 ∷ [])
    (4 ∷ 2 ∷ none ∷ none ∷ none ∷ none ∷ none ∷ 2 ∷ none ∷ 1 ∷ 0 ∷ none ∷ none ∷ 5 ∷ none ∷ 5 ∷ none ∷ none ∷ none ∷ 0 ∷ none ∷ 3 ∷ 3 ∷ none ∷ [])

-- ---- each meets all clauses but one

pub needed_clauses : NeededClauses
unfolding doubled turned pairs folded unshared uncounted mismatched start_points start_corners start_neighbours point_capacity cell_capacity counts_ok box_ok used_ok wall_ok some_wall is_mesh_but mesh_check_but cell_ok_but mated_ok_but face_ok_but entries_ok_but chain_ok count_below freed live point_in corner across corner_at cell_volume side face_has same_face volume volume6 sum all_below any_below holds holds_at inside_at side_at tables_in_parts
needed_clauses = record {
  -- no cells, in a box whose sides are 0
  capacities_sides_counts = record {
    mesh = record { x = 0; y = 0; z = 0; points = 0; cells = 0; chain = none; used = 0 };
    tables = tables (replicate 24 0) (replicate 24 0) (replicate 24 0);
    work = 18;
    others = refl;
    uncovered_or_twice = uncovered record { x = 0; y = 0; z = 0; w = 1 } (omega arith) refl;
  };
  neighbour_in_range = record {
    mesh = side_4 8 6;
    tables = uncounted;
    work = 18;
    others = refl;
    uncovered_or_twice = uncovered in_K3 (omega arith) refl;
  };
  volume_above_zero = record {
    mesh = side_4 16 18;
    tables = turned;
    work = 54;
    others = refl;
    uncovered_or_twice = twice in_K3 3 9 (omega arith) (omega arith) (omega arith) refl refl;
  };
  unshared_on_wall = record {
    mesh = side_4 8 6;
    tables = unshared;
    work = 18;
    others = refl;
    uncovered_or_twice = uncovered in_K0 (omega arith) refl;
  };
  shared_points = record {
    mesh = side_4 8 6;
    tables = mismatched;
    work = 18;
    others = refl;
    uncovered_or_twice = twice in_K4 2 5 (omega arith) (omega arith) (omega arith) refl refl;
  };
  on_far_side = record {
    mesh = side_4 8 6;
    tables = folded;
    work = 18;
    others = refl;
    uncovered_or_twice = twice in_K2 2 3 (omega arith) (omega arith) (omega arith) refl refl;
  };
  sum_of_volumes = record {
    mesh = side_4 16 12;
    tables = doubled;
    work = 36;
    others = refl;
    uncovered_or_twice = twice in_K3 3 9 (omega arith) (omega arith) (omega arith) refl refl;
  };
}

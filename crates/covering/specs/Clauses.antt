-- The mesh check with one clause of 'What a mesh is' left out. With none left out it is the mesh check (`none_left_out` in proofs/Needed).
use Rattle.std.specs.Prelude.{ℕ, ◌+◌, ◌*◌, ◌-◌, Bool, ◌&&◌, cond, ◌||◌, ltb, eqb, pos}
use Rattle.std.specs.Int.Signed.{lt_z}
use Rattle.arith.specs.Table.{any_below, all_below, count_below, sum}
use Rattle.geometry.specs.Volume.{in_box}
use Rattle.mesh.specs.declared.Mesh.{Mesh}
use Rattle.mesh.specs.Tables.{Tables, point_capacity, cell_capacity, none, cell_of, opposite, point, corner, across, corner_at, cell_volume, side, same_face, freed, live}
use Rattle.mesh.specs.Chain.{chain_ok}
use Rattle.mesh.specs.Check.{same_z, counts_ok, box_ok, used_ok, some_wall}

-- capacities, sides and counts are taken as one clause
pub data Clause : Type 0 where
  sizes box_corners points_inside points_used corner_numbers neighbour_numbers : Clause
  positive_volumes faces_on_walls same_points named_back far_side volumes_add_up cell_count chain : Clause
  no_clause : Clause

abbrev pub number : Clause → ℕ
number sizes = 0
number box_corners = 1
number points_inside = 2
number points_used = 3
number corner_numbers = 4
number neighbour_numbers = 5
number positive_volumes = 6
number faces_on_walls = 7
number same_points = 8
number named_back = 9
number far_side = 10
number volumes_add_up = 11
number cell_count = 12
number chain = 13
number no_clause = 14

-- the test of clause k, passed where k is left out
abbrev pub unless : Clause → Clause → Bool → Bool
unless out k test = eqb (number out) (number k) || test

unfoldable pub cell_ok_but : Clause → Tables → ℕ → ℕ → Bool
cell_ok_but out t np c =
    unless out corner_numbers (all_below 4 (λ i. ltb (corner t c i) np)) && unless out positive_volumes (lt_z (pos 0) (cell_volume t c))

unfoldable pub mated_ok_but : Clause → Tables → ℕ → ℕ → Bool
mated_ok_but out t f g =
    unless out same_points (same_face t f g) &&
    (unless out named_back (eqb (across t g) (cell_of f)) && unless out far_side (lt_z (side t (corner_at t (cell_of g) (opposite g)) f) (pos 0)))

unfoldable pub face_ok_but : Clause → ℕ → ℕ → ℕ → Tables → ℕ → ℕ → Bool
face_ok_but out X Y Z t n f =
    cond (eqb (across t f) none) (unless out faces_on_walls (some_wall X Y Z t f))
    (unless out neighbour_numbers (ltb (across t f) n) && any_below 4 (λ k. mated_ok_but out t f (4 * across t f + k)))

unfoldable pub mesh_check_but : Clause → ℕ → ℕ → ℕ → ℕ → ℕ → ℕ → ℕ → Tables → Bool
mesh_check_but out X Y Z point_cap cell_cap np n t =
    unless out sizes (counts_ok X Y Z point_cap cell_cap np n) && (unless out box_corners (box_ok X Y Z t) &&
    ((unless out points_inside (all_below np (λ k. in_box X Y Z (point t k))) && unless out points_used (all_below np (used_ok t n))) &&
    (all_below n (λ c. freed t c || cell_ok_but out t np c) && (all_below (4 * n) (λ f. freed t (cell_of f) || face_ok_but out X Y Z t n f) &&
    unless out volumes_add_up (same_z (sum n (cell_volume t)) (pos (6 * X * Y * Z)))))))

unfoldable pub entries_ok_but : Clause → Mesh → Tables → Bool
entries_ok_but out m t =
    unless out cell_count (eqb m.cells (count_below m.used (live t))) && unless out chain (chain_ok t m.used (m.used - m.cells) m.chain)

unfoldable pub is_mesh_but : Clause → Mesh → Tables → ℕ → Bool
is_mesh_but out m t w = mesh_check_but out m.x m.y m.z (point_capacity t) (cell_capacity t w) m.points m.used t && entries_ok_but out m t

-- The mesh check, as a test that computes: true for just the tables that are a mesh (`check_is` in proofs/Checked).
use Rattle.std.specs.Prelude.{ℕ, ◌+◌, ◌*◌, ◌-◌, Bool, ◌&&◌, cond, ◌||◌, leb, ltb, eqb, ℤ, pos}
use Rattle.std.specs.Int.Signed.{lt_z, le_z}
use Rattle.arith.specs.Table.{any_below, all_below, count_below, sum}
use Rattle.geometry.specs.Volume.{max_side, in_box, same_position}
use Rattle.mesh.specs.declared.Mesh.{Mesh}
use Rattle.mesh.specs.Tables.{Tables, point_capacity, cell_capacity, none, cell_of, opposite, point, corner, across, corner_at, cell_volume, side, same_face, freed, live}
use Rattle.mesh.specs.Chain.{chain_ok}
use Rattle.mesh.specs.Mesh.{box_corner, Wall, low_x, low_y, low_z, high_x, high_y, high_z, along, level}

abbrev pub same_z : ℤ → ℤ → Bool
same_z a b = le_z a b && le_z b a

abbrev pub legal_side : ℕ → Bool
legal_side s = leb 1 s && leb s max_side

abbrev pub legal_box : ℕ → ℕ → ℕ → Bool
legal_box X Y Z = legal_side X && (legal_side Y && legal_side Z)

-- capacities, sides and counts
unfoldable pub counts_ok : ℕ → ℕ → ℕ → ℕ → ℕ → ℕ → ℕ → Bool
counts_ok X Y Z point_cap cell_cap np n =
    (leb 8 point_cap && leb 6 cell_cap) && (legal_box X Y Z && ((leb 8 np && leb np point_cap) && (leb 1 n && leb n cell_cap)))

unfoldable pub box_ok : ℕ → ℕ → ℕ → Tables → Bool
box_ok X Y Z t = all_below 8 (λ k. same_position (point t k) (box_corner X Y Z k))

-- some cell has the point number v for a corner
unfoldable pub used_ok : Tables → ℕ → ℕ → Bool
used_ok t n v = any_below n (λ c. any_below 4 (λ i. eqb (corner t c i) v))

unfoldable pub points_ok : ℕ → ℕ → ℕ → ℕ → ℕ → Tables → Bool
points_ok X Y Z np n t = all_below np (λ k. in_box X Y Z (point t k)) && all_below np (used_ok t n)

unfoldable pub cell_ok : Tables → ℕ → ℕ → Bool
cell_ok t np c = all_below 4 (λ i. ltb (corner t c i) np) && lt_z (pos 0) (cell_volume t c)

-- the three corners of face f lie on the wall w
unfoldable pub wall_ok : ℕ → ℕ → ℕ → Tables → ℕ → Wall → Bool
wall_ok X Y Z t f w = all_below 4 (λ k. eqb k (opposite f) || eqb (along w (corner_at t (cell_of f) k)) (level X Y Z w))

unfoldable pub some_wall : ℕ → ℕ → ℕ → Tables → ℕ → Bool
some_wall X Y Z t f =
    wall_ok X Y Z t f low_x || (wall_ok X Y Z t f low_y || (wall_ok X Y Z t f low_z ||
    (wall_ok X Y Z t f high_x || (wall_ok X Y Z t f high_y || wall_ok X Y Z t f high_z))))

-- g is the face across f
unfoldable pub mated_ok : Tables → ℕ → ℕ → Bool
mated_ok t f g =
    same_face t f g && (eqb (across t g) (cell_of f) && lt_z (side t (corner_at t (cell_of g) (opposite g)) f) (pos 0))

unfoldable pub face_ok : ℕ → ℕ → ℕ → Tables → ℕ → ℕ → Bool
face_ok X Y Z t n f =
    cond (eqb (across t f) none) (some_wall X Y Z t f)
    (ltb (across t f) n && any_below 4 (λ k. mated_ok t f (4 * across t f + k)))

-- cells, in tables with n entries in use; freed entries are no cells
unfoldable pub mesh_check : ℕ → ℕ → ℕ → ℕ → ℕ → ℕ → ℕ → Tables → Bool
mesh_check X Y Z point_cap cell_cap np n t =
    counts_ok X Y Z point_cap cell_cap np n && (box_ok X Y Z t && (points_ok X Y Z np n t && (all_below n (λ c. freed t c || cell_ok t np c) &&
    (all_below (4 * n) (λ f. freed t (cell_of f) || face_ok X Y Z t n f) && same_z (sum n (cell_volume t)) (pos (6 * X * Y * Z))))))

-- 'the cell count must be the number of entries below the used length that aren't freed'; 'The mesh check covers the chain'
unfoldable pub entries_ok : Mesh → Tables → Bool
entries_ok m t = eqb m.cells (count_below m.used (live t)) && chain_ok t m.used (m.used - m.cells) m.chain

-- the check of a record and tables, with a work area of w entries
unfoldable pub is_mesh : Mesh → Tables → ℕ → Bool
is_mesh m t w = mesh_check m.x m.y m.z (point_capacity t) (cell_capacity t w) m.points m.used t && entries_ok m t

-- Document 01's own words for what the shared definitions say with freed entries left out: every entry below the cell count is a cell.
use Rattle.std.specs.Prelude.{ℕ, ◌+◌, ◌*◌, ◌<◌, Bool, true, ◌&&◌, ◌||◌, List, ◌≡◌, pos}
use Rattle.std.specs.Int.Signed.{le_z}
use Rattle.arith.specs.Table.{tabulate, all_below, any_below, sum, iterate}
use Rattle.geometry.specs.declared.Position.{Position}
use Rattle.mesh.specs.declared.Mesh.{Mesh}
use Rattle.mesh.specs.Tables.{Tables, point_capacity, cell_capacity, across, cell_volume, side}
use Rattle.mesh.specs.Check.{same_z, counts_ok, box_ok, points_ok, cell_ok, face_ok, is_mesh}
use Rattle.locate.specs.Locate.{holds}
use Rattle.cavity.specs.Cavity.{in_set, corrected, cavity_of, corrected_cavity}
use Rattle.layouts.specs.Packed.{packed_record}

-- 'What a mesh is'
unfoldable pub old_check : Mesh → Tables → ℕ → Bool
old_check m t w =
    counts_ok m.x m.y m.z (point_capacity t) (cell_capacity t w) m.points m.cells && (box_ok m.x m.y m.z t &&
    (points_ok m.x m.y m.z m.points m.cells t && (all_below m.cells (cell_ok t m.points) &&
    (all_below (4 * m.cells) (face_ok m.x m.y m.z t m.cells) && same_z (sum m.cells (cell_volume t)) (pos (6 * m.x * m.y * m.z))))))

-- '"Holds" includes the cell's faces, edges and corners.'
unfoldable pub old_holds : Tables → Position → ℕ → Bool
old_holds t p c = all_below 4 (λ k. le_z (pos 0) (side t p (4 * c + k)))

-- 'Base: every cell that holds P.'
unfoldable pub old_base : Tables → ℕ → Position → List Bool
old_base t n p = tabulate n (old_holds t p)

-- 'each neighbour of a spot cell whose answer is yes'
unfoldable pub old_grown : Tables → ℕ → (ℕ → Bool) → List Bool → List Bool
old_grown t n yes? s = tabulate n (λ c. in_set s c || (yes? c && any_below 4 (λ k. in_set s (across t (4 * c + k)))))

unfoldable pub old_cavity : Tables → ℕ → Position → (ℕ → Bool) → List Bool
old_cavity t n p yes? = iterate n (old_grown t n yes?) (old_base t n p)

unfoldable pub old_corrected_cavity : Tables → ℕ → Position → (ℕ → Bool) → List Bool
old_corrected_cavity t n p yes? = corrected t n p (old_base t n p) (old_cavity t n p yes?)

-- the shared definitions are these, of any tables with a record of document 01: the mesh check, and where it passes, what holds P, and the cavity before and
-- after correction
pub record OldWords (x y z np n : ℕ) (t : Tables) (w : ℕ) : Type 0 where
  pub check : is_mesh (packed_record x y z np n) t w ≡ old_check (packed_record x y z np n) t w
  pub held : is_mesh (packed_record x y z np n) t w ≡ true → (p : Position) (c : ℕ) → c < n → holds t p c ≡ old_holds t p c
  pub before : is_mesh (packed_record x y z np n) t w ≡ true → (p : Position) (yes? : ℕ → Bool) → cavity_of t n p yes? ≡ old_cavity t n p yes?
  pub after : is_mesh (packed_record x y z np n) t w ≡ true → (p : Position) (yes? : ℕ → Bool) → corrected_cavity t n p yes? ≡ old_corrected_cavity t n p yes?

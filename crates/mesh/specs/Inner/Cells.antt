-- What the inner functions of the mesh check give.
use Rattle.std.specs.Prelude.{ℕ, ◌*◌, Bool, ◌&&◌, cond, ◌||◌, List, ltb, eqb, get_or, set, pos, nat_abs}
use Rattle.std.specs.Int.Signed.{lt_z}
use Rattle.arith.specs.Table.{tabulate, all_below, count_below, sum}
use Rattle.mesh.specs.declared.Mesh.{Mesh}
use Rattle.mesh.specs.Tables.{Tables, none, cell_volume, freed, live}
use Rattle.mesh.specs.Check.{same_z, used_ok, cell_ok}
use Rattle.mesh.specs.Inner.{volume_of_four}

-- four corners of 65,535
unfoldable pub four_freed : List ℕ → Bool
four_freed k = all_below 4 (λ i. eqb (get_or k i 0) none)

-- four numbers of points
unfoldable pub numbers_below : ℕ → List ℕ → Bool
numbers_below np k = all_below 4 (λ i. ltb (get_or k i 0) np)

-- and a volume above 0
unfoldable pub four_ok : List ℕ → ℕ → List ℕ → Bool
four_ok ps np k = numbers_below np k && lt_z (pos 0) (volume_of_four ps k)

-- the volume of a cell that passes, else 0
unfoldable pub volume_or_zero : List ℕ → ℕ → List ℕ → ℕ
volume_or_zero ps np k = cond (four_ok ps np k) (nat_abs (volume_of_four ps k)) 0

-- marks of the points that are corners among the first n entries
unfoldable pub marks : Tables → ℕ → List ℕ
marks t n = tabulate 1024 (λ v. cond (used_ok t n v) 1 0)

unfoldable pub with_marks : List ℕ → List ℕ → List ℕ
with_marks marked k = set (set (set (set marked (get_or k 0 0) 1) (get_or k 1 0) 1) (get_or k 2 0) 1) (get_or k 3 0) 1

abbrev pub all_marked : List ℕ → ℕ → Bool
all_marked marked np = all_below np (λ v. eqb (get_or marked v 0) 1)

-- entry c is freed or a cell that passes
abbrev pub entry_ok : Tables → ℕ → ℕ → Bool
entry_ok t np c = freed t c || cell_ok t np c

-- entries, marks, the sum of volumes and the cell count, as one pass over the entries in use tests them
unfoldable pub cells_pass : Mesh → Tables → Bool
cells_pass m t =
    all_below m.used (entry_ok t m.points) && (all_below m.points (used_ok t m.used) &&
    (same_z (sum m.used (cell_volume t)) (pos (6 * m.x * m.y * m.z)) && eqb m.cells (count_below m.used (live t))))

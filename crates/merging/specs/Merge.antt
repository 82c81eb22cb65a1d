-- Two surveys in one file: document 02, §13.
use Rattle.std.specs.Prelude.{ℕ, Bool, true, false, not, cond, ◌&&◌, ◌||◌, List, [], ◌∷◌, ◌++◌, ◌≡◌, ltb, eqb, length}
use Rattle.arith.specs.Table.{tabulate}
use Rattle.geometry.specs.declared.Position.{Position}
use Rattle.geometry.specs.Volume.{in_box, same_position}
use Rattle.mesh.specs.Tables.{point_in}
use Rattle.mesh.specs.Mesh.{box_corner}
use Rattle.mesh.specs.Start.{over}
use Rattle.nodefile.specs.declared.Header.{Header}
use Rattle.nodefile.specs.Write.{Written}
use Rattle.nodefile.specs.Write.{Bytes, Refused}
use Rattle.nodefile.specs.Read.{header, nodes, read_refusal}
use Rattle.nodefile.specs.Write.{file_of}

-- ---- what is left

-- the positions of a file's nodes, in order
unfoldable pub positions : List ℕ → List Position
positions file = tabulate (header file).count (point_in (nodes file))

-- 'the first file's nodes in order, then the second's'
unfoldable pub surveyed : List ℕ → List ℕ → List Position
surveyed first second = positions first ++ positions second

unfoldable pub among : List Position → Position → Bool
among [] p = false
among (q ∷ qs) p = same_position q p || among qs p

-- 'each position a single time where it first stands', and none of those seen before
unfoldable pub firsts : List Position → List Position → List Position
firsts seen [] = []
firsts seen (p ∷ ps) = cond (among seen p) (firsts seen ps) (p ∷ firsts (p ∷ seen) ps)

unfoldable pub box_corners : Header → List Position
box_corners h = tabulate 8 (box_corner h.x h.y h.z)

-- 'box corners left out'
unfoldable pub kept : Header → List Position → List Position
kept h ps = firsts (box_corners h) ps

-- the nodes that are left of two files with equal sides
abbrev pub left : List ℕ → List ℕ → List Position
left first second = kept (header first) (surveyed first second)

-- ---- the merged file

unfoldable pub coordinates : List Position → List ℕ
coordinates [] = []
coordinates (p ∷ ps) = p.x ∷ p.y ∷ p.z ∷ coordinates ps

unfoldable pub with_count : Header → ℕ → Header
with_count h n = record { x = h.x; y = h.y; z = h.z; count = n }

-- 'one without a note', of the box h and the positions ps
unfoldable pub file_of_positions : Header → List Position → List ℕ
file_of_positions h ps = file_of (with_count h (length ps)) (coordinates ps)

unfoldable pub merged_file : List ℕ → List ℕ → List ℕ
merged_file first second = file_of_positions (header first) (left first second)

-- ---- refusals

-- '9 and 2' of a file: with room for 1,016 nodes the reader never answers 10 (`never_ten`)
unfoldable pub file_refusal : List ℕ → ℕ
file_refusal file = read_refusal file 3048

unfoldable pub same_sides : Header → Header → Bool
same_sides h k = eqb h.x k.x && (eqb h.y k.y && eqb h.z k.z)

unfoldable pub all_inside : ℕ → ℕ → ℕ → List Position → Bool
all_inside X Y Z [] = true
all_inside X Y Z (p ∷ ps) = in_box X Y Z p && all_inside X Y Z ps

-- refusals 9 2 of the first file, 9 2 of the second, 19 4 6 10
unfoldable pub merge_refusal : List ℕ → List ℕ → ℕ → ℕ
merge_refusal first second room =
    cond (not (eqb (file_refusal first) 0)) (file_refusal first)
    (cond (not (eqb (file_refusal second) 0)) (file_refusal second)
    (cond (not (same_sides (header first) (header second))) 19
    (cond (not (all_inside (header first).x (header first).y (header first).z (surveyed first second))) 4
    (cond (ltb 1016 (length (left first second))) 6
    (cond (ltb room (length (merged_file first second))) 10 0)))))

-- ---- the call

-- the number of bytes, or the refusal's
unfoldable pub merge_answer : List ℕ → List ℕ → ℕ → Written
merge_answer first second room =
    cond (eqb (merge_refusal first second room) 0) (Bytes (length (merged_file first second))) (Refused (merge_refusal first second room))

-- output past what is written is unchanged, and all of it on a refusal
unfoldable pub merge_output : List ℕ → List ℕ → List ℕ → List ℕ
merge_output first second out = cond (eqb (merge_refusal first second (length out)) 0) (over (merged_file first second) out) out

-- what merging two files into out answers and leaves there
pub record MergeLeaves (first second out : List ℕ) (r : Written) (out' : List ℕ) : Type 0 where
  pub answer : r ≡ merge_answer first second (length out)
  pub output : out' ≡ merge_output first second out

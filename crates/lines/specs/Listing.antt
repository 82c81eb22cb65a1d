-- What the listing program prints for a file: document 01, 'Test pieces'.
use Rattle.std.specs.Prelude.{ℕ, ◌+◌, ◌*◌, cond, List, ◌∷◌, ◌++◌, [], ◌≡◌, ltb, eqb, length, replicate}
use Rattle.mesh.specs.declared.Mesh.{Mesh}
use Rattle.mesh.specs.Start.{Started}
use Rattle.mesh.specs.Start.{Accepted, Refused as StartRefused}
use Rattle.mesh.specs.Tables.{Tables, none, corner, across, freed}
use Rattle.mesh.specs.Start.{over, start_answer, start_tables}
use Rattle.insertion.specs.Listed.{Listed}
use Rattle.insertion.specs.Listed.{Ended, Stopped, Refused as ListRefused}
use Rattle.insertion.specs.List.{list_call}
use Rattle.nodefile.specs.Read.{Read}
use Rattle.nodefile.specs.Read.{Nodes, Refused as ReadRefused}
use Rattle.nodefile.specs.Write.{Written}
use Rattle.nodefile.specs.Write.{Bytes, Refused}
use Rattle.nodefile.specs.Read.{nodes, read_answer}
use Rattle.lines.specs.Text.{concat_below, decimal, space, line_end}

-- 'box ', ' points ', ' cells ', 'refused ', 'stopped '
abbrev pub box_word : List ℕ
box_word = 98 ∷ 111 ∷ 120 ∷ 32 ∷ []

abbrev pub points_word : List ℕ
points_word = 32 ∷ 112 ∷ 111 ∷ 105 ∷ 110 ∷ 116 ∷ 115 ∷ 32 ∷ []

abbrev pub cells_word : List ℕ
cells_word = 32 ∷ 99 ∷ 101 ∷ 108 ∷ 108 ∷ 115 ∷ 32 ∷ []

abbrev pub refused_word : List ℕ
refused_word = 114 ∷ 101 ∷ 102 ∷ 117 ∷ 115 ∷ 101 ∷ 100 ∷ 32 ∷ []

abbrev pub stopped_word : List ℕ
stopped_word = 115 ∷ 116 ∷ 111 ∷ 112 ∷ 112 ∷ 101 ∷ 100 ∷ 32 ∷ []

-- 'first the sides, point count and cell count'
unfoldable pub box_line : Mesh → List ℕ
box_line m =
    box_word ++ decimal m.x ++ (space ++ decimal m.y) ++ (space ++ decimal m.z) ++
    (points_word ++ decimal m.points) ++ (cells_word ++ decimal m.cells) ++ line_end

-- 'a dash for none'
unfoldable pub neighbour_word : ℕ → List ℕ
neighbour_word v = cond (eqb v none) (32 ∷ 45 ∷ []) (space ++ decimal v)

unfoldable pub corner_words : Tables → ℕ → List ℕ
corner_words t c = concat_below 4 (λ i. space ++ decimal (corner t c i))

unfoldable pub neighbour_words : Tables → ℕ → List ℕ
neighbour_words t c = concat_below 4 (λ i. neighbour_word (across t (4 * c + i)))

-- 'then a line a cell: number, corners, neighbours'
unfoldable pub cell_line : Tables → ℕ → List ℕ
cell_line t c = decimal c ++ corner_words t c ++ neighbour_words t c ++ line_end

-- 'Listings leave freed entries out and go by rising number' (document 02 §11)
unfoldable pub entry_text : Tables → ℕ → List ℕ
entry_text t c = cond (freed t c) [] (cell_line t c)

unfoldable pub mesh_text : Mesh → Tables → List ℕ
mesh_text m t = box_line m ++ concat_below m.used (entry_text t)

-- 'A refused file or box prints only refused and the number.'
unfoldable pub refused_line : ℕ → List ℕ
refused_line e = refused_word ++ decimal e ++ line_end

-- 'A node refused in the list adds a last line stopped, its place and the number.'
unfoldable pub stopped_line : ℕ → ℕ → List ℕ
stopped_line place e = stopped_word ++ decimal place ++ (space ++ decimal e) ++ line_end

unfoldable pub list_text : Listed → Tables → List ℕ
list_text (Ended m k) t = mesh_text m t
list_text (Stopped m place e) t = mesh_text m t ++ stopped_line place e
list_text (ListRefused e) t = refused_line e

-- the nodes ns in a box as it was started, with a work area of w entries
abbrev pub nodes_text : Mesh → Tables → ℕ → List ℕ → List ℕ
nodes_text m t w ns = list_text (list_call m t w ns).answer (list_call m t w ns).tables

unfoldable pub start_text : Started → Tables → ℕ → List ℕ → List ℕ
start_text (Accepted m) t w ns = nodes_text m t w ns
start_text (StartRefused e) t w ns = refused_line e

-- the nodes ns in a box X, Y, Z
abbrev pub box_text : ℕ → ℕ → ℕ → Tables → ℕ → List ℕ → List ℕ
box_text X Y Z t w ns = start_text (start_answer X Y Z t w) (start_tables X Y Z t w) w ns

unfoldable pub read_text : Read → Tables → ℕ → List ℕ → List ℕ
read_text (Nodes h) t w ns = box_text h.x h.y h.z t w ns
read_text (ReadRefused e) t w ns = refused_line e

-- 'with room for 1,024 points and 4,096 cells'
unfoldable pub room : Tables
room = record { points = replicate 3072 0; corners = replicate 16384 0; neighbours = replicate 16384 0 }

-- 'in the listing program also input over 65,536 bytes'; a file has at most 1,016 nodes, three numbers each
unfoldable pub listing : List ℕ → List ℕ
listing file = cond (ltb 65536 (length file)) (refused_line 9) (read_text (read_answer file 3048) room 12288 (nodes file))

-- the number of bytes, or 10 where the output is too short
unfoldable pub listing_answer : List ℕ → ℕ → Written
listing_answer file room = cond (ltb room (length (listing file))) (Refused 10) (Bytes (length (listing file)))

-- 'Output past what is written is unchanged.'
unfoldable pub listing_output : List ℕ → List ℕ → List ℕ
listing_output file out = cond (ltb (length out) (length (listing file))) out (over (listing file) out)

-- what listing a file answers and leaves in out
pub record ListingLeaves (file out : List ℕ) (r : Written) (out' : List ℕ) : Type 0 where
  pub answer : r ≡ listing_answer file (length out)
  pub output : out' ≡ listing_output file out

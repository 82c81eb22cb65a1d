-- What is claimed of merging, beyond what the call leaves.
use Rattle.std.specs.Prelude.{ℕ, ◌*◌, ◌≤◌, Bool, true, false, not, ◌&&◌, List, [], ◌∷◌, ◌⊎◌, ◌≡◌, length, take}
use Rattle.geometry.specs.declared.Position.{Position}
use Rattle.mesh.specs.Start.{over}
use Rattle.nodefile.specs.declared.Header.{Header}
use Rattle.nodefile.specs.Read.{Read}
use Rattle.nodefile.specs.Read.{Nodes}
use Rattle.nodefile.specs.Write.{Bytes}
use Rattle.nodefile.specs.Read.{header, ReadLeaves}
use Rattle.merging.specs.Merge.{positions, surveyed, among, box_corners, kept, left, coordinates, with_count, file_refusal, same_sides, all_inside, MergeLeaves}

abbrev pub merged_header : List ℕ → List ℕ → Header
merged_header first second = with_count (header first) (length (left first second))

-- 'The merged file must read back': what a merge wrote, the reader reads as these sides and just these nodes
abbrev pub ReadsBack : Type 0
ReadsBack =
    (first second out : List ℕ) (n : ℕ) (out' : List ℕ) → MergeLeaves first second out (Bytes n) out' →
    (ns : List ℕ) (r : Read) (ns' : List ℕ) → 3 * length (left first second) ≤ length ns → ReadLeaves (take n out') ns r ns' →
    (r ≡ Nodes (merged_header first second)) × (ns' ≡ over (coordinates (left first second)) ns)

-- no position stands twice
unfoldable pub distinct : List Position → Bool
distinct [] = true
distinct (p ∷ ps) = not (among ps p) && distinct ps

-- nothing is lost, added or repeated
pub record Complete (first second : List ℕ) : Type 0 where
  pub all : (p : Position) → among (surveyed first second) p ≡ true → (among (box_corners (header first)) p ≡ true) ⊎ (among (left first second) p ≡ true)
  pub only : (p : Position) → among (left first second) p ≡ true → (among (surveyed first second) p ≡ true) × (among (box_corners (header first)) p ≡ false)
  pub once : distinct (left first second) ≡ true

-- refusal 4 may look at every node or only at those that are left: a corner lies in the box, and of equal nodes one is left
abbrev pub FourAlike : Type 0
FourAlike = (h : Header) (ps : List Position) → all_inside h.x h.y h.z (kept h ps) ≡ all_inside h.x h.y h.z ps

-- a file merged with itself, and with one that has no nodes: its own nodes, without repetition
pub record Alone (file : List ℕ) : Type 0 where
  pub itself : left file file ≡ kept (header file) (positions file)
  pub then_none : (empty : List ℕ) → (header empty).count ≡ 0 → left file empty ≡ kept (header file) (positions file)
  pub none_then : (empty : List ℕ) → (header empty).count ≡ 0 → same_sides (header empty) (header file) ≡ true →
      left empty file ≡ kept (header file) (positions file)
  -- so 6 is no answer to a file with itself
  pub few : file_refusal file ≡ 0 → length (left file file) ≤ 1016
  -- all of them, where none is repeated and none is a corner
  pub whole : distinct (positions file) ≡ true → ((p : Position) → among (positions file) p ≡ true → among (box_corners (header file)) p ≡ false) →
      kept (header file) (positions file) ≡ positions file

-- Two surveys in one mesh: the points are the box's corners and the nodes that are left, and every point is a corner of some cell.
use Prim.Native.Nat.{ℕ, ◌+◌, ◌*◌, ◌<◌}
use mathlib.Core.Bool.{true, ◌||◌}
use mathlib.Core.List.{List, ◌++◌}
use mathlib.Core.Logic.{◌⊎◌, inl, inr}
use mathlib.Core.Path.{◌≡◌, sym, ap, ◌∙◌, subst}
use native.Mathlib.Omega.{arith}
use lib.ListN.{length, take, drop}
use lib.Seq.{take_at}
use Rattle.arith.specs.Table.{tabulate}
use Rattle.arith.proofs.Flags.{or_left, or_right}
use Rattle.arith.proofs.Tables.{tabulate_length, tabulate_at}
use Rattle.geometry.specs.declared.Position.{Position}
use Rattle.mesh.specs.declared.Mesh.{Mesh}
use Rattle.mesh.specs.Tables.{Tables, point, corner_at}
use Rattle.mesh.specs.Mesh.{box_corner}
use Rattle.mesh.proofs.Room.{room_of}
use Rattle.mesh.proofs.Live.{live_of}
use Rattle.insertion.specs.List.{listed_node, listed_count}
use Rattle.nodefile.specs.declared.Header.{Header}
use Rattle.nodefile.specs.Read.{header, nodes}
use Rattle.nodefile.proofs.RoundTrips.{read, nodes_read}
use Rattle.merging.specs.Merge.{surveyed, among, box_corners, left, coordinates, with_count, merged_file}
use Rattle.merging.specs.Laws.{merged_header}
use Rattle.merging.proofs.Firsts.{among_append, among_stands}
use Rattle.merging.proofs.Answers.{Merged, merged, coordinates_length}
use Rattle.merging.proofs.Filter.{positions_of_lem}
use Rattle.merging.proofs.Laws.{complete, merged_header_lem, merged_nodes}
use Rattle.roundtrip.specs.Through.{Built}
use Rattle.roundtrip.specs.Surveys.{CornerAt, EverySurveyed}
use Rattle.roundtrip.proofs.StartedList.{claimed_mesh}
use Rattle.roundtrip.proofs.ThroughAMesh.{claim_built}

module _ {first second : List ℕ} (M : Merged first second) {m : Mesh} {t : Tables} (B : Built (merged_file first second) m t) where
  abbrev L : List Position
  L = left first second

  head_is : B.head ≡ merged_header first second
  head_is = (read (merged_file first second) B.lent B.read).1 ∙ merged_header_lem M

  -- the list of numbers that went in
  listed : take (3 * B.head.count) B.numbers ≡ coordinates L
  listed =
      let q = read (merged_file first second) B.lent B.read in
      let n = nodes_read (merged_file first second) q.0 in
      let c : length (nodes (merged_file first second)) ≡ 3 * B.head.count = n ∙ ap (λ (h : Header). 3 * h.count) (sym q.1) in
      ap (take (3 * B.head.count)) q.2 ∙
      (take_at (nodes (merged_file first second)) (drop (length (nodes (merged_file first second))) B.lent) (3 * B.head.count) c ∙ merged_nodes M)

  nodes_left : tabulate (listed_count (coordinates L)) (listed_node (coordinates L)) ≡ L
  nodes_left =
      let c : listed_count (coordinates L) ≡ length L = omega (arith, coordinates_length L) in
      ap (λ n. tabulate n (listed_node (coordinates L))) c ∙ positions_of_lem L

  points_are : tabulate m.points (point t) ≡ box_corners (header first) ++ L
  unfolding box_corners with_count
  points_are =
      (claim_built B).points ∙
      ((λ i. tabulate 8 (box_corner (head_is i).x (head_is i).y (head_is i).z) ++ tabulate (listed_count (listed i)) (listed_node (listed i))) ∙
      ap (λ l. box_corners (header first) ++ l) nodes_left)

  corner_at_lem : (p : Position) → among (surveyed first second) p ≡ true → CornerAt t m.used p
  unfolding corner_at
  corner_at_lem p e =
      let a = among_append (box_corners (header first)) L p in
      let s = among_stands (tabulate m.points (point t)) p p (ap (λ l. among l p) points_are ∙ (a ∙ here ((complete first second).all p e))) in
      let k : s.at < m.points = subst (λ n. s.at < n) (tabulate_length m.points (point t)) s.below in
      let u = (claim_built B).used s.at k in
      let M = (claimed_mesh (claim_built B)).mesh in
      record {
        cell = u.cell;
        place = u.place;
        is_cell = record { below = u.cell<; lives = live_of t u.cell u.place u.place< (omega (arith, u.is, k, M.points≤, (room_of t (18 + 3 * m.used)).points≤)) };
        place< = u.place<;
        is = ap (point t) u.is ∙ (sym (tabulate_at m.points (point t) s.at p k) ∙ s.is);
      }
    where
      here : (among (box_corners (header first)) p ≡ true) ⊎ (among (left first second) p ≡ true) →
          (among (box_corners (header first)) p || among (left first second) p) ≡ true
      here (inl a) = or_left (among (box_corners (header first)) p) (among (left first second) p) a
      here (inr a) = or_right (among (box_corners (header first)) p) (among (left first second) p) a

pub every_surveyed : EverySurveyed
every_surveyed first second out n out' S m t B p e =
    let q = merged first second out S in
    corner_at_lem q.0 (subst (λ file. Built file m t) q.1 B) p e

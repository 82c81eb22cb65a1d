-- What a merge leaves: it reads back, nothing is lost, and a file alone keeps its nodes.
use Prim.Native.Nat.{ℕ, zero, suc, ◌*◌, ◌≤◌, ◌<◌}
use mathlib.Core.Bool.{Bool, true, false, cond, true≢false}
use mathlib.Core.List.{List, [], ◌∷◌, ◌++◌, append-nil}
use mathlib.Core.Logic.{◌⊎◌, inl, inr, ⊎_elim}
use mathlib.Core.Path.{◌≡◌, refl, sym, ap, ◌∙◌, subst}
use native.Mathlib.Omega.{arith}
use borrow.Author.Tests.{eqb-true}
use lib.Dec.{eqb}
use lib.ListN.{length}
use Rattle.arith.specs.Table.{tabulate, fill}
use Rattle.arith.proofs.Flags.{split, and_left, and_right, and_intro, or_cases, or_left, or_right, bool_ext}
use Rattle.arith.proofs.Tables.{tabulate_length, tabulate_at}
use Rattle.geometry.specs.declared.Position.{Position}
use Rattle.geometry.specs.Volume.{InBox, in_box, same_position}
use Rattle.geometry.proofs.Ranges.{box_in, in_box_lem}
use Rattle.mesh.specs.Tables.{point_in}
use Rattle.mesh.specs.Mesh.{bit, box_corner}
use Rattle.mesh.specs.Check.{legal_side}
use Rattle.mesh.specs.Start.{over}
use Rattle.mesh.proofs.Checked.{same_position_of, same_position_yes, side_of}
use Rattle.nodefile.specs.declared.Header.{Header}
use Rattle.nodefile.specs.Read.{Nodes}
use Rattle.nodefile.specs.Read.{header, nodes, read_answer, read_output, ReadLeaves}
use Rattle.nodefile.proofs.Digits.{Words}
use Rattle.nodefile.proofs.Answers.{accepted}
use Rattle.nodefile.proofs.RoundTrips.{Legal, header_is, nodes_are, file_read}
use Rattle.merging.specs.Merge.{positions, surveyed, among, firsts, box_corners, kept, left, coordinates, with_count, file_of_positions, merged_file, file_refusal, same_sides, all_inside}
use Rattle.merging.specs.Laws.{merged_header, ReadsBack, Complete, FourAlike, Alone}
use Rattle.merging.proofs.Firsts.{among_stands, firsts_known, firsts_all, firsts_fewer, firsts_new, firsts_distinct, firsts_same}
use Rattle.merging.proofs.Answers.{coordinates_length, Merged, merged}

-- ---- nothing is lost

pub complete : (first second : List ℕ) → Complete first second
unfolding kept
complete first second =
    let corners = box_corners (header first) in
    let ps = surveyed first second in
    record {
      all = λ p e. or_cases (among corners p) (among (firsts corners ps) p) (firsts_all corners ps p e);
      only = λ p e. firsts_new corners ps p e;
      once = firsts_distinct corners ps;
    }

none_there : (file : List ℕ) → (header file).count ≡ 0 → positions file ≡ []
unfolding positions tabulate fill
none_there file e = rw e

same_corners_lem : (h k : Header) → same_sides h k ≡ true → box_corners h ≡ box_corners k
unfolding same_sides box_corners
same_corners_lem h k e =
    let yz = and_right (eqb h.x k.x) _ e in
    let x = eqb-true h.x k.x (and_left (eqb h.x k.x) _ e) in
    let y = eqb-true h.y k.y (and_left (eqb h.y k.y) (eqb h.z k.z) yz) in
    let z = eqb-true h.z k.z (and_right (eqb h.y k.y) (eqb h.z k.z) yz) in
    λ i. tabulate 8 (box_corner (x i) (y i) (z i))

pub alone : (file : List ℕ) → Alone file
unfolding kept surveyed positions file_refusal
alone file =
    let corners = box_corners (header file) in
    let ps = positions file in
    let itself = firsts_known corners ps ps (firsts_all corners ps) in
    record {
      itself = itself;
      then_none = λ empty e. ap (λ qs. firsts corners (ps ++ qs)) (none_there empty e) ∙ ap (firsts corners) (append-nil ps);
      none_then = λ empty e s. λ i. firsts (same_corners_lem (header empty) (header file) s i) (none_there empty e i ++ ps);
      few = λ z. omega (arith, ap length itself, firsts_fewer corners ps, tabulate_length (header file).count (point_in (nodes file)), (accepted file 3048 z).few);
      whole = firsts_same corners ps;
    }

-- ---- refusal 4

module _ (X Y Z : ℕ) where
  inside_firsts : (seen ps : List Position) → all_inside X Y Z ps ≡ true → all_inside X Y Z (firsts seen ps) ≡ true
  unfolding firsts all_inside
  inside_firsts seen [] e = refl
  inside_firsts seen (p ∷ ps) e =
      let r = and_right (in_box X Y Z p) (all_inside X Y Z ps) e in
      go (inside_firsts seen ps r) (inside_firsts (p ∷ seen) ps r) (split (among seen p))
    where
      go : all_inside X Y Z (firsts seen ps) ≡ true → all_inside X Y Z (firsts (p ∷ seen) ps) ≡ true → (among seen p ≡ true) ⊎ (among seen p ≡ false) →
          all_inside X Y Z (firsts seen (p ∷ ps)) ≡ true
      go h k (inl a) = rw a h
      go h k (inr a) = rw a (and_intro (and_left (in_box X Y Z p) (all_inside X Y Z ps) e) k)

  inside_each : (ps : List Position) (p : Position) → all_inside X Y Z ps ≡ true → among ps p ≡ true → in_box X Y Z p ≡ true
  unfolding all_inside among
  inside_each [] p e a = absurd (true≢false (sym a))
  inside_each (q ∷ ps) p e a =
      let rest = and_right (in_box X Y Z q) (all_inside X Y Z ps) e in
      ⊎_elim (λ s. ap (in_box X Y Z) (sym (same_position_of q p s)) ∙ and_left (in_box X Y Z q) (all_inside X Y Z ps) e) (inside_each ps p rest)
      (or_cases (same_position q p) (among ps p) a)

  each_inside : (ps : List Position) → ((p : Position) → among ps p ≡ true → in_box X Y Z p ≡ true) → all_inside X Y Z ps ≡ true
  unfolding all_inside among
  each_inside [] f = refl
  each_inside (q ∷ ps) f =
      and_intro (f q (or_left (same_position q q) (among ps q) (same_position_yes q q refl)))
      (each_inside ps (λ p a. f p (or_right (same_position q p) (among ps p) a)))

  corner_inside : (k : ℕ) → InBox X Y Z (box_corner X Y Z k)
  corner_inside k = record { x≤ = most (eqb (bit k 0) 1) X; y≤ = most (eqb (bit k 1) 1) Y; z≤ = most (eqb (bit k 2) 1) Z }
    where
      most : (b : Bool) (s : ℕ) → cond b s 0 ≤ s
      most true s = omega arith
      most false s = omega arith

pub four_alike : FourAlike
unfolding kept box_corners
four_alike h ps =
    let corners = box_corners h in
    bool_ext (all_inside h.x h.y h.z (kept h ps)) (all_inside h.x h.y h.z ps)
    (λ e. each_inside h.x h.y h.z ps (λ p a.
    ⊎_elim (corner p) (inside_each h.x h.y h.z (firsts corners ps) p e) (or_cases (among corners p) (among (firsts corners ps) p) (firsts_all corners ps p a))))
    (λ e. inside_firsts h.x h.y h.z corners ps e)
  where
    f : ℕ → Position
    f = box_corner h.x h.y h.z

    corner : (p : Position) → among (box_corners h) p ≡ true → in_box h.x h.y h.z p ≡ true
    corner p a =
        let s = among_stands (box_corners h) p p a in
        let l : s.at < 8 = subst (λ n. s.at < n) (tabulate_length 8 f) s.below in
        in_box_lem (subst (InBox h.x h.y h.z) (sym (tabulate_at 8 f s.at p l) ∙ s.is) (corner_inside h.x h.y h.z s.at))

-- ---- the merged file reads back

module _ (X Y Z : ℕ) where
  words : (X ≤ 131072) × (Y ≤ 131072) × (Z ≤ 131072) → (ps : List Position) → all_inside X Y Z ps ≡ true → Words (coordinates ps)
  unfolding coordinates all_inside
  words h [] e k l = absurd (omega arith)
  words h (p ∷ ps) e zero l = omega (arith, (box_in {X = X} {Y = Y} {Z = Z} {p = p} (and_left (in_box X Y Z p) (all_inside X Y Z ps) e)).x≤)
  words h (p ∷ ps) e (suc zero) l = omega (arith, (box_in {X = X} {Y = Y} {Z = Z} {p = p} (and_left (in_box X Y Z p) (all_inside X Y Z ps) e)).y≤)
  words h (p ∷ ps) e (suc (suc zero)) l = omega (arith, (box_in {X = X} {Y = Y} {Z = Z} {p = p} (and_left (in_box X Y Z p) (all_inside X Y Z ps) e)).z≤)
  words h (p ∷ ps) e (suc (suc (suc k))) l = words h ps (and_right (in_box X Y Z p) (all_inside X Y Z ps) e) k (omega arith)

module _ {first second : List ℕ} (M : Merged first second) where
  abbrev h : Header
  h = header first

  legal : Legal (merged_header first second) (coordinates (left first second))
  unfolding with_count kept
  legal =
      let s = M.first_read.sides in
      let yz = and_right (legal_side h.x) _ s in
      let x = side_of h.x (and_left (legal_side h.x) _ s) in
      let y = side_of h.y (and_left (legal_side h.y) (legal_side h.z) yz) in
      let z = side_of h.z (and_right (legal_side h.y) (legal_side h.z) yz) in
      let i = inside_firsts h.x h.y h.z (box_corners h) (surveyed first second) M.inside in
      record {
        side_x = x;
        side_y = y;
        side_z = z;
        few = M.few;
        nodes_here = coordinates_length (left first second);
        words = words h.x h.y h.z (x.high, y.high, z.high) (left first second) i;
      }

  pub merged_header_lem : header (merged_file first second) ≡ merged_header first second
  unfolding merged_file file_of_positions
  merged_header_lem = header_is (merged_header first second) (coordinates (left first second)) legal

  pub merged_nodes : nodes (merged_file first second) ≡ coordinates (left first second)
  unfolding merged_file file_of_positions
  merged_nodes = nodes_are (merged_header first second) (coordinates (left first second)) legal

  pub merged_read : (ns : List ℕ) → 3 * length (left first second) ≤ length ns →
      ReadLeaves (merged_file first second) ns (Nodes (merged_header first second)) (over (coordinates (left first second)) ns)
  unfolding merged_file file_of_positions with_count
  merged_read ns room = file_read (merged_header first second) (coordinates (left first second)) legal ns room

pub reads_back : ReadsBack
reads_back first second out n out' L ns r ns' room R =
    let m = merged first second out L in
    let f = merged_read m.0 ns room in
    (R.answer ∙ (ap (λ file. read_answer file (length ns)) m.1 ∙ sym f.answer), R.output ∙ (ap (λ file. read_output file ns) m.1 ∙ sym f.output))

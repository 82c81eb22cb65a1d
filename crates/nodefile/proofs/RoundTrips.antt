-- What was written is read back, and what was read is written back.
use Prim.Native.Nat.{ℕ, zero, suc, ◌+◌, ◌*◌, ◌-◌, ◌/◌, ◌%◌, ◌≤◌, ◌<◌}
use mathlib.Core.Bool.{false}
use mathlib.Core.List.{List, ◌++◌}
use mathlib.Core.Path.{◌≡◌, refl, sym, ap, ◌∙◌, subst}
use native.Mathlib.Omega.{arith}
use native.Mathlib.Decide.{ℕ_discrete}
use borrow.Author.Tests.{ne_eqb}
use lib.ListN.{length, get_or, take, drop, length-take, length-drop, take-append-drop}
use lib.Seq.{take_at, drop_at, drop-drop, get_or-take, get_or-drop, ext_get_or}
use Rattle.arith.proofs.Flags.{and_intro, below_five}
use Rattle.mesh.specs.declared.Mesh.{Mesh}
use Rattle.mesh.specs.Tables.{Tables, point_in}
use Rattle.mesh.specs.Mesh.{LegalSide}
use Rattle.mesh.specs.Check.{legal_box}
use Rattle.mesh.specs.Start.{over}
use Rattle.mesh.specs.Inner.{Placed}
use Rattle.mesh.proofs.Checked.{side_yes}
use Rattle.mesh.specs.Refusal.{mesh_refusal}
use Rattle.nodefile.specs.declared.Header.{Header}
use Rattle.nodefile.specs.Read.{Read}
use Rattle.nodefile.specs.Read.{Nodes}
use Rattle.nodefile.specs.Write.{Bytes}
use Rattle.nodefile.specs.Bytes.{numbers_of, bytes_of}
use Rattle.nodefile.specs.Read.{trailer, header, distance, read_refusal, first_record, records, nodes, read_answer, read_output, ReadLeaves}
use Rattle.nodefile.specs.Write.{node_count, nodes_of, trailer_of, file_of, header_of, mesh_file, write_refusal, write_answer, write_output, WriteLeaves}
use Rattle.nodefile.specs.RoundTrip.{IsBytes, HoldsRead}
use Rattle.nodefile.proofs.Digits.{Words, numbers_length, numbers_of_bytes, bytes_of_numbers, bytes_append}
use Rattle.nodefile.proofs.Answers.{Accepted, accepted, accept, nodes_length, records_length, file_length, file_mesh, placed, writes_mesh}

-- ---- a mesh's numbers are 32-bit

coordinate : (ps : List ℕ) (np : ℕ) → Placed ps np → (i : ℕ) → i < 3 * np → get_or ps i 0 ≤ 131072
unfolding point_in
coordinate ps np p i l = go (i % 3) refl
  where
    at : (j : ℕ) → j ≡ i → get_or ps j 0 ≤ 131072 → get_or ps i 0 ≤ 131072
    at j e = subst (λ k. get_or ps k 0 ≤ 131072) e

    go : (r : ℕ) → i % 3 ≡ r → get_or ps i 0 ≤ 131072
    go zero e = at (3 * (i / 3)) (omega arith) (p.in_range (i / 3) (omega arith)).x≤
    go (suc zero) e = at (3 * (i / 3) + 1) (omega arith) (p.in_range (i / 3) (omega arith)).y≤
    go (suc (suc zero)) e = at (3 * (i / 3) + 2) (omega arith) (p.in_range (i / 3) (omega arith)).z≤
    go (suc (suc (suc r))) e = absurd (omega arith)

-- ---- reading what was written

-- what makes a file one that the reader accepts
pub record Legal (h : Header) (ns : List ℕ) : Type 0 where
  pub side_x : LegalSide h.x
  pub side_y : LegalSide h.y
  pub side_z : LegalSide h.z
  pub few : h.count ≤ 1016
  pub nodes_here : length ns ≡ 3 * h.count
  pub words : Words ns

module _ (h : Header) (ns : List ℕ) (l : Legal h ns) where
  abbrev whole : List ℕ
  whole = file_of h ns

  words_trailer : Words (trailer_of h)
  unfolding trailer_of
  words_trailer =
      below_five (λ k. get_or (trailer_of h) k 0 < 4294967296)
      (omega (arith, l.side_x.high)) (omega (arith, l.side_y.high)) (omega (arith, l.side_z.high)) (omega (arith, l.few)) (omega (arith, l.few))

  parts : whole ≡ bytes_of ns ++ bytes_of (trailer_of h)
  unfolding file_of
  parts = bytes_append ns (trailer_of h)

  file_is : length whole ≡ 12 * h.count + 20
  file_is = file_length h ns l.nodes_here

  records_here : length (bytes_of ns) ≡ 12 * h.count
  records_here = records_length h ns l.nodes_here

  trailer_is : trailer whole ≡ trailer_of h
  unfolding trailer
  trailer_is =
      let n : length (bytes_of ns) ≡ length whole - 20 = omega (arith, file_is, records_here) in
      ap numbers_of (ap (λ l. drop (length whole - 20) l) parts ∙ drop_at (bytes_of ns) (bytes_of (trailer_of h)) (length whole - 20) n) ∙
      numbers_of_bytes (trailer_of h) words_trailer

  pub header_is : header whole ≡ h
  unfolding header trailer_of
  header_is = ap (λ l. record { x = get_or l 0 0; y = get_or l 1 0; z = get_or l 2 0; count = get_or l 3 0 }) trailer_is

  distance_is : distance whole ≡ 12 * h.count
  unfolding distance trailer_of
  distance_is = ap (λ l. get_or l 4 0) trailer_is

  pub nodes_are : nodes whole ≡ ns
  unfolding nodes records first_record
  nodes_are =
      let z : length whole - 20 - distance whole ≡ 0 = omega (arith, file_is, distance_is) in
      let n : length (bytes_of ns) ≡ distance whole = records_here ∙ sym distance_is in
      ap numbers_of ((λ i. take (distance whole) (drop (z i) (parts i))) ∙ take_at (bytes_of ns) (bytes_of (trailer_of h)) (distance whole) n) ∙
      numbers_of_bytes ns l.words

  file_accepted : (room : ℕ) → 3 * h.count ≤ room → Accepted whole room
  file_accepted room g =
      let c : (header whole).count ≡ h.count = ap (λ (k : Header). k.count) header_is in
      record {
        long = omega (arith, file_is);
        few = omega (arith, c, l.few);
        distance_is = distance_is ∙ ap (λ n. 12 * n) (sym c);
        within = omega (arith, file_is, distance_is);
        sides = ap (λ (k : Header). legal_box k.x k.y k.z) header_is ∙
            and_intro (side_yes h.x l.side_x) (and_intro (side_yes h.y l.side_y) (side_yes h.z l.side_z));
        room≥ = omega (arith, c);
      }

  -- the file of these sides and nodes is read as them
  pub file_read : (out : List ℕ) → 3 * h.count ≤ length out → ReadLeaves whole out (Nodes h) (over ns out)
  unfolding read_answer read_output
  file_read out g =
      let z : read_refusal whole (length out) ≡ 0 = accept whole (length out) (file_accepted (length out) g) in
      record { answer = rw (z, header_is); output = rw (z, nodes_are) }

module _ (m : Mesh) (t : Tables) (w : ℕ) (e : mesh_refusal m t w false ≡ 0) where
  nodes_of_mesh : length (nodes_of m t.points) ≡ 3 * node_count m
  nodes_of_mesh = nodes_length m t.points (file_mesh m t w e).points≥ (placed m t w e).points_fit

  legal_mesh : Legal (header_of m) (nodes_of m t.points)
  unfolding nodes_of node_count header_of
  legal_mesh =
      let c = file_mesh m t w e in
      record {
        side_x = c.side_x;
        side_y = c.side_y;
        side_z = c.side_z;
        few = omega (arith, (placed m t w e).points_few);
        nodes_here = nodes_of_mesh;
        words = λ k l.
            let n = nodes_of_mesh in
            let c = coordinate t.points m.points (placed m t w e) (24 + k) (omega arith) in
            subst (λ x. x < 4294967296) (sym (get_or-take (3 * node_count m) (drop 24 t.points) k 0 (omega arith) ∙ get_or-drop 24 t.points k 0)) (omega arith);
      }

-- ---- what an answer other than a refusal tells

wrote : (m : Mesh) (t : Tables) (ws out : List ℕ) {n : ℕ} {ws' out' : List ℕ} → WriteLeaves m t ws out (Bytes n) ws' out' →
    (mesh_refusal m t (length ws) false ≡ 0) × (take n out' ≡ mesh_file m t.points)
unfolding write_answer write_output
wrote m t ws out {n} {ws'} {out'} l = go (ℕ_discrete (write_refusal m t (length ws) (length out)) 0)
  where
    f : List ℕ
    f = mesh_file m t.points

    go : Dec (write_refusal m t (length ws) (length out) ≡ 0) → (mesh_refusal m t (length ws) false ≡ 0) × (take n out' ≡ f)
    go (yes e) =
        let a : Bytes n ≡ Bytes (length f) = rw e at l.answer in
        let b : out' ≡ over f out = rw e at l.output in
        let k : length f ≡ n = cc in
        (writes_mesh m t (length ws) (length out) e, rw b (take_at f (drop (length f) out) n k))
    go (no d) =
        let a = rw (ne_eqb (write_refusal m t (length ws) (length out)) 0 d) at l.answer in
        let z : ◌≡◌ {A = ℕ} 0 1 = cc in
        absurd (omega arith)

pub read : (file out : List ℕ) {h : Header} {out' : List ℕ} → ReadLeaves file out (Nodes h) out' →
    Accepted file (length out) × (h ≡ header file) × (out' ≡ over (nodes file) out)
unfolding read_answer read_output
read file out {h} {out'} l = go (ℕ_discrete (read_refusal file (length out)) 0)
  where
    go : Dec (read_refusal file (length out) ≡ 0) → Accepted file (length out) × (h ≡ header file) × (out' ≡ over (nodes file) out)
    go (yes e) =
        let a : Nodes h ≡ Nodes (header file) = rw e at l.answer in
        (accepted file (length out) e, cc, rw e at l.output)
    go (no d) =
        let a = rw (ne_eqb (read_refusal file (length out)) 0 d) at l.answer in
        let z : ◌≡◌ {A = ℕ} 0 1 = cc in
        absurd (omega arith)

-- ---- the round trips

-- What the writer wrote, the reader reads back as the same box and nodes.
pub written_then_read : (m : Mesh) (t : Tables) (ws out nodes : List ℕ) {n : ℕ} {r : Read} {ws' out' nodes' : List ℕ} →
    WriteLeaves m t ws out (Bytes n) ws' out' → 3 * node_count m ≤ length nodes → ReadLeaves (take n out') nodes r nodes' →
    (r ≡ Nodes (header_of m)) × (nodes' ≡ over (nodes_of m t.points) nodes)
unfolding header_of
written_then_read m t ws out nodes {n} {r} {ws'} {out'} {nodes'} l h k =
    let w = wrote m t ws out l in
    let f = file_read (header_of m) (nodes_of m t.points) (legal_mesh m t (length ws) w.0) nodes h in
    (k.answer ∙ (ap (λ file. read_answer file (length nodes)) w.1 ∙ sym f.answer), k.output ∙ (ap (λ file. read_output file nodes) w.1 ∙ sym f.output))

module _ (file : List ℕ) {room : ℕ} (a : Accepted file room) where
  records_read : length (records file) ≡ 12 * (header file).count
  unfolding records first_record
  records_read =
      omega (arith, length-take (distance file) (drop (first_record file) file), length-drop (first_record file) file, a.within, a.distance_is)

  pub nodes_read : length (nodes file) ≡ 3 * (header file).count
  unfolding nodes
  nodes_read = omega (arith, numbers_length (records file), records_read)

  trailer_length : length (drop (length file - 20) file) ≡ 20
  trailer_length = omega (arith, length-drop (length file - 20) file, a.long)

  -- the records and the trailer
  two_parts : records file ++ drop (length file - 20) file ≡ drop (first_record file) file
  unfolding records first_record
  two_parts =
      let e : length file - 20 ≡ first_record file + distance file = omega (arith, a.within) in
      ap (λ l. records file ++ l) (ap (λ k. drop k file) e ∙ sym (drop-drop (distance file) (first_record file) file)) ∙
      take-append-drop (distance file) (drop (first_record file) file)

  module _ (b : IsBytes file) where
    part_bytes : (k : ℕ) → IsBytes (drop k file)
    part_bytes k i l = subst (λ x. x < 256) (sym (get_or-drop k file i 0)) (b (k + i) (omega (arith, length-drop k file)))

    records_back : bytes_of (nodes file) ≡ records file
    unfolding nodes records
    records_back =
        let part = drop (first_record file) file in
        let n = length-take (distance file) part in
        bytes_of_numbers (records file) (3 * (header file).count) (omega (arith, records_read))
        (λ i l. subst (λ x. x < 256) (sym (get_or-take (distance file) part i 0 (omega arith))) (part_bytes (first_record file) i (omega arith)))

    trailer_back : bytes_of (trailer file) ≡ drop (length file - 20) file
    unfolding trailer
    trailer_back = bytes_of_numbers (drop (length file - 20) file) 5 trailer_length (part_bytes (length file - 20))

    -- the file of another file's sides and nodes is that file without its note
    same_trailer : trailer_of (header file) ≡ trailer file
    unfolding trailer_of header distance trailer
    same_trailer =
        ext_get_or 0 (trailer_of (header file)) (trailer file) (omega (arith, numbers_length (drop (length file - 20) file), trailer_length))
        (below_five (λ k. get_or (trailer_of (header file)) k 0 ≡ get_or (trailer file) k 0) refl refl refl refl (sym a.distance_is))

    pub file_back : file_of (header file) (nodes file) ≡ drop (first_record file) file
    unfolding file_of
    file_back =
        bytes_append (nodes file) (trailer_of (header file)) ∙
        ((λ i. bytes_of (nodes file) ++ bytes_of (same_trailer i)) ∙ ((λ i. records_back i ++ trailer_back i) ∙ two_parts))

-- What the reader read, the writer writes for a mesh with these sides and nodes: the file from its first record on, the note dropped.
pub read_then_written : (file nodes : List ℕ) → IsBytes file → {h : Header} {nodes' : List ℕ} → ReadLeaves file nodes (Nodes h) nodes' →
    (m : Mesh) (t : Tables) → HoldsRead m t.points h nodes' →
    (ws out : List ℕ) {n : ℕ} {ws' out' : List ℕ} → WriteLeaves m t ws out (Bytes n) ws' out' → take n out' ≡ drop (first_record file) file
unfolding header_of node_count
read_then_written file nodes₀ b {h} {nodes'} l m t k ws out w =
    let q = read file nodes₀ l in
    let c : node_count m ≡ h.count = omega (arith, k.count) in
    let e : header_of m ≡ header file = (λ i. record { x = k.x i; y = k.y i; z = k.z i; count = c i }) ∙ q.1 in
    let n : length (nodes file) ≡ 3 * h.count = nodes_read file q.0 ∙ ap (λ (g : Header). 3 * g.count) (sym q.1) in
    let s : nodes_of m t.points ≡ nodes file =
    k.nodes ∙ (ap (λ l. take (3 * h.count) l) q.2 ∙ take_at (nodes file) (drop (length (nodes file)) nodes₀) (3 * h.count) n) in
    (wrote m t ws out w).1 ∙ ((λ i. file_of (e i) (s i)) ∙ file_back file q.0 b)

-- What reading and writing answer and leave, from their tests.
use Prim.Native.Nat.{ℕ, suc, ◌+◌, ◌*◌, ◌-◌, ◌≤◌, ◌<◌}
use mathlib.Core.Bool.{Bool, true, false, not, cond, ◌||◌, true≢false}
use mathlib.Core.List.{List, ◌++◌, [], append-nil, append_assoc}
use mathlib.Core.Logic.{◌≢◌, ◌⊎◌, inl, inr}
use mathlib.Core.Path.{◌≡◌, refl, sym, ap, ◌∙◌}
use native.Mathlib.Omega.{arith}
use native.Mathlib.Decide.{ℕ_discrete, dec_lt}
use borrow.Author.Tests.{ltb-false, eqb-true, eq-eqb, ne_eqb, not-false, lt-ltb, le-ltb}
use borrow.Author.Rules.{part_to_end}
use borrow.Rule.Slice.PartMut.{put_mid}
use lib.Dec.{ltb, eqb}
use lib.ListN.{length, get_or, take, drop, length-append, length-take, length-drop, length-replicate, drop_of_length-le}
use lib.Seq.{take_at, drop_at, drop-drop}
use Rattle.arith.proofs.Flags.{split}
use Rattle.mesh.specs.declared.Mesh.{Mesh}
use Rattle.mesh.specs.Tables.{Tables, point_capacity, cell_capacity, cleared}
use Rattle.mesh.specs.Check.{legal_box}
use Rattle.mesh.specs.Start.{over}
use Rattle.mesh.specs.Inner.{Placed}
use Rattle.mesh.specs.Mesh.{IsMesh}
use Rattle.mesh.specs.Refusal.{mesh_refusal}
use Rattle.mesh.proofs.Valid.{valid_of, passed, solid}
use Rattle.nodefile.specs.declared.Header.{Header}
use Rattle.nodefile.specs.Read.{Nodes, Refused as ReadRefused}
use Rattle.nodefile.specs.Write.{Bytes, Refused as WriteRefused}
use Rattle.nodefile.specs.Bytes.{numbers_of, bytes_of}
use Rattle.nodefile.specs.Read.{trailer, header, distance, wrong_trailer, read_refusal, first_record, records, nodes, read_answer, read_output, ReadLeaves}
use Rattle.nodefile.specs.Write.{node_count, nodes_of, trailer_of, file_of, header_of, mesh_file, write_refusal, write_answer, write_output, WriteLeaves}
use Rattle.nodefile.specs.Inner.{Writable}
use Rattle.nodefile.proofs.Digits.{numbers_length, bytes_length, bytes_append}

-- ---- refusals

-- a test that did not refuse, and what follows it
pub later : (b : Bool) (n r : ℕ) → cond b (suc n) r ≡ 0 → (b ≡ false) × (r ≡ 0)
later true n r e = absurd (omega arith)
later false n r e = (refl, e)

neither : (a b : Bool) → (a || b) ≡ false → (a ≡ false) × (b ≡ false)
neither true b e = absurd (true≢false e)
neither false b e = (refl, e)

pub right_trailer : (count distance before : ℕ) → wrong_trailer count distance before ≡ false → (count ≤ 1016) × (distance ≡ 12 * count) × (distance ≤ before)
unfolding wrong_trailer
right_trailer n d b e =
    let e₁ = neither (ltb 1016 n) (not (eqb d (12 * n)) || ltb b d) e in
    let e₂ = neither (not (eqb d (12 * n))) (ltb b d) e₁.1 in
    (ltb-false 1016 n e₁.0, eqb-true d (12 * n) (not-false (eqb d (12 * n)) e₂.0), ltb-false b d e₂.1)

-- a file that the reader accepts
pub record Accepted (file : List ℕ) (room : ℕ) : Type 0 where
  pub long : 20 ≤ length file
  pub few : (header file).count ≤ 1016
  pub distance_is : distance file ≡ 12 * (header file).count
  pub within : distance file ≤ length file - 20
  pub sides : legal_box (header file).x (header file).y (header file).z ≡ true
  pub room≥ : 3 * (header file).count ≤ room

pub accepted : (file : List ℕ) (room : ℕ) → read_refusal file room ≡ 0 → Accepted file room
unfolding read_refusal
accepted file room e =
    let h : Header = header file in
    let wrong : Bool = wrong_trailer h.count (distance file) (length file - 20) in
    let last : ℕ = cond (ltb room (3 * h.count)) 10 0 in
    let e₁ = later (ltb (length file) 20 || wrong) 8 (cond (not (legal_box h.x h.y h.z)) 2 last) e in
    let e₂ = later (not (legal_box h.x h.y h.z)) 1 last e₁.1 in
    let e₃ = later (ltb room (3 * h.count)) 9 0 e₂.1 in
    let f = neither (ltb (length file) 20) wrong e₁.0 in
    let right = right_trailer h.count (distance file) (length file - 20) f.1 in
    record {
      long = ltb-false (length file) 20 f.0;
      few = right.0;
      distance_is = right.1;
      within = right.2;
      sides = not-false (legal_box h.x h.y h.z) e₂.0;
      room≥ = ltb-false room (3 * h.count) e₃.0;
    }

-- and no other
pub accept : (file : List ℕ) (room : ℕ) → Accepted file room → read_refusal file room ≡ 0
unfolding read_refusal wrong_trailer
accept file room a =
    rw (
      le-ltb (length file) 20 a.long,
      le-ltb 1016 (header file).count a.few,
      eq-eqb (distance file) (12 * (header file).count) a.distance_is,
      le-ltb (length file - 20) (distance file) a.within,
      a.sides,
      le-ltb room (3 * (header file).count) a.room≥,
    )

-- with room for 1,016 nodes, 9 and 2 alone
module _ (file : List ℕ) (room : ℕ) (h : 3048 ≤ room) where
  wrong : Bool
  wrong = ltb (length file) 20 || wrong_trailer (header file).count (distance file) (length file - 20)

  flat : Bool
  flat = not (legal_box (header file).x (header file).y (header file).z)

  with_room : read_refusal file room ≡ cond wrong 9 (cond flat 2 0)
  unfolding read_refusal wrong flat
  with_room = go (split wrong)
    where
      n : ℕ
      n = (header file).count

      go : (wrong ≡ true) ⊎ (wrong ≡ false) → read_refusal file room ≡ cond wrong 9 (cond flat 2 0)
      go (inl e) = rw e
      go (inr e) =
          let f = neither (ltb (length file) 20) (wrong_trailer n (distance file) (length file - 20)) e in
          let few = (right_trailer n (distance file) (length file - 20) f.1).0 in
          rw (le-ltb room (3 * n) (omega arith))

  pub never_ten : read_refusal file room ≢ 10
  never_ten e = go wrong flat (sym with_room ∙ e)
    where
      go : (a b : Bool) → ◌≢◌ {A = ℕ} (cond a 9 (cond b 2 0)) 10
      go true b z = absurd (omega arith)
      go false true z = absurd (omega arith)
      go false false z = absurd (omega arith)

pub any_room : (file : List ℕ) (room room' : ℕ) → 3048 ≤ room → 3048 ≤ room' → read_refusal file room ≡ read_refusal file room'
unfolding wrong flat
any_room file room room' h h' = with_room file room h ∙ sym (with_room file room' h')

-- ---- the parts of a file

-- a trailer read into five numbers
pub whole_trailer : (file five : List ℕ) → 20 ≤ length file → length five ≡ 5 →
    over (numbers_of (take (length file - (length file - 20)) (drop (length file - 20) file))) five ≡ trailer file
unfolding trailer
whole_trailer file five h k =
    let e : length five ≤ length (numbers_of (drop (length file - 20) file)) =
    omega (arith, numbers_length (drop (length file - 20) file), length-drop (length file - 20) file) in
    rw (part_to_end file (length file - 20), drop_of_length-le five e, append-nil)

-- the part from the first record to the trailer, by the trailer's fields
records_part : (file fields : List ℕ) → fields ≡ trailer file → distance file ≤ length file - 20 →
    take (length file - 20 - (length file - 20 - get_or fields 4 0)) (drop (length file - 20 - get_or fields 4 0) file) ≡ records file
unfolding records first_record distance
records_part file fields e h =
    let d : ℕ = get_or (trailer file) 4 0 in
    let k : length file - 20 - (length file - 20 - d) ≡ d = omega arith in
    ap (λ l. take (length file - 20 - (length file - 20 - get_or l 4 0)) (drop (length file - 20 - get_or l 4 0) file)) e ∙
    ap (λ n. take n (drop (length file - 20 - d) file)) k

-- ---- what is written

-- B written from place a on, after A was written at the front
pub two_writes : (a : ℕ) (A B old xs ys : List ℕ) → length A ≡ a → xs ≡ over A old → ys ≡ over B (take (length xs - a) (drop a xs)) →
    put_mid a (length xs - a) xs ys ≡ over (A ++ B) old
two_writes a A B old xs ys e p q =
    let front : take a xs ≡ A = ap (λ l. take a l) p ∙ take_at A (drop (length A) old) a e in
    let back : drop a xs ≡ drop (length A) old = ap (λ l. drop a l) p ∙ drop_at A (drop (length A) old) a e in
    let short : length (drop a xs) ≤ length xs - a = omega (arith, length-drop a xs) in
    let none : drop (length xs - a) (drop a xs) ≡ [] = drop_of_length-le (drop a xs) short in
    let middle : ys ≡ over B (drop (length A) old) = q ∙ ap (λ l. over B l) (part_to_end xs a ∙ back) in
    (λ i. front i ++ (middle i ++ none i)) ∙ rw (append-nil, drop-drop, append_assoc, length-append)

module _ (h : Header) (ns : List ℕ) (e : length ns ≡ 3 * h.count) where
  pub records_length : length (bytes_of ns) ≡ 12 * h.count
  records_length = omega (arith, bytes_length ns, e)

  pub file_length : length (file_of h ns) ≡ 12 * h.count + 20
  unfolding file_of trailer_of
  file_length = omega (arith, bytes_length (ns ++ trailer_of h), length-append ns (trailer_of h), e)

  -- the records, and then the trailer, in a part of out
  pub file_written : (old : List ℕ) {xs ys : List ℕ} → xs ≡ over (bytes_of ns) old →
      ys ≡ over (bytes_of (trailer_of h)) (take (length xs - 12 * h.count) (drop (12 * h.count) xs)) →
      put_mid (12 * h.count) (length xs - 12 * h.count) xs ys ≡ over (file_of h ns) old
  unfolding file_of
  file_written old {xs} {ys} p q =
      two_writes (12 * h.count) (bytes_of ns) (bytes_of (trailer_of h)) old xs ys records_length p q ∙
      ap (λ l. over l old) (sym (bytes_append ns (trailer_of h)))

pub nodes_length : (m : Mesh) (ps : List ℕ) → 8 ≤ m.points → 3 * m.points ≤ length ps → length (nodes_of m ps) ≡ 3 * node_count m
unfolding nodes_of node_count
nodes_length m ps h k = omega (arith, length-take (3 * (m.points - 8)) (drop 24 ps), length-drop 24 ps)

-- points 8 onward, by where the points end
pub nodes_part : (m : Mesh) (ps : List ℕ) → take (3 * m.points - 24) (drop 24 ps) ≡ nodes_of m ps
unfolding nodes_of node_count
nodes_part m ps = let e : 3 * m.points - 24 ≡ 3 * node_count m = omega arith in ap (λ c. take c (drop 24 ps)) e

module _ (m : Mesh) (t : Tables) (w : ℕ) where
  pub file_mesh : mesh_refusal m t w false ≡ 0 → IsMesh m.x m.y m.z (point_capacity t) (cell_capacity t w) m.points m.used t
  file_mesh e = (valid_of m t w (passed m t w false e)).mesh

  pub placed : mesh_refusal m t w false ≡ 0 → Placed t.points m.points
  placed e = (solid m t.points t.corners t.neighbours w (passed m t w false e)).placed

  length_here : mesh_refusal m t w false ≡ 0 → length (mesh_file m t.points) ≡ 12 * node_count m + 20
  unfolding header_of
  length_here e = file_length (header_of m) (nodes_of m t.points) (nodes_length m t.points (file_mesh e).points≥ (placed e).points_fit)

  module _ (room : ℕ) where
    -- the mesh's own refusals come first
    pub mesh_refused : {n : ℕ} → n ≡ mesh_refusal m t w false → n ≢ 0 → n ≡ write_refusal m t w room
    unfolding write_refusal
    mesh_refused {n} e d = rw (← e, ne_eqb n 0 d)

    pub no_place : mesh_refusal m t w false ≡ 0 → room < 12 * node_count m + 20 → 10 ≡ write_refusal m t w room
    unfolding write_refusal
    no_place e l = rw (e, length_here e, lt-ltb room (12 * node_count m + 20) l)

    pub place : mesh_refusal m t w false ≡ 0 → 12 * node_count m + 20 ≤ room → 0 ≡ write_refusal m t w room
    unfolding write_refusal
    place e l = rw (e, length_here e, le-ltb room (12 * node_count m + 20) l)

    pub writes_mesh : write_refusal m t w room ≡ 0 → mesh_refusal m t w false ≡ 0
    writes_mesh e = go (ℕ_discrete (mesh_refusal m t w false) 0)
      where
        go : Dec (mesh_refusal m t w false ≡ 0) → mesh_refusal m t w false ≡ 0
        go (yes q) = q
        go (no d) = mesh_refused refl d ∙ e

    pub writable : write_refusal m t w room ≡ 0 → Writable m t.points room
    writable e =
        let q = writes_mesh e in
        record {
          points≥ = (file_mesh q).points≥;
          points≤ = (placed q).points_few;
          points_fit = (placed q).points_fit;
          room≥ = go (dec_lt room (12 * node_count m + 20));
        }
      where
        go : Dec (room < 12 * node_count m + 20) → 12 * node_count m + 20 ≤ room
        go (yes l) = absurd (omega (arith, no_place (writes_mesh e) l, e))
        go (no d) = omega arith

-- ---- the answers

module _ (file out : List ℕ) {n : ℕ} (e : n ≡ read_refusal file (length out)) where
  pub read_refused : n ≢ 0 → ReadLeaves file out (ReadRefused n) out
  unfolding read_answer read_output
  read_refused d = record { answer = rw (← e, ne_eqb n 0 d); output = rw (← e, ne_eqb n 0 d) }

  pub read_accepted : n ≡ 0 → {fields o : List ℕ} → fields ≡ trailer file →
      o ≡ over (numbers_of (take (length file - 20 - (length file - 20 - get_or fields 4 0)) (drop (length file - 20 - get_or fields 4 0) file))) out →
      ReadLeaves file out (Nodes record { x = get_or fields 0 0; y = get_or fields 1 0; z = get_or fields 2 0; count = get_or fields 3 0 }) o
  unfolding read_answer read_output header nodes
  read_accepted h {fields} t k =
      let part = records_part file fields t (accepted file (length out) (sym e ∙ h)).within in
      record {
        answer = rw (← e, eq-eqb n 0 h) (λ i. Nodes record { x = get_or (t i) 0 0; y = get_or (t i) 1 0; z = get_or (t i) 2 0; count = get_or (t i) 3 0 });
        output = rw (← e, eq-eqb n 0 h) (k ∙ ap (λ l. over (numbers_of l) out) part);
      }

module _ (m : Mesh) (t : Tables) (ws out : List ℕ) {n : ℕ} {w : List ℕ} (e : n ≡ write_refusal m t (length w) (length out)) (k : w ≡ cleared ws) where
  same : n ≡ write_refusal m t (length ws) (length out)
  same = e ∙ rw (k, length-replicate)

  pub write_refused : n ≢ 0 → WriteLeaves m t ws out (WriteRefused n) w out
  unfolding write_answer write_output
  write_refused d = record { answer = rw (← same, ne_eqb n 0 d); output = rw (← same, ne_eqb n 0 d); work = k }

  pub write_accepted : n ≡ 0 → {r : ℕ} {o : List ℕ} → r ≡ length (mesh_file m t.points) → o ≡ over (mesh_file m t.points) out → WriteLeaves m t ws out (Bytes r) w o
  unfolding write_answer write_output
  write_accepted h a b = record { answer = rw (← same, eq-eqb n 0 h, a); output = rw (← same, eq-eqb n 0 h, b); work = k }

-- What merging answers and leaves, from its tests.
use Prim.Native.Nat.{ℕ, zero, suc, ◌+◌, ◌*◌, ◌-◌, ◌≤◌, ◌<◌}
use mathlib.Core.Bool.{Bool, true, false, not, cond, ◌&&◌}
use mathlib.Core.List.{List, [], ◌∷◌, ◌++◌, append-nil, append_assoc}
use mathlib.Core.Logic.{◌≢◌}
use mathlib.Core.Path.{◌≡◌, refl, sym, ap, ◌∙◌, subst}
use native.Mathlib.Omega.{arith}
use native.Mathlib.Decide.{ℕ_discrete}
use borrow.Author.Tests.{ltb-false, not-false, ne_eqb, lt-ltb, le-ltb}
use borrow.Rule.Slice.PartMut.{put_mid}
use lib.Dec.{ltb, eqb}
use lib.ListN.{length, get_or, take, drop, length-append, get_or-append}
use lib.Seq.{get_or-append-add, take_at}
use Rattle.arith.specs.Table.{tabulate, fill, all_below}
use Rattle.arith.proofs.Flags.{test_failed, test_passed}
use Rattle.arith.proofs.Tables.{tabulate_suc, tabulate_cong}
use Rattle.geometry.specs.declared.Position.{Position}
use Rattle.geometry.specs.Volume.{in_box}
use Rattle.mesh.specs.Tables.{point_in}
use Rattle.mesh.specs.Start.{over}
use Rattle.nodefile.specs.declared.Header.{Header}
use Rattle.nodefile.specs.Read.{Read}
use Rattle.nodefile.specs.Read.{Nodes, Refused as ReadRefused}
use Rattle.nodefile.specs.Write.{Written}
use Rattle.nodefile.specs.Write.{Bytes, Refused}
use Rattle.nodefile.specs.Read.{header, nodes, read_refusal, read_answer, ReadLeaves}
use Rattle.nodefile.specs.Write.{file_of}
use Rattle.nodefile.proofs.Answers.{Accepted, later, any_room, accept, accepted, two_writes, file_length}
use Rattle.nodefile.proofs.RoundTrips.{read, nodes_read}
use Rattle.merging.specs.Merge.{positions, surveyed, box_corners, kept, coordinates, with_count, file_of_positions, merged_file, file_refusal, same_sides, all_inside, merge_refusal, merge_answer, merge_output, MergeLeaves}
use Rattle.merging.specs.Inner.{positions_in, second_refusal, SecondRead, both_refusal, Both, BothRead, kept_file, kept_refusal, KeptLeaves}

-- ---- one file

-- an answer, by its case
pub read_as : {file out out' : List ℕ} {r q : Read} → ReadLeaves file out r out' → r ≡ q → ReadLeaves file out q out'
read_as R e = record { answer = sym e ∙ R.answer; output = R.output }

module _ (file out : List ℕ) (room : 3048 ≤ length out) where
  pub refused_read : {e : ℕ} {out' : List ℕ} → ReadLeaves file out (ReadRefused e) out' → (e ≡ file_refusal file) × (e ≢ 0)
  unfolding file_refusal read_answer
  refused_read {e} {out'} R = go (ℕ_discrete (read_refusal file (length out)) 0)
    where
      go : Dec (read_refusal file (length out) ≡ 0) → (e ≡ read_refusal file 3048) × (e ≢ 0)
      go (yes z) =
          let a = rw z at R.answer in
          let n : ◌≡◌ {A = ℕ} 0 1 = cc in
          absurd (omega arith)
      go (no d) =
          let a = rw (ne_eqb (read_refusal file (length out)) 0 d) at R.answer in
          let n : e ≡ read_refusal file (length out) = cc in
          (n ∙ any_room file (length out) 3048 room (omega arith), λ z. d (sym n ∙ z))

  pub record Readable (h : Header) (out' : List ℕ) : Type 0 where
    pub accepted : file_refusal file ≡ 0
    pub head : h ≡ header file
    pub output : out' ≡ over (nodes file) out
    pub few : (header file).count ≤ 1016
    pub numbers : length (nodes file) ≡ 3 * (header file).count

  pub accepted_read : {h : Header} {out' : List ℕ} → ReadLeaves file out (Nodes h) out' → Readable h out'
  unfolding file_refusal
  accepted_read R =
      let q = read file out R in
      record {
        accepted = any_room file 3048 (length out) (omega arith) room ∙ accept file (length out) q.0;
        head = q.1;
        output = q.2;
        few = q.0.few;
        numbers = nodes_read file q.0;
      }

-- ---- both files

module _ (a : Header) (second ns : List ℕ) {part part' : List ℕ} (room : 3048 ≤ length part) where
  pub second_refused : {e : ℕ} (ns' : List ℕ) → ReadLeaves second part (ReadRefused e) part' → SecondRead a second ns (ReadRefused e) ns'
  second_refused ns' R = let q = refused_read second _ room R in (q.0 ∙ rw (ne_eqb (file_refusal second) 0 (λ z. q.1 (q.0 ∙ z))), q.1)

  module _ {b : Header} (R : ReadLeaves second part (Nodes b) part') where
    pub second_sides : (ns' : List ℕ) → same_sides a b ≡ false → SecondRead a second ns (ReadRefused 19) ns'
    second_sides ns' e =
        let q = accepted_read second _ room R in
        (rw (q.accepted, ap (same_sides a) (sym q.head) ∙ e), λ z. absurd (omega arith))

    pub second_read : same_sides a b ≡ true → {h : Header} → h ≡ with_count a (a.count + b.count) →
        part ≡ take (length ns - 3 * a.count) (drop (3 * a.count) ns) →
        SecondRead a second ns (Nodes h) (put_mid (3 * a.count) (length ns - 3 * a.count) ns part')
    second_read e k g =
        let q = accepted_read second _ room R in (
          rw (q.accepted, ap (same_sides a) (sym q.head) ∙ e),
          k ∙ ap (λ (c : Header). with_count a (a.count + c.count)) q.head,
          λ before old l n. two_writes (3 * a.count) before (nodes second) old ns _ l n (q.output ∙ ap (over (nodes second)) g),
        )

-- the positions of two lists of numbers, one after the other
positions_append : (m n : ℕ) (X A B : List ℕ) → ((i : ℕ) → i < m → point_in X i ≡ point_in A i) →
    ((i : ℕ) → i < n → point_in X (m + i) ≡ point_in B i) → positions_in (m + n) X ≡ positions_in m A ++ positions_in n B
unfolding tabulate fill
positions_append m zero X A B f g =
    let e : m + 0 ≡ m = omega arith in
    ap (λ k. positions_in k X) e ∙ (tabulate_cong m (point_in X) (point_in A) f ∙ sym (append-nil (positions_in m A)))
positions_append m (suc n) X A B f g =
    let e : m + suc n ≡ suc (m + n) = omega arith in
    ap (λ k. positions_in k X) e ∙
    (tabulate_suc (m + n) (point_in X) ∙
    ((λ i. positions_append m n X A B f (λ j l. g j (omega arith)) i ++ (g n (omega arith) i ∷ [])) ∙
    (append_assoc (positions_in m A) (positions_in n B) (point_in B n ∷ []) ∙ ap (λ l. positions_in m A ++ l) (sym (tabulate_suc n (point_in B))))))

module _ (A B C : List ℕ) where
  front : (k : ℕ) → k < length A → get_or ((A ++ B) ++ C) k 0 ≡ get_or A k 0
  front k l = get_or-append (A ++ B) C 0 k (omega (arith, length-append A B)) ∙ get_or-append A B 0 k l

  back : (n k : ℕ) → n ≡ length A + k → k < length B → get_or ((A ++ B) ++ C) n 0 ≡ get_or B k 0
  back n k e l =
      ap (λ j. get_or ((A ++ B) ++ C) j 0) e ∙
      (get_or-append (A ++ B) C 0 (length A + k) (omega (arith, length-append A B)) ∙ get_or-append-add A B k 0)

  point_front : (i : ℕ) → 3 * i + 3 ≤ length A → point_in ((A ++ B) ++ C) i ≡ point_in A i
  unfolding point_in
  point_front i h =
      let x = front (3 * i) (omega arith) in
      let y = front (3 * i + 1) (omega arith) in
      let z = front (3 * i + 2) (omega arith) in
      λ j. record { x = x j; y = y j; z = z j }

  point_back : (m i : ℕ) → length A ≡ 3 * m → 3 * i + 3 ≤ length B → point_in ((A ++ B) ++ C) (m + i) ≡ point_in B i
  unfolding point_in
  point_back m i e h =
      let x = back (3 * (m + i)) (3 * i) (omega arith) (omega arith) in
      let y = back (3 * (m + i) + 1) (3 * i + 1) (omega arith) (omega arith) in
      let z = back (3 * (m + i) + 2) (3 * i + 2) (omega arith) (omega arith) in
      λ j. record { x = x j; y = y j; z = z j }

-- a refusal that is 0, and so is what follows
first_zero : (n r : ℕ) → cond (not (eqb n 0)) n r ≡ 0 → (n ≡ 0) × (r ≡ 0)
first_zero zero r e = (refl, e)
first_zero (suc n) r e = let d : suc n ≡ 0 = rw (ne_eqb (suc n) 0 (λ z. absurd (omega arith))) at e in absurd (omega arith)

module _ (first second : List ℕ) {ns₀ ns : List ℕ} (room : 6096 ≤ length ns₀) where
  pub first_refused : {e : ℕ} (ns' : List ℕ) → ReadLeaves first ns₀ (ReadRefused e) ns → BothRead first second (ReadRefused e) ns'
  first_refused ns' R =
      let q = refused_read first _ (omega arith) R in (q.0 ∙ rw (ne_eqb (file_refusal first) 0 (λ z. q.1 (q.0 ∙ z))), q.1)

  module _ {a : Header} (R : ReadLeaves first ns₀ (Nodes a) ns) where
    F : Readable first ns₀ (omega arith) a ns
    F = accepted_read first ns₀ (omega arith) R

    both_refusal_lem : second_refusal a second ≡ both_refusal first second
    both_refusal_lem = rw F.accepted (ap (λ c. second_refusal c second) F.head)

    pub both_read : (r : Read) (ns' : List ℕ) → SecondRead a second ns r ns' → BothRead first second r ns'
    unfolding with_count surveyed positions file_refusal
    both_read (ReadRefused e) ns' S = (S.0 ∙ both_refusal_lem, S.1)
    both_read (Nodes h) ns' S =
        let z = (first_zero (file_refusal second) _ S.0).0 in
        let A = accepted second 3048 z in
        let n₁ : length (nodes first) ≡ 3 * a.count = F.numbers ∙ ap (λ (k : Header). 3 * k.count) (sym F.head) in
        let n₂ = nodes_read second A in
        let e = S.2 (nodes first) ns₀ n₁ F.output in
        let c : h.count ≡ a.count + (header second).count = ap (λ (k : Header). k.count) S.1 in
        let c₁ : a.count ≡ (header first).count = ap (λ (k : Header). k.count) F.head in
        let long = length-append (nodes first ++ nodes second) (drop (length (nodes first ++ nodes second)) ns₀) in (
          sym both_refusal_lem ∙ S.0,
          record {
            few = omega (arith, c, c₁, F.few, A.few);
            nodes_fit = omega (arith, c, ap length e, long, length-append (nodes first) (nodes second), n₁, n₂);
            box = S.1 ∙ ((λ i. with_count (F.head i) (a.count + (header second).count)) ∙ ap (with_count (header first)) (sym c));
            all = ap (λ n. positions_in n ns') (c ∙ ap (λ n. n + (header second).count) c₁) ∙
                positions_append (header first).count (header second).count ns' (nodes first) (nodes second)
                (λ i l. ap (λ xs. point_in xs i) e ∙ point_front (nodes first) (nodes second) _ i (omega (arith, n₁, c₁)))
                (λ i l. ap (λ xs. point_in xs ((header first).count + i)) e ∙ point_back (nodes first) (nodes second) _ (header first).count i (n₁ ∙ ap (λ n. 3 * n) c₁) (omega (arith, n₂)));
          },
        )

-- ---- what is left

pub coordinates_length : (ps : List Position) → length (coordinates ps) ≡ 3 * length ps
unfolding coordinates
coordinates_length [] = refl
coordinates_length (p ∷ ps) = omega (arith, coordinates_length ps)

module _ (X Y Z : ℕ) where
  inside_snoc : (ps : List Position) (p : Position) → all_inside X Y Z (ps ++ (p ∷ [])) ≡ (in_box X Y Z p && all_inside X Y Z ps)
  unfolding all_inside
  inside_snoc [] p = refl
  inside_snoc (q ∷ ps) p = ap (λ b. in_box X Y Z q && b) (inside_snoc ps p) ∙ swapped (in_box X Y Z q) (in_box X Y Z p) (all_inside X Y Z ps)
    where
      swapped : (a b c : Bool) → (a && (b && c)) ≡ (b && (a && c))
      swapped true b c = refl
      swapped false true c = refl
      swapped false false c = refl

  inside_in : (n : ℕ) (ns : List ℕ) → all_inside X Y Z (positions_in n ns) ≡ all_below n (λ k. in_box X Y Z (point_in ns k))
  unfolding all_inside all_below tabulate fill
  inside_in zero ns = refl
  inside_in (suc n) ns =
      ap (all_inside X Y Z) (tabulate_suc n (point_in ns)) ∙
      (inside_snoc (positions_in n ns) (point_in ns n) ∙ ap (λ b. in_box X Y Z (point_in ns n) && b) (inside_in n ns))

-- by the test of the numbers
module _ (h : Header) (ns : List ℕ) {r : Bool} (e : r ≡ all_below h.count (λ k. in_box h.x h.y h.z (point_in ns k))) where
  pub box_passed : not r ≡ false → all_inside h.x h.y h.z (positions_in h.count ns) ≡ true
  box_passed f = inside_in h.x h.y h.z h.count ns ∙ test_passed e f

  pub box_failed : not r ≡ true → all_inside h.x h.y h.z (positions_in h.count ns) ≡ false
  box_failed f = inside_in h.x h.y h.z h.count ns ∙ test_failed e f

-- of the box h and the positions ps, k are left
module _ (h : Header) (ps : List Position) (out : List ℕ) where
  kept_length : length (kept_file h ps) ≡ 12 * length (kept h ps) + 20
  unfolding file_of_positions with_count
  kept_length = file_length (with_count h (length (kept h ps))) (coordinates (kept h ps)) (coordinates_length (kept h ps))

  refused : {n : ℕ} → n ≡ kept_refusal h ps (length out) → n ≢ 0 → KeptLeaves h ps out (Refused n) out
  refused {n} e d = record { answer = rw (← e, ne_eqb n 0 d); output = rw (← e, ne_eqb n 0 d) }

  pub outside : all_inside h.x h.y h.z ps ≡ false → KeptLeaves h ps out (Refused 4) out
  outside e = refused (rw e) (λ z. absurd (omega arith))

  module _ (i : all_inside h.x h.y h.z ps ≡ true) {k : ℕ} (c : k ≡ length (kept h ps)) where
    pub too_many : 1016 < k → KeptLeaves h ps out (Refused 6) out
    too_many l = refused (rw (i, lt-ltb 1016 (length (kept h ps)) (omega arith))) (λ z. absurd (omega arith))

    module _ (few : k ≤ 1016) where
      pub no_room : length out < 12 * k + 20 → KeptLeaves h ps out (Refused 10) out
      no_room l =
          refused (rw (i, le-ltb 1016 (length (kept h ps)) (omega arith), lt-ltb (length out) (length (kept_file h ps)) (omega (arith, kept_length))))
          (λ z. absurd (omega arith))

      pub written : 12 * k + 20 ≤ length out → {front : List ℕ} → front ≡ coordinates (kept h ps) →
          {r : ℕ} {out' : List ℕ} → r ≡ length (file_of (with_count h k) front) → out' ≡ over (file_of (with_count h k) front) out → KeptLeaves h ps out (Bytes r) out'
      unfolding file_of_positions
      written l {front} f {r} {out'} a b =
          let file : file_of (with_count h k) front ≡ kept_file h ps = λ j. file_of (with_count h (c j)) (f j) in
          let z : kept_refusal h ps (length out) ≡ 0 =
          rw (i, le-ltb 1016 (length (kept h ps)) (omega arith), le-ltb (length out) (length (kept_file h ps)) (omega (arith, kept_length))) in
          record { answer = rw z (ap Bytes (a ∙ ap length file)); output = rw z (b ∙ ap (λ w. over w out) file) }

-- ---- the call

-- refusals before the last ones
earlier : (a b c : Bool) (m n r : ℕ) → cond a m (cond b n (cond c 19 0)) ≢ 0 → cond a m (cond b n (cond c 19 0)) ≡ cond a m (cond b n (cond c 19 r))
earlier true b c m n r d = refl
earlier false true c m n r d = refl
earlier false false true m n r d = refl
earlier false false false m n r d = absurd (d refl)

module _ (first second out : List ℕ) where
  pub merge_refused : {e : ℕ} → e ≡ both_refusal first second → e ≢ 0 → MergeLeaves first second out (Refused e) out
  unfolding merge_answer merge_output merge_refusal
  merge_refused {e} q d =
      let r : e ≡ merge_refusal first second (length out) =
      q ∙
      earlier (not (eqb (file_refusal first) 0)) (not (eqb (file_refusal second) 0)) (not (same_sides (header first) (header second))) (file_refusal first) (file_refusal second) _
      (λ z. d (q ∙ z)) in
      record { answer = rw (← r, ne_eqb e 0 d); output = rw (← r, ne_eqb e 0 d) }

  kept_later : both_refusal first second ≡ 0 → merge_refusal first second (length out) ≡ kept_refusal (header first) (surveyed first second) (length out)
  unfolding merge_refusal merged_file
  kept_later z =
      let a = first_zero (file_refusal first) _ z in
      let b = first_zero (file_refusal second) _ a.1 in
      rw (a.0, b.0, (later (not (same_sides (header first) (header second))) 18 0 b.1).0)

  pub merge_kept : {h : Header} {ns : List ℕ} → both_refusal first second ≡ 0 → Both first second h ns →
      {r : Written} {out' : List ℕ} → KeptLeaves h (positions_in h.count ns) out r out' → MergeLeaves first second out r out'
  unfolding merge_answer merge_output merged_file kept box_corners file_of_positions with_count
  merge_kept {h} {ns} z b {r} {out'} k =
      let k₁ = subst (λ g. KeptLeaves g (positions_in h.count ns) out r out') b.box k in
      let k₂ = subst (λ ps. KeptLeaves (with_count (header first) h.count) ps out r out') b.all k₁ in
      record { answer = rw (kept_later z) k₂.answer; output = rw (kept_later z) k₂.output }

-- ---- what a number of bytes tells

-- of two files that are merged
pub record Merged (first second : List ℕ) : Type 0 where
  pub first_read : Accepted first 3048
  pub inside : all_inside (header first).x (header first).y (header first).z (surveyed first second) ≡ true
  pub few : length (kept (header first) (surveyed first second)) ≤ 1016

module _ (first second : List ℕ) where
  not_refused : (room : ℕ) → merge_refusal first second room ≡ 0 → Merged first second
  unfolding merge_refusal file_refusal
  not_refused room z =
      let h = header first in
      let ps = surveyed first second in
      let a = first_zero (file_refusal first) _ z in
      let b = first_zero (file_refusal second) _ a.1 in
      let c = later (not (same_sides h (header second))) 18 _ b.1 in
      let d = later (not (all_inside h.x h.y h.z ps)) 3 _ c.1 in
      let e = later (ltb 1016 (length (kept h ps))) 5 _ d.1 in
      record {
        first_read = accepted first 3048 a.0;
        inside = not-false (all_inside h.x h.y h.z ps) d.0;
        few = ltb-false 1016 (length (kept h ps)) e.0;
      }

  pub merged : (out : List ℕ) {n : ℕ} {out' : List ℕ} → MergeLeaves first second out (Bytes n) out' →
      Merged first second × (take n out' ≡ merged_file first second)
  unfolding merge_answer merge_output
  merged out {n} {out'} L = go (ℕ_discrete (merge_refusal first second (length out)) 0)
    where
      go : Dec (merge_refusal first second (length out) ≡ 0) → Merged first second × (take n out' ≡ merged_file first second)
      go (yes z) =
          let a : Bytes n ≡ Bytes (length (merged_file first second)) = rw z at L.answer in
          let b : out' ≡ over (merged_file first second) out = rw z at L.output in
          let k : length (merged_file first second) ≡ n = cc in
          (not_refused (length out) z, rw b (take_at (merged_file first second) (drop (length (merged_file first second)) out) n k))
      go (no d) =
          let a = rw (ne_eqb (merge_refusal first second (length out)) 0 d) at L.answer in
          let z : ◌≡◌ {A = ℕ} 0 1 = cc in
          absurd (omega arith)

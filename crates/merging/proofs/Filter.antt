-- The nodes that are left, node by node: a corner or a position that is there already leaves all as it is, any other joins the front.
use Prim.Native.Nat.{ℕ, zero, suc, ◌+◌, ◌*◌, ◌-◌, ◌≤◌, ◌<◌}
use mathlib.Core.Bool.{true, false, cond, ◌||◌}
use mathlib.Core.List.{List, [], ◌∷◌, ◌++◌}
use mathlib.Core.Logic.{◌≢◌, ◌⊎◌, inl, inr}
use mathlib.Core.Path.{◌≡◌, refl, sym, ap, ◌∙◌, subst}
use native.Mathlib.Omega.{arith}
use native.Mathlib.Numerals.{add-one}
use borrow.Author.Tests.{eqb-true, eq-eqb}
use lib.Dec.{eqb}
use lib.ListN.{length, get_or, set, take, drop, replicate, length-take, length-drop, length-set, length-replicate}
use lib.Seq.{ext_get_or, get_or-take, get_or-drop, take-add}
use Rattle.arith.specs.Table.{tabulate, fill}
use Rattle.arith.proofs.Flags.{and_left, and_right, and_intro, or_cases, or_left, or_right, fails, bool_ext, below_eight}
use Rattle.arith.proofs.Tables.{tabulate_length, tabulate_at, tabulate_suc, tabulate_cong}
use Rattle.geometry.specs.declared.Position.{Position}
use Rattle.geometry.specs.Volume.{position}
use Rattle.mesh.specs.Tables.{point_in}
use Rattle.mesh.specs.Mesh.{box_corner}
use Rattle.mesh.specs.Inner.{with_point}
use Rattle.mesh.proofs.Points.{put_length, put_same, put_other}
use Rattle.nodefile.specs.declared.Header.{Header}
use Rattle.merging.specs.Merge.{among, firsts, box_corners, kept, coordinates}
use Rattle.merging.specs.Inner.{positions_in, at_end, is_corner, ProbeEnds, Filtered, FilteredAll}
use Rattle.merging.proofs.Firsts.{among_at, among_stands, firsts_snoc}
use Rattle.merging.proofs.Table.{none_indexed, ends_empty, ends_found, ends≤, one_indexed}

-- ---- positions in some numbers

pub among_in : (k : ℕ) (ns : List ℕ) (p : Position) (m : ℕ) → m < k → point_in ns m ≡ p → among (positions_in k ns) p ≡ true
among_in k ns p m h e =
    among_at (positions_in k ns) p p m (subst (λ n. m < n) (sym (tabulate_length k (point_in ns))) h) (tabulate_at k (point_in ns) m p h ∙ e)

none_in : (k : ℕ) (ns : List ℕ) (p : Position) → ((m : ℕ) → m < k → point_in ns m ≢ p) → among (positions_in k ns) p ≡ false
none_in k ns p n = fails (among (positions_in k ns) p) go
  where
    go : among (positions_in k ns) p ≡ true → ⊥
    go e =
        let s = among_stands (positions_in k ns) p p e in
        let h : s.at < k = subst (λ n. s.at < n) (tabulate_length k (point_in ns)) s.below in
        n s.at h (sym (tabulate_at k (point_in ns) s.at p h) ∙ s.is)

coordinates_snoc : (ps : List Position) (p : Position) → coordinates (ps ++ (p ∷ [])) ≡ coordinates ps ++ (p.x ∷ p.y ∷ p.z ∷ [])
unfolding coordinates
coordinates_snoc [] p = refl
coordinates_snoc (q ∷ ps) p = ap (λ l. q.x ∷ q.y ∷ q.z ∷ l) (coordinates_snoc ps p)

three_at : (ns : List ℕ) (a : ℕ) → a + 3 ≤ length ns → take 3 (drop a ns) ≡ get_or ns a 0 ∷ get_or ns (a + 1) 0 ∷ get_or ns (a + 2) 0 ∷ []
three_at ns a h =
    ext_get_or 0 (take 3 (drop a ns)) (get_or ns a 0 ∷ get_or ns (a + 1) 0 ∷ get_or ns (a + 2) 0 ∷ []) long
    (λ i l. get_or-take 3 (drop a ns) i 0 (omega (arith, long)) ∙ (get_or-drop a ns i 0 ∙ at i (omega (arith, long))))
  where
    long : length (take 3 (drop a ns)) ≡ 3
    long = omega (arith, length-take 3 (drop a ns), length-drop a ns)

    at : (i : ℕ) → i < 3 → get_or ns (a + i) 0 ≡ get_or (get_or ns a 0 ∷ get_or ns (a + 1) 0 ∷ get_or ns (a + 2) 0 ∷ []) i 0
    at zero l = let e : a + 0 ≡ a = omega arith in ap (λ k. get_or ns k 0) e
    at (suc zero) l = refl
    at (suc (suc zero)) l = refl
    at (suc (suc (suc i))) l = absurd (omega arith)

pub coordinates_in : (k : ℕ) (ns : List ℕ) → 3 * k ≤ length ns → coordinates (positions_in k ns) ≡ take (3 * k) ns
unfolding coordinates point_in tabulate fill
coordinates_in zero ns h = refl
coordinates_in (suc k) ns h =
    let e : 3 * suc k ≡ 3 * k + 3 = omega arith in
    ap coordinates (tabulate_suc k (point_in ns)) ∙
    (coordinates_snoc (positions_in k ns) (point_in ns k) ∙
    ((λ i. coordinates_in k ns (omega arith) i ++ sym (three_at ns (3 * k) (omega arith)) i) ∙
    (sym (take-add (3 * k) 3 ns) ∙ ap (λ n. take n ns) (sym e))))

coordinates_at : (ps : List Position) (j : ℕ) (d : Position) → j < length ps → point_in (coordinates ps) j ≡ get_or ps j d
unfolding coordinates point_in
coordinates_at [] j d h = absurd (omega arith)
coordinates_at (p ∷ ps) zero d h = refl
coordinates_at (p ∷ ps) (suc j) d h =
    let cs = p.x ∷ p.y ∷ p.z ∷ coordinates ps in
    let x : 3 * suc j ≡ suc (suc (suc (3 * j))) = omega arith in
    let y : 3 * suc j + 1 ≡ suc (suc (suc (3 * j + 1))) = omega arith in
    let z : 3 * suc j + 2 ≡ suc (suc (suc (3 * j + 2))) = omega arith in
    (λ i. record { x = get_or cs (x i) 0; y = get_or cs (y i) 0; z = get_or cs (z i) 0 }) ∙ coordinates_at ps j d (omega arith)

-- positions as numbers, and back
pub positions_of_lem : (ps : List Position) → positions_in (length ps) (coordinates ps) ≡ ps
positions_of_lem ps =
    let d = position 0 0 0 in
    let n = tabulate_length (length ps) (point_in (coordinates ps)) in
    ext_get_or d (positions_in (length ps) (coordinates ps)) ps n
    (λ j l. let h : j < length ps = subst (λ k. j < k) n l in
    tabulate_at (length ps) (point_in (coordinates ps)) j d h ∙ coordinates_at ps j d h)

-- ---- box corners

module _ (h : Header) (p : Position) where
  corner_at_lem : (k : ℕ) → k < 8 → box_corner h.x h.y h.z k ≡ p → among (box_corners h) p ≡ true
  unfolding box_corners
  corner_at_lem k l e =
      among_at (box_corners h) p p k (subst (λ n. k < n) (sym (tabulate_length 8 (box_corner h.x h.y h.z))) l)
      (tabulate_at 8 (box_corner h.x h.y h.z) k p l ∙ e)

  position_is : {x y z : ℕ} → p.x ≡ x → p.y ≡ y → p.z ≡ z → record { x = x; y = y; z = z } ≡ p
  position_is a b c i = record { x = sym a i; y = sym b i; z = sym c i }

  sided : (s v : ℕ) → at_end s v ≡ true → (v ≡ 0) ⊎ (v ≡ s)
  sided s v e = go (or_cases (eqb v 0) (eqb v s) e)
    where
      go : (eqb v 0 ≡ true) ⊎ (eqb v s ≡ true) → (v ≡ 0) ⊎ (v ≡ s)
      go (inl a) = inl (eqb-true v 0 a)
      go (inr a) = inr (eqb-true v s a)

  corner_found : (p.x ≡ 0) ⊎ (p.x ≡ h.x) → (p.y ≡ 0) ⊎ (p.y ≡ h.y) → (p.z ≡ 0) ⊎ (p.z ≡ h.z) → among (box_corners h) p ≡ true
  corner_found (inl a) (inl b) (inl c) = corner_at_lem 0 (omega arith) (position_is a b c)
  corner_found (inr a) (inl b) (inl c) = corner_at_lem 1 (omega arith) (position_is a b c)
  corner_found (inl a) (inr b) (inl c) = corner_at_lem 2 (omega arith) (position_is a b c)
  corner_found (inr a) (inr b) (inl c) = corner_at_lem 3 (omega arith) (position_is a b c)
  corner_found (inl a) (inl b) (inr c) = corner_at_lem 4 (omega arith) (position_is a b c)
  corner_found (inr a) (inl b) (inr c) = corner_at_lem 5 (omega arith) (position_is a b c)
  corner_found (inl a) (inr b) (inr c) = corner_at_lem 6 (omega arith) (position_is a b c)
  corner_found (inr a) (inr b) (inr c) = corner_at_lem 7 (omega arith) (position_is a b c)

  corner_sides : is_corner h p ≡ true → among (box_corners h) p ≡ true
  unfolding is_corner
  corner_sides e =
      let yz = and_right (at_end h.x p.x) _ e in
      corner_found (sided h.x p.x (and_left (at_end h.x p.x) _ e))
      (sided h.y p.y (and_left (at_end h.y p.y) (at_end h.z p.z) yz))
      (sided h.z p.z (and_right (at_end h.y p.y) (at_end h.z p.z) yz))

high : (s : ℕ) → at_end s s ≡ true
high s = or_right (eqb s 0) (eqb s s) (eq-eqb s s refl)

corner_is : (h : Header) (k : ℕ) → k < 8 → is_corner h (box_corner h.x h.y h.z k) ≡ true
unfolding is_corner
corner_is h =
    below_eight (λ k. is_corner h (box_corner h.x h.y h.z k) ≡ true)
    refl
    (and_intro (high h.x) refl)
    (and_intro {a = true} refl (and_intro (high h.y) refl))
    (and_intro (high h.x) (and_intro (high h.y) refl))
    (and_intro {a = true} refl (and_intro {a = true} refl (high h.z)))
    (and_intro (high h.x) (and_intro {a = true} refl (high h.z)))
    (and_intro {a = true} refl (and_intro (high h.y) (high h.z)))
    (and_intro (high h.x) (and_intro (high h.y) (high h.z)))

pub corner_test : (h : Header) (p : Position) → is_corner h p ≡ among (box_corners h) p
unfolding box_corners
corner_test h p = bool_ext (is_corner h p) (among (box_corners h) p) (corner_sides h p) back
  where
    f : ℕ → Position
    f = box_corner h.x h.y h.z

    back : among (box_corners h) p ≡ true → is_corner h p ≡ true
    back e =
        let s = among_stands (box_corners h) p p e in
        let l : s.at < 8 = subst (λ n. s.at < n) (tabulate_length 8 f) s.below in
        ap (is_corner h) (sym (sym (tabulate_at 8 f s.at p l) ∙ s.is)) ∙ corner_is h s.at l

-- ---- one node more

pub none_filtered : (h : Header) (ns : List ℕ) → Filtered h ns ns (replicate 4096 0) 0 0
unfolding tabulate fill kept firsts
none_filtered h ns =
    record {
      fewer = omega arith;
      same_length = refl;
      table_length = length-replicate {A = ℕ} 4096 0;
      front = refl;
      rest = λ j l. refl;
      indexed = none_indexed ns 4096;
    }

module _ {h : Header} {ns₀ ns table : List ℕ} {i k : ℕ} (S : Filtered h ns₀ ns table i k) {p : Position} (at : p ≡ point_in ns i) where
  one_more : kept h (positions_in (i + 1) ns₀) ≡
      cond (among (box_corners h) p || among (positions_in k ns) p) (positions_in k ns) (positions_in k ns ++ (p ∷ []))
  unfolding kept
  one_more =
      ap (λ n. kept h (positions_in n ns₀)) (add-one i) ∙
      (ap (kept h) (tabulate_suc i (point_in ns₀) ∙ ap (λ q. positions_in i ns₀ ++ (q ∷ [])) (sym (at ∙ S.rest i (omega arith)))) ∙
      (firsts_snoc (box_corners h) (positions_in i ns₀) p ∙
      ap (λ l. cond (among (box_corners h) p || among l p) l (l ++ (p ∷ []))) (sym S.front)))

  stays : (among (box_corners h) p || among (positions_in k ns) p) ≡ true → Filtered h ns₀ ns table (i + 1) k
  stays e =
      record {
        fewer = omega (arith, S.fewer);
        same_length = S.same_length;
        table_length = S.table_length;
        front = sym (one_more ∙ rw e);
        rest = λ j l. S.rest j (omega arith);
        indexed = S.indexed;
      }

  pub corner_stays : is_corner h p ≡ true → Filtered h ns₀ ns table (i + 1) k
  corner_stays e = stays (or_left (among (box_corners h) p) (among (positions_in k ns) p) (sym (corner_test h p) ∙ e))

  module _ {r : ℕ} (E : ProbeEnds ns table p r) where
    pub found_stays : get_or table r 0 ≢ 0 → Filtered h ns₀ ns table (i + 1) k
    found_stays d =
        let f = ends_found S.indexed E d in
        stays (or_right (among (box_corners h) p) (among (positions_in k ns) p) (among_in k ns p (get_or table r 0 - 1) f.0 f.1))

    joined : is_corner h p ≡ false → get_or table r 0 ≡ 0 → 3 * i + 3 ≤ length ns → i < 2032 →
        Filtered h ns₀ (with_point ns k p) (set table r (k + 1)) (i + 1) (k + 1)
    joined c e room few =
        let new : among (positions_in k ns) p ≡ false = none_in k ns p (ends_empty S.indexed E e) in
        let no_corner : among (box_corners h) p ≡ false = sym (corner_test h p) ∙ c in
        let more : 3 * k + 3 ≤ length ns = omega (arith, S.fewer) in
        let after : kept h (positions_in (i + 1) ns₀) ≡ positions_in k ns ++ (p ∷ []) = one_more ∙ rw (no_corner, new) in
        let now : positions_in (k + 1) (with_point ns k p) ≡ positions_in k ns ++ (p ∷ []) =
        ap (λ n. positions_in n (with_point ns k p)) (add-one k) ∙
        (tabulate_suc k (point_in (with_point ns k p)) ∙
        λ j. tabulate_cong k (point_in (with_point ns k p)) (point_in ns) (λ m l. put_other ns k p m (omega arith)) j ++ (put_same ns k p more j ∷ [])) in
        record {
          fewer = omega (arith, S.fewer);
          same_length = put_length ns k p ∙ S.same_length;
          table_length = length-set table r (k + 1) ∙ S.table_length;
          front = now ∙ sym after;
          rest = λ j l. put_other ns k p j (omega (arith, S.fewer)) ∙ S.rest j (omega arith);
          indexed = one_indexed S.indexed E e (omega (arith, ends≤ S.indexed E, S.table_length, S.fewer)) more;
        }

    pub joins : is_corner h p ≡ false → get_or table r 0 ≡ 0 → 3 * i + 3 ≤ length ns → i < 2032 → {ns' : List ℕ} → ns' ≡ with_point ns k p →
        Filtered h ns₀ ns' (set table r (k + 1)) (i + 1) (k + 1)
    joins c e room few put =
        subst (λ l. Filtered h ns₀ l (set table r (k + 1)) (i + 1) (k + 1)) (sym put)
        (joined c e room few)

pub all_filtered : {h : Header} {ns₀ ns table : List ℕ} {i k : ℕ} → Filtered h ns₀ ns table i k → i ≡ h.count → 3 * h.count ≤ length ns₀ → FilteredAll h ns₀ k ns
all_filtered {h} {ns₀} {ns} {table} {i} {k} S e room =
    let l = S.front ∙ ap (λ n. kept h (positions_in n ns₀)) e in
    record {
      count = sym (tabulate_length k (point_in ns)) ∙ ap length l;
      fits = omega (arith, S.fewer, S.same_length);
      front = sym (coordinates_in k ns (omega (arith, S.fewer, S.same_length))) ∙ ap coordinates l;
    }

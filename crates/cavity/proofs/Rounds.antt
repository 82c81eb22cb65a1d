-- A round of the correction: every cell's faces and the points exposed, then the cells that stay.
use Prim.Native.Nat.{ℕ, ◌+◌, ◌*◌, ◌≤◌, ◌<◌}
use mathlib.Core.Bool.{Bool, true, false, not, cond, ◌&&◌, ◌||◌}
use mathlib.Core.List.{List, []}
use mathlib.Core.Logic.{◌≢◌, ◌⊎◌, inl, inr}
use mathlib.Core.Path.{◌≡◌, refl, sym, ap, ◌∙◌, subst}
use native.Mathlib.Omega.{arith}
use native.Mathlib.Decide.{ℕ_discrete, dec_lt}
use lib.Dec.{eqb, ltb}
use lib.ListN.{length, get_or, set, length-set}
use lib.Seq.{get_or-set_same, get_or-set_other}
use borrow.Author.Tests.{eq-eqb, ne_eqb, eqb-true, eqb-false, lt-ltb, le-ltb, not-true}
use Rattle.arith.specs.Table.{any_below}
use Rattle.arith.proofs.Flags.{bool_ext, and_left, and_right, and_intro, below_four}
use Rattle.arith.proofs.Tables.{all_cong, all_fails, any_found, any_intro, Found, below_more}
use Rattle.geometry.specs.declared.Position.{Position}
use Rattle.mesh.specs.Tables.{Tables, cell_of, opposite, corner, face_has, tables, IsCell}
use Rattle.mesh.specs.Inner.{four_at, SomeMesh}
use Rattle.mesh.proofs.Numbers.{four_corner}
use Rattle.mesh.proofs.FaceNumbers.{face_cell, face_opposite, face_eq, opposite<}
use Rattle.cavity.specs.Cavity.{in_set, visible, faces_good, corners_good, marked}
use Rattle.cavity.specs.Inner.{inside, set_of, Enumerated, faces_code, Inspected}
use Rattle.cavity.specs.Inner.Correction.{face_kinds, kinds_code, with_faces, exposed_in, is_exposed, NoneExposed, CornersListed, without_corners, InspectedTo, all_exposed, cell_stays, KeptOrRemoved}
use Rattle.cavity.proofs.Tests.{visible_of}
use Rattle.mesh.proofs.Reading.{cells_few, has_corners, corner_mark}
use Rattle.cavity.proofs.Gathering.{size≤, listed_cell}
use Rattle.cavity.proofs.Visiting.{set_at, in_set_lem}
use Rattle.cavity.proofs.Marking.{kind_visible, code_is, code_good, ExposedBy, exposed_still, exposed_by, exposed_from_lem, faces_length}

module _ {ps cs ns : List ℕ} {np n : ℕ} (M : SomeMesh (tables ps cs ns) np n) (p : Position) {st li : List ℕ} {size : ℕ} (L : Enumerated (tables ps cs ns) n st li size) where
  abbrev t : Tables
  t = tables ps cs ns

  abbrev s : List Bool
  s = set_of n st

  -- ---- the sweep

  -- a visible face of cell c with the point v
  exposed_from : ℕ → ℕ → Bool
  exposed_from c v = any_below 4 (λ k. visible t p s (4 * c + k) && face_has t (4 * c + k) v)

  cell : (c : ℕ) → c < n → inside st c ≡ true → IsCell (tables ps cs ns) n c
  cell c h e = record { below = h; lives = L.alive c h e }

  module _ (c : ℕ) (c< : c < n) (in? : inside st c ≡ true) where
    abbrev kinds : List ℕ
    kinds = face_kinds t p st c

    kinds_see : (k : ℕ) → k < 4 → eqb (get_or kinds k 0) 1 ≡ visible t p s (4 * c + k)
    kinds_see = kind_visible t n (cells_few M) p st M.mesh.across< c (cell c c< in?) in?

    to_exposed : (v : ℕ) → exposed_from c v ≡ true → ExposedBy kinds (four_at cs c) v
    unfolding exposed_from face_has
    to_exposed v e = go (any_found 4 (λ k. visible t p s (4 * c + k) && face_has t (4 * c + k) v) e)
      where
        go : Found 4 (λ k. visible t p s (4 * c + k) && face_has t (4 * c + k) v) → ExposedBy kinds (four_at cs c) v
        go f = by (any_found 4 (λ j. not (eqb j (opposite (4 * c + f.at))) && eqb (corner t (cell_of (4 * c + f.at)) j) v) (and_right (visible t p s (4 * c + f.at)) (face_has t (4 * c + f.at) v) f.passes))
          where
            i : ℕ
            i = f.at

            by : Found 4 (λ j. not (eqb j (opposite (4 * c + i))) && eqb (corner t (cell_of (4 * c + i)) j) v) → ExposedBy kinds (four_at cs c) v
            by g = record {
              face = i;
              face< = f.below;
              visible? = eqb-true (get_or kinds i 0) 1 (kinds_see i f.below ∙ and_left (visible t p s (4 * c + i)) (face_has t (4 * c + i) v) f.passes);
              place = g.at;
              place< = g.below;
              off = λ q. eqb-false g.at (opposite (4 * c + i)) (not-true (eqb g.at (opposite (4 * c + i))) (and_left (not (eqb g.at (opposite (4 * c + i)))) (eqb (corner t (cell_of (4 * c + i)) g.at) v) g.passes)) (q ∙ sym (face_opposite c i f.below));
              is = four_corner t c g.at g.below ∙ (ap (λ d. corner t d g.at) (sym (face_cell c i f.below)) ∙
                  eqb-true (corner t (cell_of (4 * c + i)) g.at) v (and_right (not (eqb g.at (opposite (4 * c + i)))) (eqb (corner t (cell_of (4 * c + i)) g.at) v) g.passes));
            }

    from_exposed : (v : ℕ) → ExposedBy kinds (four_at cs c) v → exposed_from c v ≡ true
    unfolding exposed_from face_has
    from_exposed v S =
        any_intro 4 (λ k. visible t p s (4 * c + k) && face_has t (4 * c + k) v) i S.face<
        (and_intro (sym (kinds_see i S.face<) ∙ eq-eqb (get_or kinds i 0) 1 S.visible?)
        (any_intro 4 (λ j. not (eqb j (opposite (4 * c + i))) && eqb (corner t (cell_of (4 * c + i)) j) v) S.place S.place<
        (and_intro (ap not (ne_eqb S.place (opposite (4 * c + i)) (λ q. S.off (q ∙ face_opposite c i S.face<))))
        (eq-eqb (corner t (cell_of (4 * c + i)) S.place) v (ap (λ d. corner t d S.place) (face_cell c i S.face<) ∙ (sym (four_corner t c S.place S.place<) ∙ S.is))))))
      where
        i : ℕ
        i = S.face

  abbrev shown : ℕ → ℕ → Bool
  shown v i = any_below 4 (λ k. visible t p s (4 * get_or li i 0 + k) && face_has t (4 * get_or li i 0 + k) v)

  exposed_later : (h v : ℕ) → exposed_in t p s li h v ≡ true → exposed_in t p s li (h + 1) v ≡ true
  unfolding exposed_in
  exposed_later h v e = let f = any_found h (shown v) e in any_intro (h + 1) (shown v) f.at (omega (arith, f.below)) f.passes

  exposed_here : (h v : ℕ) → exposed_from (get_or li h 0) v ≡ true → exposed_in t p s li (h + 1) v ≡ true
  unfolding exposed_in exposed_from
  exposed_here h v e = any_intro (h + 1) (shown v) h (omega arith) e

  exposed_cases : (h v : ℕ) → exposed_in t p s li (h + 1) v ≡ true → (exposed_in t p s li h v ≡ true) ⊎ (exposed_from (get_or li h 0) v ≡ true)
  unfolding exposed_in exposed_from
  exposed_cases h v e = go (any_found (h + 1) (shown v) e)
    where
      go : Found (h + 1) (shown v) → (any_below h (shown v) ≡ true) ⊎ (shown v h ≡ true)
      go f = by (dec_lt f.at h)
        where
          by : Dec (f.at < h) → (any_below h (shown v) ≡ true) ⊎ (shown v h ≡ true)
          by (yes l) = inl (any_intro h (shown v) f.at l f.passes)
          by (no d) = let q : f.at ≡ h = omega (arith, f.below) in inr (ap (shown v) (sym q) ∙ f.passes)

  pub inspected_more : (h : ℕ) → h < size → {fa exposed fa' exposed' : List ℕ} → InspectedTo t n p st li size h fa exposed →
      fa' ≡ set fa (get_or li h 0) (kinds_code (face_kinds t p st (get_or li h 0))) →
      exposed' ≡ with_faces 4 exposed (face_kinds t p st (get_or li h 0)) (four_at cs (get_or li h 0)) → InspectedTo t n p st li size (h + 1) fa' exposed'
  inspected_more h h< {fa} {exposed} {fa'} {exposed'} S ef es = record {
    codes = ap length ef ∙ (length-set fa c (kinds_code kinds) ∙ S.codes);
    marks = ap length es ∙ (faces_length exposed kinds (four_at cs c) here 0 4 (omega arith) ∙ S.marks);
    coded = below_more (λ k. get_or fa' (get_or li k 0) 0 ≡ faces_code t p s (get_or li k 0)) h
        (λ k l. ap (λ f. get_or f (get_or li k 0) 0) ef ∙ (get_or-set_other fa c (get_or li k 0) (kinds_code kinds) 0 (L.apart k h l h<) ∙ S.coded k l))
        (ap (λ f. get_or f c 0) ef ∙ (get_or-set_same fa c (kinds_code kinds) 0 (omega (arith, S.codes, c<, cells_few M)) ∙ code_is t n (cells_few M) p st M.mesh.across< c (cell c c< in?) in?));
    exposed_is = λ k j hk hj.
        let v = corner t (get_or li k 0) j in
        ap (λ f. ltb 0 (get_or f v 0)) es ∙ bool_ext (ltb 0 (get_or (with_faces 4 exposed kinds (four_at cs c)) v 0)) (exposed_in t p s li (h + 1) v)
        (there v (S.exposed_is k j hk hj)) (back v (S.exposed_is k j hk hj));
  }
    where
      c : ℕ
      c = get_or li h 0

      c< : c < n
      c< = L.below h h<

      in? : inside st c ≡ true
      in? = L.listed h h<

      kinds : List ℕ
      kinds = face_kinds t p st c

      here : (j : ℕ) → j < 4 → get_or (four_at cs c) j 0 < length exposed
      here j l = omega (arith, corner_mark M c j (cell c c< in?) l, S.marks)

      there : (v : ℕ) → is_exposed exposed v ≡ exposed_in t p s li h v → ltb 0 (get_or (with_faces 4 exposed kinds (four_at cs c)) v 0) ≡ true → exposed_in t p s li (h + 1) v ≡ true
      there v l e = go (exposed_from_lem exposed kinds (four_at cs c) here v 4 (omega arith) e)
        where
          go : (ltb 0 (get_or exposed v 0) ≡ true) ⊎ ExposedBy kinds (four_at cs c) v → exposed_in t p s li (h + 1) v ≡ true
          go (inl q) = exposed_later h v (sym l ∙ q)
          go (inr q) = exposed_here h v (from_exposed c c< in? v q)

      back : (v : ℕ) → is_exposed exposed v ≡ exposed_in t p s li h v → exposed_in t p s li (h + 1) v ≡ true → ltb 0 (get_or (with_faces 4 exposed kinds (four_at cs c)) v 0) ≡ true
      back v l e = go (exposed_cases h v e)
        where
          go : (exposed_in t p s li h v ≡ true) ⊎ (exposed_from c v ≡ true) → ltb 0 (get_or (with_faces 4 exposed kinds (four_at cs c)) v 0) ≡ true
          go (inl q) = exposed_still exposed kinds (four_at cs c) here v 4 (omega arith) (l ∙ q)
          go (inr q) = let S = to_exposed c c< in? v q in exposed_by exposed kinds (four_at cs c) here v 4 (omega arith) S S.face<

  -- after the sweep

  module _ {fa exposed : List ℕ} (S : InspectedTo t n p st li size size fa exposed) where
    pub inspected : Inspected t n p s st fa
    inspected c h e = let k = L.all c e in subst (λ c. get_or fa c 0 ≡ faces_code t p s c) k.2 (S.coded k.0 k.1)

    marked_is : (v : ℕ) → is_exposed exposed v ≡ exposed_in t p s li size v → ltb 0 (get_or exposed v 0) ≡ any_below (4 * n) (λ f. visible t p s f && face_has t f v)
    unfolding exposed_in
    marked_is v l = l ∙ bool_ext (any_below size (shown v)) (any_below (4 * n) any_face) there back
      where
        any_face : ℕ → Bool
        any_face f = visible t p s f && face_has t f v

        there : any_below size (shown v) ≡ true → any_below (4 * n) any_face ≡ true
        there e =
            let f = any_found size (shown v) e in
            let g = any_found 4 (λ k. visible t p s (4 * get_or li f.at 0 + k) && face_has t (4 * get_or li f.at 0 + k) v) f.passes in
            any_intro (4 * n) any_face (4 * get_or li f.at 0 + g.at) (omega (arith, g.below, L.below f.at f.below)) g.passes

        back : any_below (4 * n) any_face ≡ true → any_below size (shown v) ≡ true
        back e =
            let f = any_found (4 * n) any_face e in
            let i = in_set_lem n st (cell_of f.at) (visible_of t p s f.at (and_left (visible t p s f.at) (face_has t f.at v) f.passes)).held in
            let k = L.all (cell_of f.at) i.1 in
            let q : 4 * get_or li k.0 0 + opposite f.at ≡ f.at = ap (λ c. 4 * c + opposite f.at) k.2 ∙ face_eq f.at in
            any_intro size (shown v) k.0 k.1
            (any_intro 4 (λ j. visible t p s (4 * get_or li k.0 0 + j) && face_has t (4 * get_or li k.0 0 + j) v) (opposite f.at) (opposite< f.at) (ap any_face q ∙ f.passes))

    all_exposed_is : (c : ℕ) → inside st c ≡ true → all_exposed exposed (four_at cs c) ≡ corners_good t n p s c
    unfolding all_exposed corners_good
    all_exposed_is c h =
        all_cong 4 (λ i. ltb 0 (get_or exposed (get_or (four_at cs c) i 0) 0)) (λ k. any_below (4 * n) (λ f. visible t p s f && face_has t f (corner t c k)))
        (λ i l. ap (is_exposed exposed) (four_corner t c i l) ∙ marked_is (corner t c i) (at i l))
      where
        at : (i : ℕ) → i < 4 → is_exposed exposed (corner t c i) ≡ exposed_in t p s li size (corner t c i)
        at i l = let k = L.all c h in subst (λ d. is_exposed exposed (corner t d i) ≡ exposed_in t p s li size (corner t d i)) k.2 (S.exposed_is k.0 i k.1 l)

    -- a cell of the cavity stays where it is not marked
    pub stays_is : (b : List Bool) → ((c : ℕ) → c < n → inside st c ≡ true → get_or st c 0 ≡ cond (in_set b c) 2 1) →
        (c : ℕ) → c < n → inside st c ≡ true → cell_stays st fa exposed (four_at cs c) c ≡ not (marked t n p b s c)
    unfolding cell_stays marked
    stays_is b states c h e =
        (λ i. eqb (states c h e i) 2 || (ltb (inspected c h e i) 16 && all_exposed_is c e i)) ∙
        rw (code_good t p s c, set_at n st c h ∙ e) (go (in_set b c) (faces_good t p s c) (corners_good t n p s c))
      where
        go : (x g k : Bool) → (eqb (cond x 2 1) 2 || (g && k)) ≡ not (not x && not (g && k))
        go true g k = refl
        go false true true = refl
        go false true false = refl
        go false false k = refl

pub inspected_ends : {t : Tables} {n : ℕ} {p : Position} {st li : List ℕ} {size h : ℕ} {fa exposed : List ℕ} → h ≡ size → InspectedTo t n p st li size h fa exposed → InspectedTo t n p st li size size fa exposed
inspected_ends {t} {n} {p} {st} {li} {size} {h} {fa} {exposed} e S = subst (λ k. InspectedTo t n p st li size k fa exposed) e S

-- ---- as the code tests

module _ (exposed k : List ℕ) where
  abbrev corner_exposed : ℕ → Bool
  corner_exposed i = ltb 0 (get_or exposed (get_or k i 0) 0)

  pub unexposed : (i : ℕ) → i < 4 → get_or exposed (get_or k i 0) 0 ≡ 0 → false ≡ all_exposed exposed k
  unfolding all_exposed
  unexposed i h e = sym (all_fails 4 corner_exposed i h (ap (ltb 0) e ∙ le-ltb 0 0 (omega arith)))

module _ (st fa exposed k : List ℕ) (c : ℕ) where
  pub stays_base : get_or st c 0 ≡ 2 → true ≡ cell_stays st fa exposed k c
  unfolding cell_stays
  stays_base e = rw (eq-eqb (get_or st c 0) 2 e)

  pub leaves_face : get_or st c 0 ≢ 2 → 16 ≤ get_or fa c 0 → false ≡ cell_stays st fa exposed k c
  unfolding cell_stays
  leaves_face d h = rw (ne_eqb (get_or st c 0) 2 d, le-ltb (get_or fa c 0) 16 h)

  pub stays_exposed : get_or st c 0 ≢ 2 → get_or fa c 0 < 16 → {r : Bool} → r ≡ all_exposed exposed k → r ≡ cell_stays st fa exposed k c
  unfolding cell_stays
  stays_exposed d h e = e ∙ rw (ne_eqb (get_or st c 0) 2 d, lt-ltb (get_or fa c 0) 16 h)

pub kept_cell : (stay : Bool) (c : ℕ) (st li : List ℕ) (kept : ℕ) → stay ≡ true → KeptOrRemoved stay c st li kept st (set li kept c) (kept + 1)
kept_cell stay c st li kept e = record {
  count = sym (ap (λ x. cond x (kept + 1) kept) e);
  list = sym (ap (λ x. cond x (set li kept c) li) e);
  state = sym (ap (λ x. cond x st (set st c 0)) e);
}

pub removed_cell : (stay : Bool) (c : ℕ) (st li : List ℕ) (kept : ℕ) → stay ≡ false → KeptOrRemoved stay c st li kept (set st c 0) li kept
removed_cell stay c st li kept e = record {
  count = sym (ap (λ x. cond x (kept + 1) kept) e);
  list = sym (ap (λ x. cond x (set li kept c) li) e);
  state = sym (ap (λ x. cond x st (set st c 0)) e);
}

pub stays_same : (st st₀ fa exposed k : List ℕ) (c : ℕ) → get_or st c 0 ≡ get_or st₀ c 0 → cell_stays st fa exposed k c ≡ cell_stays st₀ fa exposed k c
unfolding cell_stays
stays_same st st₀ fa exposed k c e = ap (λ x. eqb x 2 || (ltb (get_or fa c 0) 16 && all_exposed exposed k)) e

-- ---- before the sweep

pub inspected_none : (t : Tables) (n : ℕ) (p : Position) (st li : List ℕ) (size : ℕ) {fa exposed : List ℕ} → length fa ≡ 4096 → NoneExposed t li size exposed →
    InspectedTo t n p st li size 0 fa exposed
unfolding exposed_in any_below
inspected_none t n p st li size hf H = record {
  codes = hf;
  marks = H.long;
  coded = λ k l. absurd (omega arith);
  exposed_is = λ k j hk hj. ap (ltb 0) (H.zero k j hk hj) ∙ le-ltb 0 0 (omega arith);
}

-- one entry 0
zero_keeps : (l : List ℕ) (i v : ℕ) → i < length l → get_or l v 0 ≡ 0 → get_or (set l i 0) v 0 ≡ 0
zero_keeps l i v h e = go (ℕ_discrete v i)
  where
    go : Dec (v ≡ i) → get_or (set l i 0) v 0 ≡ 0
    go (yes q) = ap (λ j. get_or (set l i 0) j 0) q ∙ get_or-set_same l i 0 0 h
    go (no d) = get_or-set_other l i v 0 0 d ∙ e

-- the corners of one listed cell more
module _ (exposed k : List ℕ) (small : (j : ℕ) → j < 4 → get_or k j 0 < length exposed) where
  abbrev l₁ : List ℕ
  l₁ = set exposed (get_or k 0 0) 0

  abbrev l₂ : List ℕ
  l₂ = set l₁ (get_or k 1 0) 0

  abbrev l₃ : List ℕ
  l₃ = set l₂ (get_or k 2 0) 0

  one : (v : ℕ) → get_or exposed v 0 ≡ 0 → get_or l₁ v 0 ≡ 0
  one v = zero_keeps exposed (get_or k 0 0) v (small 0 (omega arith))

  two : (v : ℕ) → get_or l₁ v 0 ≡ 0 → get_or l₂ v 0 ≡ 0
  two v = zero_keeps l₁ (get_or k 1 0) v (simp length-set (small 1 (omega arith)))

  three : (v : ℕ) → get_or l₂ v 0 ≡ 0 → get_or l₃ v 0 ≡ 0
  three v = zero_keeps l₂ (get_or k 2 0) v (simp length-set (small 2 (omega arith)))

  four : (v : ℕ) → get_or l₃ v 0 ≡ 0 → get_or (without_corners exposed k) v 0 ≡ 0
  unfolding without_corners
  four v = zero_keeps l₃ (get_or k 3 0) v (simp length-set (small 3 (omega arith)))

  without_keeps : (v : ℕ) → get_or exposed v 0 ≡ 0 → get_or (without_corners exposed k) v 0 ≡ 0
  without_keeps v e = four v (three v (two v (one v e)))

  without_corner : (j : ℕ) → j < 4 → get_or (without_corners exposed k) (get_or k j 0) 0 ≡ 0
  unfolding without_corners
  without_corner =
      below_four (λ j. get_or (without_corners exposed k) (get_or k j 0) 0 ≡ 0)
      (four (get_or k 0 0) (three (get_or k 0 0) (two (get_or k 0 0) (get_or-set_same exposed (get_or k 0 0) 0 0 (small 0 (omega arith))))))
      (four (get_or k 1 0) (three (get_or k 1 0) (get_or-set_same l₁ (get_or k 1 0) 0 0 (simp length-set (small 1 (omega arith))))))
      (four (get_or k 2 0) (get_or-set_same l₂ (get_or k 2 0) 0 0 (simp length-set (small 2 (omega arith)))))
      (get_or-set_same l₃ (get_or k 3 0) 0 0 (simp length-set (small 3 (omega arith))))

  without_length : length (without_corners exposed k) ≡ length exposed
  unfolding without_corners
  without_length = simp length-set

pub none_exposed_more : (ps cs ns li : List ℕ) (h : ℕ) {exposed : List ℕ} → NoneExposed (tables ps cs ns) li h exposed →
    ((j : ℕ) → j < 4 → get_or (four_at cs (get_or li h 0)) j 0 < length exposed) →
    NoneExposed (tables ps cs ns) li (h + 1) (without_corners exposed (four_at cs (get_or li h 0)))
none_exposed_more ps cs ns li h {exposed} H small = record {
  long = without_length exposed k small ∙ H.long;
  zero = λ i j hi hj. each i hi j hj;
}
  where
    t : Tables
    t = tables ps cs ns

    k : List ℕ
    k = four_at cs (get_or li h 0)

    each : (i : ℕ) → i < h + 1 → (j : ℕ) → j < 4 → get_or (without_corners exposed k) (corner t (get_or li i 0) j) 0 ≡ 0
    each = below_more (λ i. (j : ℕ) → j < 4 → get_or (without_corners exposed k) (corner t (get_or li i 0) j) 0 ≡ 0) h
        (λ i l j m. without_keeps exposed k small (corner t (get_or li i 0) j) (H.zero i j l m))
        (λ j m. ap (λ v. get_or (without_corners exposed k) v 0) (sym (four_corner t (get_or li h 0) j m)) ∙ without_corner exposed k small j m)

-- the other two tables do not matter
pub none_exposed_in : (ps cs ns li : List ℕ) (h : ℕ) {exposed : List ℕ} → NoneExposed (tables [] cs []) li h exposed → NoneExposed (tables ps cs ns) li h exposed
unfolding corner
none_exposed_in ps cs ns li h H = record { long = H.long; zero = H.zero }

pub corners_listed : {ps cs ns : List ℕ} {np n : ℕ} → SomeMesh (tables ps cs ns) np n → {st li : List ℕ} {size : ℕ} → Enumerated (tables ps cs ns) n st li size →
    {first : ℕ} → first ≤ size → CornersListed cs li first
corners_listed M {st} {li} L f = record {
  entries = omega (arith, size≤ L, cells_few M, L.entries);
  cells = λ k h. has_corners M (get_or li k 0) (L.below k (omega arith));
  few = λ k j h l. corner_mark M (get_or li k 0) j (listed_cell L k (omega arith)) l;
}

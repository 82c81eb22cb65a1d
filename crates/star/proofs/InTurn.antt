-- The star, face by face through the list of the cavity's cells, whatever their order.
use Prim.Native.Nat.{ℕ, ◌+◌, ◌*◌, ◌/◌, ◌%◌, ◌≤◌, ◌<◌}
use mathlib.Core.Bool.{Bool, true, false, ◌&&◌, ◌||◌}
use mathlib.Core.List.{List}
use mathlib.Core.Logic.{◌⊎◌, inl, inr}
use mathlib.Core.Path.{◌≡◌, refl, sym, ap, ◌∙◌, subst}
use native.Mathlib.Omega.{arith}
use borrow.Author.Tests.{eq-eqb, eqb-true}
use lib.Dec.{eqb}
use lib.ListN.{get_or}
use Rattle.arith.specs.Table.{any_below}
use Rattle.arith.proofs.Flags.{clash, bool_ext, fails, and_left, and_right, and_intro, or_cases, or_left, or_right}
use Rattle.arith.proofs.Tables.{any_found, any_intro, any_more}
use Rattle.geometry.specs.declared.Position.{Position}
use Rattle.mesh.specs.Tables.{Tables, point_capacity, cell_capacity, cell_of, opposite}
use Rattle.mesh.proofs.Room.{Room, room_of}
use Rattle.mesh.proofs.FaceNumbers.{face_cell, face_opposite, face_eq, opposite<}
use Rattle.cavity.specs.Cavity.{in_set, visible}
use Rattle.cavity.specs.Inner.{set_of}
use Rattle.cavity.proofs.Tests.{visible_of}
use Rattle.cavity.proofs.Gathering.{size≤}
use Rattle.star.specs.Inner.{FaceDone, starred, passed_by, Starred, Places, Starring, StarInProgress}
use Rattle.star.specs.Star.{star_numbers}
use Rattle.star.proofs.Codes.{set_at}
use Rattle.star.proofs.Around.{set_below}
use Rattle.star.proofs.Filled.{star_places}
use Rattle.star.proofs.Done.{star_none, star_more, cavity_corners, cavity_neighbours}

-- face h, when the cells come as listed
abbrev pub face_at : List ℕ → ℕ → ℕ
face_at li h = 4 * get_or li (h / 4) 0 + h % 4

-- the faces starred after i of them are looked at
unfoldable pub done_by : Tables → Position → List Bool → List ℕ → ℕ → ℕ → Bool
done_by t p s li i g = visible t p s g && any_below i (λ h. eqb (face_at li h) g)

module _ {t : Tables} {np n : ℕ} {p : Position} {st li : List ℕ} {size : ℕ} {fa nu sl : List ℕ} (B : Starring t np n p st li size fa nu sl) where
  abbrev s : List Bool
  s = set_of n st

  abbrev R : Room (point_capacity t) (cell_capacity t B.mesh.w) t
  R = room_of t B.mesh.w

  pub places : Places (star_numbers B.ch t n p s) t n p s (cell_capacity t B.mesh.w)
  places = star_places B.mesh.mesh B.ready.like record { spare = B.ready.spare; room = R; cells = B.ready.like.cells; next = B.ready.next; used≤ = B.ready.room }

  pub listed_few : size ≤ 4096
  listed_few = omega (arith, size≤ B.listed, B.mesh.mesh.cells≤, R.cells≤)

  pub listed_held : (h : ℕ) → h < 4 * size → in_set (set_of n st) (get_or li (h / 4) 0) ≡ true
  listed_held h l =
      set_at n st (get_or li (h / 4) 0) (B.listed.below (h / 4) (omega arith)) ∙ B.listed.listed (h / 4) (omega arith)

  pub next_few : np < 1024
  next_few = omega (arith, B.ready.next, R.points≤)

  pub done_visible : (i g : ℕ) → done_by t p (set_of n st) li i g ≡ true → visible t p (set_of n st) g ≡ true
  unfolding done_by
  done_visible i g e = and_left (visible t p s g) (any_below i (λ h. eqb (face_at li h) g)) e

  pub done_none : Starred (star_numbers B.ch t n p (set_of n st)) t n p np (set_of n st) (done_by t p (set_of n st) li 0) t.corners t.neighbours
  unfolding done_by any_below
  done_none = subst (λ D. Starred (star_numbers B.ch t n p s) t n p np s D t.corners t.neighbours) (λ ι g. none_yet g ι) (star_none B.mesh.mesh R p np s places)
    where
      none_yet : (g : ℕ) → false ≡ (visible t p s g && false)
      none_yet g = sym (fails (visible t p s g && false) (λ e. clash (and_right (visible t p s g) false e) refl))

  unfoldable pub building : (i : ℕ) {cs ns : List ℕ} → Starred (star_numbers B.ch t n p (set_of n st)) t n p np (set_of n st) (done_by t p (set_of n st) li i) cs ns → StarInProgress n st fa nu sl cs ns
  building i S = record {
    standing = record {
      was = t;
      np = np;
      mesh = B.mesh;
      states = B.listed.states;
      cells = B.ready.like.cells;
      corners_long = S.corners_long;
      neighbours_long = S.neighbours_long;
      corners_same = λ c i h k. cavity_corners B.mesh.mesh R p np s places (done_by t p s li _) (done_visible _) S c i h k;
      neighbours_same = λ c i h k. cavity_neighbours B.mesh.mesh R p np s places (done_by t p s li _) (done_visible _) S c i h k;
    };
    p = p;
    ch = B.ch;
    ready = B.ready;
  }

  done_more : (i g : ℕ) → done_by t p s li i g ≡ true → done_by t p s li (i + 1) g ≡ true
  unfolding done_by
  done_more i g e =
      and_intro (and_left (visible t p s g) _ e)
      (any_more i (λ h. eqb (face_at li h) g) ∙ or_right (eqb (face_at li i) g) _ (and_right (visible t p s g) _ e))

  done_now : (i g : ℕ) → visible t p s g ≡ true → face_at li i ≡ g → done_by t p s li (i + 1) g ≡ true
  unfolding done_by
  done_now i g v q =
      and_intro v (any_more i (λ h. eqb (face_at li h) g) ∙ or_left (eqb (face_at li i) g) (any_below i (λ h. eqb (face_at li h) g)) (eq-eqb (face_at li i) g q))

  done_cases : (i g : ℕ) → done_by t p s li (i + 1) g ≡ true → (face_at li i ≡ g) ⊎ (done_by t p s li i g ≡ true)
  unfolding done_by
  done_cases i g e =
      go (or_cases (eqb (face_at li i) g) (any_below i (λ h. eqb (face_at li h) g)) (sym (any_more i (λ h. eqb (face_at li h) g)) ∙ and_right (visible t p s g) _ e))
    where
      go : (eqb (face_at li i) g ≡ true) ⊎ (any_below i (λ h. eqb (face_at li h) g) ≡ true) → (face_at li i ≡ g) ⊎ (done_by t p s li i g ≡ true)
      go (inl d) = inl (eqb-true (face_at li i) g d)
      go (inr d) = inr (and_intro (and_left (visible t p s g) _ e) d)

  -- the i-th face is not done before its turn
  fresh : (i : ℕ) → i < 4 * size → done_by t p s li i (face_at li i) ≡ false
  unfolding done_by
  fresh i i< = fails (done_by t p s li i (face_at li i)) (λ e.
      let r = any_found i (λ h. eqb (face_at li h) (face_at li i)) (and_right (visible t p s (face_at li i)) _ e) in
      again r.at r.below (eqb-true (face_at li r.at) (face_at li i) r.passes))
    where
      again : (h : ℕ) → h < i → face_at li h ≡ face_at li i → ⊥
      again h l e = B.listed.apart (h / 4) (i / 4) (omega arith) (omega arith) (omega arith)

  pub star_next : (i : ℕ) → i < 4 * size → {cs ns cs' ns' : List ℕ} → FaceDone (star_numbers B.ch t n p (set_of n st)) t n p np (set_of n st) (face_at li i) cs ns cs' ns' →
      Starred (star_numbers B.ch t n p (set_of n st)) t n p np (set_of n st) (done_by t p (set_of n st) li i) cs ns → Starred (star_numbers B.ch t n p (set_of n st)) t n p np (set_of n st) (done_by t p (set_of n st) li (i + 1)) cs' ns'
  unfolding done_by
  star_next i i< {cs} {ns} {cs'} {ns'} (starred v F) S =
      subst (λ D. Starred (star_numbers B.ch t n p s) t n p np s D cs' ns') (λ ι g. more g ι)
      (star_more B.mesh.mesh R p np s places (done_by t p s li i) (done_visible i) (face_at li i) v (fresh i i<) S F)
    where
      more : (g : ℕ) → (done_by t p s li i g || eqb g (face_at li i)) ≡ done_by t p s li (i + 1) g
      more g = bool_ext (done_by t p s li i g || eqb g (face_at li i)) (done_by t p s li (i + 1) g) forth back
        where
          forth : (done_by t p s li i g || eqb g (face_at li i)) ≡ true → done_by t p s li (i + 1) g ≡ true
          forth e = go (or_cases (done_by t p s li i g) (eqb g (face_at li i)) e)
            where
              go : (done_by t p s li i g ≡ true) ⊎ (eqb g (face_at li i) ≡ true) → done_by t p s li (i + 1) g ≡ true
              go (inl d) = done_more i g d
              go (inr d) =
                  let q : g ≡ face_at li i = eqb-true g (face_at li i) d in
                  done_now i g (ap (visible t p s) q ∙ v) (sym q)

          back : done_by t p s li (i + 1) g ≡ true → (done_by t p s li i g || eqb g (face_at li i)) ≡ true
          back e = go (done_cases i g e)
            where
              go : (face_at li i ≡ g) ⊎ (done_by t p s li i g ≡ true) → (done_by t p s li i g || eqb g (face_at li i)) ≡ true
              go (inl d) = or_right (done_by t p s li i g) (eqb g (face_at li i)) (eq-eqb g (face_at li i) (sym d))
              go (inr d) = or_left (done_by t p s li i g) (eqb g (face_at li i)) d
  star_next i i< {cs} {ns} {cs'} {ns'} (passed_by v e d) S =
      subst (λ D. Starred (star_numbers B.ch t n p s) t n p np s D cs' ns') (λ ι g. same g ι) (lists S)
    where
      lists : Starred (star_numbers B.ch t n p s) t n p np s (done_by t p s li i) cs ns → Starred (star_numbers B.ch t n p s) t n p np s (done_by t p s li i) cs' ns'
      lists S = subst (λ l. Starred (star_numbers B.ch t n p s) t n p np s (done_by t p s li i) l ns') (sym e) (subst (λ l. Starred (star_numbers B.ch t n p s) t n p np s (done_by t p s li i) cs l) (sym d) S)

      same : (g : ℕ) → done_by t p s li i g ≡ done_by t p s li (i + 1) g
      same g = bool_ext (done_by t p s li i g) (done_by t p s li (i + 1) g) (done_more i g) (λ q. go q (done_cases i g q))
        where
          go : done_by t p s li (i + 1) g ≡ true → (face_at li i ≡ g) ⊎ (done_by t p s li i g ≡ true) → done_by t p s li i g ≡ true
          go q (inl f) = clash (done_visible (i + 1) g q) (ap (visible t p s) (sym f) ∙ v)
          go q (inr f) = f

  -- every visible face comes once
  pub star_all : (i : ℕ) → 4 * size ≤ i → {cs ns : List ℕ} → Starred (star_numbers B.ch t n p (set_of n st)) t n p np (set_of n st) (done_by t p (set_of n st) li i) cs ns →
      Starred (star_numbers B.ch t n p (set_of n st)) t n p np (set_of n st) (visible t p (set_of n st)) cs ns
  unfolding done_by
  star_all i i≥ {cs} {ns} S = subst (λ D. Starred (star_numbers B.ch t n p s) t n p np s D cs ns) (λ ι g. every g ι) S
    where
      every : (g : ℕ) → done_by t p s li i g ≡ visible t p s g
      every g = bool_ext (done_by t p s li i g) (visible t p s g) (done_visible i g) (λ e. and_intro e (come e))
        where
          come : visible t p s g ≡ true → any_below i (λ h. eqb (face_at li h) g) ≡ true
          come e =
              let held = (visible_of t p s g e).held in
              let c< = set_below n st (cell_of g) held in
              let k = B.listed.all (cell_of g) (sym (set_at n st (cell_of g) c<) ∙ held) in
              any_intro i (λ h. eqb (face_at li h) g) (4 * k.0 + opposite g) (omega (arith, k.1))
              (eq-eqb (face_at li (4 * k.0 + opposite g)) g
              (ap (λ c. 4 * get_or li c 0 + opposite (4 * k.0 + opposite g)) (face_cell k.0 (opposite g) (opposite< g)) ∙
              (ap (λ j. 4 * get_or li k.0 0 + j) (face_opposite k.0 (opposite g) (opposite< g)) ∙ (ap (λ c. 4 * c + opposite g) k.2 ∙ face_eq g))))

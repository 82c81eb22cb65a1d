-- The cavity's cells as a rising list: the chain's links and the ranks of the new cells, without a pass over all entries.
use Prim.Native.Nat.{ℕ, zero, suc, ◌+◌, ◌*◌, ◌-◌, ◌≤◌, ◌<◌}
use mathlib.Core.Bool.{Bool, true, false, cond}
use mathlib.Core.List.{List}
use mathlib.Core.Path.{◌≡◌, refl, sym, ap, ◌∙◌, subst}
use native.Mathlib.Omega.{arith}
use native.Mathlib.Decide.{ℕ_discrete, dec_lt}
use native.Mathlib.Nat.{add-zero}
use native.Mathlib.Numerals.{add-one}
use borrow.Author.Tests.{lt-ltb, le-ltb}
use lib.Dec.{ltb}
use lib.ListN.{length, get_or, set}
use lib.Seq.{get_or-set_same, get_or-set_other}
use Rattle.arith.specs.Table.{count_below}
use Rattle.arith.proofs.Flags.{clash, fails}
use Rattle.arith.proofs.Counting.{count_append, count_none}
use Rattle.arith.proofs.Tables.{below_more}
use Rattle.geometry.specs.declared.Position.{Position}
use Rattle.mesh.specs.Tables.{Tables, cell_of}
use Rattle.cavity.specs.Cavity.{in_set, visible}
use Rattle.cavity.proofs.Tests.{visible_of}
use Rattle.cavity.specs.Inner.{set_of, faces_code, Inspected}
use Rattle.star.specs.Star.{made_count, highest_below}
use Rattle.star.specs.Inner.{Rising, bit_set, Ranked}
use Rattle.star.proofs.Codes.{set_at, count_cell}

module _ (s : List Bool) (rest : ℕ) where
  highest_skip : (c : ℕ) → in_set s c ≡ false → highest_below s rest (suc c) ≡ highest_below s rest c
  unfolding highest_below
  highest_skip c e = rw e

  highest_none : (c : ℕ) → ((e : ℕ) → e < c → in_set s e ≡ false) → highest_below s rest c ≡ rest
  unfolding highest_below
  highest_none zero off = refl
  highest_none (suc c) off = rw (off c (omega arith)) (highest_none c (λ e h. off e (omega arith)))

  -- the highest of s below c
  highest_is : (c d : ℕ) → d < c → in_set s d ≡ true → ((e : ℕ) → d < e → e < c → in_set s e ≡ false) → highest_below s rest c ≡ d
  highest_is zero d h q off = absurd (omega arith)
  highest_is (suc c) d h q off = go (ℕ_discrete d c) (λ l. highest_is c d l q (λ e a b. off e a (omega arith)))
    where
      here : (x : ℕ) → in_set s x ≡ true → highest_below s rest (suc x) ≡ x
      here x e = unfold highest_below in rw e

      go : Dec (d ≡ c) → (d < c → highest_below s rest c ≡ d) → highest_below s rest (suc c) ≡ d
      go (yes e) ih = here c (ap (in_set s) (sym e) ∙ q) ∙ sym e
      go (no x) ih = highest_skip c (off c (omega arith) (omega arith)) ∙ ih (omega arith)

module _ {n : ℕ} {s : List Bool} {li : List ℕ} {size : ℕ} (L : Rising n s li size) where
  -- no cell of s between two neighbours of the list
  between : (k e : ℕ) → suc k < size → get_or li k 0 < e → e < get_or li (suc k) 0 → in_set s e ≡ false
  between k e h a b = fails (in_set s e) (λ q. go (L.all e q))
    where
      go : (j : ℕ) × (j < size) × (get_or li j 0 ≡ e) → ⊥
      go (j, l, q) = by (dec_lt k j) (ℕ_discrete j (suc k)) (dec_lt j k) (ℕ_discrete j k)
        where
          by : Dec (k < j) → Dec (j ≡ suc k) → Dec (j < k) → Dec (j ≡ k) → ⊥
          by (yes x) (yes y) z w = omega (arith, ap (λ i. get_or li i 0) y)
          by (yes x) (no y) z w = omega (arith, L.rises (suc k) j (omega arith) l)
          by (no x) y (yes z) w = omega (arith, L.rises j k z (omega arith))
          by (no x) y (no z) (yes w) = omega (arith, ap (λ i. get_or li i 0) w)
          by (no x) y (no z) (no w) = omega arith

  before_first : (e : ℕ) → 0 < size → e < get_or li 0 0 → in_set s e ≡ false
  before_first e h a = fails (in_set s e) (λ q. go (L.all e q))
    where
      go : (j : ℕ) × (j < size) × (get_or li j 0 ≡ e) → ⊥
      go (zero, l, q) = omega arith
      go (suc j, l, q) = omega (arith, L.rises 0 (suc j) (omega arith) l)

  after_last : (e : ℕ) → 0 < size → get_or li (size - 1) 0 < e → in_set s e ≡ false
  after_last e h a = fails (in_set s e) (λ q. go (L.all e q))
    where
      go : (j : ℕ) × (j < size) × (get_or li j 0 ≡ e) → ⊥
      go (j, l, q) = by (ℕ_discrete j (size - 1))
        where
          by : Dec (j ≡ size - 1) → ⊥
          by (yes x) = omega (arith, ap (λ i. get_or li i 0) x)
          by (no x) = omega (arith, L.rises j (size - 1) (omega arith) (omega arith))

  none_listed : size ≡ 0 → (e : ℕ) → in_set s e ≡ false
  none_listed z e = fails (in_set s e) (λ q. go (L.all e q))
    where
      go : (j : ℕ) × (j < size) × (get_or li j 0 ≡ e) → ⊥
      go (j, l, q) = omega arith

  -- ---- the links of freed cells

  pub link_first : (rest : ℕ) → 0 < size → highest_below s rest (get_or li 0 0) ≡ rest
  link_first rest h = highest_none s rest (get_or li 0 0) (λ e l. before_first e h l)

  pub link_next : (rest k : ℕ) → suc k < size → highest_below s rest (get_or li (suc k) 0) ≡ get_or li k 0
  link_next rest k h = highest_is s rest (get_or li (suc k) 0) (get_or li k 0) (L.rises k (suc k) (omega arith) h) (L.held k (omega arith)) (λ e a b. between k e h a b)

  pub link_head : (rest : ℕ) → 0 < size → highest_below s rest n ≡ get_or li (size - 1) 0
  link_head rest h = highest_is s rest n (get_or li (size - 1) 0) (L.below (size - 1) (omega arith)) (L.held (size - 1) (omega arith)) (λ e a b. after_last e h a)

  pub link_empty : (rest : ℕ) → size ≡ 0 → highest_below s rest n ≡ rest
  link_empty rest z = highest_none s rest n (λ e l. none_listed z e)

  -- ---- the ranks of new cells

  module _ (t : Tables) (p : Position) where
    none_visible : (f : ℕ) → in_set s (cell_of f) ≡ false → visible t p s f ≡ false
    none_visible f e = fails (visible t p s f) (λ v. clash (visible_of t p s f v).held e)

    rank_first : 0 < size → count_below (4 * get_or li 0 0) (visible t p s) ≡ 0
    rank_first h = count_none (4 * get_or li 0 0) (visible t p s) (λ f l. none_visible f (before_first (cell_of f) h (omega arith)))

    -- no face is visible from cell c's last to cell d's first where no cell between is in s
    none_between : (c d : ℕ) → c < d → ((e : ℕ) → c < e → e < d → in_set s e ≡ false) → count_below (4 * d) (visible t p s) ≡ count_below (4 * c + 4) (visible t p s)
    none_between c d up off =
        let e : 4 * d ≡ 4 * c + 4 + (4 * d - (4 * c + 4)) = omega arith in
        ap (λ m. count_below m (visible t p s)) e ∙
        (count_append (4 * c + 4) (4 * d - (4 * c + 4)) (visible t p s) ∙
        (ap (λ m. count_below (4 * c + 4) (visible t p s) + m)
        (count_none (4 * d - (4 * c + 4)) (λ i. visible t p s (4 * c + 4 + i)) (λ i l. none_visible (4 * c + 4 + i) (off (cell_of (4 * c + 4 + i)) (omega arith) (omega arith)))) ∙
        add-zero (count_below (4 * c + 4) (visible t p s))))

    -- the next cell's first new cell comes after this one's last
    rank_next : (k : ℕ) → suc k < size → count_below (4 * get_or li (suc k) 0) (visible t p s) ≡ count_below (4 * get_or li k 0 + 4) (visible t p s)
    rank_next k h = none_between (get_or li k 0) (get_or li (suc k) 0) (L.rises k (suc k) (omega arith) h) (λ e a b. between k e h a b)

    -- and none comes after the last cell's
    rank_last : (k : ℕ) → suc k ≡ size → count_below (4 * n) (visible t p s) ≡ count_below (4 * get_or li k 0 + 4) (visible t p s)
    rank_last k h =
        none_between (get_or li k 0) n (L.below k (omega arith))
        (λ e a b. after_last e (omega arith) (subst (λ j. get_or li j 0 < e) (omega arith) a))

    rank_empty : size ≡ 0 → count_below (4 * n) (visible t p s) ≡ 0
    rank_empty z = count_none (4 * n) (visible t p s) (λ f l. none_visible f (none_listed z (cell_of f)))

    -- the first k listed cells are ranked, and so many new cells come before the next
    pub record RankedTo (k made : ℕ) (nu : List ℕ) : Type 0 where
      pub made_is : made ≡ count_below (4 * cond (ltb k size) (get_or li k 0) n) (visible t p s)
      pub ranks : (j : ℕ) → j < k → get_or nu (get_or li j 0) 0 ≡ count_below (4 * get_or li j 0) (visible t p s)

    pub ranked_none : (nu : List ℕ) → RankedTo 0 0 nu
    ranked_none nu = record { made_is = go (ℕ_discrete size 0); ranks = λ j h. absurd (omega arith) }
      where
        go : Dec (size ≡ 0) → 0 ≡ count_below (4 * cond (ltb 0 size) (get_or li 0 0) n) (visible t p s)
        go (yes e) = rw (le-ltb 0 size (omega arith)) (sym (rank_empty e))
        go (no d) = rw (lt-ltb 0 size (omega arith)) (sym (rank_first (omega arith)))

    pub ranked_more : {k made made' : ℕ} {nu nu' : List ℕ} (code : ℕ) → RankedTo k made nu → k < size → get_or li k 0 < length nu → code ≡ faces_code t p s (get_or li k 0) →
        nu' ≡ set nu (get_or li k 0) made → made' ≡ made + count_below 4 (bit_set code) → RankedTo (k + 1) made' nu'
    ranked_more {k} {made} {made'} {nu} {nu'} code R h long is e q = record {
      made_is = q ∙ (ap (λ m. m + count_below 4 (bit_set code)) first ∙ (sym (count_cell t p s c 4 (omega arith) code is) ∙ next (dec_lt (k + 1) size)));
      ranks = below_more (λ j. get_or nu' (get_or li j 0) 0 ≡ count_below (4 * get_or li j 0) (visible t p s)) k
          (λ j l. ap (λ x. get_or x (get_or li j 0) 0) e ∙ (get_or-set_other nu c (get_or li j 0) made 0 (λ z. absurd (omega (arith, L.rises j k l h))) ∙ R.ranks j l))
          (ap (λ x. get_or x c 0) e ∙ (get_or-set_same nu c made 0 long ∙ first));
    }
      where
        c : ℕ
        c = get_or li k 0

        first : made ≡ count_below (4 * get_or li k 0) (visible t p s)
        first = R.made_is ∙ rw (lt-ltb k size h)

        next : Dec (k + 1 < size) → count_below (4 * get_or li k 0 + 4) (visible t p s) ≡ count_below (4 * cond (ltb (k + 1) size) (get_or li (k + 1) 0) n) (visible t p s)
        next (yes l) = rw (lt-ltb (k + 1) size l, add-one k) (sym (rank_next k (omega arith)))
        next (no l) = rw (le-ltb (k + 1) size (omega arith)) (sym (rank_last k (omega arith)))

    pub ranked_all : {k made : ℕ} {nu : List ℕ} → RankedTo k made nu → size ≤ k → (made ≡ made_count t n p s) × Ranked t n p s nu
    unfolding made_count
    ranked_all {k} {made} {nu} R h = (R.made_is ∙ rw (le-ltb k size h), λ c e. go c (L.all c e))
      where
        go : (c : ℕ) → (j : ℕ) × (j < size) × (get_or li j 0 ≡ c) → get_or nu c 0 ≡ count_below (4 * c) (visible t p s)
        go c (j, l, e) = subst (λ x. get_or nu x 0 ≡ count_below (4 * x) (visible t p s)) e (R.ranks j (omega arith))

-- a listed cell's code
pub coded : (t : Tables) (n : ℕ) (p : Position) (st fa : List ℕ) {li : List ℕ} {size : ℕ} → Inspected t n p (set_of n st) st fa → Rising n (set_of n st) li size →
    (k : ℕ) → k < size → get_or fa (get_or li k 0) 0 ≡ faces_code t p (set_of n st) (get_or li k 0)
coded t n p st fa {li} I L k h = I (get_or li k 0) (L.below k h) (sym (set_at n st (get_or li k 0) (L.below k h)) ∙ L.held k h)

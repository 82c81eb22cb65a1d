-- The cell that comes first of those that hold a position, found cell by cell; the order of keys is that of sorted corners.
use Prim.Native.Nat.{ℕ, zero, suc, ◌+◌, ◌≤◌, ◌<◌}
use mathlib.Core.Bool.{Bool, true, false, not, ◌&&◌, cond}
use mathlib.Core.Logic.{◌⊎◌, inl, inr}
use mathlib.Core.Path.{◌≡◌, refl, sym, ap, ap₂, ◌∙◌, subst}
use mathlib.Core.List.{List, []}
use native.Mathlib.Omega.{arith}
use borrow.Author.Tests.{ltb-true, lt-ltb}
use lib.Dec.{ltb}
use lib.ListN.{length, get_or}
use Rattle.arith.specs.Table.{fill, tabulate, any_below}
use Rattle.arith.proofs.Flags.{split, clash, and_left, and_right, and_intro, below_four, fails}
use Rattle.arith.proofs.Tables.{Found, any_found, any_intro, below_more, first_is, first_none, first≤, tabulate_cong}
use Rattle.geometry.specs.declared.Position.{Position}
use Rattle.mesh.specs.Tables.{Tables, corner, IsCell, tables}
use Rattle.mesh.specs.Inner.{four_at, Solid}
use Rattle.mesh.proofs.Live.{cell_same}
use Rattle.mesh.proofs.Numbers.{four_corner}
use Rattle.locate.specs.declared.Candidate.{Candidate}
use Rattle.locate.specs.Order.{insert_sorted, sorted, lex_before}
use Rattle.locate.specs.Locate.{holds, sorted_corners, earlier_holder, first_holder}
use Rattle.locate.specs.Inner.{digits, above_keys, key_of, earlier}
use Rattle.locate.proofs.Codes.{holder_cell}
use Rattle.locate.proofs.Order.{before_irrefl, before_trans, before_later, AtMost, sorted_mono, Has, sorted_has, Four, four, Small, digits_order, digits<}

-- ---- sorted corners

module _ (t : Tables) (c : ℕ) where
  pub corners_length : length (sorted_corners t c) ≡ 4
  unfolding sorted_corners sorted insert_sorted tabulate fill
  corners_length = refl

  corners_four : Four (sorted_corners t c)
  unfolding sorted_corners sorted insert_sorted tabulate fill
  corners_four = four _ _ _ _

  -- they are just the cell's corners
  corners_have : (i : ℕ) → i < 4 → Has (corner t c i) (sorted_corners t c)
  unfolding sorted_corners tabulate fill
  corners_have i h = (sorted_has (corner t c i) (tabulate 4 (corner t c))).1 (at i h)
    where
      at : (i : ℕ) → i < 4 → Has (corner t c i) (tabulate 4 (corner t c))
      at = below_four (λ i. Has (corner t c i) (tabulate 4 (corner t c))) (inl refl) (inr (inl refl)) (inr (inr (inl refl))) (inr (inr (inr (inl refl))))

  have_corners : (v : ℕ) → Has v (sorted_corners t c) → (j : ℕ) × (j < 4) × (corner t c j ≡ v)
  unfolding sorted_corners tabulate fill
  have_corners v h = at ((sorted_has v (tabulate 4 (corner t c))).0 h)
    where
      at : Has v (tabulate 4 (corner t c)) → (j : ℕ) × (j < 4) × (corner t c j ≡ v)
      at (inl e) = (0, omega arith, sym e)
      at (inr (inl e)) = (1, omega arith, sym e)
      at (inr (inr (inl e))) = (2, omega arith, sym e)
      at (inr (inr (inr (inl e)))) = (3, omega arith, sym e)
      at (inr (inr (inr (inr e)))) = absurd e

module _ (t t' : Tables) (c d : ℕ) where
  pub corners_cong : ((i : ℕ) → i < 4 → corner t c i ≡ corner t' d i) → sorted_corners t c ≡ sorted_corners t' d
  unfolding sorted_corners
  corners_cong e = ap sorted (tabulate_cong 4 (corner t c) (corner t' d) e)

  pub corners_mono : ((i : ℕ) → i < 4 → corner t c i ≤ corner t' d i) → AtMost (sorted_corners t c) (sorted_corners t' d)
  unfolding sorted_corners tabulate fill
  corners_mono h =
      sorted_mono (AtMost.more (h 0 (omega arith)) (AtMost.more (h 1 (omega arith)) (AtMost.more (h 2 (omega arith)) (AtMost.more (h 3 (omega arith)) AtMost.ends))))

  -- cells with one list of sorted corners have the same corners
  pub corners_same : sorted_corners t c ≡ sorted_corners t' d → (i : ℕ) → i < 4 → (j : ℕ) × (j < 4) × (corner t' d j ≡ corner t c i)
  corners_same e i h = have_corners t' d (corner t c i) (subst (Has (corner t c i)) e (corners_have t c i h))

  pub corners_below : sorted_corners t c ≡ sorted_corners t' d → (v : ℕ) → ((j : ℕ) → j < 4 → corner t' d j < v) → (i : ℕ) → i < 4 → corner t c i < v
  corners_below e v each i h = let j = corners_same e i h in subst (λ x. x < v) j.2 (each j.0 j.1)

-- ---- cell by cell

module _ (t : Tables) (p : Position) where
  abbrev corners : ℕ → List ℕ
  corners c = sorted_corners t c

  -- none of c cells holds p
  abbrev pub NoneHolds : ℕ → Type 0
  NoneHolds c = (k : ℕ) → k < c → holds t p k ≡ false

  -- of c cells, b holds p, and no cell that does comes before it; of those with equal corners it has the lowest number
  pub record IsFirst (c b : ℕ) : Type 0 where
    pub cell< : b < c
    pub holding : holds t p b ≡ true
    pub first : (k : ℕ) → k < c → holds t p k ≡ true → lex_before (sorted_corners t k) (sorted_corners t b) ≡ false
    pub lowest : (k : ℕ) → k < b → holds t p k ≡ true → lex_before (sorted_corners t b) (sorted_corners t k) ≡ true

  module _ (c : ℕ) where
    none_more : NoneHolds c → holds t p c ≡ false → NoneHolds (c + 1)
    none_more none e = below_more (λ k. holds t p k ≡ false) c none e

    first_more : (b : ℕ) → IsFirst c b → (holds t p c ≡ true → lex_before (corners c) (corners b) ≡ false) → IsFirst (c + 1) b
    first_more b l new = record {
      cell< = omega (arith, l.cell<);
      holding = l.holding;
      first = below_more (λ k. holds t p k ≡ true → lex_before (corners k) (corners b) ≡ false) c l.first new;
      lowest = l.lowest;
    }

    first_new : holds t p c ≡ true → ((k : ℕ) → k < c → holds t p k ≡ true → lex_before (corners c) (corners k) ≡ true) → IsFirst (c + 1) c
    first_new e before = record {
      cell< = omega arith;
      holding = e;
      first = below_more (λ k. holds t p k ≡ true → lex_before (corners k) (corners c) ≡ false) c
          (λ k h f. fails (lex_before (corners k) (corners c)) (λ b. clash (before_trans (corners k) (corners c) (corners k) b (before k h f)) (before_irrefl (corners k))))
          (λ f. before_irrefl (corners c));
      lowest = before;
    }

    first_alone : holds t p c ≡ true → NoneHolds c → IsFirst (c + 1) c
    first_alone e none = first_new e (λ k h f. clash f (none k h))

    first_before : (b : ℕ) → IsFirst c b → holds t p c ≡ true → lex_before (corners c) (corners b) ≡ true → IsFirst (c + 1) c
    first_before b l e f =
        first_new e (λ k h g. before_later (corners b) (corners c) (corners k) (corners_length t c ∙ sym (corners_length t k)) f (l.first k h g))

  -- of any number of cells one is first, or none holds p
  pub first_or_none : (n : ℕ) → ((b : ℕ) × IsFirst n b) ⊎ NoneHolds n
  first_or_none zero = inr (λ k h. absurd (omega arith))
  first_or_none (suc n) = go (first_or_none n) (split (holds t p n))
    where
      next : {b : ℕ} → IsFirst (n + 1) b → IsFirst (suc n) b
      next {b} l = subst (λ m. IsFirst m b) (omega arith) l

      go : ((b : ℕ) × IsFirst n b) ⊎ NoneHolds n → (holds t p n ≡ true) ⊎ (holds t p n ≡ false) → ((b : ℕ) × IsFirst (suc n) b) ⊎ NoneHolds (suc n)
      go (inl (b, l)) (inr e) = inl (b, next (first_more n b l (λ h. clash h e)))
      go (inr none) (inl e) = inl (n, next (first_alone n e none))
      go (inr none) (inr e) = inr (subst NoneHolds (omega arith) (none_more n none e))
      go (inl (b, l)) (inl e) = inl (by (split (lex_before (corners n) (corners b))))
        where
          by : (lex_before (corners n) (corners b) ≡ true) ⊎ (lex_before (corners n) (corners b) ≡ false) → (d : ℕ) × IsFirst (suc n) d
          by (inl f) = (n, next (first_before n b l e f))
          by (inr f) = (b, next (first_more n b l (λ h. f)))

  -- ---- the definition

  module _ (n : ℕ) where
    abbrev test : ℕ → Bool
    test c = holds t p c && not (any_below n (earlier_holder t p c))

    first_holder_is : (b : ℕ) → IsFirst n b → first_holder t n p ≡ b
    unfolding first_holder earlier_holder
    first_holder_is b l = first_is n test b l.cell< (and_intro l.holding (rw none)) (λ k h. lower k h (split (holds t p k)))
      where
        none : any_below n (earlier_holder t p b) ≡ false
        none = fails (any_below n (earlier_holder t p b)) (λ e. by (any_found n (earlier_holder t p b) e))
          where
            by : Found n (earlier_holder t p b) → ⊥
            by r =
                let held = holds t p r.at in
                let before = lex_before (corners r.at) (corners b) in
                clash (and_right held before r.passes) (l.first r.at r.below (and_left held before r.passes))

        lower : (k : ℕ) → k < b → (holds t p k ≡ true) ⊎ (holds t p k ≡ false) → test k ≡ false
        lower k h (inr e) = rw e
        lower k h (inl e) = rw (e, any_intro n (earlier_holder t p k) b l.cell< (and_intro l.holding (l.lowest k h e)))

    pub none_is : NoneHolds n → first_holder t n p ≡ n
    unfolding first_holder
    none_is none = first_none n test (λ k h. rw (none k h))

    pub holder≤ : first_holder t n p ≤ n
    unfolding first_holder
    holder≤ = first≤ n test

    -- where some cell holds p, the definition's is first
    pub holder_is_first : (c : ℕ) → c < n → holds t p c ≡ true → IsFirst n (first_holder t n p)
    holder_is_first c h e = go (first_or_none n)
      where
        go : ((b : ℕ) × IsFirst n b) ⊎ NoneHolds n → IsFirst n (first_holder t n p)
        go (inl (b, l)) = subst (IsFirst n) (sym (first_holder_is b l)) l
        go (inr none) = clash e (none c h)

-- ---- keys

-- the key of cell c
abbrev cell_key : Tables → ℕ → ℕ
cell_key t c = digits (sorted_corners t c)

module _ (t : Tables) (n : ℕ) (small : (c i : ℕ) → IsCell t n c → i < 4 → corner t c i < 1024) where
  small_corners : (c : ℕ) → IsCell t n c → Small (sorted_corners t c)
  small_corners c l v h = let j = have_corners t c v h in omega (arith, small c j.0 l j.1, j.2)

  -- THE ORDER OF KEYS IS THAT OF SORTED CORNERS
  key_order : (c d : ℕ) → IsCell t n c → IsCell t n d → lex_before (sorted_corners t c) (sorted_corners t d) ≡ ltb (cell_key t c) (cell_key t d)
  key_order c d lc ld = digits_order (corners_four t c) (corners_four t d) (small_corners c lc) (small_corners d ld)

  key< : (c : ℕ) → IsCell t n c → cell_key t c < above_keys
  key< c l = digits< (corners_four t c) (small_corners c l)

-- ---- the candidate

module _ (k : List ℕ) (c : ℕ) (b : Candidate) {key : ℕ} (e : key ≡ key_of k) where
  pub earlier_new : key < b.key → record { cell = c; key = key } ≡ earlier k c b
  unfolding earlier
  earlier_new h = rw (lt-ltb (key_of k) b.key (omega (arith, e))) (ap (λ x. record { cell = c; key = x }) e)

  pub earlier_old : b.key ≤ key → b ≡ earlier k c b
  unfolding earlier
  earlier_old h = rw (fails (ltb (key_of k) b.key) (λ l. omega (arith, e, ltb-true (key_of k) b.key l)))

-- after c of n cells: the first that holds p, with its key; n and a number above all keys where none does
abbrev pub CandidateAfter : Tables → Position → ℕ → ℕ → Candidate → Type 0
CandidateAfter t p n c b = (IsFirst t p c b.cell × (b.key ≡ cell_key t b.cell)) ⊎ (NoneHolds t p c × ((b.cell ≡ n) × (b.key ≡ above_keys)))

module _ (t : Tables) (p : Position) (n : ℕ) where
  pub candidate_none : CandidateAfter t p n 0 record { cell = n; key = above_keys }
  candidate_none = inr ((λ k h. absurd (omega arith)), (refl, refl))

  pub candidate_more : (c : ℕ) {b : Candidate} → CandidateAfter t p n c b → holds t p c ≡ false → CandidateAfter t p n (c + 1) b
  candidate_more c {b} (inl l) e = inl (first_more t p c b.cell l.0 (λ h. clash h e), l.1)
  candidate_more c (inr l) e = inr (none_more t p c l.0 e, l.1)

  pub candidate_is : {c : ℕ} {b : Candidate} → CandidateAfter t p n c b → c ≡ n → b.cell ≡ first_holder t n p
  candidate_is {b} (inl l) e = sym (first_holder_is t p n b.cell (subst (λ c. IsFirst t p c b.cell) e l.0))
  candidate_is (inr l) e = l.1.0 ∙ sym (none_is t p n (subst (NoneHolds t p) e l.0))

module _ (ps cs : List ℕ) (np n : ℕ) (S : Solid ps cs np n) (c : ℕ) (c< : c < n) {k : List ℕ} (ek : k ≡ four_at cs c) where
  abbrev t : Tables
  t = tables ps cs []

  small : (c i : ℕ) → IsCell t n c → i < 4 → corner t c i < 1024
  unfolding corner
  small c i l h = omega (arith, S.below c i (cell_same (λ i l. refl) l) h, S.placed.points_few)

  key_is : key_of k ≡ cell_key t c
  unfolding key_of sorted_corners
  key_is = ap key_of ek ∙ ap (λ l. digits (sorted l)) (tabulate_cong 4 (λ i. get_or (four_at cs c) i 0) (corner t c) (λ i h. four_corner t c i h))

  pub candidate_earlier : (p : Position) {b : Candidate} → CandidateAfter t p n c b → holds t p c ≡ true → CandidateAfter t p n (c + 1) (earlier k c b)
  unfolding earlier
  candidate_earlier p {b} l e = go l (split (ltb (key_of k) b.key))
    where
      cell : IsCell t n c
      cell = holder_cell t p c< e

      first_cell : IsFirst t p c b.cell → IsCell t n b.cell
      first_cell l = holder_cell t p (omega (arith, l.cell<)) l.holding

      -- the cell comes before the candidate just where its key is lower
      by_key : {y : Bool} → IsCell t n b.cell → b.key ≡ cell_key t b.cell → ltb (key_of k) b.key ≡ y → lex_before (sorted_corners t c) (sorted_corners t b.cell) ≡ y
      by_key h q f = key_order t n small c b.cell cell h ∙ (ap₂ ltb (sym key_is) (sym q) ∙ f)

      go : CandidateAfter t p n c b → (ltb (key_of k) b.key ≡ true) ⊎ (ltb (key_of k) b.key ≡ false) →
          CandidateAfter t p n (c + 1) (cond (ltb (key_of k) b.key) record { cell = c; key = key_of k } b)
      go (inl (l, q)) (inl f) = rw f (inl (first_before t p c b.cell l e (by_key (first_cell l) q f), key_is))
      go (inl (l, q)) (inr f) = rw f (inl (first_more t p c b.cell l (λ h. by_key (first_cell l) q f), q))
      go (inr (none, q)) (inl f) = rw f (inl (first_alone t p c e none, key_is))
      go (inr (none, q)) (inr f) = clash (lt-ltb (key_of k) b.key (omega (arith, key_is, q.1, key< t n small c cell))) f

-- A cell joins: the list, the states and the least T stay right. A cell that answers no is noted.
use Prim.Native.Nat.{ℕ, suc, ◌+◌, ◌≤◌, ◌<◌}
use mathlib.Core.Bool.{Bool, true, false, not, cond, ◌&&◌, ◌||◌}
use mathlib.Core.List.{List}
use mathlib.Core.Logic.{◌≢◌, ◌⊎◌, inl, inr}
use mathlib.Core.Path.{◌≡◌, refl, sym, ap, ◌∙◌, subst}
use native.Mathlib.Omega.{arith}
use native.Mathlib.Decide.{ℕ_discrete, dec_lt}
use lib.Dec.{eqb, ltb}
use lib.ListN.{length, get_or, set, length-set}
use lib.Seq.{get_or-set_same, get_or-set_other}
use lib.IntN.{ℤ}
use lib.Signed.{lt_z, ◌<ℤ◌}
use lib.Ieee.{Float, lt}
use borrow.Author.Tests.{eq-eqb, ne_eqb, lt-ltb, le-ltb, ltb-false}
use Rattle.arith.specs.Table.{count_below}
use Rattle.arith.proofs.Flags.{split, clash, fails}
use Rattle.arith.proofs.Counting.{count_added, count_le}
use Rattle.arith.proofs.Order.{lt_z_true, lt_lt_z, lt_z_no_le_z, le_z_true, <-≤-trans, arithℤ}
use Rattle.rounding.specs.Whole.{IsInt}
use Rattle.rounding.proofs.Whole.{lt_int}
use Rattle.geometry.specs.declared.Position.{Position}
use Rattle.mesh.specs.Tables.{Tables, live, IsCell}
use Rattle.cavity.specs.declared.Gathered.{Gathered}
use Rattle.cavity.specs.Answers.{Answers, says_yes}
use Rattle.cavity.specs.Cavity.{in_set}
use Rattle.cavity.specs.Inner.{inside, Enumerated}
use Rattle.cavity.specs.Inner.Growth.{with_cell, Lowest, Growing, Grew, Neighbour, InsideIfYes, Unstamped, Denied}

-- ---- the least

module _ (g : Gathered) (c : ℕ) (x : Float) where
  abbrev lower : Gathered
  lower = record { size = g.size + 1; least = x; at = c }

  abbrev higher : Gathered
  higher = record { size = g.size + 1; least = g.least; at = g.at }

  pub lower_first : g.size ≡ 0 → lower ≡ with_cell g c x
  unfolding with_cell
  lower_first e = rw (eq-eqb g.size 0 e)

  pub lower_below : g.size ≢ 0 → lt x g.least ≡ true → lower ≡ with_cell g c x
  unfolding with_cell
  lower_below d e = rw (ne_eqb g.size 0 d, e)

  pub higher_above : g.size ≢ 0 → lt x g.least ≡ false → lt g.least x ≡ true → higher ≡ with_cell g c x
  unfolding with_cell
  higher_above d e h = rw (ne_eqb g.size 0 d, e, h)

  pub lower_number : g.size ≢ 0 → lt x g.least ≡ false → lt g.least x ≡ false → c < g.at → lower ≡ with_cell g c x
  unfolding with_cell
  lower_number d e h l = rw (ne_eqb g.size 0 d, e, h, lt-ltb c g.at l)

  pub higher_number : g.size ≢ 0 → lt x g.least ≡ false → lt g.least x ≡ false → g.at ≤ c → higher ≡ with_cell g c x
  unfolding with_cell
  higher_number d e h l = rw (ne_eqb g.size 0 d, e, h, le-ltb c g.at l)

pub with_size : (g : Gathered) (c : ℕ) (x : Float) → (with_cell g c x).size ≡ g.size + 1
unfolding with_cell
with_size g c x = go (eqb g.size 0 || (lt x g.least || (not (lt g.least x) && ltb c g.at)))
  where
    go : (b : Bool) → (cond {A = Gathered} b record { size = g.size + 1; least = x; at = c } record { size = g.size + 1; least = g.least; at = g.at }).size ≡ g.size + 1
    go true = refl
    go false = refl

-- the values of cells are whole numbers
abbrev pub Values : (ℕ → Float) → Tables → ℕ → Type 0
Values T t n = (c : ℕ) → IsCell t n c → (z : ℤ) × IsInt (T c) z

module _ {T : ℕ → Float} {t : Tables} {n : ℕ} (W : Values T t n) where
  order : (a b : ℕ) (ha : IsCell t n a) (hb : IsCell t n b) → lt (T a) (T b) ≡ lt_z (W a ha).0 (W b hb).0
  order a b ha hb = lt_int (W a ha).1 (W b hb).1

  -- a < b, b ≤ c
  below_then : (a b c : ℕ) → IsCell t n a → IsCell t n b → IsCell t n c → lt (T a) (T b) ≡ true → lt (T c) (T b) ≡ false → lt (T a) (T c) ≡ true
  below_then a b c ha hb hc e f =
      order a c ha hc ∙
      lt_lt_z (<-≤-trans (lt_z_true (W a ha).0 (W b hb).0 (sym (order a b ha hb) ∙ e))
      (le_z_true (W b hb).0 (W c hc).0 (lt_z_no_le_z (W b hb).0 (W c hc).0 (sym (order c b hc hb) ∙ f))))

  not_both : (a b : ℕ) → IsCell t n a → IsCell t n b → lt (T a) (T b) ≡ true → lt (T b) (T a) ≡ false
  not_both a b ha hb e = fails (lt (T b) (T a)) (λ h. no (W a ha).0 (W b hb).0 (lt_z_true (W a ha).0 (W b hb).0 (sym (order a b ha hb) ∙ e)) (lt_z_true (W b hb).0 (W a ha).0 (sym (order b a hb ha) ∙ h)))
    where
      no : (x y : ℤ) → x <ℤ y → y <ℤ x → ⊥
      no x y h k = omega (arithℤ, h, k)

-- ---- the states

pub state_in : {x : ℕ} → x ≢ 0 → ltb 0 x ≡ true
state_in {x} d = lt-ltb 0 x (omega arith)

pub state_out : {x : ℕ} → x ≡ 0 → ltb 0 x ≡ false
state_out {x} e = le-ltb 0 x (omega arith)

pub none_inside : (st : List ℕ) → ((c : ℕ) → inside st c ≡ true → ⊥) → (c : ℕ) → get_or st c 0 ≡ 0
none_inside st h c = omega (arith, ltb-false 0 (get_or st c 0) (fails (inside st c) (h c)))

module _ (st : List ℕ) (c kind : ℕ) (c< : c < length st) (above : 0 < kind) where
  pub joined_in : inside (set st c kind) c ≡ true
  joined_in = ap (ltb 0) (get_or-set_same st c kind 0 c<) ∙ lt-ltb 0 kind above

  pub joined_other : (k : ℕ) → k ≢ c → inside (set st c kind) k ≡ inside st k
  joined_other k d = ap (ltb 0) (get_or-set_other st c k kind 0 d)

  joined_keeps : (k : ℕ) → inside st k ≡ true → inside (set st c kind) k ≡ true
  joined_keeps k e = go (ℕ_discrete k c)
    where
      go : Dec (k ≡ c) → inside (set st c kind) k ≡ true
      go (yes q) = ap (inside (set st c kind)) q ∙ joined_in
      go (no d) = joined_other k d ∙ e

  joined_cases : (k : ℕ) → inside (set st c kind) k ≡ true → (k ≡ c) ⊎ ((k ≢ c) × (inside st k ≡ true))
  joined_cases k e = go (ℕ_discrete k c)
    where
      go : Dec (k ≡ c) → (k ≡ c) ⊎ ((k ≢ c) × (inside st k ≡ true))
      go (yes q) = inl q
      go (no d) = inr (d, sym (joined_other k d) ∙ e)

-- ---- a cell joins

pub size≤ : {t : Tables} {n : ℕ} {st li : List ℕ} {size : ℕ} → Enumerated t n st li size → size ≤ n
size≤ {t} {n} {st} L = omega (arith, L.counted, count_le n (inside st))

pub listed_cell : {t : Tables} {n : ℕ} {st li : List ℕ} {size : ℕ} → Enumerated t n st li size → (k : ℕ) → k < size → IsCell t n (get_or li k 0)
listed_cell {t} {n} {st} {li} L k h = record { below = L.below k h; lives = L.alive (get_or li k 0) (L.below k h) (L.listed k h) }

module _ {t : Tables} {T : ℕ → Float} {n : ℕ} {b : List Bool} {st li : List ℕ} {g : Gathered} (G : Growing t T n b st li g)
    (n≤ : n ≤ 4096) (c : ℕ) (c< : c < n) (living : live t c ≡ true) (out : inside st c ≡ false) where
  L : Enumerated t n st li g.size
  L = G.list

  mine : IsCell t n c
  mine = record { below = c<; lives = living }

  cell : (k : ℕ) → k < n → inside st k ≡ true → IsCell t n k
  cell k h e = record { below = h; lives = L.alive k h e }

  in_state : c < length st
  in_state = omega (arith, L.states)

  more : (kind : ℕ) → 0 < kind → count_below n (inside (set st c kind)) ≡ suc (count_below n (inside st))
  more kind h = count_added n (inside st) (inside (set st c kind)) c c< out (joined_in st c kind in_state h) (λ k l d. joined_other st c kind in_state h k d)

  -- there is room in the list
  pub size< : g.size < n
  size< = omega (arith, more 1 (omega arith), L.counted, count_le n (inside (set st c 1)))

  module _ (kind : ℕ) (kind_is : kind ≡ cond (in_set b c) 2 1) where
    above : 0 < kind
    above = go (in_set b c) kind_is
      where
        go : (x : Bool) → kind ≡ cond x 2 1 → 0 < kind
        go true e = omega arith
        go false e = omega arith

    abbrev st' : List ℕ
    st' = set st c kind

    abbrev li' : List ℕ
    li' = set li g.size c

    last : get_or li' g.size 0 ≡ c
    last = get_or-set_same li g.size c 0 (omega (arith, L.entries, size<))

    old : (k : ℕ) → k < g.size → get_or li' k 0 ≡ get_or li k 0
    old k h = get_or-set_other li g.size k c 0 (omega arith)

    -- an entry of the longer list
    each : (P : ℕ → Type 0) → ((k : ℕ) → k < g.size → P (get_or li k 0)) → P c → (k : ℕ) → k < g.size + 1 → P (get_or li' k 0)
    each P olds new k h = go (ℕ_discrete k g.size)
      where
        go : Dec (k ≡ g.size) → P (get_or li' k 0)
        go (yes q) = subst P (sym (ap (λ j. get_or li' j 0) q ∙ last)) new
        go (no d) = subst P (sym (old k (omega arith))) (olds k (omega arith))

    apart : (i k : ℕ) → i < k → k < g.size + 1 → get_or li' i 0 ≢ get_or li' k 0
    apart i k l h =
        each (λ v. get_or li i 0 ≢ v → get_or li' i 0 ≢ v) (λ j m d e. d (sym (old i (omega arith)) ∙ e)) (λ d e. d (sym (old i (omega arith)) ∙ e)) k h (by (ℕ_discrete k g.size))
      where
        by : Dec (k ≡ g.size) → get_or li i 0 ≢ get_or li' k 0
        by (yes q) e = clash (ap (inside st) (sym (e ∙ (ap (λ j. get_or li' j 0) q ∙ last))) ∙ L.listed i (omega arith)) out
        by (no d) e = L.apart i k l (omega arith) (e ∙ old k (omega arith))

    all : (k : ℕ) → inside st' k ≡ true → (j : ℕ) × (j < g.size + 1) × (get_or li' j 0 ≡ k)
    all k e = go (joined_cases st c kind in_state above k e)
      where
        go : (k ≡ c) ⊎ ((k ≢ c) × (inside st k ≡ true)) → (j : ℕ) × (j < g.size + 1) × (get_or li' j 0 ≡ k)
        go (inl q) = (g.size, omega arith, last ∙ sym q)
        go (inr q) = let f = L.all k q.1 in (f.0, omega (arith, f.1), old f.0 f.1 ∙ f.2)

    enumerated_more : Enumerated t n st' li' (g.size + 1)
    enumerated_more = record {
      states = length-set st c kind ∙ L.states;
      entries = length-set li g.size c ∙ L.entries;
      counted = more kind above ∙ omega (arith, L.counted);
      below = each (λ v. v < n) L.below c<;
      listed = each (λ v. inside st' v ≡ true) (λ k h. joined_keeps st c kind in_state above (get_or li k 0) (L.listed k h)) (joined_in st c kind in_state above);
      alive = λ k h e. alive k h (joined_cases st c kind in_state above k e);
      apart = apart;
      all = all;
    }
      where
        alive : (k : ℕ) → k < n → (k ≡ c) ⊎ ((k ≢ c) × (inside st k ≡ true)) → live t k ≡ true
        alive k h (inl q) = ap (live t) q ∙ living
        alive k h (inr q) = L.alive k h q.1

    states_more : (k : ℕ) → k < n → inside st' k ≡ true → get_or st' k 0 ≡ cond (in_set b k) 2 1
    states_more k h e = go (joined_cases st c kind in_state above k e)
      where
        go : (k ≡ c) ⊎ ((k ≢ c) × (inside st k ≡ true)) → get_or st' k 0 ≡ cond (in_set b k) 2 1
        go (inl q) = ap (λ j. get_or st' j 0) q ∙ (get_or-set_same st c kind 0 in_state ∙ (kind_is ∙ ap (λ j. cond (in_set b j) 2 1) (sym q)))
        go (inr q) = get_or-set_other st c k kind 0 q.0 ∙ G.states k h q.1

    module _ (W : Values T t n) where
      -- the new cell is the lowest, or the old one stays
      new_lowest : ((k : ℕ) → k < n → inside st k ≡ true → lt (T k) (T c) ≡ false) → ((k : ℕ) → k < c → inside st k ≡ true → lt (T c) (T k) ≡ true) →
          Lowest T n st' record { size = g.size + 1; least = T c; at = c }
      new_lowest low first = record {
        at< = c<;
        at_inside = joined_in st c kind in_state above;
        is = refl;
        none_below = λ k h e. one k h (joined_cases st c kind in_state above k e);
        first = λ k h e. two k h (joined_cases st c kind in_state above k e);
      }
        where
          self : lt (T c) (T c) ≡ false
          self = fails (lt (T c) (T c)) (λ e. clash e (not_both W c c mine mine e))

          one : (k : ℕ) → k < n → (k ≡ c) ⊎ ((k ≢ c) × (inside st k ≡ true)) → lt (T k) (T c) ≡ false
          one k h (inl q) = ap (λ j. lt (T j) (T c)) q ∙ self
          one k h (inr q) = low k h q.1

          two : (k : ℕ) → k < c → (k ≡ c) ⊎ ((k ≢ c) × (inside st k ≡ true)) → lt (T c) (T k) ≡ true
          two k h (inl q) = absurd (omega (arith, q))
          two k h (inr q) = first k h q.1

      old_lowest : Lowest T n st g → lt (T c) (T g.at) ≡ false → (c < g.at → lt (T g.at) (T c) ≡ true) →
          Lowest T n st' record { size = g.size + 1; least = g.least; at = g.at }
      old_lowest O low first = record {
        at< = O.at<;
        at_inside = joined_keeps st c kind in_state above g.at O.at_inside;
        is = O.is;
        none_below = λ k h e. one k h (joined_cases st c kind in_state above k e);
        first = λ k h e. two k h (joined_cases st c kind in_state above k e);
      }
        where
          one : (k : ℕ) → k < n → (k ≡ c) ⊎ ((k ≢ c) × (inside st k ≡ true)) → lt (T k) (T g.at) ≡ false
          one k h (inl q) = ap (λ j. lt (T j) (T g.at)) q ∙ low
          one k h (inr q) = O.none_below k h q.1

          two : (k : ℕ) → k < g.at → (k ≡ c) ⊎ ((k ≢ c) × (inside st k ≡ true)) → lt (T g.at) (T k) ≡ true
          two k h (inl q) = ap (λ j. lt (T g.at) (T j)) q ∙ first (omega (arith, q))
          two k h (inr q) = O.first k h q.1

      no_cell : g.size ≡ 0 → (k : ℕ) → inside st k ≡ true → ⊥
      no_cell e k i = let f = L.all k i in omega (arith, f.1, e)

      lowest_more : Lowest T n st' (with_cell g c (T c))
      lowest_more = go (ℕ_discrete g.size 0)
        where
          go : Dec (g.size ≡ 0) → Lowest T n st' (with_cell g c (T c))
          go (yes e) =
              subst (Lowest T n st') (lower_first g c (T c) e)
              (new_lowest (λ k h i. absurd (no_cell e k i)) (λ k h i. absurd (no_cell e k i)))
          go (no d) = by (split (lt (T c) g.least)) (split (lt g.least (T c)))
            where
              O : Lowest T n st g
              O = G.lowest (omega arith)

              a : ℕ
              a = g.at

              low_cell : IsCell t n a
              low_cell = cell a O.at< O.at_inside

              vs : {x : Bool} → lt (T c) g.least ≡ x → lt (T c) (T a) ≡ x
              vs e = ap (lt (T c)) (sym O.is) ∙ e

              sv : {x : Bool} → lt g.least (T c) ≡ x → lt (T a) (T c) ≡ x
              sv e = ap (λ y. lt y (T c)) (sym O.is) ∙ e

              by : (lt (T c) g.least ≡ true) ⊎ (lt (T c) g.least ≡ false) → (lt g.least (T c) ≡ true) ⊎ (lt g.least (T c) ≡ false) →
                  Lowest T n st' (with_cell g c (T c))
              by (inl e) f =
                  subst (Lowest T n st') (lower_below g c (T c) d e)
                  (new_lowest (λ k h i. not_both W c k mine (cell k h i) (below_then W c a k mine low_cell (cell k h i) (vs e) (O.none_below k h i)))
                  (λ k h i. below_then W c a k mine low_cell (cell k (omega arith) i) (vs e) (O.none_below k (omega arith) i)))
              by (inr e) (inl f) = subst (Lowest T n st') (higher_above g c (T c) d e f) (old_lowest O (vs e) (λ l. sv f))
              by (inr e) (inr f) = number (dec_lt c a)
                where
                  -- both ways: equal values
                  level : (k : ℕ) → k < n → inside st k ≡ true → lt (T k) (T c) ≡ false
                  level k h i = fails (lt (T k) (T c)) (λ q. clash (below_then W k c a (cell k h i) mine low_cell q (sv f)) (O.none_below k h i))

                  number : Dec (c < a) → Lowest T n st' (with_cell g c (T c))
                  number (yes l) =
                      subst (Lowest T n st') (lower_number g c (T c) d e f l)
                      (new_lowest level (λ k h i. from k (cell k (omega arith) i) (O.first k (omega arith) i)))
                    where
                      from : (k : ℕ) → IsCell t n k → lt (T a) (T k) ≡ true → lt (T c) (T k) ≡ true
                      from k h q = split_out (split (lt (T c) (T k)))
                        where
                          split_out : (lt (T c) (T k) ≡ true) ⊎ (lt (T c) (T k) ≡ false) → lt (T c) (T k) ≡ true
                          split_out (inl r) = r
                          split_out (inr r) = clash (below_then W a k c low_cell h mine q r) (sv f)
                  number (no l) = subst (Lowest T n st') (higher_number g c (T c) d e f (omega arith)) (old_lowest O (vs e) (λ m. absurd (l m)))

      pub growing_more : Growing t T n b st' li' (with_cell g c (T c))
      growing_more = record {
        list = subst (Enumerated t n st' li') (sym (with_size g c (T c))) enumerated_more;
        states = states_more;
        lowest = λ h. lowest_more;
      }

    pub grew_join : Grew n st li g.size st' li' (with_cell g c (T c)).size
    grew_join = record {
      size≤ = omega (arith, with_size g c (T c));
      same = old;
      keeps = λ k h. joined_keeps st c kind in_state above k;
    }

    pub joined_cell : inside st' c ≡ true
    joined_cell = joined_in st c kind in_state above

    -- whatever holds of the old cells and the new one
    pub joined_each : (P : ℕ → Type 0) → ((k : ℕ) → k < n → inside st k ≡ true → P k) → P c → (k : ℕ) → k < n → inside st' k ≡ true → P k
    joined_each P olds new k h e = go (joined_cases st c kind in_state above k e)
      where
        go : (k ≡ c) ⊎ ((k ≢ c) × (inside st k ≡ true)) → P k
        go (inl q) = subst P (sym q) new
        go (inr q) = olds k h q.1

pub grew_none : {n : ℕ} {st li : List ℕ} {size : ℕ} → Grew n st li size st li size
grew_none = record { size≤ = omega arith; same = λ k h. refl; keeps = λ c h e. e }

pub grew_then : {n : ℕ} {st li st₁ li₁ st₂ li₂ : List ℕ} {size size₁ size₂ : ℕ} → Grew n st li size st₁ li₁ size₁ → Grew n st₁ li₁ size₁ st₂ li₂ size₂ →
    Grew n st li size st₂ li₂ size₂
grew_then A B = record {
  size≤ = omega (arith, A.size≤, B.size≤);
  same = λ k h. B.same k (omega (arith, A.size≤)) ∙ A.same k h;
  keeps = λ c h e. B.keeps c h (A.keeps c h e);
}

pub inside_stays : (a : Answers) (t : Tables) (p : Position) (d : ℕ) {n : ℕ} {st li st' li' : List ℕ} {size size' : ℕ} →
    Neighbour a t p n d → Grew n st li size st' li' size' → InsideIfYes a t p st d → InsideIfYes a t p st' d
inside_stays a t p d N G J real y = G.keeps d (N real).0.below (J real y)

-- ---- cells that answered no

module _ (a : Answers) (t : Tables) (p : Position) {stamp : ℕ} where
  pub none_denied : {notes : List ℕ} → Unstamped stamp notes → Denied a t p stamp notes
  none_denied U = record { long = U.long; no = λ c e. absurd (omega (arith, U.below c, e)); most = λ c. omega (arith, U.below c) }

  pub denied_more : {notes : List ℕ} → Denied a t p stamp notes → (c : ℕ) → c < 4096 → says_yes a t p c ≡ false → Denied a t p stamp (set notes c stamp)
  denied_more {notes} D c c< e = record {
    long = length-set notes c stamp ∙ D.long;
    no = λ k d. denied k d (ℕ_discrete k c);
    most = λ k. most k (ℕ_discrete k c);
  }
    where
      denied : (k : ℕ) → get_or (set notes c stamp) k 0 ≡ stamp → Dec (k ≡ c) → says_yes a t p k ≡ false
      denied k d (yes q) = ap (says_yes a t p) q ∙ e
      denied k d (no q) = D.no k (sym (get_or-set_other notes c k stamp 0 q) ∙ d)

      most : (k : ℕ) → Dec (k ≡ c) → get_or (set notes c stamp) k 0 ≤ stamp
      most k (yes q) = omega (arith, ap (λ j. get_or (set notes c stamp) j 0) q ∙ get_or-set_same notes c stamp 0 (omega (arith, D.long)))
      most k (no q) = omega (arith, get_or-set_other notes c k stamp 0 q, D.most k)

pub unstamped_later : {stamp next : ℕ} {notes : List ℕ} → Unstamped stamp notes → stamp ≤ next → Unstamped next notes
unstamped_later U h = record { long = U.long; below = λ c. omega (arith, U.below c) }

-- with a greater stamp none has answered
pub denied_unstamped : {a : Answers} {t : Tables} {p : Position} {stamp next : ℕ} {notes : List ℕ} → Denied a t p stamp notes → stamp < next → Unstamped next notes
denied_unstamped D h = record { long = D.long; below = λ c. omega (arith, D.most c) }

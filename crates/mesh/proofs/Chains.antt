-- The chain: it is one list, meets no entry twice, and the test finds just those that have every freed entry.
use Prim.Native.Nat.{ℕ, zero, suc, ◌+◌, ◌*◌, ◌-◌, ◌≤◌, ◌<◌}
use mathlib.Core.Bool.{Bool, true, false, not, ◌&&◌}
use mathlib.Core.List.{List, [], ◌∷◌}
use mathlib.Core.Logic.{◌≢◌, ◌⊎◌, inl, inr}
use mathlib.Core.Path.{◌≡◌, refl, sym, ap, ◌∙◌, subst}
use native.Mathlib.Omega.{arith}
use native.Mathlib.Decide.{ℕ_discrete}
use borrow.Author.Tests.{eq-eqb, ne_eqb, eqb-true, ltb-true, lt-ltb, not-false}
use lib.Dec.{eqb, ltb}
use lib.ListN.{length, get_or, drop, length-drop}
use Rattle.arith.specs.Table.{all_below, count_below}
use Rattle.arith.proofs.Flags.{and_left, and_right, and_intro}
use Rattle.arith.proofs.Tables.{all_at, all_intro, find}
use Rattle.arith.proofs.Counting.{count_added, count_not}
use Rattle.arith.proofs.Renumbering.{count_into}
use Rattle.mesh.specs.Tables.{Tables, none, across, freed, live}
use Rattle.mesh.specs.Chain.{Chain, end, link, Spare, Chained, freed_entry, chain_from, chain_ok}

module _ {t : Tables} where
  -- from a number there is one chain
  pub chain_one : {h : ℕ} {l l' : List ℕ} → Chain t h l → Chain t h l' → l ≡ l'
  chain_one end end = refl
  chain_one end (link d q) = absurd (d refl)
  chain_one (link d p) end = absurd (d refl)
  chain_one (link {c = c} d p) (link e q) = ap (λ l. c ∷ l) (chain_one p q)

  -- from an entry on it, it is the rest
  pub chain_drop : {h : ℕ} {l : List ℕ} → Chain t h l → (k : ℕ) → k < length l → Chain t (get_or l k 0) (drop k l)
  chain_drop end k h = absurd (omega arith)
  chain_drop (link d p) zero h = link d p
  chain_drop (link d p) (suc k) h = chain_drop p k (omega arith)

  -- so it meets no entry twice: the rest would be as long as a part of itself
  pub chain_once : {h : ℕ} {l : List ℕ} → Chain t h l → (j k : ℕ) → j < length l → k < length l → get_or l j 0 ≡ get_or l k 0 → j ≡ k
  chain_once {l = l} p j k hj hk e =
      let q : drop j l ≡ drop k l = chain_one (chain_drop p j hj) (subst (λ c. Chain t c (drop k l)) (sym e) (chain_drop p k hk)) in
      omega (arith, ap length q, length-drop j l, length-drop k l)

  -- it is the list that is read off the tables
  pub chain_from_lem : {h : ℕ} {l : List ℕ} → Chain t h l → chain_from t (length l) h ≡ l
  unfolding chain_from
  chain_from_lem end = refl
  chain_from_lem (link {c = c} d p) = ap (λ l. c ∷ l) (chain_from_lem p)

-- ---- counts

all_pass : (n : ℕ) → count_below n (λ k. true) ≡ n
unfolding count_below
all_pass zero = refl
all_pass (suc n) = omega (arith, all_pass n)

freed_is : (t : Tables) (c : ℕ) → live t c ≡ false → freed t c ≡ true
unfolding live
freed_is t c e = not-false (freed t c) e

dead_is : (t : Tables) (c : ℕ) → freed t c ≡ true → live t c ≡ false
unfolding live
dead_is t c e = ap not e

module _ {t : Tables} {n : ℕ} {ch : List ℕ} (S : Spare t n ch) where
  -- place k of the chain and the entry there
  record At (k c : ℕ) : Type 0 where
    on : k < length ch
    is : get_or ch k 0 ≡ c

  at_once : (j k c : ℕ) → At j c → At k c → j ≡ k
  at_once j k c p q = S.once j k p.on q.on (p.is ∙ sym q.is)

  -- the chain is not longer than a set of entries that has all of it
  pub not_longer : (q : ℕ → Bool) → ((k : ℕ) → k < length ch → q (get_or ch k 0) ≡ true) → length ch ≤ count_below n q
  not_longer q has =
      subst (λ x. x ≤ count_below n q) (all_pass (length ch))
      (count_into (length ch) n (λ k. true) q At (λ k h e. (get_or ch k 0, S.below k h, (has k h, record { on = h; is = refl }))) at_once)

  -- as many as there are freed ones, so all of them
  pub all_on_lem : length ch ≡ count_below n (freed t) → (c : ℕ) → c < n → live t c ≡ false → (k : ℕ) × (k < length ch) × (get_or ch k 0 ≡ c)
  all_on_lem e c h d = go (find (length ch) (λ k. get_or ch k 0 ≡ c) (λ k. get_or ch k 0 ≢ c) (λ k l. by k (ℕ_discrete (get_or ch k 0) c)))
    where
      by : (k : ℕ) → Dec (get_or ch k 0 ≡ c) → (get_or ch k 0 ≡ c) ⊎ (get_or ch k 0 ≢ c)
      by k (yes q) = inl q
      by k (no q) = inr q

      less : ℕ → Bool
      less x = freed t x && not (eqb x c)

      off : (x : ℕ) → x ≢ c → freed t x ≡ less x
      off x q = sym (rw (ne_eqb x c q) (and_true (freed t x)))
        where
          and_true : (b : Bool) → (b && true) ≡ b
          and_true true = refl
          and_true false = refl

      go : ((k : ℕ) × (k < length ch) × (get_or ch k 0 ≡ c)) ⊎ ((k : ℕ) → k < length ch → get_or ch k 0 ≢ c) → (k : ℕ) × (k < length ch) × (get_or ch k 0 ≡ c)
      go (inl r) = r
      go (inr none_is) =
          absurd (omega (
            arith,
            not_longer less (λ k l. sym (off (get_or ch k 0) (none_is k l)) ∙ freed_is t (get_or ch k 0) (S.dead k l)),
            count_added n less (freed t) c h (rw (freed_is t c d, eq-eqb c c refl)) (freed_is t c d) (λ x l q. off x q),
          ))

-- ---- the law

module _ {t : Tables} {n h : ℕ} {ch : List ℕ} (C : Chained t n h ch) where
  -- as many entries as are freed
  pub chain_counts : length ch ≡ count_below n (freed t)
  chain_counts =
      omega (
        arith,
        not_longer C.spare (freed t) (λ k l. freed_is t (get_or ch k 0) (C.spare.dead k l)),
        subst (λ x. count_below n (freed t) ≤ x) (all_pass (length ch))
            (count_into n (length ch) (freed t) (λ k. true) (λ c k. get_or ch k 0 ≡ c) (λ c l e. go c (C.all c l (dead_is t c e))) (λ c d k p q. sym p ∙ q)),
      )
    where
      go : (c : ℕ) → (k : ℕ) × (k < length ch) × (get_or ch k 0 ≡ c) → (k : ℕ) × (k < length ch) × ((true ≡ true) × (get_or ch k 0 ≡ c))
      go c (k, l, e) = (k, l, (refl, e))

  -- cells and freed entries are all that is in use
  pub cells_and_chain : count_below n (live t) + length ch ≡ n
  unfolding live
  cells_and_chain = omega (arith, chain_counts, count_not n (freed t))

-- ---- the test

freed_in : (t : Tables) (c : ℕ) → freed_entry t c ≡ true → freed t c ≡ true
unfolding freed_entry
freed_in t c e = and_left (freed t c) (all_below 3 (λ i. eqb (across t (4 * c + (i + 1))) none)) e

bare_in : (t : Tables) (c : ℕ) → freed_entry t c ≡ true → (i : ℕ) → 0 < i → i < 4 → across t (4 * c + i) ≡ none
unfolding freed_entry
bare_in t c e i a b =
    let x : i - 1 + 1 ≡ i = omega arith in
    subst (λ j. across t (4 * c + j) ≡ none) x
    (eqb-true (across t (4 * c + (i - 1 + 1))) none
    (all_at 3 (λ i. eqb (across t (4 * c + (i + 1))) none) (and_right (freed t c) (all_below 3 (λ i. eqb (across t (4 * c + (i + 1))) none)) e) (i - 1) (omega arith)))

freed_entry_lem : (t : Tables) (c : ℕ) → freed t c ≡ true → ((i : ℕ) → 0 < i → i < 4 → across t (4 * c + i) ≡ none) → freed_entry t c ≡ true
unfolding freed_entry
freed_entry_lem t c e h =
    and_intro e (all_intro 3 (λ i. eqb (across t (4 * c + (i + 1))) none) (λ i l. eq-eqb (across t (4 * c + (i + 1))) none (h (i + 1) (omega arith) (omega arith))))

pub from_length : (t : Tables) (k h : ℕ) → length (chain_from t k h) ≡ k
unfolding chain_from
from_length t zero h = refl
from_length t (suc k) h = ap suc (from_length t k (across t (4 * h)))

module _ (t : Tables) (n : ℕ) where
  -- what the test says of the first entry, and of the rest
  record Step (k h : ℕ) : Type 0 where
    below : h < n
    entry : freed_entry t h ≡ true
    rest : chain_ok t n k (across t (4 * h)) ≡ true

  step_of : (k h : ℕ) → chain_ok t n (suc k) h ≡ true → Step k h
  unfolding chain_ok
  step_of k h e =
      let r = and_right (ltb h n) (freed_entry t h && chain_ok t n k (across t (4 * h))) e in
      record {
        below = ltb-true h n (and_left (ltb h n) (freed_entry t h && chain_ok t n k (across t (4 * h))) e);
        entry = and_left (freed_entry t h) (chain_ok t n k (across t (4 * h))) r;
        rest = and_right (freed_entry t h) (chain_ok t n k (across t (4 * h))) r;
      }

  ok_path : n ≤ none → (k h : ℕ) → chain_ok t n k h ≡ true → Chain t h (chain_from t k h)
  unfolding chain_ok chain_from
  ok_path few zero h e = subst (λ x. Chain t x []) (sym (eqb-true h none e)) end
  ok_path few (suc k) h e =
      let s = step_of k h e in
      link {c = h} (λ x. absurd (omega (arith, x, s.below, few))) (ok_path few k (across t (4 * h)) s.rest)

  ok_each : (k h : ℕ) → chain_ok t n k h ≡ true → (j : ℕ) → j < length (chain_from t k h) → (get_or (chain_from t k h) j 0 < n) × (freed_entry t (get_or (chain_from t k h) j 0) ≡ true)
  unfolding chain_from
  ok_each zero h e j l = absurd (omega arith)
  ok_each (suc k) h e zero l = ((step_of k h e).below, (step_of k h e).entry)
  ok_each (suc k) h e (suc j) l = ok_each k (across t (4 * h)) (step_of k h e).rest j (omega arith)

  path_ok : {h : ℕ} {l : List ℕ} → Chain t h l → ((j : ℕ) → j < length l → (get_or l j 0 < n) × (freed_entry t (get_or l j 0) ≡ true)) → chain_ok t n (length l) h ≡ true
  unfolding chain_ok
  path_ok end each = refl
  path_ok (link {c = c} {l = l} d p) each =
      let first = each 0 (omega arith) in
      and_intro (lt-ltb c n first.0) (and_intro first.1 (path_ok p (λ j h. each (suc j) (omega arith))))

-- where k entries are freed, the test finds just the chains that have each of them one time
pub chain_of_lem : (t : Tables) (n k h : ℕ) → n ≤ none → k ≡ count_below n (freed t) → chain_ok t n k h ≡ true → Chained t n h (chain_from t k h)
chain_of_lem t n k h few counted e = record { path = path; spare = spare; all = all; bare = λ c i l d. bare c i (all c l d) }
  where
    ch : List ℕ
    ch = chain_from t k h

    path : Chain t h ch
    path = ok_path t n few k h e

    spare : Spare t n ch
    spare =
        record {
          below = λ j l. (ok_each t n k h e j l).0;
          dead = λ j l. dead_is t (get_or ch j 0) (freed_in t (get_or ch j 0) (ok_each t n k h e j l).1);
          once = chain_once path;
        }

    all : (c : ℕ) → c < n → live t c ≡ false → (j : ℕ) × (j < length ch) × (get_or ch j 0 ≡ c)
    all = all_on_lem spare (from_length t k h ∙ counted)

    bare : (c i : ℕ) → (j : ℕ) × (j < length ch) × (get_or ch j 0 ≡ c) → 0 < i → i < 4 → across t (4 * c + i) ≡ none
    bare c i (j, l, x) a b = subst (λ d. across t (4 * d + i) ≡ none) x (bare_in t (get_or ch j 0) (ok_each t n k h e j l).1 i a b)

pub chain_yes : {t : Tables} {n h : ℕ} {ch : List ℕ} → Chained t n h ch → chain_ok t n (length ch) h ≡ true
chain_yes {t} {n} {h} {ch} C =
    path_ok t n C.path (λ j l. (
      C.spare.below j l,
      freed_entry_lem t (get_or ch j 0) (freed_is t (get_or ch j 0) (C.spare.dead j l)) (λ i. C.bare (get_or ch j 0) i (C.spare.below j l) (C.spare.dead j l)),
    ))

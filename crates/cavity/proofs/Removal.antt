-- The cells that do not stay leave the list and the set, all judged before any of them leaves.
use Prim.Native.Nat.{ℕ, suc, ◌+◌, ◌≤◌, ◌<◌}
use mathlib.Core.Bool.{Bool, true, false, not, cond, ◌&&◌}
use mathlib.Core.List.{List}
use mathlib.Core.Logic.{◌≢◌, ◌⊎◌, inl, inr}
use mathlib.Core.Path.{◌≡◌, refl, sym, ap, ap₂, ◌∙◌, subst}
use native.Mathlib.Omega.{arith}
use native.Mathlib.Decide.{ℕ_discrete}
use lib.Dec.{ltb}
use lib.Ieee.{Float}
use borrow.Author.Tests.{ne_eqb}
use lib.ListN.{length, get_or, set, length-set}
use lib.Seq.{ext_get_or, get_or-set_same, get_or-set_other}
use Rattle.arith.specs.Table.{count_below, tabulate, iterate}
use Rattle.arith.proofs.Flags.{split, clash, and_left, and_right, and_intro}
use Rattle.arith.proofs.Tables.{tabulate_length, tabulate_at, any_found}
use Rattle.arith.proofs.Settling.{iterate_suc}
use Rattle.arith.proofs.Counting.{count_added, count_cong, count_le}
use Rattle.geometry.specs.declared.Position.{Position}
use Rattle.geometry.specs.Volume.{InRange}
use Rattle.mesh.specs.Tables.{Tables, tables, live}
use Rattle.mesh.specs.Inner.{HasCell, four_at, SomeMesh}
use Rattle.locate.specs.Locate.{holds}
use Rattle.cavity.specs.declared.Gathered.{Gathered}
use Rattle.cavity.specs.Answers.{Answers, says_yes, report_t}
use Rattle.cavity.specs.Cavity.{in_set, base, cavity_of, marked, pruned, corrected, corrected_cavity, cavity_size}
use Rattle.cavity.specs.Inner.{inside, set_of, Enumerated, Inspected, CavityFound}
use Rattle.cavity.specs.Inner.Correction.{Correctable, InspectedTo, cell_stays, KeptOrRemoved, Round}
use Rattle.cavity.specs.Inner.Growth.{Lowest, Scanned, Reached}
use Rattle.cavity.proofs.Correction.{base_at, corrected_stops}
use Rattle.mesh.proofs.Reading.{cells_few, has_corners, corner_mark}
use Rattle.cavity.proofs.Gathering.{size≤, none_inside}
use Rattle.cavity.proofs.Visiting.{set_at, set_long, unheld, held, least_is}
use Rattle.cavity.proofs.Rounds.{stays_is, stays_base, stays_same}

-- after the first i listed cells
pub record Pruning (n : ℕ) (stay : ℕ → Bool) (st₀ li₀ : List ℕ) (size i : ℕ) (st li : List ℕ) (kept : ℕ) : Type 0 where
  pub states : length st ≡ 4096
  pub entries : length li ≡ 4096
  pub kept≤ : kept ≤ i
  pub ahead : (k : ℕ) → i ≤ k → k < size → get_or li k 0 ≡ get_or li₀ k 0
  pub done : (k : ℕ) → k < i → get_or st (get_or li₀ k 0) 0 ≡ cond (stay (get_or li₀ k 0)) (get_or st₀ (get_or li₀ k 0) 0) 0
  pub todo : (k : ℕ) → i ≤ k → k < size → get_or st (get_or li₀ k 0) 0 ≡ get_or st₀ (get_or li₀ k 0) 0
  pub out : (c : ℕ) → inside st₀ c ≡ false → get_or st c 0 ≡ get_or st₀ c 0
  pub from : (j : ℕ) → j < kept → (k : ℕ) × (k < i) × (get_or li j 0 ≡ get_or li₀ k 0) × (stay (get_or li₀ k 0) ≡ true)
  pub apart : (i' j : ℕ) → i' < j → j < kept → get_or li i' 0 ≢ get_or li j 0
  pub into : (k : ℕ) → k < i → stay (get_or li₀ k 0) ≡ true → (j : ℕ) × (j < kept) × (get_or li j 0 ≡ get_or li₀ k 0)
  pub counted : count_below n (inside st) + i ≡ size + kept
  pub same : kept ≡ i → st ≡ st₀

-- k below i + 1: below i, or i
last_or : (P : ℕ → Type 0) (i : ℕ) → ((k : ℕ) → k < i → P k) → P i → (k : ℕ) → k < i + 1 → P k
last_or P i old new k h = go (ℕ_discrete k i)
  where
    go : Dec (k ≡ i) → P k
    go (yes q) = subst P (sym q) new
    go (no d) = old k (omega arith)

module _ {t : Tables} {n : ℕ} {st₀ li₀ : List ℕ} {size : ℕ} (L : Enumerated t n st₀ li₀ size) (n≤ : n ≤ 4096) (stay : ℕ → Bool) where
  pub prune_start : Pruning n stay st₀ li₀ size 0 st₀ li₀ 0
  prune_start = record {
    states = L.states;
    entries = L.entries;
    kept≤ = omega arith;
    ahead = λ k l h. refl;
    done = λ k l. absurd (omega arith);
    todo = λ k l h. refl;
    out = λ c e. refl;
    from = λ j l. absurd (omega arith);
    apart = λ i j l h. absurd (omega arith);
    into = λ k l. absurd (omega arith);
    counted = omega (arith, L.counted);
    same = λ e. refl;
  }

  module _ {i : ℕ} {st li : List ℕ} {kept : ℕ} (P : Pruning n stay st₀ li₀ size i st li kept) (i< : i < size) where
    abbrev c : ℕ
    c = get_or li₀ i 0

    size≤n : size ≤ n
    size≤n = omega (arith, L.counted, count_le n (inside st₀))

    keeps : stay c ≡ true → Pruning n stay st₀ li₀ size (i + 1) st (set li kept c) (kept + 1)
    keeps e = record {
      states = P.states;
      entries = length-set li kept c ∙ P.entries;
      kept≤ = omega (arith, P.kept≤);
      ahead = λ k l h. get_or-set_other li kept k c 0 (omega (arith, P.kept≤)) ∙ P.ahead k (omega arith) h;
      done = last_or (λ k. get_or st (get_or li₀ k 0) 0 ≡ cond (stay (get_or li₀ k 0)) (get_or st₀ (get_or li₀ k 0) 0) 0) i P.done
          (P.todo i (omega arith) i< ∙ sym (ap (λ x. cond x (get_or st₀ c 0) 0) e));
      todo = λ k l h. P.todo k (omega arith) h;
      out = P.out;
      from = last_or (λ j. (k : ℕ) × (k < i + 1) × (get_or (set li kept c) j 0 ≡ get_or li₀ k 0) × (stay (get_or li₀ k 0) ≡ true)) kept
          (λ j l. let f = P.from j l in (f.0, omega (arith, f.1), old j l ∙ f.2, f.3)) (i, omega arith, new, e);
      apart = λ a j l h. apart a j l h;
      into = last_or (λ k. stay (get_or li₀ k 0) ≡ true → (j : ℕ) × (j < kept + 1) × (get_or (set li kept c) j 0 ≡ get_or li₀ k 0)) i
          (λ k l q. let f = P.into k l q in (f.0, omega (arith, f.1), old f.0 f.1 ∙ f.2)) (λ q. (kept, omega arith, new));
      counted = omega (arith, P.counted);
      same = λ q. P.same (omega arith);
    }
      where
        new : get_or (set li kept c) kept 0 ≡ c
        new = get_or-set_same li kept c 0 (omega (arith, P.entries, P.kept≤, size≤n))

        old : (j : ℕ) → j < kept → get_or (set li kept c) j 0 ≡ get_or li j 0
        old j l = get_or-set_other li kept j c 0 (omega arith)

        apart : (a j : ℕ) → a < j → j < kept + 1 → get_or (set li kept c) a 0 ≢ get_or (set li kept c) j 0
        apart a j l h q = go (ℕ_discrete j kept)
          where
            go : Dec (j ≡ kept) → ⊥
            go (yes r) =
                let f = P.from a (omega arith) in
                L.apart f.0 i f.1 i< (sym (old a (omega arith) ∙ f.2) ∙ (q ∙ (ap (λ j. get_or (set li kept c) j 0) r ∙ new)))
            go (no d) = P.apart a j l (omega arith) (sym (old a (omega arith)) ∙ (q ∙ old j (omega arith)))

    drops : stay c ≡ false → Pruning n stay st₀ li₀ size (i + 1) (set st c 0) li kept
    drops e = record {
      states = length-set st c 0 ∙ P.states;
      entries = P.entries;
      kept≤ = omega (arith, P.kept≤);
      ahead = λ k l h. P.ahead k (omega arith) h;
      done = last_or (λ k. get_or (set st c 0) (get_or li₀ k 0) 0 ≡ cond (stay (get_or li₀ k 0)) (get_or st₀ (get_or li₀ k 0) 0) 0) i
          (λ k l. get_or-set_other st c (get_or li₀ k 0) 0 0 (L.apart k i l i<) ∙ P.done k l)
          (get_or-set_same st c 0 0 in_state ∙ sym (ap (λ x. cond x (get_or st₀ c 0) 0) e));
      todo = λ k l h. get_or-set_other st c (get_or li₀ k 0) 0 0 (λ q. L.apart i k (omega arith) h (sym q)) ∙ P.todo k (omega arith) h;
      out = λ d o. get_or-set_other st c d 0 0 (λ q. clash (ap (inside st₀) q ∙ L.listed i i<) o) ∙ P.out d o;
      from = λ j l. let f = P.from j l in (f.0, omega (arith, f.1), f.2, f.3);
      apart = P.apart;
      into = last_or (λ k. stay (get_or li₀ k 0) ≡ true → (j : ℕ) × (j < kept) × (get_or li j 0 ≡ get_or li₀ k 0)) i P.into (λ q. clash q e);
      counted = omega (arith, P.counted, fewer);
      same = λ q. absurd (omega (arith, P.kept≤));
    }
      where
        in_state : c < length st
        in_state = omega (arith, L.below i i<, P.states, n≤)

        was : inside st c ≡ true
        was = ap (ltb 0) (P.todo i (omega arith) i<) ∙ L.listed i i<

        fewer : count_below n (inside st) ≡ suc (count_below n (inside (set st c 0)))
        fewer =
            count_added n (inside (set st c 0)) (inside st) c (L.below i i<) (ap (ltb 0) (get_or-set_same st c 0 0 in_state)) was
            (λ k l d. sym (ap (ltb 0) (get_or-set_other st c k 0 0 d)))

    pub prune_step : {st' li' : List ℕ} {kept' : ℕ} (b : Bool) → b ≡ stay c → KeptOrRemoved b c st li kept st' li' kept' → Pruning n stay st₀ li₀ size (i + 1) st' li' kept'
    prune_step true e Q = rw (Q.count, Q.list, Q.state) (keeps (sym e))
    prune_step false e Q = rw (Q.count, Q.list, Q.state) (drops (sym e))

  -- ---- after all

  module _ {st li : List ℕ} {kept : ℕ} (P : Pruning n stay st₀ li₀ size size st li kept) where
    inside_is : (c : ℕ) → inside st₀ c ≡ true → get_or st c 0 ≡ cond (stay c) (get_or st₀ c 0) 0
    inside_is c e = let k = L.all c e in subst (λ c. get_or st c 0 ≡ cond (stay c) (get_or st₀ c 0) 0) k.2 (P.done k.0 k.1)

    pub pruned_at : (c : ℕ) → inside st c ≡ (inside st₀ c && stay c)
    pruned_at c = go (split (inside st₀ c)) (split (stay c))
      where
        go : (inside st₀ c ≡ true) ⊎ (inside st₀ c ≡ false) → (stay c ≡ true) ⊎ (stay c ≡ false) → inside st c ≡ (inside st₀ c && stay c)
        go (inl e) (inl f) = ap (ltb 0) (inside_is c e ∙ ap (λ x. cond x (get_or st₀ c 0) 0) f) ∙ (e ∙ sym (and_intro e f))
        go (inl e) (inr f) = ap (ltb 0) (inside_is c e ∙ ap (λ x. cond x (get_or st₀ c 0) 0) f) ∙ sym (rw (e, f))
        go (inr e) f = ap (ltb 0) (P.out c e) ∙ (e ∙ sym (ap (λ x. x && stay c) e))

    stayed : (c : ℕ) → inside st c ≡ true → (inside st₀ c ≡ true) × (stay c ≡ true)
    stayed c e =
        let q = sym (pruned_at c) ∙ e in
        (and_left (inside st₀ c) (stay c) q, and_right (inside st₀ c) (stay c) q)

    pruned_list : Enumerated t n st li kept
    pruned_list = record {
      states = P.states;
      entries = P.entries;
      counted = omega (arith, P.counted);
      below = λ k l. let f = P.from k l in subst (λ c. c < n) (sym f.2) (L.below f.0 f.1);
      listed = λ k l.
          let f = P.from k l in
          ap (inside st) f.2 ∙ (pruned_at (get_or li₀ f.0 0) ∙ and_intro (L.listed f.0 f.1) f.3);
      alive = λ c h e. L.alive c h (stayed c e).0;
      apart = P.apart;
      all = λ c e.
          let y = stayed c e in
          let k = L.all c y.0 in
          let f = P.into k.0 k.1 (ap stay k.2 ∙ y.1) in
          (f.0, f.1, f.2 ∙ k.2);
    }

    pub pruned_correctable : (b : List Bool) → Correctable t n b st₀ li₀ size → ((c : ℕ) → c < n → in_set b c ≡ true → stay c ≡ true) → Correctable t n b st li kept
    pruned_correctable b C safe = record {
      list = pruned_list;
      states = λ c h e.
          let y = stayed c e in
          inside_is c y.0 ∙ (ap (λ x. cond x (get_or st₀ c 0) 0) y.1 ∙ C.states c h y.0);
      based = λ c h e. pruned_at c ∙ and_intro (C.based c h e) (safe c h e);
    }

    pub pruned_set : (p : Position) (b : List Bool) →
        ((c : ℕ) → c < n → inside st₀ c ≡ true → stay c ≡ not (marked t n p b (set_of n st₀) c)) → set_of n st ≡ pruned t n p b (set_of n st₀)
    unfolding pruned
    pruned_set p b is =
        ext_get_or false (set_of n st) (tabulate n (λ c. in_set s c && not (marked t n p b s c)))
        (set_long n st ∙ sym (tabulate_length n (λ c. in_set s c && not (marked t n p b s c))))
        (λ c l. let h : c < n = omega (arith, set_long n st) in
        set_at n st c h ∙ (pruned_at c ∙ (each c h (split (inside st₀ c)) ∙ sym (tabulate_at n (λ c. in_set s c && not (marked t n p b s c)) c false h))))
      where
        s : List Bool
        s = set_of n st₀

        each : (c : ℕ) → c < n → (inside st₀ c ≡ true) ⊎ (inside st₀ c ≡ false) → (inside st₀ c && stay c) ≡ (in_set s c && not (marked t n p b s c))
        each c h (inl e) = ap₂ ◌&&◌ (sym (set_at n st₀ c h)) (is c h e)
        each c h (inr e) = ap (λ x. x && stay c) e ∙ sym (ap (λ x. x && not (marked t n p b s c)) (set_at n st₀ c h ∙ e))

-- ---- a round, and the rounds

module _ {ps cs ns : List ℕ} {np n : ℕ} (M : SomeMesh (tables ps cs ns) np n) (p : Position) {st li : List ℕ} {size : ℕ}
    (C : Correctable (tables ps cs ns) n (base (tables ps cs ns) n p) st li size) {fa exposed : List ℕ} (S : InspectedTo (tables ps cs ns) n p st li size size fa exposed) where
  abbrev t : Tables
  t = tables ps cs ns

  abbrev b : List Bool
  b = base t n p

  -- which cells stay, as the round finds the cavity
  abbrev pub staying : ℕ → Bool
  staying c = cell_stays st fa exposed (four_at cs c) c

  pub round_is : {st' li' : List ℕ} {kept : ℕ} → Pruning n staying st li size size st' li' kept → Round t n p st size st' li' kept
  round_is P = record {
    left = pruned_correctable C.list (cells_few M) staying P b C
        (λ c h e. sym (stays_base st fa exposed (four_at cs c) c (C.states c h (C.based c h e) ∙ ap (λ x. cond x 2 1) e)));
    set = pruned_set C.list (cells_few M) staying P p b (λ c h e. stays_is M p C.list S b C.states c h e);
    fewer = P.kept≤;
    same = P.same;
  }

-- after some rounds from st₀, the last of which found `size` cells
pub record Rounding (t : Tables) (n : ℕ) (p : Position) (st₀ : List ℕ) (size : ℕ) (st li fa : List ℕ) (kept : ℕ) : Type 0 where
  pub rounds : ℕ
  pub few : rounds + kept ≤ n
  pub is : set_of n st ≡ iterate rounds (pruned t n p (base t n p)) (set_of n st₀)
  pub left : Correctable t n (base t n p) st li kept
  pub codes : length fa ≡ 4096
  pub ended : size ≤ kept → (pruned t n p (base t n p) (set_of n st) ≡ set_of n st) × Inspected t n p (set_of n st) st fa

module _ {t : Tables} {n : ℕ} {p : Position} {st₀ : List ℕ} where
  pub no_round : {size : ℕ} {li fa : List ℕ} {kept : ℕ} → kept < size → Correctable t n (base t n p) st₀ li kept → length fa ≡ 4096 →
      Rounding t n p st₀ size st₀ li fa kept
  unfolding iterate
  no_round h C l = record { rounds = 0; few = omega (arith, size≤ C.list); is = refl; left = C; codes = l; ended = λ e. absurd (omega arith) }

  pub next_round : {size : ℕ} {st li fa : List ℕ} {kept : ℕ} → Rounding t n p st₀ size st li fa kept →
      {st' li' fa' : List ℕ} {kept' : ℕ} → Round t n p st kept st' li' kept' → length fa' ≡ 4096 → Inspected t n p (set_of n st) st fa' → Rounding t n p st₀ kept st' li' fa' kept'
  next_round {size} {st} {li} {fa} {kept} A {st'} {li'} {fa'} {kept'} R l I = go (ℕ_discrete kept' kept)
    where
      go : Dec (kept' ≡ kept) → Rounding t n p st₀ kept st' li' fa' kept'
      go (yes e) =
          let q = R.same e in
          record {
            rounds = A.rounds;
            few = omega (arith, A.few, e);
            is = ap (set_of n) q ∙ A.is;
            left = R.left;
            codes = l;
            ended = λ h. (ap (λ s. pruned t n p (base t n p) (set_of n s)) q ∙ sym R.set, subst (λ s. Inspected t n p (set_of n s) s fa') (sym q) I);
          }
      go (no d) = record {
        rounds = suc A.rounds;
        few = omega (arith, A.few, R.fewer);
        is = R.set ∙ (ap (pruned t n p (base t n p)) A.is ∙ sym (iterate_suc (pruned t n p (base t n p)) A.rounds (set_of n st₀)));
        left = R.left;
        codes = l;
        ended = λ h. absurd (d (omega (arith, R.fewer)));
      }

  pub rounds_end : {size : ℕ} {st li fa : List ℕ} {kept : ℕ} (A : Rounding t n p st₀ size st li fa kept) → size ≤ kept →
      set_of n st ≡ corrected t n p (base t n p) (set_of n st₀)
  rounds_end A h =
      A.is ∙ sym (corrected_stops t n p (base t n p) (set_of n st₀) A.rounds (omega (arith, A.few))
      (ap (pruned t n p (base t n p)) (sym A.is) ∙ ((A.ended h).0 ∙ A.is)))

pub prune_ends : {n : ℕ} {stay : ℕ → Bool} {st₀ li₀ : List ℕ} {size i : ℕ} {st li : List ℕ} {kept : ℕ} → i ≡ size →
    Pruning n stay st₀ li₀ size i st li kept → Pruning n stay st₀ li₀ size size st li kept
prune_ends {n} {stay} {st₀} {li₀} {size} {i} {st} {li} {kept} e P = subst (λ k. Pruning n stay st₀ li₀ size k st li kept) e P

-- the listed cell at place i, as the code meets it
module _ (cs fa exposed : List ℕ) {t : Tables} {n : ℕ} {st₀ li₀ : List ℕ} {size : ℕ} (L : Enumerated t n st₀ li₀ size) (n≤ : n ≤ 4096)
    {i : ℕ} {st li : List ℕ} {kept : ℕ} (P : Pruning n (λ c. cell_stays st₀ fa exposed (four_at cs c) c) st₀ li₀ size i st li kept) (i< : i < size) where
  at : get_or li i 0 ≡ get_or li₀ i 0
  at = P.ahead i (omega arith) i<

  at< : get_or li i 0 < n
  at< = subst (λ c. c < n) (sym at) (L.below i i<)

  pub prune_at : {ps ns : List ℕ} {np : ℕ} → SomeMesh (tables ps cs ns) np n → live (tables ps cs ns) (get_or li i 0) ≡ true → length fa ≡ 4096 → length exposed ≡ 1024 →
      (i < length li) × (kept < length li) × (get_or li i 0 < 4096) × HasCell (get_or li i 0) cs × (get_or li i 0 < length st) × (get_or li i 0 < length fa) × (kept < 4096)
      × ((j : ℕ) → j < 4 → get_or (four_at cs (get_or li i 0)) j 0 < length exposed)
  prune_at M living hf hs =
      let z = size≤ L in (
        omega (arith, n≤, z, P.entries),
        omega (arith, n≤, z, P.entries, P.kept≤),
        omega (arith, n≤, at<),
        has_corners M (get_or li i 0) at<,
        omega (arith, n≤, at<, P.states),
        omega (arith, n≤, at<, hf),
        omega (arith, n≤, z, P.kept≤),
        λ j l. omega (arith, hs, corner_mark M (get_or li i 0) j record { below = at<; lives = living } l),
      )

  pub prune_step_at : {st' li' : List ℕ} {kept' : ℕ} →
      KeptOrRemoved (cell_stays st fa exposed (four_at cs (get_or li i 0)) (get_or li i 0)) (get_or li i 0) st li kept st' li' kept' →
      Pruning n (λ c. cell_stays st₀ fa exposed (four_at cs c) c) st₀ li₀ size (i + 1) st' li' kept'
  prune_step_at {st'} {li'} {kept'} Q =
      prune_step L n≤ (λ c. cell_stays st₀ fa exposed (four_at cs c) c) P i<
      (cell_stays st fa exposed (four_at cs (get_or li i 0)) (get_or li i 0))
      (ap (λ c. cell_stays st fa exposed (four_at cs c) c) at ∙ stays_same st st₀ fa exposed (four_at cs (get_or li₀ i 0)) (get_or li₀ i 0) (P.todo i (omega arith) i<))
      (subst (λ c. KeptOrRemoved (cell_stays st fa exposed (four_at cs (get_or li i 0)) (get_or li i 0)) c st li kept st' li' kept') at Q)

-- what a loop keeps that does not see n
abbrev pub PruningAll : List ℕ → List ℕ → List ℕ → List ℕ → List ℕ → ℕ → ℕ → List ℕ → List ℕ → ℕ → Type 0
PruningAll cs fa exposed st₀ li₀ size i st li kept =
    (t : Tables) (n : ℕ) → n ≤ 4096 → Enumerated t n st₀ li₀ size → Pruning n (λ c. cell_stays st₀ fa exposed (four_at cs c) c) st₀ li₀ size i st li kept

-- ---- the cavity as a whole

module _ {ps cs ns : List ℕ} {np n : ℕ} (M : SomeMesh (tables ps cs ns) np n) (a : Answers) {p : Position} (r : InRange p)
    {st₀ li₀ : List ℕ} {g₀ : Gathered} (S : Scanned a (tables ps cs ns) p n n st₀ li₀ g₀) where
  abbrev u : Tables
  u = tables ps cs ns

  pub found_none : {fa : List ℕ} (x : Float) (k : ℕ) → length fa ≡ 4096 → g₀.size ≡ 0 → CavityFound a u p n st₀ li₀ fa record { before = 0; after = 0; least = x; holder = k }
  found_none x k l e = record {
    states = S.growing.list.states;
    entries = S.growing.list.entries;
    codes = l;
    held = unheld M a r S e;
    empty = λ q. none_inside st₀ (λ c i. let k = S.growing.list.all c i in omega (arith, k.1, e));
    list = λ d. absurd (d refl);
    set = λ d. absurd (d refl);
    coded = λ d. absurd (d refl);
    before_is = λ d. absurd (d refl);
    after_is = λ d. absurd (d refl);
    holder< = λ d. absurd (d refl);
    holder_holds = λ d. absurd (d refl);
    least_is = λ d. absurd (d refl);
  }

  module _ (d : g₀.size ≢ 0) {st₁ li₁ : List ℕ} {g : Gathered} (G : Reached a u p n st₁ li₁ g) (all : set_of n st₁ ≡ cavity_of u n p (says_yes a u p)) where
    pub grown_correctable : Correctable u n (base u n p) st₁ li₁ g.size
    grown_correctable = record { list = G.growing.list; states = G.growing.states; based = G.based }

    -- the base's cell with the least T
    first : Lowest (report_t a u p) n st₀ g₀
    first = S.growing.lowest (omega (arith, d))

    some : g.size ≢ 0
    some e =
        let f = any_found n (holds u p) (held M a r S d) in
        let k = G.growing.list.all f.at (G.based f.at f.below (base_at u n p f.at f.below ∙ f.passes)) in
        omega (arith, k.1, e)

    size_is : {st li : List ℕ} {size : ℕ} {s : List Bool} → Enumerated u n st li size → set_of n st ≡ s → size ≡ cavity_size n s
    unfolding cavity_size
    size_is {st} {li} {size} {s} L e = sym L.counted ∙ (count_cong n (inside st) (in_set (set_of n st)) (λ k h. sym (set_at n st k h)) ∙ ap (λ s. count_below n (in_set s)) e)

    pub found_cavity : {st li fa : List ℕ} {after : ℕ} → Enumerated u n st li after → length fa ≡ 4096 → set_of n st ≡ corrected u n p (base u n p) (set_of n st₁) →
        Inspected u n p (set_of n st) st fa → CavityFound a u p n st li fa record { before = g.size; after = after; least = g.least; holder = g₀.at }
    unfolding corrected_cavity
    found_cavity {st} {li} {fa} {after} L l e I =
        let is : set_of n st ≡ corrected u n p (base u n p) (cavity_of u n p (says_yes a u p)) = e ∙ ap (corrected u n p (base u n p)) all in
        record {
          states = L.states;
          entries = L.entries;
          codes = l;
          held = held M a r S d ∙ sym (ap not (ne_eqb g.size 0 some));
          empty = λ x. absurd (some x);
          list = λ x. L;
          set = λ x. is;
          coded = λ x. I;
          before_is = λ x. size_is G.growing.list all;
          after_is = λ x. size_is L is;
          holder< = λ x. first.at<;
          holder_holds = λ x. and_right (ltb g₀.at n) (holds u p g₀.at) (sym (S.exactly g₀.at first.at<) ∙ first.at_inside);
          least_is = λ x. least_is M a r G.growing (omega (arith, some)) all;
        }

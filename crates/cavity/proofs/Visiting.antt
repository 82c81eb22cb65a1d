-- The base scan and the growth, step by step, and that they end in the cavity.
use Prim.Native.Nat.{ℕ, ◌+◌, ◌*◌, ◌<◌}
use mathlib.Core.Bool.{Bool, true, false, not, cond, ◌&&◌}
use mathlib.Core.List.{List}
use mathlib.Core.Logic.{◌≢◌}
use mathlib.Core.Path.{◌≡◌, sym, ap, ◌∙◌, subst}
use native.Mathlib.Omega.{arith}
use native.Mathlib.Decide.{ℕ_discrete, dec_lt}
use lib.Dec.{ltb}
use lib.ListN.{length, get_or, set}
use lib.Ieee.{Float, lt}
use borrow.Author.Tests.{lt-ltb, le-ltb, not-true}
use Rattle.arith.specs.Table.{count_below, any_below, all_below}
use Rattle.arith.proofs.Flags.{clash, fails, flag_below, and_left, and_right, and_intro}
use Rattle.arith.proofs.Counting.{count_none}
use Rattle.arith.proofs.Tables.{tabulate_length, tabulate_at, any_found, any_intro, Found, first_is, all_intro, all_at, below_more}
use Rattle.geometry.specs.declared.Position.{Position}
use Rattle.geometry.specs.Volume.{InRange}
use Rattle.mesh.specs.Tables.{Tables, none, cell_of, opposite, across, tables, live, IsFace}
use Rattle.mesh.specs.Inner.{four_at, SomeMesh}
use Rattle.mesh.proofs.Numbers.{four_entry}
use Rattle.mesh.proofs.FaceNumbers.{face_cell, face_eq, opposite<, face_in}
use Rattle.locate.specs.Locate.{holds}
use Rattle.cavity.specs.declared.Gathered.{Gathered}
use Rattle.cavity.specs.Answers.{Answers, says_yes, report_t, least_t}
use Rattle.cavity.specs.Cavity.{in_set, base, cavity, cavity_of}
use Rattle.cavity.specs.Inner.{inside, set_of}
use Rattle.cavity.specs.Inner.Growth.{with_cell, Lowest, Growing, Scanned, Reached, Grew, Neighbour, InsideIfYes, Empty}
use Rattle.cavity.proofs.Correction.{base_long, base_at, base_below, base_cell, cavity_cells, cavity_has}
use Rattle.locate.proofs.Codes.{holds_live}
use Rattle.cavity.proofs.Growth.{cavity_closed, cavity_is}
use Rattle.mesh.proofs.Faces.{across_cell}
use Rattle.mesh.proofs.Reading.{cells_few, room, across_at}
use Rattle.cavity.proofs.Answering.{whole_report}
use Rattle.cavity.proofs.Gathering.{growing_more, joined_each, joined_cell, joined_in, joined_other, grew_join, inside_stays}

-- ---- sets and states

pub set_at : (n : ℕ) (st : List ℕ) (c : ℕ) → c < n → in_set (set_of n st) c ≡ inside st c
unfolding set_of
set_at n st c h = tabulate_at n (inside st) c false h

pub set_long : (n : ℕ) (st : List ℕ) → length (set_of n st) ≡ n
unfolding set_of
set_long n st = tabulate_length n (inside st)

pub in_set_lem : (n : ℕ) (st : List ℕ) (c : ℕ) → in_set (set_of n st) c ≡ true → (c < n) × (inside st c ≡ true)
in_set_lem n st c e =
    let h : c < n = omega (arith, flag_below (set_of n st) c e, set_long n st) in
    (h, sym (set_at n st c h) ∙ e)

module _ {ps cs ns : List ℕ} {np n : ℕ} (M : SomeMesh (tables ps cs ns) np n) (a : Answers) {p : Position} (r : InRange p) where
  abbrev t : Tables
  t = tables ps cs ns

  abbrev T : ℕ → Float
  T = report_t a t p

  abbrev yes? : ℕ → Bool
  yes? = says_yes a t p

  -- ---- the base scan

  module _ {c : ℕ} {st li : List ℕ} {g : Gathered} (S : Scanned a t p n c st li g) where
    pub not_yet : c < n → inside st c ≡ false
    not_yet h = S.exactly c h ∙ ap (λ x. x && holds t p c) (le-ltb c c (omega arith))

    later : (k : ℕ) → k ≢ c → ltb k (c + 1) ≡ ltb k c
    later k d = go (dec_lt k c)
      where
        go : Dec (k < c) → ltb k (c + 1) ≡ ltb k c
        go (yes h) = lt-ltb k (c + 1) (omega arith) ∙ sym (lt-ltb k c h)
        go (no h) = le-ltb k (c + 1) (omega arith) ∙ sym (le-ltb k c (omega arith))

    here : ltb c (c + 1) ≡ true
    here = lt-ltb c (c + 1) (omega arith)

    pub scan_past : holds t p c ≡ false → Scanned a t p n (c + 1) st li g
    scan_past e = record { growing = S.growing; exactly = λ k h. go k h (ℕ_discrete k c) }
      where
        go : (k : ℕ) → k < n → Dec (k ≡ c) → inside st k ≡ (ltb k (c + 1) && holds t p k)
        go k h (no d) = S.exactly k h ∙ ap (λ x. x && holds t p k) (sym (later k d))
        go k h (yes q) =
            subst (λ k. inside st k ≡ (ltb k (c + 1) && holds t p k)) (sym q)
            (not_yet (omega (arith, q)) ∙ sym (ap (λ x. x && holds t p c) here ∙ e))

    pub scan_join : c < n → holds t p c ≡ true → {x : Float} {st' li' : List ℕ} {g' : Gathered} →
        x ≡ T c → g' ≡ with_cell g c x → st' ≡ set st c 2 → li' ≡ set li g.size c → Scanned a t p n (c + 1) st' li' g'
    scan_join h e ex eg es el =
        rw (eg, es, el, ex)
        record {
          growing = growing_more S.growing (cells_few M) c h (holds_live t p c e) (not_yet h) 2 (sym (ap (λ x. cond x 2 1) (base_at t n p c h ∙ e))) (λ k l. whole_report M a k l r);
          exactly = λ k l. go k l (ℕ_discrete k c);
        }
      where
        room_in : c < length st
        room_in = omega (arith, S.growing.list.states, cells_few M)

        go : (k : ℕ) → k < n → Dec (k ≡ c) → inside (set st c 2) k ≡ (ltb k (c + 1) && holds t p k)
        go k l (no d) = joined_other st c 2 room_in (omega arith) k d ∙ (S.exactly k l ∙ ap (λ x. x && holds t p k) (sym (later k d)))
        go k l (yes q) =
            subst (λ k. inside (set st c 2) k ≡ (ltb k (c + 1) && holds t p k)) (sym q)
            (joined_in st c 2 room_in (omega arith) ∙ sym (ap (λ x. x && holds t p c) here ∙ e))

  pub scan_start : {st li : List ℕ} (x : Float) → Empty st li → Scanned a t p n 0 st li record { size = 0; least = x; at = 0 }
  scan_start {st} {li} x E = record {
    growing = record {
      list = record {
        states = E.states;
        entries = E.entries;
        counted = none_counted n;
        below = λ k h. absurd (omega arith);
        listed = λ k h. absurd (omega arith);
        alive = λ c h e. clash e (out c);
        apart = λ i k l h. absurd (omega arith);
        all = λ c e. clash e (out c);
      };
      states = λ c h e. clash e (out c);
      lowest = λ h. absurd (omega arith);
    };
    exactly = λ k h. out k ∙ sym (ap (λ x. x && holds t p k) (le-ltb k 0 (omega arith)));
  }
    where
      out : (c : ℕ) → inside st c ≡ false
      out c = ap (ltb 0) (E.zero c) ∙ le-ltb 0 0 (omega arith)

      none_counted : (m : ℕ) → count_below m (inside st) ≡ 0
      none_counted m = count_none m (inside st) (λ k h. out k)

  module _ {st li : List ℕ} {g : Gathered} (S : Scanned a t p n n st li g) where
    scanned_at : (c : ℕ) → c < n → inside st c ≡ in_set (base t n p) c
    scanned_at c h = S.exactly c h ∙ (ap (λ x. x && holds t p c) (lt-ltb c n h) ∙ sym (base_at t n p c h))

    pub scanned_reached : Reached a t p n st li g
    unfolding cavity_of
    scanned_reached = record {
      growing = S.growing;
      based = λ c h e. scanned_at c h ∙ e;
      sound = λ c h e. cavity_has t n p yes? (base t n p) (base_long t n p) c (sym (scanned_at c h) ∙ e);
    }

    -- refusal 7: no cell holds p just where the list is empty
    pub unheld : g.size ≡ 0 → any_below n (holds t p) ≡ false
    unheld e = fails (any_below n (holds t p)) (λ h. no (any_found n (holds t p) h))
      where
        no : Found n (holds t p) → ⊥
        no f =
            let l = S.growing.list.all f.at (scanned_at f.at f.below ∙ (base_at t n p f.at f.below ∙ f.passes)) in
            omega (arith, l.1, e)

    pub held : g.size ≢ 0 → any_below n (holds t p) ≡ true
    held d =
        let c = get_or li 0 0 in
        let L = S.growing.list in
        let h : c < n = L.below 0 (omega arith) in
        any_intro n (holds t p) c h (sym (base_at t n p c h) ∙ (sym (scanned_at c h) ∙ L.listed 0 (omega arith)))

  -- ---- the growth

  module _ {st li : List ℕ} {g : Gathered} (G : Reached a t p n st li g) where
    pub visit_join : (c : ℕ) → c < n → inside st c ≡ false → in_set (cavity_of t n p yes?) c ≡ true → {x : Float} {st' li' : List ℕ} {g' : Gathered} →
        x ≡ T c → g' ≡ with_cell g c x → st' ≡ set st c 1 → li' ≡ set li g.size c →
        Reached a t p n st' li' g' × Grew n st li g.size st' li' g'.size × InsideIfYes a t p st' c
    visit_join c h out e ex eg es el =
        rw (eg, es, el, ex) (
          record {
            growing = growing_more G.growing (cells_few M) c h living out 1 kind (λ k l. whole_report M a k l r);
            based = λ k l b. (grew_join G.growing (cells_few M) c h living out 1 kind).keeps k l (G.based k l b);
            sound = joined_each G.growing (cells_few M) c h living out 1 kind (λ k. in_set (cavity_of t n p yes?) k ≡ true) G.sound e;
          },
          grew_join G.growing (cells_few M) c h living out 1 kind,
          λ d y. joined_cell G.growing (cells_few M) c h living out 1 kind,
        )
      where
        living : live t c ≡ true
        living = unfold cavity_of in (cavity_cells t n p yes? (base t n p) (base_cell t n p) c e).lives

        kind : ◌≡◌ {A = ℕ} 1 (cond (in_set (base t n p) c) 2 1)
        kind = sym (ap (λ x. cond x 2 1) (fails (in_set (base t n p) c) (λ b. clash (G.based c h b) out)))

    pub neighbour_of : (c j : ℕ) → c < n → inside st c ≡ true → j < 4 → Neighbour a t p n (across t (4 * c + j))
    unfolding cavity_of
    neighbour_of c j h e l real = (
      across_cell M.mesh (room M) (4 * c + j) f< real,
      λ y. cavity_closed M.mesh (room M) yes? (base t n p) (base_long t n p) (4 * c + j) f< (ap (in_set (cavity t n yes? (base t n p))) (face_cell c j l) ∙ G.sound c h e) real y,
    )
      where
        f< : IsFace t n (4 * c + j)
        f< = face_in c j l record { below = h; lives = G.growing.list.alive c h e }

    -- the neighbours of the listed cell at place h, as the table has them
    module _ (h : ℕ) (h< : h < g.size) {u : List ℕ} (e : u ≡ four_at ns (get_or li h 0)) where
      entry_is : (j : ℕ) → j < 4 → get_or u j 0 ≡ across t (4 * get_or li h 0 + j)
      entry_is j l =
          ap (λ u. get_or u j 0) e ∙ (four_entry ns (get_or li h 0) j l ∙ across_at M (get_or li h 0) j (G.growing.list.below h h<) l)

      pub four_neighbours : (j : ℕ) → j < 4 → Neighbour a t p n (get_or u j 0)
      four_neighbours j l =
          subst (Neighbour a t p n) (sym (entry_is j l))
          (neighbour_of (get_or li h 0) j (G.growing.list.below h h<) (G.growing.list.listed h h<) l)

      pub closed_more : {st' li' : List ℕ} {size' : ℕ} → Grew n st li g.size st' li' size' →
          ((k : ℕ) → k < h → (j : ℕ) → j < 4 → InsideIfYes a t p st (across t (4 * get_or li k 0 + j))) →
          ((j : ℕ) → j < 4 → InsideIfYes a t p st' (get_or u j 0)) →
          (k : ℕ) → k < h + 1 → (j : ℕ) → j < 4 → InsideIfYes a t p st' (across t (4 * get_or li' k 0 + j))
      closed_more {st'} {li'} {size'} A old new =
          below_more (λ k. (j : ℕ) → j < 4 → InsideIfYes a t p st' (across t (4 * get_or li' k 0 + j))) h
          (λ k l j i. subst (λ c. InsideIfYes a t p st' (across t (4 * c + j))) (sym (A.same k (omega arith)))
          (inside_stays a t p (across t (4 * get_or li k 0 + j)) (neighbour_of (get_or li k 0) j (G.growing.list.below k (omega arith)) (G.growing.list.listed k (omega arith)) i) A (old k l j i)))
          (λ j i. subst (λ c. InsideIfYes a t p st' (across t (4 * c + j))) (sym (A.same h h<)) (subst (InsideIfYes a t p st') (entry_is j i) (new j i)))

    -- every listed cell's neighbours have been visited: this is the cavity
    pub grown_cavity : ((k j : ℕ) → k < g.size → j < 4 → InsideIfYes a t p st (across t (4 * get_or li k 0 + j))) → set_of n st ≡ cavity_of t n p yes?
    unfolding cavity_of
    grown_cavity closed =
        cavity_is M.mesh (room M) yes? (base t n p) (base_long t n p) (set_of n st) (set_long n st)
        (λ c b. let h = base_below t n p c b in set_at n st c h ∙ G.based c h b)
        close
        (λ c e. let i = in_set_lem n st c e in G.sound c i.0 i.1)
      where
        close : (f : ℕ) → IsFace t n f → in_set (set_of n st) (cell_of f) ≡ true → across t f ≢ none → yes? (across t f) ≡ true → in_set (set_of n st) (across t f) ≡ true
        close f f< e real y =
            let i = in_set_lem n st (cell_of f) e in
            let k = G.growing.list.all (cell_of f) i.1 in
            let q : 4 * get_or li k.0 0 + opposite f ≡ f = ap (λ c. 4 * c + opposite f) k.2 ∙ face_eq f in
            let w : inside st (across t f) ≡ true = subst (λ g. InsideIfYes a t p st (across t g)) q (closed k.0 (opposite f) k.1 (opposite< f)) real y in
            set_at n st (across t f) (M.mesh.across< f f< real) ∙ w

  -- ---- the least T

  pub least_is : {st li : List ℕ} {g : Gathered} → Growing t T n (base t n p) st li g → 0 < g.size → {s : List Bool} → set_of n st ≡ s → g.least ≡ least_t T n s
  unfolding least_t
  least_is {st} {li} {g} G h {s} e =
      O.is ∙
      ap T (sym (first_is n test g.at O.at<
      (and_intro (here g.at O.at< ∙ O.at_inside) (all_intro n (λ d. not (in_set s d && lt (T d) (T g.at))) (λ d l. low d l)))
      (λ k l. before k l)))
    where
      O : Lowest T n st g
      O = G.lowest h

      test : ℕ → Bool
      test c = in_set s c && all_below n (λ d. not (in_set s d && lt (T d) (T c)))

      here : (c : ℕ) → c < n → in_set s c ≡ inside st c
      here c l = ap (λ s. in_set s c) (sym e) ∙ set_at n st c l

      low : (d : ℕ) → d < n → not (in_set s d && lt (T d) (T g.at)) ≡ true
      low d l = ap not (fails (in_set s d && lt (T d) (T g.at)) (λ q.
          clash (and_right (in_set s d) (lt (T d) (T g.at)) q) (O.none_below d l (sym (here d l) ∙ and_left (in_set s d) (lt (T d) (T g.at)) q))))

      before : (k : ℕ) → k < g.at → test k ≡ false
      before k l = fails (test k) (λ q. clash
          (and_intro (here g.at O.at< ∙ O.at_inside) (O.first k l (sym (here k (omega (arith, O.at<))) ∙ and_left (in_set s k) _ q)))
          (not-true (in_set s g.at && lt (T g.at) (T k)) (all_at n (λ d. not (in_set s d && lt (T d) (T k))) (and_right (in_set s k) _ q) g.at O.at<)))

pub scan_ends : {a : Answers} {t : Tables} {p : Position} {n c : ℕ} {st li : List ℕ} {g : Gathered} → c ≡ n → Scanned a t p n c st li g → Scanned a t p n n st li g
scan_ends {a} {t} {p} {n} {c} {st} {li} {g} e S = subst (λ k. Scanned a t p n k st li g) e S

pub scanned_same : {a : Answers} {t : Tables} {p : Position} {n c : ℕ} {st st' li li' : List ℕ} {g g' : Gathered} → st' ≡ st → li' ≡ li → g' ≡ g →
    Scanned a t p n c st li g → Scanned a t p n c st' li' g'
scanned_same {a} {t} {p} {n} {c} {st} {st'} {li} {li'} {g} {g'} es el eg S =
    subst (λ s. Scanned a t p n c s li' g') (sym es) (subst (λ l. Scanned a t p n c st l g') (sym el) (subst (Scanned a t p n c st li) (sym eg) S))

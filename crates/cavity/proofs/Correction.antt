-- The corrected cavity: it has the base, its outer faces are visible or coplanar, and it loses no corner (C1, C2, C3). What has these already is not corrected.
use Prim.Native.Nat.{ℕ, ◌+◌, ◌*◌, ◌≤◌, ◌<◌}
use mathlib.Core.Bool.{Bool, true, false, not, ◌&&◌, ◌||◌}
use mathlib.Core.Logic.{◌≢◌, ◌⊎◌, inl, inr}
use mathlib.Core.Path.{◌≡◌, refl, sym, ap, ◌∙◌, subst}
use mathlib.Core.List.{List}
use native.Mathlib.Omega.{arith}
use native.Mathlib.Decide.{ℕ_discrete}
use lib.ListN.{length}
use lib.Seq.{ext_get_or}
use lib.IntN.{pos}
use lib.Signed.{◌<ℤ◌, ◌≤ℤ◌}
use borrow.Author.Tests.{not-true, not-false}
use Rattle.arith.specs.Table.{any_below, count_below, iterate}
use Rattle.arith.proofs.Flags.{split, clash, flag_below, and_left, and_right, and_intro, or_left, or_right, or_cases}
use Rattle.arith.proofs.Tables.{tabulate_length, tabulate_at, all_intro, any_intro}
use Rattle.arith.proofs.Settling.{iterate_keeps, iterate_fixed, iterate_stops, settles, clearing_settles}
use Rattle.arith.proofs.Counting.{count_fewer, count_le}
use Rattle.arith.proofs.Order.{trichotomy, <-irrefl, <-≤-trans, ≤-<-trans, neg-mono-<}
use Rattle.geometry.specs.declared.Position.{Position}
use Rattle.geometry.specs.Volume.{volume, replaced}
use Rattle.mesh.specs.Tables.{Tables, none, cell_of, opposite, point, corner, across, corner_at, cell_volume, side, mate, face_has, live, IsCell, IsFace}
use Rattle.mesh.specs.Mesh.{OnFace, IsMesh}
use Rattle.mesh.proofs.Room.{Room}
use Rattle.mesh.proofs.Faces.{few, mated, mate_opposite, across_cell}
use Rattle.mesh.proofs.FaceNumbers.{face_cell, face_opposite, opposite<, face_eq, face<, face_in}
use Rattle.mesh.proofs.Links.{on_face_yes}
use Rattle.mesh.proofs.Held.{Holds, side_at_lem, neighbour_holds, other_weight}
use Rattle.cavity.specs.Cavity.{outer, in_set, base, grown, cavity, visible, coplanar, faces_good, corners_good, marked, pruned, corrected, corrected_cavity, cavity_of}
use Rattle.locate.specs.Locate.{holds}
use Rattle.locate.proofs.Codes.{holds_live}
use Rattle.cavity.specs.Inner.Star.{Exposed, StarShaped}
use Rattle.cavity.proofs.Tests.{Outer, outer_of_lem, outer_yes, visible_yes, coplanar_yes, holds_of, holds_yes, faces_good_lem, corners_good_lem}

-- ---- the flags

module _ (t : Tables) (n : ℕ) (p : Position) where
  pub base_long : length (base t n p) ≡ n
  unfolding base
  base_long = tabulate_length n (λ c. holds t p c)

  pub base_at : (c : ℕ) → c < n → in_set (base t n p) c ≡ holds t p c
  unfolding base
  base_at c h = tabulate_at n (λ c. holds t p c) c false h

  pub base_below : (c : ℕ) → in_set (base t n p) c ≡ true → c < n
  base_below c e = omega (arith, flag_below (base t n p) c e, base_long)

  pub base_cell : (c : ℕ) → in_set (base t n p) c ≡ true → IsCell t n c
  base_cell c e = record { below = base_below c e; lives = holds_live t p c (sym (base_at c (base_below c e)) ∙ e) }

  grown_keeps : (yes? : ℕ → Bool) (b s : List Bool) → length b ≡ n → ((c : ℕ) → in_set b c ≡ true → in_set s c ≡ true) → (c : ℕ) → in_set b c ≡ true → in_set (grown t n yes? s) c ≡ true
  unfolding grown
  grown_keeps yes? b s l h c e =
      tabulate_at n (λ c. in_set s c || ((live t c && yes? c) && any_below 4 (λ k. in_set s (across t (4 * c + k))))) c false (omega (arith, flag_below b c e)) ∙
      or_left (in_set s c) ((live t c && yes? c) && any_below 4 (λ k. in_set s (across t (4 * c + k)))) (h c e)

  grown_long : (yes? : ℕ → Bool) (s : List Bool) → length (grown t n yes? s) ≡ n
  unfolding grown
  grown_long yes? s = tabulate_length n (λ c. in_set s c || ((live t c && yes? c) && any_below 4 (λ k. in_set s (across t (4 * c + k)))))

  pub cavity_long : (yes? : ℕ → Bool) (b : List Bool) → length b ≡ n → length (cavity t n yes? b) ≡ n
  unfolding cavity
  cavity_long yes? b h = iterate_keeps (grown t n yes?) (λ s. length s ≡ n) (λ s l. grown_long yes? s) n b h

  pub grown_cells : (yes? : ℕ → Bool) (s : List Bool) → ((c : ℕ) → in_set s c ≡ true → IsCell t n c) → (c : ℕ) → in_set (grown t n yes? s) c ≡ true → IsCell t n c
  unfolding grown
  grown_cells yes? s h c e =
      go (or_cases (in_set s c) ((live t c && yes? c) && any_below 4 (λ k. in_set s (across t (4 * c + k))))
      (sym (tabulate_at n (λ c. in_set s c || ((live t c && yes? c) && any_below 4 (λ k. in_set s (across t (4 * c + k))))) c false c<) ∙ e))
    where
      c< : c < n
      c< = omega (arith, flag_below (grown t n yes? s) c e, grown_long yes? s)

      go : (in_set s c ≡ true) ⊎ (((live t c && yes? c) && any_below 4 (λ k. in_set s (across t (4 * c + k)))) ≡ true) → IsCell t n c
      go (inl q) = h c q
      go (inr q) = record { below = c<; lives = and_left (live t c) (yes? c) (and_left (live t c && yes? c) _ q) }

  pub cavity_cells : (yes? : ℕ → Bool) (b : List Bool) → ((c : ℕ) → in_set b c ≡ true → IsCell t n c) → (c : ℕ) → in_set (cavity t n yes? b) c ≡ true → IsCell t n c
  unfolding cavity
  cavity_cells yes? b h = iterate_keeps (grown t n yes?) (λ s. (c : ℕ) → in_set s c ≡ true → IsCell t n c) (λ s l. grown_cells yes? s l) n b h

  pub cavity_has : (yes? : ℕ → Bool) (b : List Bool) → length b ≡ n → (c : ℕ) → in_set b c ≡ true → in_set (cavity t n yes? b) c ≡ true
  unfolding cavity
  cavity_has yes? b h =
      iterate_keeps (grown t n yes?) (λ s. (c : ℕ) → in_set b c ≡ true → in_set s c ≡ true) (λ s l. grown_keeps yes? b s h l) n b (λ c e. e)

  module _ (b : List Bool) where
    pruned_long : (s : List Bool) → length (pruned t n p b s) ≡ n
    unfolding pruned
    pruned_long s = tabulate_length n (λ c. in_set s c && not (marked t n p b s c))

    pruned_at : (s : List Bool) (c : ℕ) → c < n → in_set (pruned t n p b s) c ≡ (in_set s c && not (marked t n p b s c))
    unfolding pruned
    pruned_at s c h = tabulate_at n (λ c. in_set s c && not (marked t n p b s c)) c false h

    base_unmarked : (s : List Bool) (c : ℕ) → in_set b c ≡ true → marked t n p b s c ≡ false
    unfolding marked
    base_unmarked s c e = rw e (go (in_set s c))
      where
        go : (x : Bool) → (x && (false && not (faces_good t p s c && corners_good t n p s c))) ≡ false
        go true = refl
        go false = refl

    pub corrected_long : (s : List Bool) → length s ≡ n → length (corrected t n p b s) ≡ n
    unfolding corrected
    corrected_long s h = iterate_keeps (pruned t n p b) (λ s. length s ≡ n) (λ s l. pruned_long s) n s h

    pub corrected_cells : (s : List Bool) → ((c : ℕ) → in_set s c ≡ true → IsCell t n c) → (c : ℕ) → in_set (corrected t n p b s) c ≡ true → IsCell t n c
    unfolding corrected
    corrected_cells s h =
        iterate_keeps (pruned t n p b) (λ s. (c : ℕ) → in_set s c ≡ true → IsCell t n c)
        (λ r l c e. l c (and_left (in_set r c) (not (marked t n p b r c)) (sym (pruned_at r c (omega (arith, flag_below (pruned t n p b r) c e, pruned_long r))) ∙ e))) n s h

    -- C1: the base stays
    pub corrected_has : (s : List Bool) → length b ≡ n → ((c : ℕ) → in_set b c ≡ true → in_set s c ≡ true) → (c : ℕ) → in_set b c ≡ true → in_set (corrected t n p b s) c ≡ true
    unfolding corrected
    corrected_has s l h =
        iterate_keeps (pruned t n p b) (λ s. (c : ℕ) → in_set b c ≡ true → in_set s c ≡ true)
        (λ r k c e. pruned_at r c (omega (arith, flag_below b c e)) ∙ and_intro (k c e) (ap not (base_unmarked r c e))) n s h

    -- C1: n rounds are enough
    pub corrected_fixed : (s : List Bool) → length s ≡ n → pruned t n p b (corrected t n p b s) ≡ corrected t n p b s
    unfolding corrected
    corrected_fixed s h =
        clearing_settles n (pruned t n p b) (λ l e. pruned_long l)
        (λ l e k d q. and_left (in_set l k) (not (marked t n p b l k)) (sym (pruned_at l k d) ∙ q)) s h

    -- code may stop after the first round that marks nothing
    pub corrected_stops : (s : List Bool) (k : ℕ) → k ≤ n → pruned t n p b (iterate k (pruned t n p b) s) ≡ iterate k (pruned t n p b) s → corrected t n p b s ≡ iterate k (pruned t n p b) s
    unfolding corrected
    corrected_stops s k h e = iterate_stops (pruned t n p b) k n s h e

    -- a cavity cell outside the base, which alone can be removed
    abbrev outside : List Bool → ℕ → Bool
    outside s c = in_set s c && not (in_set b c)

    -- a round that changes the cavity lowers their number
    pruned_falls : (s : List Bool) → length s ≡ n → (pruned t n p b s ≡ s) ⊎ (count_below n (outside (pruned t n p b s)) < count_below n (outside s))
    pruned_falls s h = go (count_fewer n (outside s) (outside (pruned t n p b s)) down).1
      where
        down : (c : ℕ) → c < n → outside (pruned t n p b s) c ≡ true → outside s c ≡ true
        down c l e =
            and_intro
            (and_left (in_set s c) (not (marked t n p b s c)) (sym (pruned_at s c l) ∙ and_left (in_set (pruned t n p b s) c) (not (in_set b c)) e))
            (and_right (in_set (pruned t n p b s) c) (not (in_set b c)) e)

        and_true : (x : Bool) → (x && true) ≡ x
        and_true true = refl
        and_true false = refl

        same : (c : ℕ) → c < n → outside (pruned t n p b s) c ≡ outside s c → (in_set b c ≡ true) ⊎ (in_set b c ≡ false) → in_set (pruned t n p b s) c ≡ in_set s c
        same c l e (inl q) = pruned_at s c l ∙ (ap (λ x. in_set s c && not x) (base_unmarked s c q) ∙ and_true (in_set s c))
        same c l e (inr q) =
            let f : (x : Bool) → (x && not (in_set b c)) ≡ x = λ x. ap (λ y. x && not y) q ∙ and_true x in
            sym (f (in_set (pruned t n p b s) c)) ∙ (e ∙ f (in_set s c))

        go : ((c : ℕ) → c < n → outside (pruned t n p b s) c ≡ outside s c) ⊎ (count_below n (outside (pruned t n p b s)) < count_below n (outside s)) →
            (pruned t n p b s ≡ s) ⊎ (count_below n (outside (pruned t n p b s)) < count_below n (outside s))
        go (inl e) = inl (ext_get_or false (pruned t n p b s) s (pruned_long s ∙ sym h) (λ c l. same c (omega (arith, pruned_long s)) (e c (omega (arith, pruned_long s))) (split (in_set b c))))
        go (inr d) = inr d

    -- as many rounds as there are cavity cells outside the base are enough
    pub settles_within : (s : List Bool) → length s ≡ n →
        corrected t n p b s ≡ iterate (count_below n (λ c. in_set s c && not (in_set b c))) (pruned t n p b) s
    settles_within s h =
        corrected_stops s (count_below n (outside s)) (count_le n (outside s))
        (settles (pruned t n p b) (λ r. count_below n (outside r)) (λ r. length r ≡ n) (λ r l. pruned_long r) pruned_falls (count_below n (outside s)) s h (omega arith))

    pub corrected_unmarked : (s : List Bool) → length s ≡ n → (c : ℕ) → in_set (corrected t n p b s) c ≡ true → marked t n p b (corrected t n p b s) c ≡ false
    corrected_unmarked s h c e =
        not-true (marked t n p b (corrected t n p b s) c)
        (and_right (in_set (corrected t n p b s) c) (not (marked t n p b (corrected t n p b s) c))
        (sym (pruned_at (corrected t n p b s) c (omega (arith, flag_below (corrected t n p b s) c e, corrected_long s h))) ∙
        (ap (λ r. in_set r c) (corrected_fixed s h) ∙ e)))

    unmarked_good : (s : List Bool) (c : ℕ) → in_set s c ≡ true → in_set b c ≡ false → marked t n p b s c ≡ false → (faces_good t p s c && corners_good t n p s c) ≡ true
    unfolding marked
    unmarked_good s c h k m = not-false (faces_good t p s c && corners_good t n p s c) (sym (rw (h, k)) ∙ m)

-- ---- C2 and C3

module _ {X Y Z pc cc np n : ℕ} {t : Tables} (M : IsMesh X Y Z pc cc np n t) (R : Room pc cc t)
    (p : Position) (new : (k : ℕ) → k < np → p ≢ point t k) (s : List Bool) (cells : (c : ℕ) → in_set s c ≡ true → IsCell t n c)
    (has : (c : ℕ) → in_set (base t n p) c ≡ true → in_set s c ≡ true)
    (good : (c : ℕ) → in_set s c ≡ true → in_set (base t n p) c ≡ false → (faces_good t p s c && corners_good t n p s c) ≡ true) where
  held : (c : ℕ) → in_set (base t n p) c ≡ true → Holds t p c
  held c e = holds_of t p c (sym (base_at t n p c (base_below t n p c e)) ∙ e)

  pub outer_good : (f : ℕ) → outer (across t) (in_set s) f ≡ true → (visible t p s f ≡ true) ⊎ (coplanar t p f ≡ true)
  unfolding Holds
  outer_good f o = go (split (in_set (base t n p) (cell_of f)))
    where
      q : Outer t s f
      q = outer_of_lem t s f o

      f< : IsFace t n f
      f< = cells (cell_of f) q.held

      go : (in_set (base t n p) (cell_of f) ≡ true) ⊎ (in_set (base t n p) (cell_of f) ≡ false) → (visible t p s f ≡ true) ⊎ (coplanar t p f ≡ true)
      go (inr b) =
          subst (λ g. (visible t p s g ≡ true) ⊎ (coplanar t p g ≡ true)) (face_eq f)
          (faces_good_lem t p s (cell_of f) (opposite f) (and_left (faces_good t p s (cell_of f)) (corners_good t n p s (cell_of f)) (good (cell_of f) q.held b)) (opposite< f)
          (ap (outer (across t) (in_set s)) (face_eq f) ∙ o))
      go (inl b) = by (trichotomy (pos 0) (side t p f)) (ℕ_discrete (across t f) none)
        where
          not_below : pos 0 ≤ℤ side t p f
          not_below = subst (λ z. pos 0 ≤ℤ z) (sym (side_at_lem t p (cell_of f) (opposite f) (opposite< f)) ∙ ap (side t p) (face_eq f)) (held (cell_of f) b (opposite f) (opposite< f))

          by : (pos 0 <ℤ side t p f) ⊎ ((pos 0 ≡ side t p f) ⊎ (side t p f <ℤ pos 0)) → Dec (across t f ≡ none) → (visible t p s f ≡ true) ⊎ (coplanar t p f ≡ true)
          by (inl h) d = inl (visible_yes t p s f o h)
          by (inr (inl h)) (yes e) = inr (coplanar_yes t p f e (sym h))
          by (inr (inl h)) (no e) =
              clash (has (across t f) (base_at t n p (across t f) (M.across< f f< e) ∙
              holds_yes t p (across t f) (across_cell M R f f< e).lives (neighbour_holds M R f f< e p (held (cell_of f) b) (sym h)))) q.free
          by (inr (inr h)) d = absurd (<-irrefl (<-≤-trans h not_below))

  pub corner_exposed_lem : (c i : ℕ) → in_set s c ≡ true → i < 4 → Exposed t n p s (corner t c i)
  unfolding Holds
  corner_exposed_lem c i e hi = go (split (in_set (base t n p) c))
    where
      outside : (c i : ℕ) → in_set s c ≡ true → i < 4 → in_set (base t n p) c ≡ false → Exposed t n p s (corner t c i)
      outside c i e hi b = corners_good_lem t n p s cells c i (and_right (faces_good t p s c) (corners_good t n p s c) (good c e b)) hi

      away : in_set (base t n p) c ≡ true → (j : ℕ) × (j < 4) × ((j ≢ i) × (pos 0 <ℤ volume (replaced (corner_at t c) j p)))
      away b = other_weight (corner_at t c) p i hi (above c (cells c e)) (held c b) (apart c i (cells c e) hi)
        where
          above : (c : ℕ) → IsCell t n c → pos 0 <ℤ volume (corner_at t c)
          above c h = unfold cell_volume in M.positive c h

          apart : (c i : ℕ) → IsCell t n c → i < 4 → p ≢ corner_at t c i
          apart c i h k = unfold corner_at in new (corner t c i) (M.corner< c i h k)

      go : (in_set (base t n p) c ≡ true) ⊎ (in_set (base t n p) c ≡ false) → Exposed t n p s (corner t c i)
      go (inr b) = outside c i e hi b
      go (inl b) = at (away b)
        where
          at : (j : ℕ) × (j < 4) × ((j ≢ i) × (pos 0 <ℤ volume (replaced (corner_at t c) j p))) → Exposed t n p s (corner t c i)
          at w = by (split (in_set s (across t f)))
            where
              f : ℕ
              f = 4 * c + w.0

              cell_is : cell_of f ≡ c
              cell_is = face_cell c w.0 w.1

              f< : IsFace t n f
              f< = face_in c w.0 w.1 (cells c e)

              front : pos 0 <ℤ side t p f
              front = subst (λ z. pos 0 <ℤ z) (sym (side_at_lem t p c w.0 w.1)) w.2.1

              off : i ≢ opposite f
              off q = w.2.0 (sym (q ∙ face_opposite c w.0 w.1))

              on : OnFace t f (corner t c i)
              on = record { place = i; place< = hi; off = off; is = ap (λ x. corner t x i) cell_is }

              by : (in_set s (across t f) ≡ true) ⊎ (in_set s (across t f) ≡ false) → Exposed t n p s (corner t c i)
              by (inr g) = record { face = f; face< = f<; face_visible = visible_yes t p s f (outer_yes t s f (ap (in_set s) cell_is ∙ e) g) front; on = on }
              by (inl g) = subst (Exposed t n p s) same (outside (cell_of (mate t f)) shared.place (ap (in_set s) far ∙ g) shared.place< not_base)
                where
                  real : across t f ≢ none
                  real = omega (arith, (cells (across t f) g).below, few M R)

                  far : cell_of (mate t f) ≡ across t f
                  far = (mated M R f f< real).far_cell

                  shared : OnFace t (mate t f) (corner t (cell_of f) i)
                  shared = (mated M R f f< real).same i hi off

                  same : corner t (cell_of (mate t f)) shared.place ≡ corner t c i
                  same = shared.is ∙ ap (λ x. corner t x i) cell_is

                  behind : side t p (mate t f) <ℤ pos 0
                  behind = subst (λ z. z <ℤ pos 0) (sym (mate_opposite M R f f< real p)) (neg-mono-< front)

                  not_base : in_set (base t n p) (cell_of (mate t f)) ≡ false
                  not_base = no_base (split (in_set (base t n p) (cell_of (mate t f))))
                    where
                      no_base : (in_set (base t n p) (cell_of (mate t f)) ≡ true) ⊎ (in_set (base t n p) (cell_of (mate t f)) ≡ false) → in_set (base t n p) (cell_of (mate t f)) ≡ false
                      no_base (inr h) = h
                      no_base (inl h) =
                          absurd (<-irrefl (≤-<-trans (subst (λ z. pos 0 ≤ℤ z) (sym (side_at_lem t p (cell_of (mate t f)) (opposite (mate t f)) (opposite< (mate t f))) ∙ ap (side t p) (face_eq (mate t f)))
                          (held (cell_of (mate t f)) h (opposite (mate t f)) (opposite< (mate t f)))) behind))

-- The corrected cavity of a point that some cell holds, whatever the answers.
module _ {X Y Z pc cc np n : ℕ} {t : Tables} (M : IsMesh X Y Z pc cc np n t) (R : Room pc cc t)
    (p : Position) (new : (k : ℕ) → k < np → p ≢ point t k) (yes? : ℕ → Bool) (c₀ : ℕ) (some : in_set (base t n p) c₀ ≡ true) where
  abbrev first : List Bool
  first = cavity_of t n p yes?

  abbrev last : List Bool
  last = corrected_cavity t n p yes?

  first_long : length first ≡ n
  unfolding cavity_of
  first_long = cavity_long t n p yes? (base t n p) (base_long t n p)

  pub cavity_has_base : (c : ℕ) → in_set (base t n p) c ≡ true → in_set first c ≡ true
  unfolding cavity_of
  cavity_has_base = cavity_has t n p yes? (base t n p) (base_long t n p)

  last_long : length last ≡ n
  unfolding corrected_cavity
  last_long = corrected_long t n p (base t n p) first first_long

  last_cells : (c : ℕ) → in_set last c ≡ true → IsCell t n c
  unfolding corrected_cavity cavity_of
  last_cells = corrected_cells t n p (base t n p) first (cavity_cells t n p yes? (base t n p) (base_cell t n p))

  last_has : (c : ℕ) → in_set (base t n p) c ≡ true → in_set last c ≡ true
  unfolding corrected_cavity
  last_has = corrected_has t n p (base t n p) first (base_long t n p) cavity_has_base

  last_good : (c : ℕ) → in_set last c ≡ true → in_set (base t n p) c ≡ false → (faces_good t p last c && corners_good t n p last c) ≡ true
  unfolding corrected_cavity
  last_good c e b = unmarked_good t n p (base t n p) last c e b (corrected_unmarked t n p (base t n p) first first_long c e)

  pub corrected_star_shaped : StarShaped t n p last
  corrected_star_shaped = record {
    cells = last_cells;
    faces = outer_good M R p new last last_cells last_has last_good;
    corners = corner_exposed_lem M R p new last last_cells last_has last_good;
    some = (c₀, last_has c₀ some);
  }

-- ---- a star-shaped set is left as it is

module _ {t : Tables} {n : ℕ} {p : Position} {s : List Bool} (S : StarShaped t n p s) where
  good_faces : (c : ℕ) → faces_good t p s c ≡ true
  unfolding faces_good
  good_faces c = all_intro 4 (λ k. not (outer (across t) (in_set s) (4 * c + k)) || (coplanar t p (4 * c + k) || visible t p s (4 * c + k))) (λ k h. each (4 * c + k))
    where
      each : (f : ℕ) → (not (outer (across t) (in_set s) f) || (coplanar t p f || visible t p s f)) ≡ true
      each f = by (split (outer (across t) (in_set s) f))
        where
          at : (visible t p s f ≡ true) ⊎ (coplanar t p f ≡ true) → (coplanar t p f || visible t p s f) ≡ true
          at (inl h) = or_right (coplanar t p f) (visible t p s f) h
          at (inr h) = or_left (coplanar t p f) (visible t p s f) h

          by : (outer (across t) (in_set s) f ≡ true) ⊎ (outer (across t) (in_set s) f ≡ false) → (not (outer (across t) (in_set s) f) || (coplanar t p f || visible t p s f)) ≡ true
          by (inl o) = or_right (not (outer (across t) (in_set s) f)) (coplanar t p f || visible t p s f) (at (S.faces f o))
          by (inr o) = or_left (not (outer (across t) (in_set s) f)) (coplanar t p f || visible t p s f) (ap not o)

  good_corners : (c : ℕ) → in_set s c ≡ true → corners_good t n p s c ≡ true
  unfolding corners_good
  good_corners c e = all_intro 4 (λ k. any_below (4 * n) (λ f. visible t p s f && face_has t f (corner t c k))) each
    where
      each : (k : ℕ) → k < 4 → any_below (4 * n) (λ f. visible t p s f && face_has t f (corner t c k)) ≡ true
      each k h =
          let E = S.corners c k e h in
          any_intro (4 * n) (λ f. visible t p s f && face_has t f (corner t c k)) E.face (face< E.face E.face<) (and_intro E.face_visible (on_face_yes t E.face (corner t c k) E.on))

  module _ (b : List Bool) where
    unmarked : (c : ℕ) → in_set s c ≡ true → marked t n p b s c ≡ false
    unfolding marked
    unmarked c e = rw (e, good_faces c, good_corners c e) (go (in_set b c))
      where
        go : (x : Bool) → (not x && false) ≡ false
        go true = refl
        go false = refl

    stays : (c : ℕ) → (in_set s c && not (marked t n p b s c)) ≡ in_set s c
    stays c = by (split (in_set s c))
      where
        by : (in_set s c ≡ true) ⊎ (in_set s c ≡ false) → (in_set s c && not (marked t n p b s c)) ≡ in_set s c
        by (inl e) = and_intro e (ap not (unmarked c e)) ∙ sym e
        by (inr e) = rw e

    pub star_shaped_stays : length s ≡ n → corrected t n p b s ≡ s
    unfolding corrected
    star_shaped_stays long =
        iterate_fixed (pruned t n p b) n s
        (ext_get_or false (pruned t n p b s) s (pruned_long t n p b s ∙ sym long)
        (λ c h. let c< : c < n = omega (arith, pruned_long t n p b s) in pruned_at t n p b s c c< ∙ stays c))

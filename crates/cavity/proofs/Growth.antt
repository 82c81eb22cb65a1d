-- The cavity before correction is the least set that has the base and, with a cell, each neighbour whose answer is yes.
use Prim.Native.Nat.{ℕ, ◌+◌, ◌*◌, ◌<◌}
use mathlib.Core.Bool.{Bool, true, false, ◌&&◌, ◌||◌}
use mathlib.Core.Logic.{◌≢◌, ◌⊎◌, inl, inr}
use mathlib.Core.Path.{◌≡◌, refl, sym, ap, ◌∙◌, subst}
use mathlib.Core.List.{List}
use native.Mathlib.Omega.{arith}
use lib.Dec.{eqb}
use lib.ListN.{length}
use borrow.Author.Tests.{eq-eqb, eqb-true}
use lib.Seq.{ext_get_or}
use Rattle.arith.specs.Table.{any_below}
use Rattle.arith.proofs.Flags.{bool_ext, flag_below, and_left, and_right, and_intro, or_cases, or_left, or_right}
use Rattle.arith.proofs.Tables.{tabulate_length, tabulate_at, any_found, any_intro, Found}
use Rattle.arith.proofs.Settling.{iterate_keeps, setting_settles}
use Rattle.geometry.specs.declared.Position.{Position}
use Rattle.mesh.specs.Tables.{Tables, none, cell_of, opposite, across, mate, live, IsCell, IsFace}
use Rattle.mesh.specs.Mesh.{IsMesh}
use Rattle.mesh.proofs.Room.{Room}
use Rattle.mesh.proofs.Faces.{few, mated, mate<, across_cell}
use Rattle.mesh.proofs.FaceNumbers.{face_cell, opposite<, face_eq, face<, face_in}
use Rattle.cavity.specs.Cavity.{in_set, grown, cavity}
use Rattle.cavity.proofs.Correction.{cavity_long}

-- in a mesh a cell has a cell of s across one of its faces just where a cell of s has it across one of its own
pub either_way : {X Y Z pc cc np n : ℕ} {t : Tables} → IsMesh X Y Z pc cc np n t → Room pc cc t → (s : List Bool) → ((c : ℕ) → in_set s c ≡ true → IsCell t n c) → (c : ℕ) → IsCell t n c →
    any_below 4 (λ k. in_set s (across t (4 * c + k))) ≡ any_below (4 * n) (λ f. in_set s (cell_of f) && eqb (across t f) c)
either_way {n = n} {t} M R s cells c c< = bool_ext (any_below 4 near) (any_below (4 * n) names) there back
  where
    near : ℕ → Bool
    near k = in_set s (across t (4 * c + k))

    names : ℕ → Bool
    names f = in_set s (cell_of f) && eqb (across t f) c

    there : any_below 4 near ≡ true → any_below (4 * n) names ≡ true
    there e =
        let r = any_found 4 near e in
        let f : ℕ = 4 * c + r.at in
        let f< = face_in c r.at r.below c< in
        let real : across t f ≢ none = omega (arith, (cells (across t f) r.passes).below, few M R) in
        let m = mated M R f f< real in
        any_intro (4 * n) names (mate t f) (face< (mate t f) (mate< M R f f< real))
        (and_intro (ap (in_set s) m.far_cell ∙ r.passes) (eq-eqb (across t (mate t f)) c (m.back ∙ face_cell c r.at r.below)))

    back : any_below (4 * n) names ≡ true → any_below 4 near ≡ true
    back e =
        let r = any_found (4 * n) names e in
        let f = r.at in
        let here = eqb-true (across t f) c (and_right (in_set s (cell_of f)) (eqb (across t f) c) r.passes) in
        let real : across t f ≢ none = omega (arith, here, c<.below, few M R) in
        let m = mated M R f (cells (cell_of f) (and_left (in_set s (cell_of f)) (eqb (across t f) c) r.passes)) real in
        any_intro 4 near (opposite (mate t f)) (opposite< (mate t f))
        (ap (λ g. in_set s (across t g)) (ap (λ d. 4 * d + opposite (mate t f)) (sym (m.far_cell ∙ here)) ∙ face_eq (mate t f)) ∙
        (ap (in_set s) m.back ∙ and_left (in_set s (cell_of f)) (eqb (across t f) c) r.passes))

module _ {X Y Z pc cc np n : ℕ} {t : Tables} (M : IsMesh X Y Z pc cc np n t) (R : Room pc cc t) (yes? : ℕ → Bool) (b : List Bool) (long : length b ≡ n) where
  abbrev joins : List Bool → ℕ → Bool
  joins s c = in_set s c || ((live t c && yes? c) && any_below 4 (λ k. in_set s (across t (4 * c + k))))

  grown_at : (s : List Bool) (c : ℕ) → c < n → in_set (grown t n yes? s) c ≡ joins s c
  unfolding grown
  grown_at s c h = tabulate_at n (λ c. joins s c) c false h

  grown_long : (s : List Bool) → length (grown t n yes? s) ≡ n
  unfolding grown
  grown_long s = tabulate_length n (λ c. joins s c)

  -- n rounds are enough
  pub cavity_fixed : grown t n yes? (cavity t n yes? b) ≡ cavity t n yes? b
  unfolding cavity
  cavity_fixed =
      setting_settles n (grown t n yes?) (λ l e. grown_long l)
      (λ l e k h q. grown_at l k h ∙ or_left (in_set l k) ((live t k && yes? k) && any_below 4 (λ j. in_set l (across t (4 * k + j)))) q) b long

  pub cavity_closed : (f : ℕ) → IsFace t n f → in_set (cavity t n yes? b) (cell_of f) ≡ true → across t f ≢ none → yes? (across t f) ≡ true → in_set (cavity t n yes? b) (across t f) ≡ true
  cavity_closed f f< e real y =
      ap (λ s. in_set s (across t f)) (sym cavity_fixed) ∙
      (grown_at (cavity t n yes? b) (across t f) (M.across< f f< real) ∙
      or_right (in_set (cavity t n yes? b) (across t f)) ((live t (across t f) && yes? (across t f)) && any_below 4 (λ k. in_set (cavity t n yes? b) (across t (4 * across t f + k))))
      (and_intro (and_intro (across_cell M R f f< real).lives y) (any_intro 4 (λ k. in_set (cavity t n yes? b) (across t (4 * across t f + k))) (opposite (mate t f)) (opposite< (mate t f))
      (ap (λ g. in_set (cavity t n yes? b) (across t g)) (ap (λ x. 4 * x + opposite (mate t f)) (sym (mated M R f f< real).far_cell) ∙ face_eq (mate t f)) ∙
      (ap (in_set (cavity t n yes? b)) (mated M R f f< real).back ∙ e)))))

  pub cavity_least : (Q : ℕ → Type 0) → ((c : ℕ) → in_set b c ≡ true → Q c) →
      ((f : ℕ) → IsFace t n f → Q (cell_of f) → across t f ≢ none → yes? (across t f) ≡ true → Q (across t f)) →
      (c : ℕ) → in_set (cavity t n yes? b) c ≡ true → Q c
  unfolding cavity
  cavity_least Q base step = (iterate_keeps (grown t n yes?) (λ s. (length s ≡ n) × ((c : ℕ) → in_set s c ≡ true → Q c)) keep n b (long, base)).1
    where
      keep : (s : List Bool) → (length s ≡ n) × ((c : ℕ) → in_set s c ≡ true → Q c) → (length (grown t n yes? s) ≡ n) × ((c : ℕ) → in_set (grown t n yes? s) c ≡ true → Q c)
      keep s h = (grown_long s, more)
        where
          more : (c : ℕ) → in_set (grown t n yes? s) c ≡ true → Q c
          more c e = go (or_cases (in_set s c) ((live t c && yes? c) && any_below 4 (λ k. in_set s (across t (4 * c + k)))) (sym (grown_at s c c<) ∙ e))
            where
              c< : c < n
              c< = omega (arith, flag_below (grown t n yes? s) c e, grown_long s)

              go : (in_set s c ≡ true) ⊎ (((live t c && yes? c) && any_below 4 (λ k. in_set s (across t (4 * c + k)))) ≡ true) → Q c
              go (inl q) = h.1 c q
              go (inr q) = by (any_found 4 (λ k. in_set s (across t (4 * c + k))) (and_right (live t c && yes? c) (any_below 4 (λ k. in_set s (across t (4 * c + k)))) q))
                where
                  by : Found 4 (λ k. in_set s (across t (4 * c + k))) → Q c
                  by r = subst Q here (step g (mate< M R f f< real) (subst Q (sym (mated M R f f< real).far_cell) (h.1 (across t f) r.passes)) (λ e. none_off (sym here ∙ e)) (ap yes? here ∙ and_right (live t c) (yes? c) (and_left (live t c && yes? c) (any_below 4 (λ k. in_set s (across t (4 * c + k)))) q)))
                    where
                      f : ℕ
                      f = 4 * c + r.at

                      f< : IsFace t n f
                      f< = face_in c r.at r.below record { below = c<; lives = and_left (live t c) (yes? c) (and_left (live t c && yes? c) (any_below 4 (λ k. in_set s (across t (4 * c + k)))) q) }

                      real : across t f ≢ none
                      real = omega (arith, flag_below s (across t f) r.passes, h.0, few M R)

                      g : ℕ
                      g = mate t f

                      here : across t g ≡ c
                      here = (mated M R f f< real).back ∙ face_cell c r.at r.below

                      none_off : c ≢ none
                      none_off = omega (arith, few M R, c<)

  -- a set with the base, closed under growing, with nothing that is not in the cavity: the cavity (for code that keeps a list)
  pub cavity_is : (s : List Bool) → length s ≡ n → ((c : ℕ) → in_set b c ≡ true → in_set s c ≡ true) →
      ((f : ℕ) → IsFace t n f → in_set s (cell_of f) ≡ true → across t f ≢ none → yes? (across t f) ≡ true → in_set s (across t f) ≡ true) →
      ((c : ℕ) → in_set s c ≡ true → in_set (cavity t n yes? b) c ≡ true) → s ≡ cavity t n yes? b
  cavity_is s l has closed only =
      ext_get_or false s (cavity t n yes? b) (l ∙ sym cavity_length) (λ c h. flags (in_set s c) (in_set (cavity t n yes? b) c) (only c) (cavity_least (λ c. in_set s c ≡ true) has closed c))
    where
      flags : (x y : Bool) → (x ≡ true → y ≡ true) → (y ≡ true → x ≡ true) → x ≡ y
      flags true y h k = sym (h refl)
      flags false true h k = k refl
      flags false false h k = refl

      cavity_length : length (cavity t n yes? b) ≡ n
      cavity_length = cavity_long t n none_point yes? b long
        where
          none_point : Position
          none_point = record { x = 0; y = 0; z = 0 }

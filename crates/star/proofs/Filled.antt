-- The starred tables with the cavity's entries freed are the new tables: what the code has to do, and no more.
use Prim.Native.Nat.{ℕ, ◌+◌, ◌*◌, ◌/◌, ◌<◌}
use mathlib.Core.Bool.{Bool, true, false, cond, ◌&&◌}
use mathlib.Core.List.{List}
use mathlib.Core.Logic.{◌≢◌, ◌⊎◌, inl, inr}
use mathlib.Core.Path.{◌≡◌, refl, sym, ap, ◌∙◌}
use native.Mathlib.Omega.{arith}
use native.Mathlib.Decide.{ℕ_discrete, dec_lt}
use borrow.Author.Tests.{eq-eqb, ne_eqb, lt-ltb, le-ltb}
use lib.Dec.{eqb, ltb}
use lib.ListN.{length, get_or}
use Rattle.arith.specs.Table.{count_below}
use Rattle.arith.proofs.Counting.{count_one}
use Rattle.arith.proofs.Flags.{split, clash, fails}
use Rattle.geometry.specs.declared.Position.{Position}
use Rattle.mesh.specs.Tables.{Tables, none, cell_of, across, mate, live, IsFace}
use Rattle.mesh.specs.Mesh.{IsMesh}
use Rattle.mesh.proofs.FaceNumbers.{face_cell}
use Rattle.mesh.proofs.Faces.{mated}
use Rattle.cavity.specs.Cavity.{in_set, visible}
use Rattle.cavity.specs.Inner.Star.{StarShaped}
use Rattle.cavity.proofs.Tests.{visible_of}
use Rattle.star.specs.Star.{made_count, old_across, made_across, made_corner, slot, star_numbers, head_of, highest_below, chain_left, new_corners, new_neighbours}
use Rattle.star.specs.Inner.{entry_at, Places, Untaken, Starred, CavityReplaced}
use Rattle.star.proofs.NewFaces.{mate_visible}
use Rattle.star.proofs.Star.{Fits, slot<, slot_off, slot_one, rank<, table_is}

module _ {X Y Z pc cc np n : ℕ} {t : Tables} (M : IsMesh X Y Z pc cc np n t) {p : Position} {s : List Bool} {ch : List ℕ} (C : StarShaped t n p s) (P : Fits pc cc np n t p s ch) where
  -- the numbers of the layout are places
  pub star_places : Places (star_numbers ch t n p s) t n p s cc
  star_places = record {
    cells = P.cells;
    one = λ f g v w e. count_one (visible t p s) f g v w (slot_one P.spare (count_below f (visible t p s)) (count_below g (visible t p s)) e);
    off = λ c f h v e. slot_off P.spare c (count_below f (visible t p s)) h (sym e);
    below = λ f v. omega (arith, slot< P.spare (count_below f (visible t p s)) (made_count t n p s) (rank< P f v), P.used≤);
  }

  untaken : (c : ℕ) → ((a : ℕ) → a < made_count t n p s → slot ch n a ≢ c) → Untaken (star_numbers ch t n p s) t p s c
  untaken c off f v e = off (count_below f (visible t p s)) (rank< P f v) e

  made_out : (f : ℕ) → visible t p s f ≡ true → in_set s (slot ch n (count_below f (visible t p s))) ≡ false
  made_out f v = fails (in_set s (slot ch n (count_below f (visible t p s)))) (λ e. slot_off P.spare (slot ch n (count_below f (visible t p s))) (count_below f (visible t p s)) (P.cells (slot ch n (count_below f (visible t p s))) e) refl)

  -- at a new cell, what was starred
  at_made : {gone : ℕ → ℕ → ℕ} {l l' : List ℕ} → CavityReplaced s gone l l' → (f j : ℕ) → visible t p s f ≡ true → j < 4 →
      entry_at l' (slot ch n (count_below f (visible t p s))) j ≡ entry_at l (slot ch n (count_below f (visible t p s))) j
  at_made Q f j v h =
      Q.else (4 * slot ch n (count_below f (visible t p s)) + j) (ap (in_set s) (face_cell (slot ch n (count_below f (visible t p s))) j h) ∙ made_out f v)

  module _ {cs ns : List ℕ} (S : Starred (star_numbers ch t n p s) t n p np s (visible t p s) cs ns) where
    pub corners_filled : {cs' : List ℕ} → CavityReplaced s (λ c i. none) cs cs' → cs' ≡ new_corners ch t n p np s
    unfolding new_corners
    corners_filled Q =
        table_is P (λ c i. none) (made_corner t np) (λ q. get_or t.corners q 0) (length t.corners) _ (Q.long ∙ S.corners_long)
        Q.freed
        (λ f j v h. at_made Q f j v h ∙ S.corners_new f j v h)
        (λ q h e off. Q.else q e ∙ S.corners_else q (untaken (cell_of q) off))

    -- what a kept cell has across, the star says
    kept_right : (q : ℕ) → IsFace t n q → in_set s (cell_of q) ≡ false → get_or ns q 0 ≡ old_across (star_numbers ch t n p s) t s q
    unfolding old_across
    kept_right q f out = go (ℕ_discrete (across t q) none) (split (in_set s (across t q)))
      where
        go : Dec (across t q ≡ none) → (in_set s (across t q) ≡ true) ⊎ (in_set s (across t q) ≡ false) → get_or ns q 0 ≡ old_across (star_numbers ch t n p s) t s q
        go (yes e) b = S.unnamed q f (λ r. absurd (r e)) ∙ (e ∙ sym (rw (eq-eqb (across t q) none e)))
        go (no r) (inl b) = S.named q f r (mate_visible M P.room C q f r out b) ∙ sym (rw (ne_eqb (across t q) none r, b))
        go (no r) (inr b) = S.unnamed q f (λ x. free) ∙ sym (rw (ne_eqb (across t q) none r, b))
          where
            free : visible t p s (mate t q) ≡ false
            free = fails (visible t p s (mate t q)) (λ v. clash (visible_of t p s (mate t q) v).held (ap (in_set s) (mated M P.room q f r).far_cell ∙ b))

    pub neighbours_filled : {ns' : List ℕ} → CavityReplaced s (λ c i. cond (eqb i 0) (highest_below s (head_of (chain_left ch t n p s)) c) none) ns ns' → ns' ≡ new_neighbours ch t n p s
    unfolding new_neighbours
    neighbours_filled Q =
        table_is P (λ c i. cond (eqb i 0) (highest_below s (head_of (chain_left ch t n p s)) c) none) (made_across (star_numbers ch t n p s) t n p s)
        (λ q. cond (ltb (q / 4) n && live t (q / 4)) (old_across (star_numbers ch t n p s) t s q) (get_or t.neighbours q 0)) (length t.neighbours) _ (Q.long ∙ S.neighbours_long)
        Q.freed
        (λ f j v h. at_made Q f j v h ∙ S.neighbours_new f j v h)
        (λ q h e off. Q.else q e ∙ rest q e off (dec_lt (cell_of q) n) (split (live t (cell_of q))))
      where
        rest : (q : ℕ) → in_set s (cell_of q) ≡ false → ((a : ℕ) → a < made_count t n p s → slot ch n a ≢ cell_of q) → Dec (cell_of q < n) → (live t (cell_of q) ≡ true) ⊎ (live t (cell_of q) ≡ false) →
            get_or ns q 0 ≡ cond (ltb (q / 4) n && live t (q / 4)) (old_across (star_numbers ch t n p s) t s q) (get_or t.neighbours q 0)
        rest q e off (yes h) (inl a) = rw (lt-ltb (q / 4) n h, a) (kept_right q record { below = h; lives = a } e)
        rest q e off (yes h) (inr a) = rw (lt-ltb (q / 4) n h, a) (S.neighbours_else q (untaken (cell_of q) off) (λ f. clash f.lives a))
        rest q e off (no h) b = rw (le-ltb (q / 4) n (omega arith)) (S.neighbours_else q (untaken (cell_of q) off) (λ f. h f.below))

-- Request §11's layout: kept cells keep their numbers, new ones take the chain and then the end of the table. It is a star.
use Prim.Native.Nat.{ℕ, ◌+◌, ◌*◌, ◌-◌, ◌/◌, ◌≤◌, ◌<◌}
use mathlib.Core.Bool.{Bool, true, false, not, cond, ◌&&◌}
use mathlib.Core.List.{List}
use mathlib.Core.Logic.{◌≢◌, ◌⊎◌, inl, inr}
use mathlib.Core.Path.{◌≡◌, refl, sym, ap, ◌∙◌, subst}
use native.Mathlib.Omega.{arith}
use native.Mathlib.Decide.{ℕ_discrete, dec_lt}
use lib.Dec.{eqb, ltb}
use lib.ListN.{length, get_or}
use lib.Seq.{ext_get_or}
use borrow.Author.Tests.{lt-ltb, le-ltb, eq-eqb, ne_eqb, not-true}
use Rattle.arith.specs.Table.{count_below, tabulate}
use Rattle.arith.proofs.Flags.{split, clash}
use Rattle.arith.proofs.Tables.{tabulate_at, tabulate_length, first_is, first_none, find}
use Rattle.arith.proofs.Counting.{select_length, select_at, select_picks, Picked, count_lt, count_le, count_one}
use Rattle.geometry.specs.declared.Position.{Position}
use Rattle.mesh.specs.Tables.{Tables, none, cell_of, opposite, corner, across, live, IsCell, IsFace}
use Rattle.mesh.specs.Chain.{Spare}
use Rattle.mesh.proofs.Room.{Room}
use Rattle.mesh.proofs.Chains.{not_longer}
use Rattle.mesh.proofs.Live.{freed_of, live_same}
use Rattle.mesh.proofs.FaceNumbers.{face_cell, face_opposite, face<, opposite<}
use Rattle.cavity.specs.Cavity.{in_set, visible}
use Rattle.cavity.proofs.Tests.{visible_of}
use Rattle.star.specs.Star.{kept?, made_count, made_faces, old_across, made_across, made_corner, new_points, slot, star_numbers, used_after, new_at, head_of, highest_below, chain_left, entry, new_corners, new_neighbours, star}
use Rattle.star.proofs.Points as points
use Rattle.star.proofs.Numbered.{IsStar, Origin, from_kept, from_made}

module _ {t : Tables} {n : ℕ} {ch : List ℕ} (S : Spare t n ch) where
  -- ---- the numbers of the new cells

  pub data Taken (r : ℕ) : Type 0 where
    on_chain : r < length ch → slot ch n r ≡ get_or ch r 0 → Taken r
    at_end : length ch ≤ r → slot ch n r ≡ n + (r - length ch) → Taken r

  pub taken : (r : ℕ) → Taken r
  unfolding slot
  taken r = go (dec_lt r (length ch))
    where
      go : Dec (r < length ch) → Taken r
      go (yes h) = on_chain h (rw (lt-ltb r (length ch) h))
      go (no h) = at_end (omega arith) (rw (le-ltb r (length ch) (omega arith)))

  -- no entry is on it twice, so it is not longer than what is in use
  pub spare_few : length ch ≤ n
  spare_few = omega (arith, not_longer S (λ k. true) (λ k l. refl), count_le n (λ k. true))

  pub slot_one : (j k : ℕ) → slot ch n j ≡ slot ch n k → j ≡ k
  slot_one j k e = go (taken j) (taken k)
    where
      go : Taken j → Taken k → j ≡ k
      go (on_chain h x) (on_chain l y) = S.once j k h l (sym x ∙ (e ∙ y))
      go (on_chain h x) (at_end l y) = absurd (omega (arith, S.below j h))
      go (at_end h x) (on_chain l y) = absurd (omega (arith, S.below k l))
      go (at_end h x) (at_end l y) = omega arith

  pub slot< : (r m : ℕ) → r < m → slot ch n r < used_after ch n m
  unfolding used_after
  slot< r m h = go (taken r)
    where
      go : Taken r → slot ch n r < n + (m - length ch)
      go (on_chain l x) = omega (arith, S.below r l)
      go (at_end l x) = omega arith

  -- no cell stands there
  pub slot_off : (c r : ℕ) → IsCell t n c → c ≢ slot ch n r
  slot_off c r h e = go (taken r)
    where
      go : Taken r → ⊥
      go (on_chain l x) = clash h.lives (ap (live t) (e ∙ x) ∙ S.dead r l)
      go (at_end l x) = omega (arith, h.below)

  -- past the old end, all are new
  pub slot_end : (c m : ℕ) → n ≤ c → c < used_after ch n m → (r : ℕ) × (r < m) × (slot ch n r ≡ c)
  unfolding used_after
  slot_end c m h l = (length ch + (c - n), omega arith, by (taken (length ch + (c - n))))
    where
      by : Taken (length ch + (c - n)) → slot ch n (length ch + (c - n)) ≡ c
      by (on_chain k x) = absurd (omega arith)
      by (at_end k x) = x ∙ omega arith

  pub slot_cases : (c m : ℕ) → ((r : ℕ) × (r < m) × (slot ch n r ≡ c)) ⊎ ((r : ℕ) → r < m → slot ch n r ≢ c)
  slot_cases c m = find m (λ r. slot ch n r ≡ c) (λ r. slot ch n r ≢ c) (λ r h. go r (ℕ_discrete (slot ch n r) c))
    where
      go : (r : ℕ) → Dec (slot ch n r ≡ c) → (slot ch n r ≡ c) ⊎ (slot ch n r ≢ c)
      go r (yes e) = inl e
      go r (no d) = inr d

  pub new_at_lem : (m r : ℕ) → r < m → new_at ch n m (slot ch n r) ≡ r
  unfolding new_at
  new_at_lem m r h =
      first_is m (λ k. eqb (slot ch n k) (slot ch n r)) r h (eq-eqb (slot ch n r) (slot ch n r) refl)
      (λ k l. ne_eqb (slot ch n k) (slot ch n r) (λ e. absurd (omega (arith, slot_one k r e))))

  pub new_off : (m c : ℕ) → ((r : ℕ) → r < m → slot ch n r ≢ c) → new_at ch n m c ≡ m
  unfolding new_at
  new_off m c off = first_none m (λ k. eqb (slot ch n k) c) (λ k l. ne_eqb (slot ch n k) c (off k l))

-- a cavity of cells, a right chain, and room for the point and the new cells
pub record Fits (pc cc np n : ℕ) (t : Tables) (p : Position) (s : List Bool) (ch : List ℕ) : Type 0 where
  pub spare : Spare t n ch
  pub room : Room pc cc t
  pub cells : (c : ℕ) → in_set s c ≡ true → IsCell t n c
  pub next : np < pc
  pub used≤ : used_after ch n (made_count t n p s) ≤ cc

module _ {pc cc np n : ℕ} {t : Tables} {p : Position} {s : List Bool} {ch : List ℕ} (P : Fits pc cc np n t p s ch) where
  abbrev S : Spare t n ch
  S = P.spare

  abbrev R : Room pc cc t
  R = P.room

  abbrev m : ℕ
  m = made_count t n p s

  abbrev n' : ℕ
  n' = used_after ch n (made_count t n p s)

  abbrev t' : Tables
  t' = star ch t n p np s

  abbrev faces : List ℕ
  faces = made_faces t n p s

  abbrev at : ℕ → ℕ
  at f = slot ch n (count_below f (visible t p s))

  used≤ : n ≤ n'
  unfolding used_after
  used≤ = omega arith

  made_length : length faces ≡ m
  unfolding made_faces made_count
  made_length = select_length (4 * n) (visible t p s)

  pub visible_face : (f : ℕ) → visible t p s f ≡ true → IsFace t n f
  visible_face f v = P.cells (cell_of f) (visible_of t p s f v).held

  -- which new cell a face makes
  pub rank< : (f : ℕ) → visible t p s f ≡ true → count_below f (visible t p s) < m
  unfolding made_count
  rank< f v = count_lt f (4 * n) (visible t p s) (face< f (visible_face f v)) v

  face_at_lem : (f : ℕ) → visible t p s f ≡ true → get_or faces (count_below f (visible t p s)) 0 ≡ f
  unfolding made_faces
  face_at_lem f v = select_at (4 * n) (visible t p s) f (face< f (visible_face f v)) v

  pub face_of : (r : ℕ) → r < m → Picked (4 * n) (visible t p s) r (get_or faces r 0)
  unfolding made_faces made_count
  face_of r h = select_picks (4 * n) (visible t p s) r h

  -- ---- an entry

  module _ (gone new : ℕ → ℕ → ℕ) (old : ℕ → ℕ) where
    abbrev read : ℕ → ℕ
    read = entry ch n faces s gone new old

    entry_freed : (c i : ℕ) → i < 4 → in_set s c ≡ true → read (4 * c + i) ≡ gone c i
    entry_freed c i h e = rw (face_cell c i h, face_opposite c i h, e)

    entry_made : (f j : ℕ) → j < 4 → visible t p s f ≡ true → read (4 * at f + j) ≡ new f j
    entry_made f j h v =
        rw (face_cell (at f) j h, face_opposite (at f) j h, out, made_length, new_at_lem S m (count_below f (visible t p s)) (rank< f v), lt-ltb (count_below f (visible t p s)) m (rank< f v), face_at_lem f v)
      where
        out : in_set s (at f) ≡ false
        out = go (split (in_set s (at f)))
          where
            go : (in_set s (at f) ≡ true) ⊎ (in_set s (at f) ≡ false) → in_set s (at f) ≡ false
            go (inl e) = absurd (slot_off S (at f) (count_below f (visible t p s)) (P.cells (at f) e) refl)
            go (inr e) = e

    entry_old : (c i : ℕ) → i < 4 → in_set s c ≡ false → ((r : ℕ) → r < m → slot ch n r ≢ c) → read (4 * c + i) ≡ old (4 * c + i)
    entry_old c i h e off = rw (face_cell c i h, e, made_length, new_off S m c off, le-ltb m m (omega arith))

  -- ---- the tables

  abbrev linked : ℕ → ℕ → ℕ
  linked c i = cond (eqb i 0) (highest_below s (head_of (chain_left ch t n p s)) c) none

  abbrev across_old : ℕ → ℕ
  across_old q = cond (ltb (q / 4) n && live t (q / 4)) (old_across (star_numbers ch t n p s) t s q) (get_or t.neighbours q 0)

  corner_read : (c i : ℕ) → c < cc → i < 4 → corner t' c i ≡ entry ch n faces s (λ c i. none) (made_corner t np) (λ q. get_or t.corners q 0) (4 * c + i)
  unfolding star new_corners corner
  corner_read c i h k = tabulate_at (length t.corners) (entry ch n faces s (λ c i. none) (made_corner t np) (λ q. get_or t.corners q 0)) (4 * c + i) 0 (omega (arith, R.corners_fit))

  across_read : (c i : ℕ) → c < cc → i < 4 → across t' (4 * c + i) ≡ entry ch n faces s linked (made_across (star_numbers ch t n p s) t n p s) across_old (4 * c + i)
  unfolding star new_neighbours across
  across_read c i h k = tabulate_at (length t.neighbours) (entry ch n faces s linked (made_across (star_numbers ch t n p s) t n p s) across_old) (4 * c + i) none (omega (arith, R.neighbours_fit))

  -- a cavity cell is freed
  pub freed_corners : (c i : ℕ) → in_set s c ≡ true → i < 4 → corner t' c i ≡ none
  freed_corners c i e h = corner_read c i (omega (arith, (P.cells c e).below, used≤, P.used≤)) h ∙ entry_freed (λ c i. none) (made_corner t np) (λ q. get_or t.corners q 0) c i h e

  pub freed_across_lem : (c i : ℕ) → in_set s c ≡ true → i < 4 → across t' (4 * c + i) ≡ cond (eqb i 0) (highest_below s (head_of (chain_left ch t n p s)) c) none
  freed_across_lem c i e h = across_read c i (omega (arith, (P.cells c e).below, used≤, P.used≤)) h ∙ entry_freed linked (made_across (star_numbers ch t n p s) t n p s) across_old c i h e

  -- an entry that is no cavity cell and not taken keeps its corners
  pub same_corner : (c i : ℕ) → c < cc → i < 4 → in_set s c ≡ false → ((r : ℕ) → r < m → slot ch n r ≢ c) → corner t' c i ≡ corner t c i
  unfolding corner
  same_corner c i h k e off = corner_read c i h k ∙ entry_old (λ c i. none) (made_corner t np) (λ q. get_or t.corners q 0) c i k e off

  -- and a freed one its neighbours
  pub same_across : (c i : ℕ) → c < cc → i < 4 → live t c ≡ false → in_set s c ≡ false → ((r : ℕ) → r < m → slot ch n r ≢ c) → across t' (4 * c + i) ≡ get_or t.neighbours (4 * c + i) 0
  same_across c i h k d e off =
      across_read c i h k ∙ (entry_old linked (made_across (star_numbers ch t n p s) t n p s) across_old c i k e off ∙ rw (face_cell c i k, d) (dead (ltb c n)))
    where
      dead : (b : Bool) → cond (b && false) (old_across (star_numbers ch t n p s) t s (4 * c + i)) (get_or t.neighbours (4 * c + i) 0) ≡ get_or t.neighbours (4 * c + i) 0
      dead true = refl
      dead false = refl

  kept_off : (c : ℕ) → IsCell t n c → (r : ℕ) → r < m → slot ch n r ≢ c
  kept_off c h r l e = slot_off S c r h (sym e)

  kept_across : (c : ℕ) → IsCell t n c → kept? s c ≡ true → (i : ℕ) → i < 4 → across t' (4 * c + i) ≡ old_across (star_numbers ch t n p s) t s (4 * c + i)
  kept_across c h e i k =
      across_read c i (omega (arith, h.below, used≤, P.used≤)) k ∙
      (entry_old linked (made_across (star_numbers ch t n p s) t n p s) across_old c i k (not-true (in_set s c) e) (kept_off c h) ∙
      rw (face_cell c i k, lt-ltb c n h.below, h.lives))

  made_corner_lem : (f : ℕ) → visible t p s f ≡ true → (j : ℕ) → j < 4 → corner t' (at f) j ≡ made_corner t np f j
  made_corner_lem f v j l =
      corner_read (at f) j (omega (arith, slot< S (count_below f (visible t p s)) m (rank< f v), P.used≤)) l ∙ entry_made (λ c i. none) (made_corner t np) (λ q. get_or t.corners q 0) f j l v

  made_across_lem : (f : ℕ) → visible t p s f ≡ true → (j : ℕ) → j < 4 → across t' (4 * at f + j) ≡ made_across (star_numbers ch t n p s) t n p s f j
  made_across_lem f v j l =
      across_read (at f) j (omega (arith, slot< S (count_below f (visible t p s)) m (rank< f v), P.used≤)) l ∙ entry_made linked (made_across (star_numbers ch t n p s) t n p s) across_old f j l v

  -- every cell comes from somewhere
  from : (c : ℕ) → IsCell t' n' c → Origin (star_numbers ch t n p s) t n p s c
  from c h = go (split (in_set s c))
    where
      go : (in_set s c ≡ true) ⊎ (in_set s c ≡ false) → Origin (star_numbers ch t n p s) t n p s c
      go (inl e) = clash h.lives (freed_of t' c (λ i l. freed_corners c i e l))
      go (inr e) = by (slot_cases S c m)
        where
          by : ((r : ℕ) × (r < m) × (slot ch n r ≡ c)) ⊎ ((r : ℕ) → r < m → slot ch n r ≢ c) → Origin (star_numbers ch t n p s) t n p s c
          by (inl (r, l, q)) = new (face_of r l)
            where
              new : Picked (4 * n) (visible t p s) r (get_or faces r 0) → Origin (star_numbers ch t n p s) t n p s c
              new w = from_made (get_or faces r 0) (visible_face (get_or faces r 0) w.passes) w.passes (sym q ∙ ap (slot ch n) (sym w.counted))
          by (inr off) = old (dec_lt c n)
            where
              old : Dec (c < n) → Origin (star_numbers ch t n p s) t n p s c
              old (yes l) = from_kept c record { below = l; lives = sym (live_same t' t c c (λ i k. same_corner c i (omega (arith, h.below, P.used≤)) k e off)) ∙ h.lives } (ap not e) refl
              old (no l) = absurd (past (slot_end S c m (omega arith) h.below))
                where
                  past : (r : ℕ) × (r < m) × (slot ch n r ≡ c) → ⊥
                  past (r, k, q) = off r k q

  pub is_star : IsStar (star_numbers ch t n p s) t n p np s (star ch t n p np s) (used_after ch n (made_count t n p s))
  unfolding star
  is_star = record {
    kept< = λ c h e. omega (arith, h.below, used≤, P.used≤);
    made< = λ f h v. slot< S (count_below f (visible t p s)) m (rank< f v);
    kept_one = λ c d h k e f q. q;
    made_one = λ f g h k v w q. count_one (visible t p s) f g v w (slot_one S (count_below f (visible t p s)) (count_below g (visible t p s)) q);
    apart = λ c f h k e v. slot_off S c (count_below f (visible t p s)) h;
    only = from;
    kept_corner = λ c h e i l. same_corner c i (omega (arith, h.below, used≤, P.used≤)) l (not-true (in_set s c) e) (kept_off c h);
    kept_across = kept_across;
    made_corner = λ f h v. made_corner_lem f v;
    made_across = λ f h v. made_across_lem f v;
    old_point = points.old_point t p np (omega (arith, R.points_fit, P.next));
    new_point = points.new_point t p np (omega (arith, R.points_fit, P.next));
  }

  pub new_room : Room pc cc (star ch t n p np s)
  unfolding star new_points new_corners new_neighbours
  new_room = record {
    points≤ = R.points≤;
    cells≤ = R.cells≤;
    points_fit = rw tabulate_length R.points_fit;
    corners_fit = rw tabulate_length R.corners_fit;
    neighbours_fit = rw tabulate_length R.neighbours_fit;
  }

  -- A table with the right entries at freed cells, at new cells and elsewhere is the new table: for code that fills it.
  pub table_is : (gone new : ℕ → ℕ → ℕ) (old : ℕ → ℕ) (k : ℕ) (r : List ℕ) → length r ≡ k →
      ((c i : ℕ) → in_set s c ≡ true → i < 4 → get_or r (4 * c + i) 0 ≡ gone c i) →
      ((f j : ℕ) → visible t p s f ≡ true → j < 4 → get_or r (4 * slot ch n (count_below f (visible t p s)) + j) 0 ≡ new f j) →
      ((q : ℕ) → q < k → in_set s (cell_of q) ≡ false → ((a : ℕ) → a < made_count t n p s → slot ch n a ≢ cell_of q) → get_or r q 0 ≡ old q) →
      r ≡ tabulate k (entry ch n (made_faces t n p s) s gone new old)
  table_is gone new old k r long freed made else =
      ext_get_or 0 r (tabulate k w) (long ∙ sym (tabulate_length k w)) (λ q h. go q (omega (arith, long)) (split (in_set s (cell_of q))) (slot_cases S (cell_of q) m) ∙ sym (tabulate_at k w q 0 (omega (arith, long))))
    where
      w : ℕ → ℕ
      w = entry ch n (made_faces t n p s) s gone new old

      place : (q : ℕ) → 4 * cell_of q + opposite q ≡ q
      place q = omega arith

      go : (q : ℕ) → q < k → (in_set s (cell_of q) ≡ true) ⊎ (in_set s (cell_of q) ≡ false) →
          ((a : ℕ) × (a < m) × (slot ch n a ≡ cell_of q)) ⊎ ((a : ℕ) → a < m → slot ch n a ≢ cell_of q) → get_or r q 0 ≡ w q
      go q h (inl e) z =
          subst (λ x. get_or r x 0 ≡ w x) (place q) (freed (cell_of q) (opposite q) e (opposite< q) ∙ sym (entry_freed gone new old (cell_of q) (opposite q) (opposite< q) e))
      go q h (inr e) (inr off) =
          else q h e off ∙ sym (ap w (sym (place q)) ∙ (entry_old gone new old (cell_of q) (opposite q) (opposite< q) e off ∙ ap old (place q)))
      go q h (inr e) (inl (a, l, x)) = by (face_of a l)
        where
          by : Picked (4 * n) (visible t p s) a (get_or faces a 0) → get_or r q 0 ≡ w q
          by v =
              let f = get_or faces a 0 in
              let c : slot ch n (count_below f (visible t p s)) ≡ cell_of q = ap (slot ch n) v.counted ∙ x in
              subst (λ x. get_or r x 0 ≡ w x) (ap (λ y. 4 * y + opposite q) c ∙ place q)
              (made f (opposite q) v.passes (opposite< q) ∙ sym (entry_made gone new old f (opposite q) (opposite< q) v.passes))

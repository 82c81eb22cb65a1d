-- Document 01's layout is a star at its own numbers: the kept cells in their old order, then the new ones; so an insertion keeps a mesh a mesh there
-- by the law that holds of every star.
use Prim.Native.Nat.{ℕ, ◌+◌, ◌*◌, ◌-◌, ◌≤◌, ◌<◌}
use mathlib.Core.Bool.{Bool, true, cond}
use mathlib.Core.Path.{◌≡◌, refl, sym, ap, ◌∙◌}
use mathlib.Core.List.{List}
use native.Mathlib.Omega.{arith}
use native.Mathlib.Decide.{dec_lt}
use lib.Dec.{ltb}
use lib.ListN.{length, get_or}
use borrow.Author.Tests.{lt-ltb, le-ltb, eq-eqb}
use Rattle.arith.specs.Table.{count_below, select_below}
use Rattle.arith.proofs.Tables.{tabulate_at}
use Rattle.arith.proofs.Counting.{select_length, select_at, select_picks, Picked, count_lt, count_le, count_one}
use Rattle.geometry.specs.declared.Position.{Position}
use Rattle.mesh.specs.Tables.{Tables, none, cell_of, opposite, corner, across, live, IsCell}
use Rattle.mesh.proofs.Room.{Room}
use Rattle.mesh.proofs.Live.{live_of}
use Rattle.mesh.proofs.FaceNumbers.{face_cell, face_opposite, opposite<, face<}
use Rattle.cavity.specs.Cavity.{visible}
use Rattle.star.specs.Star.{kept?, made_count, made_faces, old_across, made_across, made_corner}
use Rattle.star.proofs.Points as points
use Rattle.star.proofs.Numbered.{IsStar, Origin, from_kept, from_made}
use Rattle.layouts.specs.Packed.{kept_cells, new_count, packed_numbers, packed_entry, packed_corners, packed_neighbours, packed_star}

module _ (t : Tables) (n : ℕ) (p : Position) (s : List Bool) where
  abbrev kept_count : ℕ
  kept_count = count_below n (kept? s)

  -- the numbers of the kept cells, and of the new ones
  abbrev kept : ℕ → ℕ
  kept = (packed_numbers t n p s).kept

  abbrev made : ℕ → ℕ
  made = (packed_numbers t n p s).made

  kept_length : length (kept_cells n s) ≡ kept_count
  unfolding kept_cells
  kept_length = select_length n (kept? s)

  made_length : length (made_faces t n p s) ≡ made_count t n p s
  unfolding made_faces made_count
  made_length = select_length (4 * n) (visible t p s)

  pub new≤ : new_count t n p s ≤ n + made_count t n p s
  unfolding new_count
  new≤ = omega (arith, count_le n (kept? s))

  kept< : (c : ℕ) → c < n → kept? s c ≡ true → kept c < kept_count
  kept< c h e = count_lt c n (kept? s) h e

  kept_new< : (c : ℕ) → c < n → kept? s c ≡ true → kept c < new_count t n p s
  unfolding new_count
  kept_new< c h e = omega (arith, kept< c h e)

  made< : (f : ℕ) → f < 4 * n → visible t p s f ≡ true → made f < new_count t n p s
  unfolding new_count made_count
  made< f h e = omega (arith, count_lt f (4 * n) (visible t p s) h e)

  kept_at : (c : ℕ) → c < n → kept? s c ≡ true → get_or (kept_cells n s) (kept c) 0 ≡ c
  unfolding kept_cells
  kept_at c h e = select_at n (kept? s) c h e

  made_at : (f : ℕ) → f < 4 * n → visible t p s f ≡ true → get_or (made_faces t n p s) (made f - kept_count) 0 ≡ f
  unfolding made_faces
  made_at f h e =
      let q : made f - kept_count ≡ count_below f (visible t p s) = omega arith in
      ap (λ r. get_or (select_below (4 * n) (visible t p s)) r 0) q ∙ select_at (4 * n) (visible t p s) f h e

  -- where an entry below the new count comes from
  data Source (c' : ℕ) : Type 0 where
    old_kept : (c : ℕ) → c < n → kept? s c ≡ true → c' ≡ kept c → Source c'
    old_made : (f : ℕ) → f < 4 * n → visible t p s f ≡ true → c' ≡ made f → Source c'

  source : (c' : ℕ) → c' < new_count t n p s → Source c'
  unfolding new_count made_count
  source c' h = go (dec_lt c' kept_count)
    where
      old : Picked n (kept? s) c' (get_or (select_below n (kept? s)) c' 0) → Source c'
      old q = old_kept (get_or (select_below n (kept? s)) c' 0) q.below q.passes (sym q.counted)

      new : kept_count ≤ c' → Picked (4 * n) (visible t p s) (c' - kept_count) (get_or (select_below (4 * n) (visible t p s)) (c' - kept_count) 0) → Source c'
      new l q = old_made (get_or (select_below (4 * n) (visible t p s)) (c' - kept_count) 0) q.below q.passes (omega (arith, q.counted))

      go : Dec (c' < kept_count) → Source c'
      go (yes l) = old (select_picks n (kept? s) c' l)
      go (no d) = new (omega arith) (select_picks (4 * n) (visible t p s) (c' - kept_count) (omega arith))

  -- ---- the entries

  module _ (old new : ℕ → ℕ → ℕ) (l : List ℕ) where
    abbrev read : ℕ → ℕ
    read = packed_entry (kept_cells n s) (made_faces t n p s) n old new l

    at_cell : (c i : ℕ) → i < 4 → read (4 * c + i) ≡
        cond (ltb c (length (kept_cells n s))) (old (get_or (kept_cells n s) c 0) i)
        (cond (ltb c (length (kept_cells n s) + length (made_faces t n p s))) (new (get_or (made_faces t n p s) (c - length (kept_cells n s)) 0) i)
        (cond (ltb c (n + length (made_faces t n p s))) 0 (get_or l (4 * c + i) 0)))
    at_cell c i h = rw (face_cell c i h, face_opposite c i h)

    entry_kept : (c i : ℕ) → c < n → kept? s c ≡ true → i < 4 → read (4 * kept c + i) ≡ old c i
    entry_kept c i h e k = at_cell (kept c) i k ∙ rw (kept_length, lt-ltb (kept c) kept_count (kept< c h e), kept_at c h e)

    entry_made : (f j : ℕ) → f < 4 * n → visible t p s f ≡ true → j < 4 → read (4 * made f + j) ≡ new f j
    unfolding new_count
    entry_made f j h e k =
        at_cell (made f) j k ∙
        rw (kept_length, made_length, le-ltb (made f) kept_count (omega arith), lt-ltb (made f) (kept_count + made_count t n p s) (made< f h e), made_at f h e)

-- ---- the tables

-- every entry in use is a cell, and the tables have room for one more point and for the new cells
pub record PackedFits (pc cc np n : ℕ) (t : Tables) (p : Position) (s : List Bool) : Type 0 where
  pub full : (c : ℕ) → c < n → live t c ≡ true
  pub room : Room pc cc t
  pub next : np < pc
  pub cells : n + made_count t n p s ≤ cc

module _ {pc cc np n : ℕ} {t : Tables} {p : Position} {s : List Bool} (F : PackedFits pc cc np n t p s) where
  abbrev t' : Tables
  t' = packed_star t n p np s

  corner_read : (c i : ℕ) → c < cc → i < 4 → corner t' c i ≡ packed_entry (kept_cells n s) (made_faces t n p s) n (corner t) (made_corner t np) t.corners (4 * c + i)
  unfolding packed_star packed_corners corner
  corner_read c i h k = tabulate_at (length t.corners) (packed_entry (kept_cells n s) (made_faces t n p s) n (corner t) (made_corner t np) t.corners) (4 * c + i) 0 (omega (arith, F.room.corners_fit))

  across_read : (c i : ℕ) → c < cc → i < 4 → across t' (4 * c + i) ≡
      packed_entry (kept_cells n s) (made_faces t n p s) n (λ c j. old_across (packed_numbers t n p s) t s (4 * c + j)) (made_across (packed_numbers t n p s) t n p s) t.neighbours (4 * c + i)
  unfolding packed_star packed_neighbours across
  across_read c i h k =
      tabulate_at (length t.neighbours)
      (packed_entry (kept_cells n s) (made_faces t n p s) n (λ c j. old_across (packed_numbers t n p s) t s (4 * c + j)) (made_across (packed_numbers t n p s) t n p s) t.neighbours)
      (4 * c + i) none (omega (arith, F.room.neighbours_fit))

  module _ (c : ℕ) (c< : c < n) (e : kept? s c ≡ true) (i : ℕ) (i< : i < 4) where
    k<cc : kept t n p s c < cc
    k<cc = omega (arith, kept_new< t n p s c c< e, new≤ t n p s, F.cells)

    kept_corner : corner t' (kept t n p s c) i ≡ corner t c i
    kept_corner = corner_read (kept t n p s c) i k<cc i< ∙ entry_kept t n p s (corner t) (made_corner t np) t.corners c i c< e i<

    kept_across : across t' (4 * kept t n p s c + i) ≡ old_across (packed_numbers t n p s) t s (4 * c + i)
    kept_across =
        across_read (kept t n p s c) i k<cc i< ∙
        entry_kept t n p s (λ c j. old_across (packed_numbers t n p s) t s (4 * c + j)) (made_across (packed_numbers t n p s) t n p s) t.neighbours c i c< e i<

  module _ (f : ℕ) (f< : f < 4 * n) (e : visible t p s f ≡ true) (j : ℕ) (j< : j < 4) where
    m<cc : made t n p s f < cc
    m<cc = omega (arith, made< t n p s f f< e, new≤ t n p s, F.cells)

    made_corner_lem : corner t' (made t n p s f) j ≡ made_corner t np f j
    made_corner_lem = corner_read (made t n p s f) j m<cc j< ∙ entry_made t n p s (corner t) (made_corner t np) t.corners f j f< e j<

    made_across_lem : across t' (4 * made t n p s f + j) ≡ made_across (packed_numbers t n p s) t n p s f j
    made_across_lem =
        across_read (made t n p s f) j m<cc j< ∙
        entry_made t n p s (λ c j. old_across (packed_numbers t n p s) t s (4 * c + j)) (made_across (packed_numbers t n p s) t n p s) t.neighbours f j f< e j<

  -- THE LAW: the packed tables are a star
  pub packed_is_star : IsStar (packed_numbers t n p s) t n p np s (packed_star t n p np s) (new_count t n p s)
  unfolding packed_star
  packed_is_star = record {
    kept< = λ c h e. kept_new< t n p s c h.below e;
    made< = λ f h v. made< t n p s f (face< f h) v;
    kept_one = λ c d h k e f. kept_once c d e f;
    made_one = λ f g h k v w. made_once f g v w;
    apart = λ c f h k e v q. absurd (omega (arith, kept< t n p s c h.below e));
    only = λ c h. from c (source t n p s c h.below);
    kept_corner = λ c h e i l. kept_corner c h.below e i l;
    kept_across = λ c h e i l. kept_across c h.below e i l;
    made_corner = λ f h v j l. made_corner_lem f (face< f h) v j l;
    made_across = λ f h v j l. made_across_lem f (face< f h) v j l;
    old_point = points.old_point t p np (omega (arith, F.room.points_fit, F.next));
    new_point = points.new_point t p np (omega (arith, F.room.points_fit, F.next));
  }
    where
      kept_once : (c d : ℕ) → kept? s c ≡ true → kept? s d ≡ true → kept t n p s c ≡ kept t n p s d → c ≡ d
      kept_once c d e f q = count_one (kept? s) c d e f q

      made_once : (f g : ℕ) → visible t p s f ≡ true → visible t p s g ≡ true → made t n p s f ≡ made t n p s g → f ≡ g
      made_once f g v w q = count_one (visible t p s) f g v w (omega arith)

      from : (c : ℕ) → Source t n p s c → Origin (packed_numbers t n p s) t n p s c
      from c (old_kept d d< e q) = from_kept d record { below = d<; lives = F.full d d< } e q
      from c (old_made f f< v q) = from_made f record { below = omega arith; lives = F.full (cell_of f) (omega arith) } v q

  -- and every entry in use is a cell again
  pub packed_full : ((c i : ℕ) → IsCell t n c → i < 4 → corner t c i < np) → (c : ℕ) → c < new_count t n p s → live (packed_star t n p np s) c ≡ true
  packed_full below c h = go (source t n p s c h)
    where
      few : np < 1024
      few = omega (arith, F.next, F.room.points≤)

      go : Source t n p s c → live t' c ≡ true
      go (old_kept d d< e q) =
          live_of t' c 0 (omega arith)
          (omega (arith, ap (λ x. corner t' x 0) q, kept_corner d d< e 0 (omega arith), below d 0 record { below = d<; lives = F.full d d< } (omega arith), few))
      go (old_made f f< v q) =
          live_of t' c (opposite f) (opposite< f) (omega (arith, ap (λ x. corner t' x (opposite f)) q, made_corner_lem f f< v (opposite f) (opposite< f), apex, few))
        where
          apex : made_corner t np f (opposite f) ≡ np
          apex = unfold made_corner in rw (eq-eqb (opposite f) (opposite f) refl)

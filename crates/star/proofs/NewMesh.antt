-- An insertion takes a mesh to a mesh (N3, N4, N5, and the theorem).
use Prim.Native.Nat.{ℕ, ◌+◌, ◌*◌, ◌≤◌, ◌<◌}
use mathlib.Core.Bool.{Bool, true, false, not, ◌&&◌, cond}
use mathlib.Core.Logic.{◌≢◌, ◌⊎◌, inl, inr}
use mathlib.Core.Path.{◌≡◌, refl, sym, ap, ap₂, ◌∙◌, subst}
use mathlib.Core.List.{List}
use native.Mathlib.Omega.{arith}
use native.Mathlib.Decide.{ℕ_discrete, dec_lt}
use lib.IntN.{ℤ, pos, ◌+ℤ◌, +ℤ_idl, +ℤ_idr}
use lib.Signed.{◌<ℤ◌}
use Rattle.arith.specs.Table.{sum}
use Rattle.arith.proofs.Flags.{split, clash, and_left, and_right, and_intro}
use Rattle.arith.proofs.Sums.{sum_cong, sum_zero, sum_add, sum_cells}
use Rattle.arith.proofs.Renumbering.{From, first, second, Together, sum_together}
use Rattle.geometry.specs.declared.Position.{Position}
use Rattle.geometry.specs.Volume.{volume, replaced, InBox}
use Rattle.geometry.proofs.Algebra.{volume_split}
use Rattle.mesh.specs.Tables.{Tables, none, cell_of, opposite, point, corner, across, corner_at, cell_volume, side, live, IsCell, IsFace}
use Rattle.mesh.specs.Mesh.{OnWall, Mated, CornerOf, IsMesh}
use Rattle.mesh.proofs.Room.{Room}
use Rattle.mesh.proofs.Live.{live_of, freed_volume}
use Rattle.mesh.proofs.Faces.{glued, mate_opposite}
use Rattle.mesh.proofs.FaceNumbers.{face_cell, face<, opposite<, face_eq}
use Rattle.mesh.proofs.Held.{side_at_lem}
use Rattle.cavity.specs.Cavity.{outer, in_set, base, visible, coplanar, corrected_cavity}
use Rattle.star.specs.Star.{kept?, Numbers}
use Rattle.cavity.specs.Inner.Star.{Exposed, StarShaped}
use Rattle.star.proofs.FaceSums.{sum_outer}
use Rattle.cavity.proofs.Tests.{visible_of, coplanar_of}
use Rattle.cavity.proofs.Correction.{corrected_star_shaped}
use Rattle.star.proofs.Numbered.{IsStar, Origin, from_kept, from_made, made_apex, made_other}
use Rattle.star.proofs.NewFaces.{Good, kept_volume, made_volume, kept_good, made_good}

module _ {X Y Z pc cc np n : ℕ} {t : Tables} (M : IsMesh X Y Z pc cc np n t) {p : Position} {s : List Bool}
    (R : Room pc cc t) (C : StarShaped t n p s) {N : Numbers} {t' : Tables} {n' : ℕ} (F : IsStar N t n p np s t' n') where
  -- ---- N3: the volumes

  visible_face : (f : ℕ) → visible t p s f ≡ true → IsFace t n f
  visible_face f v = C.cells (cell_of f) (visible_of t p s f v).held

  -- a live cell outside the cavity
  abbrev entry : ℕ → Bool
  entry c = live t c && kept? s c

  together : Together n' n (4 * n) entry (visible t p s) N.kept N.made
  together = record {
    first< = λ c h e. F.kept< c (cell c h e) (keeps c e);
    second< = λ f h v. F.made< f (visible_face f v) v;
    first_one = λ c d h k e f. F.kept_one c d (cell c h e) (cell d k f) (keeps c e) (keeps d f);
    second_one = λ f g h k v w. F.made_one f g (visible_face f v) (visible_face g w) v w;
    apart = λ c f h k e v. F.apart c f (cell c h e) (visible_face f v) (keeps c e) v;
  }
    where
      cell : (c : ℕ) → c < n → entry c ≡ true → IsCell t n c
      cell c h e = record { below = h; lives = and_left (live t c) (kept? s c) e }

      keeps : (c : ℕ) → entry c ≡ true → kept? s c ≡ true
      keeps c e = and_right (live t c) (kept? s c) e

  -- an entry in use is a kept cell or a new one, or freed, without volume
  comes_from : (c : ℕ) → c < n' → From n (4 * n) entry (visible t p s) N.kept N.made c ⊎ (cell_volume t' c ≡ pos 0)
  comes_from c h = go (split (live t' c))
    where
      by : Origin N t n p s c → From n (4 * n) entry (visible t p s) N.kept N.made c
      by (from_kept d d< e q) = first d d<.below (and_intro d<.lives e) q
      by (from_made f f< v q) = second f (face< f f<) v q

      go : (live t' c ≡ true) ⊎ (live t' c ≡ false) → From n (4 * n) entry (visible t p s) N.kept N.made c ⊎ (cell_volume t' c ≡ pos 0)
      go (inl e) = inl (by (F.only c record { below = h; lives = e }))
      go (inr e) = inr (freed_volume t' c e)

  kept_sum : sum n (λ c. cond (entry c) (cell_volume t' (N.kept c)) (pos 0)) ≡ sum n (λ c. cond (kept? s c) (cell_volume t c) (pos 0))
  kept_sum = sum_cong n (λ c. cond (entry c) (cell_volume t' (N.kept c)) (pos 0)) (λ c. cond (kept? s c) (cell_volume t c) (pos 0)) (λ c h. go c h (split (live t c)) (split (kept? s c)))
    where
      go : (c : ℕ) → c < n → (live t c ≡ true) ⊎ (live t c ≡ false) → (kept? s c ≡ true) ⊎ (kept? s c ≡ false) →
          cond (entry c) (cell_volume t' (N.kept c)) (pos 0) ≡ cond (kept? s c) (cell_volume t c) (pos 0)
      go c h (inl e) (inl k) = rw (e, k) (kept_volume M R C F c record { below = h; lives = e } k)
      go c h (inl e) (inr k) = rw (e, k)
      go c h (inr e) (inl k) = rw (e, k) (sym (freed_volume t c e))
      go c h (inr e) (inr k) = rw (e, k)

  made_sum : sum (4 * n) (λ f. cond (visible t p s f) (cell_volume t' (N.made f)) (pos 0)) ≡ sum (4 * n) (λ f. cond (visible t p s f) (side t p f) (pos 0))
  made_sum =
      sum_cong (4 * n) (λ f. cond (visible t p s f) (cell_volume t' (N.made f)) (pos 0)) (λ f. cond (visible t p s f) (side t p f) (pos 0)) (λ f h. go f (split (visible t p s f)))
    where
      go : (f : ℕ) → (visible t p s f ≡ true) ⊎ (visible t p s f ≡ false) → cond (visible t p s f) (cell_volume t' (N.made f)) (pos 0) ≡ cond (visible t p s f) (side t p f) (pos 0)
      go f (inl v) = rw v (made_volume M R C F f (visible_face f v) v)
      go f (inr v) = rw v

  -- coplanar faces give nothing
  visible_outer : (f : ℕ) → cond (visible t p s f) (side t p f) (pos 0) ≡ cond (in_set s (cell_of f) && not (in_set s (across t f))) (side t p f) (pos 0)
  unfolding outer
  visible_outer f = go (split (visible t p s f)) (split (outer (across t) (in_set s) f))
    where
      flat : outer (across t) (in_set s) f ≡ true → visible t p s f ≡ false → side t p f ≡ pos 0
      flat o v = by (C.faces f o)
        where
          by : (visible t p s f ≡ true) ⊎ (coplanar t p f ≡ true) → side t p f ≡ pos 0
          by (inl h) = clash h v
          by (inr h) = (coplanar_of t p f h).level

      go : (visible t p s f ≡ true) ⊎ (visible t p s f ≡ false) → (outer (across t) (in_set s) f ≡ true) ⊎ (outer (across t) (in_set s) f ≡ false) →
          cond (visible t p s f) (side t p f) (pos 0) ≡ cond (outer (across t) (in_set s) f) (side t p f) (pos 0)
      go (inl v) o = rw (v, (visible_of t p s f v).outer?)
      go (inr v) (inl o) = rw (v, o) (sym (flat o v))
      go (inr v) (inr o) = rw (v, o)

  -- the sides of a cell of the cavity add up to its volume
  cell_sides : (c : ℕ) → c < n → sum 4 (λ i. cond (in_set s (cell_of (4 * c + i))) (side t p (4 * c + i)) (pos 0)) ≡ cond (in_set s c) (cell_volume t c) (pos 0)
  unfolding cell_volume
  cell_sides c h = go (split (in_set s c))
    where
      go : (in_set s c ≡ true) ⊎ (in_set s c ≡ false) → sum 4 (λ i. cond (in_set s (cell_of (4 * c + i))) (side t p (4 * c + i)) (pos 0)) ≡ cond (in_set s c) (cell_volume t c) (pos 0)
      go (inl e) =
          sum_cong 4 (λ i. cond (in_set s (cell_of (4 * c + i))) (side t p (4 * c + i)) (pos 0)) (λ i. volume (replaced (corner_at t c) i p))
          (λ i l. rw (face_cell c i l, e) (side_at_lem t p c i l)) ∙
          (volume_split (corner_at t c) p ∙ rw e)
      go (inr e) =
          sum_zero 4 (λ i. cond (in_set s (cell_of (4 * c + i))) (side t p (4 * c + i)) (pos 0)) (λ i l. rw (face_cell c i l, e)) ∙ rw e

  star_sum : sum (4 * n) (λ f. cond (visible t p s f) (side t p f) (pos 0)) ≡ sum n (λ c. cond (in_set s c) (cell_volume t c) (pos 0))
  star_sum =
      sum_cong (4 * n) (λ f. cond (visible t p s f) (side t p f) (pos 0)) (λ f. cond (in_set s (cell_of f) && not (in_set s (across t f))) (side t p f) (pos 0)) (λ f h. visible_outer f) ∙
      (sym (sum_outer (glued M R) {S = in_set s} C.cells (side t p) (λ f l r. mate_opposite M R f l r p)) ∙
      (sum_cells n (λ f. cond (in_set s (cell_of f)) (side t p f) (pos 0)) ∙
      sum_cong n (λ c. sum 4 (λ i. cond (in_set s (cell_of (4 * c + i))) (side t p (4 * c + i)) (pos 0))) (λ c. cond (in_set s c) (cell_volume t c) (pos 0)) cell_sides))

  pub volumes_kept : sum n' (cell_volume t') ≡ sum n (cell_volume t)
  volumes_kept =
      sum_together together (cell_volume t') comes_from ∙
      (ap₂ ◌+ℤ◌ kept_sum (made_sum ∙ star_sum) ∙
      (sym (sum_add n (λ c. cond (kept? s c) (cell_volume t c) (pos 0)) (λ c. cond (in_set s c) (cell_volume t c) (pos 0))) ∙
      sum_cong n (λ c. cond (kept? s c) (cell_volume t c) (pos 0) +ℤ cond (in_set s c) (cell_volume t c) (pos 0)) (cell_volume t) (λ c l. parts (in_set s c) (cell_volume t c))))
    where
      parts : (b : Bool) (z : ℤ) → cond (not b) z (pos 0) +ℤ cond b z (pos 0) ≡ z
      parts true z = +ℤ_idl z
      parts false z = +ℤ_idr z

  -- ---- N4: no point is lost, and the new one is a corner

  exposed_corner : (v : ℕ) → Exposed t n p s v → CornerOf t' n' v
  exposed_corner v q = record {
    cell = N.made q.face;
    place = q.on.place;
    cell< = F.made< q.face q.face< q.face_visible;
    place< = q.on.place<;
    is = made_other F q.face q.face< q.face_visible q.on.place q.on.place< q.on.off ∙ q.on.is;
  }

  old_used : (k : ℕ) → k < np → CornerOf t n k → CornerOf t' n' k
  old_used k k< u = go (split (in_set s u.cell))
    where
      -- a corner that is a point is none of a freed entry
      c< : IsCell t n u.cell
      c< = record { below = u.cell<; lives = live_of t u.cell u.place u.place< (omega (arith, u.is, M.points≤, R.points≤)) }

      go : (in_set s u.cell ≡ true) ⊎ (in_set s u.cell ≡ false) → CornerOf t' n' k
      go (inl e) = exposed_corner k (subst (Exposed t n p s) u.is (C.corners u.cell u.place e u.place<))
      go (inr e) = record {
        cell = N.kept u.cell;
        place = u.place;
        cell< = F.kept< u.cell c< (ap not e);
        place< = u.place<;
        is = F.kept_corner u.cell c< (ap not e) u.place u.place< ∙ u.is;
      }

  new_used : CornerOf t' n' np
  new_used = tip (C.corners C.some.0 0 C.some.1 (omega arith))
    where
      tip : {v : ℕ} → Exposed t n p s v → CornerOf t' n' np
      tip q = record {
        cell = N.made q.face;
        place = opposite q.face;
        cell< = F.made< q.face q.face< q.face_visible;
        place< = opposite< q.face;
        is = made_apex F q.face q.face< q.face_visible (opposite q.face) (opposite< q.face) refl;
      }

  -- below np + 1: an old point, or the new one
  each_point : (P : ℕ → Type 0) → ((k : ℕ) → k < np → P k) → P np → (k : ℕ) → k < np + 1 → P k
  each_point P old new k h = go (dec_lt k np)
    where
      go : Dec (k < np) → P k
      go (yes l) = old k l
      go (no d) = let e : np ≡ k = omega arith in subst P e new

  -- ---- N5 and the rest, cell by cell

  new_corner< : (c i : ℕ) → IsCell t' n' c → i < 4 → corner t' c i < np + 1
  new_corner< c i h l = go (F.only c h)
    where
      go : Origin N t n p s c → corner t' c i < np + 1
      go (from_kept d d< e q) = rw (q, F.kept_corner d d< e i l) (omega (arith, M.corner< d i d< l))
      go (from_made f f< v q) = by (ℕ_discrete i (opposite f))
        where
          by : Dec (i ≡ opposite f) → corner t' c i < np + 1
          by (yes r) = rw (q, made_apex F f f< v i l r) (omega arith)
          by (no d) = rw (q, made_other F f f< v i l d) (omega (arith, M.corner< (cell_of f) i f< l))

  new_positive : (c : ℕ) → IsCell t' n' c → pos 0 <ℤ cell_volume t' c
  new_positive c h = go (F.only c h)
    where
      go : Origin N t n p s c → pos 0 <ℤ cell_volume t' c
      go (from_kept d d< e q) = rw (q, kept_volume M R C F d d< e) (M.positive d d<)
      go (from_made f f< v q) = rw (q, made_volume M R C F f f< v) (visible_of t p s f v).above

  new_face : (f : ℕ) → IsFace t' n' f → Good X Y Z t' n' f
  new_face f h = subst (Good X Y Z t' n') (face_eq f) (go (F.only (cell_of f) h))
    where
      go : Origin N t n p s (cell_of f) → Good X Y Z t' n' (4 * cell_of f + opposite f)
      go (from_kept d d< e q) = subst (λ c. Good X Y Z t' n' (4 * c + opposite f)) (sym q) (kept_good M R C F d d< e (opposite f) (opposite< f))
      go (from_made g g< v q) = subst (λ c. Good X Y Z t' n' (4 * c + opposite f)) (sym q) (made_good M R C F g g< v (opposite f) (opposite< f))

  n'≥ : 1 ≤ n'
  n'≥ = omega (arith, new_used.cell<)

  -- THE THEOREM, of any tables that are a star of a starlike cavity
  pub star_mesh : np < pc → n' ≤ cc → InBox X Y Z p → IsMesh X Y Z pc cc (np + 1) n' t'
  unfolding Good
  star_mesh next n'≤ box = record {
    point_cap≥ = M.point_cap≥;
    cell_cap≥ = M.cell_cap≥;
    side_x = M.side_x;
    side_y = M.side_y;
    side_z = M.side_z;
    points≥ = omega (arith, M.points≥);
    points≤ = omega arith;
    cells≥ = n'≥;
    cells≤ = n'≤;
    box_corners = λ k l. F.old_point k (omega (arith, M.points≥)) ∙ M.box_corners k l;
    inside = each_point (λ k. InBox X Y Z (point t' k)) (λ k l. subst (InBox X Y Z) (sym (F.old_point k l)) (M.inside k l)) (subst (InBox X Y Z) (sym F.new_point) box);
    used = each_point (CornerOf t' n') (λ k l. old_used k l (M.used k l)) new_used;
    corner< = new_corner<;
    across< = λ f l r. below f r (new_face f l);
    positive = new_positive;
    walls = λ f l b. wall f b (new_face f l);
    mated = λ f l r. partner f r (new_face f l);
    volumes = volumes_kept ∙ M.volumes;
  }
    where
      below : (f : ℕ) → across t' f ≢ none → Good X Y Z t' n' f → across t' f < n'
      below f r (inl g) = absurd (r g.0)
      below f r (inr g) = g.0

      wall : (f : ℕ) → across t' f ≡ none → Good X Y Z t' n' f → OnWall X Y Z t' f
      wall f b (inl g) = g.1
      wall f b (inr g) = absurd (omega (arith, g.0, n'≤, R.cells≤))

      partner : (f : ℕ) → across t' f ≢ none → Good X Y Z t' n' f → (g : ℕ) × Mated t' f g
      partner f r (inl g) = absurd (r g.0)
      partner f r (inr g) = g.1

-- ---- the theorem

-- what an accepted insertion leaves
pub record Inserted (X Y Z pc cc np : ℕ) (t : Tables) (p : Position) (t' : Tables) (n' : ℕ) : Type 0 where
  pub mesh : IsMesh X Y Z pc cc (np + 1) n' t'
  pub old : (k : ℕ) → k < np → point t' k ≡ point t k
  pub new : point t' np ≡ p

-- THE THEOREM: whatever the answers and the numbers, a star of the corrected cavity is a mesh
pub insertion : {X Y Z pc cc np n : ℕ} {t : Tables} → IsMesh X Y Z pc cc np n t → Room pc cc t →
    (p : Position) → InBox X Y Z p → ((k : ℕ) → k < np → p ≢ point t k) →
    (c : ℕ) → in_set (base t n p) c ≡ true → (yes? : ℕ → Bool) → np < pc →
    {N : Numbers} {t' : Tables} {n' : ℕ} → IsStar N t n p np (corrected_cavity t n p yes?) t' n' → n' ≤ cc →
    Inserted X Y Z pc cc np t p t' n'
insertion M R p box free c held yes? next F n'≤ = record {
  mesh = star_mesh M R (corrected_star_shaped M R p free yes? c held) F next n'≤ box;
  old = F.old_point;
  new = F.new_point;
}

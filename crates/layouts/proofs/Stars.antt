-- Stars of two meshes alike are alike, whatever the numbers at which their cells stand.
use Prim.Native.Nat.{ℕ, ◌+◌, ◌*◌, ◌≤◌, ◌<◌}
use mathlib.Core.Bool.{Bool, true, false, not, cond}
use mathlib.Core.List.{List}
use mathlib.Core.Logic.{◌≢◌, ◌⊎◌, inl, inr}
use mathlib.Core.Path.{◌≡◌, refl, sym, ap, ap₂, ◌∙◌, subst}
use native.Mathlib.Omega.{arith}
use native.Mathlib.Decide.{ℕ_discrete}
use borrow.Author.Tests.{eq-eqb, ne_eqb, not-true}
use lib.Dec.{eqb}
use Rattle.arith.proofs.Flags.{split, clash}
use Rattle.arith.proofs.Tables.{below_more}
use Rattle.geometry.specs.declared.Position.{Position}
use Rattle.mesh.specs.Tables.{Tables, none, cell_of, opposite, point, corner, across, mate, IsCell, IsFace}
use Rattle.mesh.proofs.Live.{live_of, live_same}
use Rattle.mesh.proofs.Room.{room_of}
use Rattle.mesh.proofs.FaceNumbers.{face_cell}
use Rattle.cavity.specs.Cavity.{in_set, coplanar, visible}
use Rattle.cavity.specs.Inner.Star.{StarShaped}
use Rattle.cavity.proofs.Tests.{visible_of}
use Rattle.star.specs.Star.{kept?, Numbers, old_across, star_across, made_corner, made_across, turn_face}
use Rattle.star.proofs.Numbered.{IsStar, Origin, from_kept, from_made}
use Rattle.star.proofs.NewFaces.{mate_visible, visible_not_coplanar, turn_outer}
use Rattle.layouts.specs.Same.{Next, no_cell, cells}
use Rattle.layouts.proofs.Alike.{Alike, AlikeMeshes, no_none, Faces, other_way}
use Rattle.layouts.proofs.Cavities.{Agree, visible_alike, coplanar_alike, visible_there, agree_back}
use Rattle.layouts.proofs.Turns.{faces_of_lem, next_alike, mate_alike, turn_alike}

-- joined after: what was joined and stays, and the new cells on joined faces
pub data After (R : ℕ → ℕ → Type 0) (N N₁ : Numbers) (t : Tables) (p : Position) (s : List Bool) (c' d' : ℕ) : Type 0 where
  kept_both : (c d : ℕ) → R c d → kept? s c ≡ true → c' ≡ N.kept c → d' ≡ N₁.kept d → After R N N₁ t p s c' d'
  made_both : (f g : ℕ) → Faces R f g → visible t p s f ≡ true → c' ≡ N.made f → d' ≡ N₁.made g → After R N N₁ t p s c' d'

module _ {R : ℕ → ℕ → Type 0} {np n n₁ : ℕ} {t t₁ : Tables} (T : AlikeMeshes R np t n t₁ n₁)
    {p : Position} {s s₁ : List Bool} (G : Agree T s s₁) (C : StarShaped t n p s)
    {N N₁ : Numbers} {t' t₁' : Tables} {n' n₁' : ℕ} (F : IsStar N t n p np s t' n') (F₁ : IsStar N₁ t₁ n₁ p np s₁ t₁' n₁') where
  abbrev A : Alike R np t n t₁ n₁
  A = T.alike

  abbrev R' : ℕ → ℕ → Type 0
  R' = After R N N₁ t p s

  few_points : np ≤ 1024
  few_points = omega (arith, T.mesh.mesh.points≤, (room_of t T.mesh.w).points≤)

  kept₁ : (c d : ℕ) → R c d → kept? s c ≡ true → kept? s₁ d ≡ true
  kept₁ c d r k = ap not (sym (G.same c d r)) ∙ k

  visible₁ : {f g : ℕ} → Faces R f g → visible t p s f ≡ true → visible t₁ p s₁ g ≡ true
  visible₁ w v = sym (visible_alike T G p w) ∙ v

  face : {f g : ℕ} → Faces R f g → IsFace t n f
  face {f} {g} w = A.left (cell_of f) (cell_of g) w.joined

  face₁ : {f g : ℕ} → Faces R f g → IsFace t₁ n₁ g
  face₁ {f} {g} w = A.right (cell_of f) (cell_of g) w.joined

  -- ---- one to one

  face_once : {f g g' : ℕ} → Faces R f g → Faces R f g' → g ≡ g'
  face_once {f} {g} {g'} w w' = omega (arith, A.one (cell_of f) (cell_of g) (cell_of g') w.joined w'.joined, w.place, w'.place)

  face_back : {f f' g : ℕ} → Faces R f g → Faces R f' g → f ≡ f'
  face_back {f} {f'} {g} w w' = omega (arith, A.one_back (cell_of f) (cell_of f') (cell_of g) w.joined w'.joined, w.place, w'.place)

  once : (c d d' : ℕ) → R' c d → R' c d' → d ≡ d'
  once c d d' (kept_both a b r k x y) (kept_both a' b' r' k' x' y') =
      let e : a ≡ a' = F.kept_one a a' (A.left a b r) (A.left a' b' r') k k' (sym x ∙ x') in
      y ∙ (ap N₁.kept (A.one a b b' r (subst (λ z. R z b') (sym e) r')) ∙ sym y')
  once c d d' (kept_both a b r k x y) (made_both f g w v x' y') = absurd (F.apart a f (A.left a b r) (face w) k v (sym x ∙ x'))
  once c d d' (made_both f g w v x y) (kept_both a b r k x' y') = absurd (F.apart a f (A.left a b r) (face w) k v (sym x' ∙ x))
  once c d d' (made_both f g w v x y) (made_both f' g' w' v' x' y') =
      let e : f ≡ f' = F.made_one f f' (face w) (face w') v v' (sym x ∙ x') in
      y ∙ (ap N₁.made (face_once w (subst (λ z. Faces R z g') (sym e) w')) ∙ sym y')

  once_back : (c c' d : ℕ) → R' c d → R' c' d → c ≡ c'
  once_back c c' d (kept_both a b r k x y) (kept_both a' b' r' k' x' y') =
      let e : b ≡ b' = F₁.kept_one b b' (A.right a b r) (A.right a' b' r') (kept₁ a b r k) (kept₁ a' b' r' k') (sym y ∙ y') in
      x ∙ (ap N.kept (A.one_back a a' b r (subst (R a') (sym e) r')) ∙ sym x')
  once_back c c' d (kept_both a b r k x y) (made_both f g w v x' y') = absurd (F₁.apart b g (A.right a b r) (face₁ w) (kept₁ a b r k) (visible₁ w v) (sym y ∙ y'))
  once_back c c' d (made_both f g w v x y) (kept_both a b r k x' y') = absurd (F₁.apart b g (A.right a b r) (face₁ w) (kept₁ a b r k) (visible₁ w v) (sym y' ∙ y))
  once_back c c' d (made_both f g w v x y) (made_both f' g' w' v' x' y') =
      let e : g ≡ g' = F₁.made_one g g' (face₁ w) (face₁ w') (visible₁ w v) (visible₁ w' v') (sym y ∙ y') in
      x ∙ (ap N.made (face_back w (subst (Faces R f') (sym e) w')) ∙ sym x')

  -- ---- corners

  made_corners : (f g : ℕ) → Faces R f g → (i : ℕ) → i < 4 → made_corner t np f i ≡ made_corner t₁ np g i
  unfolding made_corner
  made_corners f g w i h = ap₂ (λ o x. cond (eqb i o) np x) w.place (A.corners (cell_of f) (cell_of g) w.joined i h)

  corners_after : (c d : ℕ) → R' c d → (i : ℕ) → i < 4 → corner t' c i ≡ corner t₁' d i
  corners_after c d (kept_both a b r k x y) i h =
      ap (λ z. corner t' z i) x ∙ (F.kept_corner a (A.left a b r) k i h ∙
      (A.corners a b r i h ∙ sym (ap (λ z. corner t₁' z i) y ∙ F₁.kept_corner b (A.right a b r) (kept₁ a b r k) i h)))
  corners_after c d (made_both f g w v x y) i h =
      ap (λ z. corner t' z i) x ∙ (F.made_corner f (face w) v i h ∙
      (made_corners f g w i h ∙ sym (ap (λ z. corner t₁' z i) y ∙ F₁.made_corner g (face₁ w) (visible₁ w v) i h)))

  -- ---- both are cells

  small : (c i : ℕ) → IsCell t n c → i < 4 → corner t c i ≢ none
  small c i h l = omega (arith, T.mesh.mesh.corner< c i h l, few_points)

  small_made : (f : ℕ) → IsFace t n f → (i : ℕ) → i < 4 → made_corner t np f i ≢ none
  unfolding made_corner
  small_made f h i l = go (ℕ_discrete i (opposite f))
    where
      go : Dec (i ≡ opposite f) → cond (eqb i (opposite f)) np (corner t (cell_of f) i) ≢ none
      go (yes e) = rw (eq-eqb i (opposite f) e) (omega (arith, few_points))
      go (no d) = rw (ne_eqb i (opposite f) d) (small (cell_of f) i h l)

  left_after : (c d : ℕ) → R' c d → IsCell t' n' c
  left_after c d (kept_both a b r k x y) = subst (IsCell t' n') (sym x) record {
    below = F.kept< a (A.left a b r) k;
    lives = live_of t' (N.kept a) 0 (omega arith) (λ e. small a 0 (A.left a b r) (omega arith) (sym (F.kept_corner a (A.left a b r) k 0 (omega arith)) ∙ e));
  }
  left_after c d (made_both f g w v x y) = subst (IsCell t' n') (sym x) record {
    below = F.made< f (face w) v;
    lives = live_of t' (N.made f) 0 (omega arith) (λ e. small_made f (face w) 0 (omega arith) (sym (F.made_corner f (face w) v 0 (omega arith)) ∙ e));
  }

  right_after : (c d : ℕ) → R' c d → IsCell t₁' n₁' d
  right_after c d q = record {
    below = at q;
    lives = sym (live_same t' t₁' c d (corners_after c d q)) ∙ (left_after c d q).lives;
  }
    where
      at : R' c d → d < n₁'
      at (kept_both a b r k x y) = subst (λ z. z < n₁') (sym y) (F₁.kept< b (A.right a b r) (kept₁ a b r k))
      at (made_both f g w v x y) = subst (λ z. z < n₁') (sym y) (F₁.made< g (face₁ w) (visible₁ w v))

  there_after : (c : ℕ) → IsCell t' n' c → (d : ℕ) × R' c d
  there_after c h = go (F.only c h)
    where
      go : Origin N t n p s c → (d : ℕ) × R' c d
      go (from_kept a a< k x) = by (A.there a a<)
        where
          by : (b : ℕ) × R a b → (d : ℕ) × R' c d
          by (b, r) = (N₁.kept b, kept_both a b r k x refl)
      go (from_made f f< v x) = by (visible_there T G p f v)
        where
          by : (g : ℕ) × Faces R f g → (d : ℕ) × R' c d
          by (g, w) = (N₁.made g, made_both f g w v x refl)

  back_after : (d : ℕ) → IsCell t₁' n₁' d → (c : ℕ) × R' c d
  back_after d h = go (F₁.only d h)
    where
      go : Origin N₁ t₁ n₁ p s₁ d → (c : ℕ) × R' c d
      go (from_kept b b< k y) = by (A.back b b<)
        where
          by : (a : ℕ) × R a b → (c : ℕ) × R' c d
          by (a, r) = (N.kept a, kept_both a b r (ap not (G.same a b r) ∙ k) refl y)
      go (from_made g g< v y) = by (visible_there (other_way T) (agree_back T G) p g v)
        where
          by : (f : ℕ) × Faces (λ c d. R d c) g f → (c : ℕ) × R' c d
          by (f, w) =
              let q : Faces R f g = record { joined = w.joined; place = sym w.place } in
              (N.made f, made_both f g q (visible_alike T G p q ∙ v) refl y)

  -- ---- neighbours

  -- across a face that stays, of a cell outside the cavity or of a visible face
  old_after : {f g : ℕ} → Faces R f g → (in_set s (cell_of f) ≡ false) ⊎ (visible t p s f ≡ true) → Next R' (old_across N t s f) (old_across N₁ t₁ s₁ g)
  unfolding old_across
  old_after {f} {g} w o = go (next_alike T w)
    where
      go : Next R (across t f) (across t₁ g) → Next R' (old_across N t s f) (old_across N₁ t₁ s₁ g)
      go (no_cell x y) = no_cell (rw (eq-eqb (across t f) none x)) (rw (eq-eqb (across t₁ g) none y))
      go (cells r) = by (split (in_set s (across t f)))
        where
          real : across t f ≢ none
          real = no_none T.mesh (A.left (across t f) (across t₁ g) r)

          real₁ : across t₁ g ≢ none
          real₁ = no_none T.mesh₁ (A.right (across t f) (across t₁ g) r)

          by : (in_set s (across t f) ≡ true) ⊎ (in_set s (across t f) ≡ false) → Next R' (old_across N t s f) (old_across N₁ t₁ s₁ g)
          by (inl e) =
              cells (made_both (mate t f) (mate t₁ g) (mate_alike T w r) (seen o)
              (rw (ne_eqb (across t f) none real, e)) (rw (ne_eqb (across t₁ g) none real₁, sym (G.same (across t f) (across t₁ g) r) ∙ e)))
            where
              seen : (in_set s (cell_of f) ≡ false) ⊎ (visible t p s f ≡ true) → visible t p s (mate t f) ≡ true
              seen (inl out) = mate_visible T.mesh.mesh (room_of t T.mesh.w) C f (face w) real out e
              seen (inr v) = clash e (visible_of t p s f v).free
          by (inr e) =
              cells (kept_both (across t f) (across t₁ g) r (ap not e)
              (rw (ne_eqb (across t f) none real, e)) (rw (ne_eqb (across t₁ g) none real₁, sym (G.same (across t f) (across t₁ g) r) ∙ e)))

  star_after : {f g : ℕ} → Faces R f g → (visible t p s f ≡ true) ⊎ (coplanar t p f ≡ true) → Next R' (star_across N t p f) (star_across N₁ t₁ p g)
  unfolding star_across
  star_after {f} {g} w (inl v) =
      let e : coplanar t p f ≡ false = visible_not_coplanar t p s f v in
      cells (made_both f g w v (rw e) (rw (sym (coplanar_alike T G p w) ∙ e)))
  star_after {f} {g} w (inr e) = no_cell (rw e) (rw (sym (coplanar_alike T G p w) ∙ e))

  made_after : {f g : ℕ} → Faces R f g → visible t p s f ≡ true → (j : ℕ) → j < 4 → Next R' (made_across N t n p s f j) (made_across N₁ t₁ n₁ p s₁ g j)
  unfolding made_across
  made_after {f} {g} w v j h = go (ℕ_discrete j (opposite f))
    where
      go : Dec (j ≡ opposite f) → Next R' (made_across N t n p s f j) (made_across N₁ t₁ n₁ p s₁ g j)
      go (yes e) = rw (eq-eqb j (opposite f) e, eq-eqb j (opposite g) (e ∙ w.place)) (old_after w (inr v))
      go (no d) =
          rw (ne_eqb j (opposite f) d, ne_eqb j (opposite g) (λ e. d (e ∙ sym w.place)))
          (star_after (turn_alike T G p w v (visible₁ w v) j h d) (C.faces (turn_face t n s f j) (turn_outer T.mesh.mesh (room_of t T.mesh.w) C f v j h d)))

  neighbours_after : (c d : ℕ) → R' c d → (i : ℕ) → i < 4 → Next R' (across t' (4 * c + i)) (across t₁' (4 * d + i))
  neighbours_after c d (kept_both a b r k x y) i h =
      subst (λ z. Next R' z (across t₁' (4 * d + i))) (sym (ap (λ z. across t' (4 * z + i)) x ∙ F.kept_across a (A.left a b r) k i h))
      (subst (Next R' (old_across N t s (4 * a + i))) (sym (ap (λ z. across t₁' (4 * z + i)) y ∙ F₁.kept_across b (A.right a b r) (kept₁ a b r k) i h))
      (old_after (faces_of_lem T a b r i h) (inl (ap (in_set s) (face_cell a i h) ∙ not-true (in_set s a) k))))
  neighbours_after c d (made_both f g w v x y) i h =
      subst (λ z. Next R' z (across t₁' (4 * d + i))) (sym (ap (λ z. across t' (4 * z + i)) x ∙ F.made_across f (face w) v i h))
      (subst (Next R' (made_across N t n p s f i)) (sym (ap (λ z. across t₁' (4 * z + i)) y ∙ F₁.made_across g (face₁ w) (visible₁ w v) i h))
      (made_after w v i h))

  -- THE LAW: after an insertion the two layouts are alike again
  pub alike_after : Alike (After R N N₁ t p s) (np + 1) t' n' t₁' n₁'
  alike_after = record {
    there = there_after;
    back = back_after;
    left = left_after;
    right = right_after;
    one = once;
    one_back = once_back;
    corners = corners_after;
    neighbours = neighbours_after;
    points = below_more (λ k. point t' k ≡ point t₁' k) np (λ k h. F.old_point k h ∙ (A.points k h ∙ sym (F₁.old_point k h))) (F.new_point ∙ sym F₁.new_point);
  }

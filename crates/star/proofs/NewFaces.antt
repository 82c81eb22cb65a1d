-- The faces of the new mesh: each lies on a wall or is mated (N1, N2).
use Prim.Native.Nat.{ℕ, ◌+◌, ◌*◌, ◌≤◌, ◌<◌}
use mathlib.Core.Bool.{Bool, true, false, not}
use mathlib.Core.Logic.{◌≢◌, ◌⊎◌, inl, inr}
use mathlib.Core.Path.{◌≡◌, refl, sym, ap, ◌∙◌, subst}
use mathlib.Core.List.{List}
use native.Mathlib.Omega.{arith}
use native.Mathlib.Decide.{ℕ_discrete}
use lib.IntN.{pos, neg_ℤ}
use lib.Signed.{◌<ℤ◌}
use borrow.Author.Tests.{eq-eqb, ne_eqb, not-true}
use Rattle.arith.proofs.Flags.{split}
use Rattle.arith.proofs.Order.{<-irrefl, neg-mono-<}
use Rattle.geometry.specs.declared.Position.{Position}
use Rattle.geometry.specs.Volume.{volume, replaced}
use Rattle.geometry.proofs.Places.{replaced_same, replaced_other, replaced_id, replaced_twice, replaced_cong}
use Rattle.geometry.proofs.Algebra.{volume_cong, volume_swap}
use Rattle.mesh.specs.Tables.{Tables, none, cell_of, opposite, point, corner, across, corner_at, cell_volume, side, mate, IsCell, IsFace}
use Rattle.mesh.specs.Mesh.{along, level, OnWall, OnFace, Mated, IsMesh}
use Rattle.mesh.proofs.Room.{Room}
use Rattle.mesh.proofs.Faces.{glued, mated, mate<, mate_real, mate_mate, mate_opposite, across_cell}
use Rattle.mesh.proofs.FaceNumbers.{face_cell, face_opposite, opposite<, face_eq, face_in}
use Rattle.mesh.proofs.Held.{side_at_lem, plane_on_wall}
use Rattle.star.specs.Turn.{State, in_face, out_face, flip, turn}
use Rattle.cavity.specs.Cavity.{outer, in_set, visible, coplanar}
use Rattle.star.specs.Star.{kept?, Numbers, old_across, star_across, made_across, turn_face}
use Rattle.cavity.specs.Inner.Star.{StarShaped}
use Rattle.star.proofs.Cross.{Valid, OnEdge, state_eq}
use Rattle.star.proofs.Turn.{turn_valid, turn_ends, turn_back, turn_edge, turned}
use Rattle.star.proofs.Edge.{edge_volume, walk_volume}
use Rattle.cavity.proofs.Tests.{visible_of, Coplanar, coplanar_of, outer_yes}
use Rattle.star.proofs.Numbered.{IsStar, made_apex, made_other, kept_position, made_position}

-- ---- mated faces and wall faces, by cell and corner

pub mated_by : (t : Tables) (c i d j : ℕ) → i < 4 → j < 4 → across t (4 * c + i) ≡ d →
    ((k : ℕ) → k < 4 → k ≢ i → (l : ℕ) × (l < 4) × (l ≢ j) × (corner t d l ≡ corner t c k)) →
    across t (4 * d + j) ≡ c → volume (replaced (corner_at t c) i (corner_at t d j)) <ℤ pos 0 → Mated t (4 * c + i) (4 * d + j)
mated_by t c i d j hi hj a same b far = record {
  far_cell = face_cell d j hj ∙ sym a;
  same = λ k l ne.
      let q : (l : ℕ) × (l < 4) × (l ≢ j) × (corner t d l ≡ corner t c k) = same k l (λ e. ne (e ∙ sym (face_opposite c i hi))) in
      record { place = q.0; place< = q.1; off = λ e. q.2 (e ∙ face_opposite d j hj); is = ap (λ x. corner t x q.0) (face_cell d j hj) ∙ (q.3 ∙ ap (λ x. corner t x k) (sym (face_cell c i hi))) };
  back = b ∙ sym (face_cell c i hi);
  far_side = rw (face_cell d j hj, face_opposite d j hj) (subst (λ z. z <ℤ pos 0) (sym (side_at_lem t (corner_at t d j) c i hi)) far);
}

wall_by : {X Y Z : ℕ} (t : Tables) (f c i : ℕ) → i < 4 → (o : OnWall X Y Z t f) → (t' : Tables) →
    ((k : ℕ) → k < 4 → k ≢ i → along o.wall (corner_at t' c k) ≡ level X Y Z o.wall) → OnWall X Y Z t' (4 * c + i)
wall_by {X} {Y} {Z} t f c i hi o t' h = record {
  wall = o.wall;
  on = λ k l ne. ap (λ x. along o.wall (corner_at t' x k)) (face_cell c i hi) ∙ h k l (λ e. ne (e ∙ sym (face_opposite c i hi)));
}

pub visible_not_coplanar : (t : Tables) (p : Position) (s : List Bool) (f : ℕ) → visible t p s f ≡ true → coplanar t p f ≡ false
visible_not_coplanar t p s f v = go (split (coplanar t p f))
  where
    go : (coplanar t p f ≡ true) ⊎ (coplanar t p f ≡ false) → coplanar t p f ≡ false
    go (inl c) = absurd (<-irrefl (subst (λ z. pos 0 <ℤ z) (coplanar_of t p f c).level (visible_of t p s f v).above))
    go (inr c) = c

-- seen from outside, a face of the cavity with a neighbour is visible
pub mate_visible : {X Y Z pc cc np n : ℕ} {t : Tables} → IsMesh X Y Z pc cc np n t → Room pc cc t → {p : Position} {s : List Bool} → StarShaped t n p s →
    (f : ℕ) → IsFace t n f → across t f ≢ none → in_set s (cell_of f) ≡ false → in_set s (across t f) ≡ true → visible t p s (mate t f) ≡ true
mate_visible {t = t} M R {p} {s} C f f< real out inn = go (C.faces (mate t f)
    (outer_yes t s (mate t f) (ap (in_set s) (mated M R f f< real).far_cell ∙ inn) (ap (in_set s) (mated M R f f< real).back ∙ out)))
  where
    go : (visible t p s (mate t f) ≡ true) ⊎ (coplanar t p (mate t f) ≡ true) → visible t p s (mate t f) ≡ true
    go (inl v) = v
    go (inr c) = absurd (mate_real M R f f< real (coplanar_of t p (mate t f) c).bare)

-- a turn from a visible face ends at an outer one
pub turn_outer : {X Y Z pc cc np n : ℕ} {t : Tables} → IsMesh X Y Z pc cc np n t → Room pc cc t → {p : Position} {s : List Bool} → StarShaped t n p s →
    (f : ℕ) → visible t p s f ≡ true → (j : ℕ) → j < 4 → j ≢ opposite f → outer (across t) (in_set s) (turn_face t n s f j) ≡ true
unfolding turn_face
turn_outer {n = n} {t = t} M R {p} {s} C f v j h d =
    turn_ends (glued M R) C.cells record { cell = cell_of f; entry = opposite f; exit = j }
    record { held = (visible_of t p s f v).held; entry< = opposite< f; exit< = h; apart = λ e. d (sym e) }
    (ap (outer (across t) (in_set s)) (face_eq f) ∙ (visible_of t p s f v).outer?) n (omega arith)

-- a face of the new mesh is as the mesh asks
unfoldable pub Good : ℕ → ℕ → ℕ → Tables → ℕ → ℕ → Type 0
Good X Y Z t n f = ((across t f ≡ none) × OnWall X Y Z t f) ⊎ ((across t f < n) × ((g : ℕ) × Mated t f g))

module _ {X Y Z pc cc np n : ℕ} {t : Tables} (M : IsMesh X Y Z pc cc np n t) {p : Position} {s : List Bool}
    (R : Room pc cc t) (C : StarShaped t n p s) {N : Numbers} {t' : Tables} {n' : ℕ} (F : IsStar N t n p np s t' n') where
  abbrev kn : ℕ → ℕ
  kn = N.kept

  abbrev mn : ℕ → ℕ
  mn = N.made

  -- ---- what lies across a face that stays

  old_none : (f : ℕ) → across t f ≡ none → old_across N t s f ≡ none
  unfolding old_across
  old_none f e = rw (eq-eqb (across t f) none e)

  old_made : (f : ℕ) → across t f ≢ none → in_set s (across t f) ≡ true → old_across N t s f ≡ mn (mate t f)
  unfolding old_across
  old_made f d e = rw (ne_eqb (across t f) none d, e)

  old_kept : (f : ℕ) → across t f ≢ none → in_set s (across t f) ≡ false → old_across N t s f ≡ kn (across t f)
  unfolding old_across
  old_kept f d e = rw (ne_eqb (across t f) none d, e)

  -- ---- positions in the new cells

  kept_pos : (c : ℕ) → IsCell t n c → kept? s c ≡ true → (i : ℕ) → i < 4 → corner_at t' (kn c) i ≡ corner_at t c i
  kept_pos = kept_position F M.corner<

  made_pos : (f : ℕ) → IsFace t n f → visible t p s f ≡ true → (j : ℕ) → j < 4 → corner_at t' (mn f) j ≡ replaced (corner_at t (cell_of f)) (opposite f) p j
  made_pos = made_position F M.corner<

  made_tip : (f : ℕ) → IsFace t n f → visible t p s f ≡ true → corner_at t' (mn f) (opposite f) ≡ p
  made_tip f f< v = made_pos f f< v (opposite f) (opposite< f) ∙ replaced_same (corner_at t (cell_of f)) (opposite f) p

  -- N1
  pub made_volume : (f : ℕ) → IsFace t n f → visible t p s f ≡ true → cell_volume t' (mn f) ≡ side t p f
  unfolding cell_volume side
  made_volume f f< v = volume_cong (corner_at t' (mn f)) (replaced (corner_at t (cell_of f)) (opposite f) p) (made_pos f f< v)

  pub kept_volume : (c : ℕ) → IsCell t n c → kept? s c ≡ true → cell_volume t' (kn c) ≡ cell_volume t c
  unfolding cell_volume
  kept_volume c c< e = volume_cong (corner_at t' (kn c)) (corner_at t c) (kept_pos c c< e)

  across_own : (f : ℕ) → IsFace t n f → visible t p s f ≡ true → across t' (4 * mn f + opposite f) ≡ old_across N t s f
  unfolding made_across
  across_own f f< v = F.made_across f f< v (opposite f) (opposite< f) ∙ own
    where
      own : made_across N t n p s f (opposite f) ≡ old_across N t s f
      own = rw (eq-eqb (opposite f) (opposite f) refl)

  across_star : (f : ℕ) → IsFace t n f → visible t p s f ≡ true → (j : ℕ) → j < 4 → j ≢ opposite f → across t' (4 * mn f + j) ≡ star_across N t p (turn_face t n s f j)
  unfolding made_across
  across_star f f< v j j< d = F.made_across f f< v j j< ∙ turned_to
    where
      turned_to : made_across N t n p s f j ≡ star_across N t p (turn_face t n s f j)
      turned_to = rw (ne_eqb j (opposite f) d)

  star_visible : (g : ℕ) → visible t p s g ≡ true → star_across N t p g ≡ mn g
  unfolding star_across
  star_visible g v = rw (visible_not_coplanar t p s g v)

  star_coplanar : (g : ℕ) → coplanar t p g ≡ true → star_across N t p g ≡ none
  unfolding star_across
  star_coplanar g c = rw c

  -- ---- a face of a kept cell

  module _ (c : ℕ) (c< : IsCell t n c) (e : kept? s c ≡ true) (i : ℕ) (i< : i < 4) where
    f : ℕ
    f = 4 * c + i

    f<₁ : IsFace t n f
    unfolding f
    f<₁ = face_in c i i< c<

    cell₁ : cell_of f ≡ c
    unfolding f
    cell₁ = face_cell c i i<

    side₁ : opposite f ≡ i
    unfolding f
    side₁ = face_opposite c i i<

    out : in_set s (cell_of f) ≡ false
    out = ap (in_set s) cell₁ ∙ not-true (in_set s c) e

    -- f's corner k, in the far cell
    far₁ : (real : across t f ≢ none) (k : ℕ) → k < 4 → k ≢ i → OnFace t (mate t f) (corner t c k)
    far₁ real k l d = subst (λ x. OnFace t (mate t f) (corner t x k)) cell₁ ((mated M R f f<₁ real).same k l (λ q. d (q ∙ side₁)))

    to_star : (real : across t f ≢ none) → in_set s (across t f) ≡ true → Good X Y Z t' n' (4 * kn c + i)
    unfolding Good f
    to_star real inn = inr (subst (λ x. x < n') (sym here) (F.made< g g< v), (4 * mn g + opposite g, mates))
      where
        g : ℕ
        g = mate t f

        g< : IsFace t n g
        g< = mate< M R f f<₁ real

        v : visible t p s g ≡ true
        v = mate_visible M R C f f<₁ real out inn

        here : across t' (4 * kn c + i) ≡ mn g
        here = F.kept_across c c< e i i< ∙ (old_made f real inn)

        back : across t' (4 * mn g + opposite g) ≡ kn c
        back =
            across_own g g< v ∙
            (old_kept g (mate_real M R f f<₁ real) (ap (in_set s) (mated M R f f<₁ real).back ∙ out) ∙
            ap kn ((mated M R f f<₁ real).back ∙ cell₁))

        same : (k : ℕ) → k < 4 → k ≢ i → (l : ℕ) × (l < 4) × (l ≢ opposite g) × (corner t' (mn g) l ≡ corner t' (kn c) k)
        same k l d =
            let o : OnFace t g (corner t c k) = far₁ real k l d in
            (o.place, o.place<, o.off, made_other F g g< v o.place o.place< o.off ∙ (o.is ∙ sym (F.kept_corner c c< e k l)))

        behind : volume (replaced (corner_at t' (kn c)) i (corner_at t' (mn g) (opposite g))) <ℤ pos 0
        behind =
            subst (λ z. z <ℤ pos 0)
            (sym (volume_cong (replaced (corner_at t' (kn c)) i (corner_at t' (mn g) (opposite g))) (replaced (corner_at t c) i p)
            (replaced_cong (corner_at t' (kn c)) (corner_at t c) i (corner_at t' (mn g) (opposite g)) p (kept_pos c c< e) (made_tip g g< v)) ∙
            (sym (side_at_lem t p c i i<) ∙ mirrored_side)))
            (neg-mono-< (visible_of t p s g v).above)
          where
            mirrored_side : side t p f ≡ neg_ℤ (side t p g)
            mirrored_side = ap (side t p) (sym (mate_mate M R f f<₁ real)) ∙ mate_opposite M R g g< (mate_real M R f f<₁ real) p

        mates : Mated t' (4 * kn c + i) (4 * mn g + opposite g)
        mates = mated_by t' (kn c) i (mn g) (opposite g) i< (opposite< g) here same back behind

    to_kept : (real : across t f ≢ none) → in_set s (across t f) ≡ false → Good X Y Z t' n' (4 * kn c + i)
    unfolding Good f
    to_kept real free = inr (subst (λ x. x < n') (sym here) (F.kept< u u< ku), (4 * kn u + opposite g, mates))
      where
        g : ℕ
        g = mate t f

        u : ℕ
        u = across t f

        u< : IsCell t n u
        u< = across_cell M R f f<₁ real

        ku : kept? s u ≡ true
        ku = ap not free

        far : cell_of g ≡ u
        far = (mated M R f f<₁ real).far_cell

        g_is : 4 * u + opposite g ≡ g
        g_is = ap (λ x. 4 * x + opposite g) (sym far) ∙ face_eq g

        here : across t' (4 * kn c + i) ≡ kn u
        here = F.kept_across c c< e i i< ∙ old_kept f real free

        back : across t' (4 * kn u + opposite g) ≡ kn c
        back =
            F.kept_across u u< ku (opposite g) (opposite< g) ∙
            (ap (old_across N t s) g_is ∙
            (old_kept g (mate_real M R f f<₁ real) (ap (in_set s) (mated M R f f<₁ real).back ∙ out) ∙
            ap kn ((mated M R f f<₁ real).back ∙ cell₁)))

        same : (k : ℕ) → k < 4 → k ≢ i → (l : ℕ) × (l < 4) × (l ≢ opposite g) × (corner t' (kn u) l ≡ corner t' (kn c) k)
        same k l d =
            let o : OnFace t g (corner t c k) = far₁ real k l d in
            (o.place, o.place<, o.off, F.kept_corner u u< ku o.place o.place< ∙ (ap (λ x. corner t x o.place) (sym far) ∙ (o.is ∙ sym (F.kept_corner c c< e k l))))

        behind : volume (replaced (corner_at t' (kn c)) i (corner_at t' (kn u) (opposite g))) <ℤ pos 0
        behind =
            subst (λ z. z <ℤ pos 0)
            (sym (volume_cong (replaced (corner_at t' (kn c)) i (corner_at t' (kn u) (opposite g))) (replaced (corner_at t c) i (corner_at t (cell_of g) (opposite g)))
            (replaced_cong (corner_at t' (kn c)) (corner_at t c) i (corner_at t' (kn u) (opposite g)) (corner_at t (cell_of g) (opposite g)) (kept_pos c c< e)
            (kept_pos u u< ku (opposite g) (opposite< g) ∙ ap (λ x. corner_at t x (opposite g)) (sym far))) ∙
            sym (side_at_lem t (corner_at t (cell_of g) (opposite g)) c i i<)))
            (mated M R f f<₁ real).far_side

        mates : Mated t' (4 * kn c + i) (4 * kn u + opposite g)
        mates = mated_by t' (kn c) i (kn u) (opposite g) i< (opposite< g) here same back behind

    to_wall : across t f ≡ none → Good X Y Z t' n' (4 * kn c + i)
    unfolding Good f
    to_wall bare =
        inl (
          F.kept_across c c< e i i< ∙ old_none f bare,
          wall_by t f (kn c) i i< (M.walls f f<₁ bare) t'
              (λ k l d. ap (along (M.walls f f<₁ bare).wall) (kept_pos c c< e k l ∙ ap (λ x. corner_at t x k) (sym cell₁)) ∙ (M.walls f f<₁ bare).on k l (λ q. d (q ∙ side₁))),
        )

    pub kept_good : Good X Y Z t' n' (4 * N.kept c + i)
    kept_good = go (ℕ_discrete (across t f) none) (split (in_set s (across t f)))
      where
        go : Dec (across t f ≡ none) → (in_set s (across t f) ≡ true) ⊎ (in_set s (across t f) ≡ false) → Good X Y Z t' n' (4 * kn c + i)
        go (yes b) d = to_wall b
        go (no r) (inl h) = to_star r h
        go (no r) (inr h) = to_kept r h

  -- ---- the old face of a new cell

  module _ (f : ℕ) (f< : IsFace t n f) (v : visible t p s f ≡ true) where
    own_kept : (real : across t f ≢ none) → Good X Y Z t' n' (4 * mn f + opposite f)
    unfolding Good side
    own_kept real = inr (subst (λ x. x < n') (sym here) (F.kept< u u< ku), (4 * kn u + opposite g, mates))
      where
        free : in_set s (across t f) ≡ false
        free = (visible_of t p s f v).free

        g : ℕ
        g = mate t f

        u : ℕ
        u = across t f

        u< : IsCell t n u
        u< = across_cell M R f f< real

        ku : kept? s u ≡ true
        ku = ap not free

        far : cell_of g ≡ u
        far = (mated M R f f< real).far_cell

        g_is : 4 * u + opposite g ≡ g
        g_is = ap (λ x. 4 * x + opposite g) (sym far) ∙ face_eq g

        here : across t' (4 * mn f + opposite f) ≡ kn u
        here = across_own f f< v ∙ old_kept f real free

        back : across t' (4 * kn u + opposite g) ≡ mn f
        back =
            F.kept_across u u< ku (opposite g) (opposite< g) ∙
            (ap (old_across N t s) g_is ∙
            (old_made g (mate_real M R f f< real) (ap (in_set s) (mated M R f f< real).back ∙ (visible_of t p s f v).held) ∙
            ap mn (mate_mate M R f f< real)))

        same : (k : ℕ) → k < 4 → k ≢ opposite f → (l : ℕ) × (l < 4) × (l ≢ opposite g) × (corner t' (kn u) l ≡ corner t' (mn f) k)
        same k l d =
            let o : OnFace t g (corner t (cell_of f) k) = (mated M R f f< real).same k l d in
            (o.place, o.place<, o.off, F.kept_corner u u< ku o.place o.place< ∙ (ap (λ x. corner t x o.place) (sym far) ∙ (o.is ∙ sym (made_other F f f< v k l d))))

        behind : volume (replaced (corner_at t' (mn f)) (opposite f) (corner_at t' (kn u) (opposite g))) <ℤ pos 0
        behind =
            subst (λ z. z <ℤ pos 0)
            (sym (volume_cong (replaced (corner_at t' (mn f)) (opposite f) (corner_at t' (kn u) (opposite g))) (replaced (corner_at t (cell_of f)) (opposite f) (corner_at t (cell_of g) (opposite g)))
            (λ k l. replaced_cong (corner_at t' (mn f)) (replaced (corner_at t (cell_of f)) (opposite f) p) (opposite f) (corner_at t' (kn u) (opposite g)) (corner_at t (cell_of g) (opposite g)) (made_pos f f< v)
            (kept_pos u u< ku (opposite g) (opposite< g) ∙ ap (λ x. corner_at t x (opposite g)) (sym far)) k l ∙
            replaced_twice (corner_at t (cell_of f)) (opposite f) p (corner_at t (cell_of g) (opposite g)) k)))
            (mated M R f f< real).far_side

        mates : Mated t' (4 * mn f + opposite f) (4 * kn u + opposite g)
        mates = mated_by t' (mn f) (opposite f) (kn u) (opposite g) (opposite< f) (opposite< g) here same back behind

    own_wall : across t f ≡ none → Good X Y Z t' n' (4 * mn f + opposite f)
    unfolding Good
    own_wall bare =
        inl (
          across_own f f< v ∙ old_none f bare,
          wall_by t f (mn f) (opposite f) (opposite< f) (M.walls f f< bare) t'
              (λ k l d. ap (along (M.walls f f< bare).wall) (made_pos f f< v k l ∙ replaced_other (corner_at t (cell_of f)) (opposite f) p k d) ∙ (M.walls f f< bare).on k l d),
        )

    pub own_good : Good X Y Z t' n' (4 * N.made f + opposite f)
    own_good = go (ℕ_discrete (across t f) none)
      where
        go : Dec (across t f ≡ none) → Good X Y Z t' n' (4 * mn f + opposite f)
        go (yes b) = own_wall b
        go (no r) = own_kept r

    -- ---- a face of the new point and an edge

    module _ (j : ℕ) (j< : j < 4) (d : j ≢ opposite f) where
      s₀ : State
      s₀ = record { cell = cell_of f; entry = opposite f; exit = j }

      v₀ : Valid (in_set s) s₀
      unfolding s₀
      v₀ = record { held = (visible_of t p s f v).held; entry< = opposite< f; exit< = j<; apart = λ q. d (sym q) }

      start : outer (across t) (in_set s) (in_face s₀) ≡ true
      unfolding s₀
      start = ap (outer (across t) (in_set s)) (face_eq f) ∙ (visible_of t p s f v).outer?

      e : State
      e = turn (corner t) (across t) (mate t) (in_set s) n s₀

      g : ℕ
      g = out_face e

      enough : n ≤ n
      enough = omega arith

      ve : Valid (in_set s) e
      unfolding e
      ve = turn_valid (glued M R) C.cells s₀ v₀ start n enough

      ends : outer (across t) (in_set s) g ≡ true
      unfolding e g
      ends = turn_ends (glued M R) C.cells s₀ v₀ start n enough

      round : turn_face t n s f j ≡ g
      unfolding turn_face g e s₀
      round = refl

      g< : IsFace t n g
      unfolding g
      g< = face_in e.cell e.exit ve.exit< (C.cells e.cell ve.held)

      g_cell : cell_of g ≡ e.cell
      unfolding g
      g_cell = face_cell e.cell e.exit ve.exit<

      g_side : opposite g ≡ e.exit
      unfolding g
      g_side = face_opposite e.cell e.exit ve.exit<

      -- a corner of the edge, in the last cell
      edge : (k : ℕ) → k < 4 → k ≢ opposite f → k ≢ j → OnEdge (corner t) e (corner t (cell_of f) k)
      unfolding e s₀
      edge k l a b =
          turn_edge (glued M R) C.cells s₀ v₀ start n enough (corner t (cell_of f) k)
          record { place = k; place< = l; off_entry = a; off_exit = b; is = refl }

      same_volume : (q : Position) → edge_volume t e p q ≡ edge_volume t s₀ p q
      unfolding e
      same_volume q = walk_volume M R C.cells (turned (glued M R) C.cells s₀ v₀ start n enough) v₀ p q

      here : across t' (4 * mn f + j) ≡ star_across N t p g
      here = across_star f f< v j j< d ∙ ap (star_across N t p) round

      edge_star : visible t p s g ≡ true → Good X Y Z t' n' (4 * mn f + j)
      unfolding Good turn_face e s₀ g edge_volume
      edge_star vg = inr (subst (λ x. x < n') (sym at) (F.made< g g< vg), (4 * mn g + e.entry, mates))
        where
          at : across t' (4 * mn f + j) ≡ mn g
          at = here ∙ star_visible g vg

          apart : e.entry ≢ opposite g
          apart q = ve.apart (q ∙ g_side)

          again : turn_face t n s g e.entry ≡ f
          again =
              (ap (λ x. out_face (turn (corner t) (across t) (mate t) (in_set s) n x)) (state_eq {s = record { cell = cell_of g; entry = opposite g; exit = e.entry }} {t = flip e} g_cell g_side refl)) ∙
              ((ap out_face (turn_back (glued M R) C.cells s₀ v₀ start n enough n enough)) ∙ (face_eq f))

          back : across t' (4 * mn g + e.entry) ≡ mn f
          back = across_star g g< vg e.entry ve.entry< apart ∙ (ap (star_across N t p) again ∙ star_visible f v)

          same : (k : ℕ) → k < 4 → k ≢ j → (l : ℕ) × (l < 4) × (l ≢ e.entry) × (corner t' (mn g) l ≡ corner t' (mn f) k)
          same k l b = go (ℕ_discrete k (opposite f))
            where
              go : Dec (k ≡ opposite f) → (l : ℕ) × (l < 4) × (l ≢ e.entry) × (corner t' (mn g) l ≡ corner t' (mn f) k)
              go (yes a) = (opposite g, opposite< g, (λ q. apart (sym q)), made_apex F g g< vg (opposite g) (opposite< g) refl ∙ sym (made_apex F f f< v k l a))
              go (no a) =
                  let o : OnEdge (corner t) e (corner t (cell_of f) k) = edge k l a b in (
                    o.place,
                    o.place<,
                    o.off_entry,
                    made_other F g g< vg o.place o.place< (λ q. o.off_exit (q ∙ g_side)) ∙
                        (ap (λ x. corner t x o.place) g_cell ∙ (o.is ∙ sym (made_other F f f< v k l a))),
                  )

          apex : Position
          apex = corner_at t e.cell e.entry

          apex_is : corner_at t' (mn g) e.entry ≡ apex
          apex_is = made_pos g g< vg e.entry ve.entry< ∙ (replaced_other (corner_at t (cell_of g)) (opposite g) p e.entry apart ∙ ap (λ x. corner_at t x e.entry) g_cell)

          swapped : edge_volume t e p apex ≡ neg_ℤ (side t p g)
          swapped =
              volume_swap (corner_at t e.cell) p apex e.entry e.exit ve.entry< ve.exit< ve.apart ∙
              ap neg_ℤ (volume_cong (replaced (replaced (corner_at t e.cell) e.entry apex) e.exit p) (replaced (corner_at t e.cell) e.exit p)
              (replaced_cong (replaced (corner_at t e.cell) e.entry apex) (corner_at t e.cell) e.exit p p (λ k l. replaced_id (corner_at t e.cell) e.entry apex refl k) refl) ∙
              (sym (side_at_lem t p e.cell e.exit ve.exit<)))

          behind : volume (replaced (corner_at t' (mn f)) j (corner_at t' (mn g) e.entry)) <ℤ pos 0
          behind =
              subst (λ z. z <ℤ pos 0)
              (sym (volume_cong (replaced (corner_at t' (mn f)) j (corner_at t' (mn g) e.entry)) (replaced (replaced (corner_at t (cell_of f)) (opposite f) p) j apex)
              (replaced_cong (corner_at t' (mn f)) (replaced (corner_at t (cell_of f)) (opposite f) p) j (corner_at t' (mn g) e.entry) apex (made_pos f f< v) apex_is) ∙
              ((sym (same_volume apex)) ∙ swapped)))
              (neg-mono-< (visible_of t p s g vg).above)

          mates : Mated t' (4 * mn f + j) (4 * mn g + e.entry)
          mates = mated_by t' (mn f) j (mn g) e.entry j< ve.entry< at same back behind

      edge_wall : coplanar t p g ≡ true → Good X Y Z t' n' (4 * mn f + j)
      unfolding Good corner_at
      edge_wall cg = inl (here ∙ star_coplanar g cg, wall_by t g (mn f) j j< o t' on)
        where
          q : Coplanar t p g
          q = coplanar_of t p g cg

          o : OnWall X Y Z t g
          o = M.walls g g< q.bare

          on : (k : ℕ) → k < 4 → k ≢ j → along o.wall (corner_at t' (mn f) k) ≡ level X Y Z o.wall
          on k l b = go (ℕ_discrete k (opposite f))
            where
              go : Dec (k ≡ opposite f) → along o.wall (corner_at t' (mn f) k) ≡ level X Y Z o.wall
              go (yes a) = ap (along o.wall) (ap (corner_at t' (mn f)) a ∙ made_tip f f< v) ∙ plane_on_wall M R g g< o p q.level
              go (no a) =
                  let w : OnEdge (corner t) e (corner t (cell_of f) k) = edge k l a b in
                  ap (along o.wall) (made_pos f f< v k l ∙ (replaced_other (corner_at t (cell_of f)) (opposite f) p k a ∙
                  (ap (point t) (sym (ap (λ x. corner t x w.place) g_cell ∙ w.is))))) ∙
                  o.on w.place w.place< (λ r. w.off_exit (r ∙ g_side))

      pub edge_good : Good X Y Z t' n' (4 * N.made f + j)
      edge_good = go (C.faces g ends)
        where
          go : (visible t p s g ≡ true) ⊎ (coplanar t p g ≡ true) → Good X Y Z t' n' (4 * mn f + j)
          go (inl h) = edge_star h
          go (inr h) = edge_wall h

    pub made_good : (j : ℕ) → j < 4 → Good X Y Z t' n' (4 * N.made f + j)
    made_good j j< = go (ℕ_discrete j (opposite f))
      where
        go : Dec (j ≡ opposite f) → Good X Y Z t' n' (4 * mn f + j)
        go (yes q) = subst (λ x. Good X Y Z t' n' (4 * mn f + x)) (sym q) own_good
        go (no d) = edge_good j j< d

-- The cells that hold one place: they are linked through faces that hold it, and interpolate every table of values alike.
use Prim.Native.Nat.{ℕ, ◌+◌, ◌*◌, ◌≤◌, ◌<◌}
use mathlib.Core.Logic.{◌≢◌, ◌⊎◌, inl, inr}
use mathlib.Core.Path.{◌≡◌, refl, sym, ap, ap₂, ◌∙◌, subst}
use mathlib.Core.List.{[], ◌∷◌}
use native.Mathlib.Omega.{arith}
use native.Mathlib.Decide.{ℕ_discrete}
use native.Mathlib.Nat.{mul-le-mul_left}
use lib.IntN.{ℤ, pos, neg_ℤ, ◌+ℤ◌, ◌-ℤ◌, ◌*ℤ◌}
use lib.Signed.{◌<ℤ◌, ◌≤ℤ◌}
use Rattle.arith.specs.Table.{sum}
use Rattle.arith.proofs.Order.{arithℤ, parts_add, parts_neg, <→≤, <-irrefl, ≤-<-trans, ≤-antisym, total, *-nonneg, *-pos, *-neg-r, *-nonpos-r, +-neg, cancel_zero}
use Rattle.arith.proofs.Integers.{eq_of_sub}
use Rattle.arith.proofs.Sums.{sum_cong, sum_zero, sum_swap, sum_one, sum_times}
use Rattle.arith.proofs.Ring.{var, con, ◌⊖◌, ◌⊗◌, neg, ring}
use Rattle.arith.proofs.Combine.{hyp, combine}
use Rattle.mesh.specs.Tables.{Tables, none, cell_of, opposite, point, corner, across, corner_at, cell_volume, side, mate, IsCell, IsFace}
use Rattle.mesh.specs.Mesh.{OnFace, IsMesh}
use Rattle.mesh.proofs.Room.{Room}
use Rattle.mesh.proofs.Faces.{few, mated, across_cell}
use Rattle.mesh.proofs.FaceNumbers.{opposite<, face_in, face_cell, face_opposite, face_eq}
use Rattle.covering.specs.Place.{Place, InBoxAt, side_at}
use Rattle.covering.specs.Holders.{FacePath, here, step, FaceHolds}
use Rattle.covering.proofs.Linear.{placed, form, HoldsForm, InsideForm, mix, form_mix, form_whole, form_between, mate_opposite_form}
use Rattle.covering.proofs.Avoid.{over_all, over_each, outweighs, outweighs_neg}
use Rattle.covering.proofs.Fields.{InsideBy, blend}
use Rattle.covering.proofs.Walk.{Visited, Crosses, Walks}
use Rattle.covering.proofs.Cover.{Start, start, walk_to, middle, middle_inside, form_own, form_off}
use Rattle.covering.proofs.Once.{once}
use Rattle.covering.proofs.Parts.{whole_in_box, holds_form, plane_form}

-- φ, a number for each point, weighted with the forms of cell c
unfoldable pub form_weighted : Tables → Place → (ℕ → ℤ) → ℕ → ℤ
form_weighted t q φ c = sum 4 (λ k. form t q (4 * c + k) *ℤ φ (corner t c k))

-- ---- near a place, towards another

add_pos : (N : ℕ) (u w : ℤ) → pos 0 ≤ℤ u → pos 0 <ℤ w → pos 0 <ℤ (pos N *ℤ u +ℤ pos 1 *ℤ w)
add_pos N u w h k =
    let a : pos 0 ≤ℤ (pos N *ℤ u) = *-nonneg {a = pos N} {b = u} (omega arithℤ) h in
    let b : pos 0 <ℤ (pos 1 *ℤ w) = *-pos {a = pos 1} {b = w} (omega arithℤ) k in
    omega (arithℤ, parts_add (pos N *ℤ u) (pos 1 *ℤ w))

add_neg : {a b u w : ℤ} → pos 0 <ℤ a → pos 0 ≤ℤ b → u <ℤ pos 0 → w <ℤ pos 0 → (a *ℤ u +ℤ b *ℤ w) <ℤ pos 0
add_neg ha hb h k = +-neg (*-neg-r ha h) (*-nonpos-r hb (<→≤ k))

module _ (X Y Z : ℕ) where
  mix_box : (m : ℕ) (p q : Place) → InBoxAt X Y Z p → InBoxAt X Y Z q → InBoxAt X Y Z (mix m p 1 q)
  mix_box m p q a b = record {
    w≥ = omega (arith, b.w≥);
    box = record {
      x≤ = omega (arith, mul-le-mul_left m a.box.x≤, b.box.x≤);
      y≤ = omega (arith, mul-le-mul_left m a.box.y≤, b.box.y≤);
      z≤ = omega (arith, mul-le-mul_left m a.box.z≤, b.box.z≤);
    };
  }

module _ {X Y Z pc cc np n : ℕ} {t : Tables} (M : IsMesh X Y Z pc cc np n t) (R : Room pc cc t) where
  middle_box : (c : ℕ) → IsCell t n c → InBoxAt X Y Z (middle t c)
  middle_box c l = mix_box X Y Z 1 (mix 1 (placed t c 0) 1 (placed t c 1)) (mix 1 (placed t c 2) 1 (placed t c 3))
      (mix_box X Y Z 1 (placed t c 0) (placed t c 1) (at 0 (omega arith)) (at 1 (omega arith))) (mix_box X Y Z 1 (placed t c 2) (placed t c 3) (at 2 (omega arith)) (at 3 (omega arith)))
    where
      at : (k : ℕ) → k < 4 → InBoxAt X Y Z (placed t c k)
      at k h = whole_in_box (unfold corner_at in M.inside (corner t c k) (M.corner< c k l h))

  -- a path leads from cell to cell
  next_cell : (c k : ℕ) → IsCell t n c → k < 4 → across t (4 * c + k) < n → IsCell t n (across t (4 * c + k))
  next_cell c k l h u = across_cell M R (4 * c + k) (face_in c k h l) (omega (arith, few M R))

  -- what lies strictly inside a cell is held by no other
  pub held_inside : (q : Place) (d c : ℕ) → IsCell t n d → IsCell t n c → HoldsForm t q d → InsideForm t q c → d ≡ c
  held_inside q d c ld lc h i = once M R (mix N q 1 (middle t d)) d c ld lc in_d in_c
    where
      N : ℕ
      N = over_all (4 * n) (form t (middle t d))

      in_d : InsideForm t (mix N q 1 (middle t d)) d
      in_d k l = subst (λ z. pos 0 <ℤ z) (sym (form_mix t N q 1 (middle t d) (4 * d + k))) (add_pos N (form t q (4 * d + k)) (form t (middle t d) (4 * d + k)) (h k l) (middle_inside M d ld k l))

      in_c : InsideForm t (mix N q 1 (middle t d)) c
      in_c k l =
          subst (λ z. pos 0 <ℤ z) (sym (form_mix t N q 1 (middle t d) (4 * c + k)))
          (outweighs N (form t q (4 * c + k)) (form t (middle t d) (4 * c + k)) (over_each (4 * n) (form t (middle t d)) (4 * c + k) (omega (arith, lc.below))) (i k l))

  -- ---- from one cell that holds q to another, through cells that hold q

  module _ (q : Place) (box : InBoxAt X Y Z q) where
    -- beyond every face that q is beyond
    abbrev Way : (ℕ → ℤ) → Type 0
    Way p = (f : ℕ) → f < 4 * n → form t q f <ℤ pos 0 → p f <ℤ pos 0

    way_holds : (p : ℕ → ℤ) (c : ℕ) → IsCell t n c → Way p → InsideBy p c → HoldsForm t q c
    way_holds p c l w i k h = by (total (pos 0) (form t q (4 * c + k)))
      where
        by : (pos 0 ≤ℤ form t q (4 * c + k)) ⊎ (form t q (4 * c + k) <ℤ pos 0) → pos 0 ≤ℤ form t q (4 * c + k)
        by (inl a) = a
        by (inr a) = absurd (<-irrefl (≤-<-trans (<→≤ (i k h)) (w (4 * c + k) (omega (arith, l.below)) a)))

    -- a face between two cells that hold q holds it
    face_holds : (c k : ℕ) → IsCell t n c → k < 4 → across t (4 * c + k) < n → HoldsForm t q c → HoldsForm t q (across t (4 * c + k)) → form t q (4 * c + k) ≡ pos 0
    face_holds c k l h u i j =
        ≤-antisym (up (subst (λ z. pos 0 ≤ℤ z) (ap (form t q) (ap (λ x. 4 * x + opposite (mate t f)) (sym (mated M R f f< real).far_cell) ∙ face_eq (mate t f)) ∙ mate_opposite_form M R f f< real q) (j (opposite (mate t f)) (opposite< (mate t f))))) (i k h)
      where
        f : ℕ
        f = 4 * c + k

        f< : IsFace t n f
        f< = face_in c k h l

        real : across t f ≢ none
        real = omega (arith, few M R)

        up : {z : ℤ} → pos 0 ≤ℤ neg_ℤ z → z ≤ℤ pos 0
        up {z} h = omega (arithℤ, parts_neg z)

    -- the first cell of a walk
    first_visited : {r : ℕ → ℤ} {c d : ℕ} → FacePath t n (Crosses r Way) c d → Visited Way d → Visited Way c
    first_visited here s = s
    first_visited (step k h x u v) s = x.from

    visited_holds : (c : ℕ) → IsCell t n c → Visited Way c → HoldsForm t q c
    visited_holds c l s = way_holds s.place c l s.way s.inside

    linked : {r : ℕ → ℤ} {c d : ℕ} → IsCell t n c → FacePath t n (Crosses r Way) c d → Visited Way d → FacePath t n (FaceHolds t q) c d
    linked l here s = here
    linked l (step {c} k h x u v) s =
        step k h
        record {
          cell = (holds_form t q box.w≥ c l.lives).1 own;
          -- by the tactic, so that an edit which lets any face pass is refused below, where values are compared
          plane = Prim.cc level;
        }
        u (linked (next_cell c k l h u) v s)
      where
        own : HoldsForm t q c
        own = visited_holds c l x.from

        level : side_at t q (4 * c + k) ≡ pos 0
        level = (plane_form t q box.w≥ (4 * c + k)).1 (face_holds c k l h u own (visited_holds (across t (4 * c + k)) (next_cell c k l h u) (first_visited v s)))

    -- CELLS THAT HOLD ONE PLACE ARE LINKED THROUGH FACES THAT HOLD IT
    pub around : (c d : ℕ) → IsCell t n c → IsCell t n d → HoldsForm t q c → HoldsForm t q d → FacePath t n (FaceHolds t q) c d
    around c d lc ld hc hd = go (start M (form t far) near)
      where
        N : ℕ
        N = over_all (4 * n) (form t (middle t c)) + over_all (4 * n) (form t (middle t d))

        near : Place
        near = mix N q 1 (middle t c)

        far : Place
        far = mix N q 1 (middle t d)

        inside : (e : ℕ) → IsCell t n e → HoldsForm t q e → InsideForm t (mix N q 1 (middle t e)) e
        inside e l h k i = subst (λ z. pos 0 <ℤ z) (sym (form_mix t N q 1 (middle t e) (4 * e + k))) (add_pos N (form t q (4 * e + k)) (form t (middle t e) (4 * e + k)) (h k i) (middle_inside M e l k i))

        way_near : Way (form t near)
        way_near f f< h = subst (λ z. z <ℤ pos 0) (sym (form_mix t N q 1 (middle t c) f)) (outweighs_neg N (form t q f) (form t (middle t c) f) (omega (arith, over_each (4 * n) (form t (middle t c)) f f<)) h)

        way_far : Way (form t far)
        way_far f f< h = subst (λ z. z <ℤ pos 0) (sym (form_mix t N q 1 (middle t d) f)) (outweighs_neg N (form t q f) (form t (middle t d) f) (omega (arith, over_each (4 * n) (form t (middle t d)) f f<)) h)

        on : (a : ℤ) (p : ℕ → ℤ) (b : ℤ) → pos 0 <ℤ a → pos 0 ≤ℤ b → Way p → Way (blend a p b (form t far))
        on a p b h k w f f< z = add_neg h k (w f f< z) (way_far f f< z)

        go : (x : Place) × Start t n (form t far) near x → FacePath t n (FaceHolds t q) c d
        go (x, S) =
            by (walk_to M R far (mix_box X Y Z N q (middle t d) box (middle_box d ld)) Way on x (λ f f< z. S.below f f< (way_near f f< z)) S.generic c c lc lc
            (S.near c lc.below (inside c lc hc)) (S.near c lc.below (inside c lc hc)))
          where
            by : Walks t n (form t far) Way c c → FacePath t n (FaceHolds t q) c d
            by L = subst (λ e. FacePath t n (FaceHolds t q) c e) (held_inside far L.end₁ d L.end₁< ld L.holds₁ (inside d ld hd)) (linked lc L.path L.last)

  -- ---- the same values

  module _ (q : Place) (φ : ℕ → ℤ) where
    -- across a face that holds q
    module _ (c k : ℕ) (c< : IsCell t n c) (k< : k < 4) (level : form t q (4 * c + k) ≡ pos 0) (u< : across t (4 * c + k) < n) where
      abbrev f : ℕ
      f = 4 * c + k

      abbrev u : ℕ
      u = across t f

      f< : IsFace t n f
      f< = face_in c k k< c<

      real : across t f ≢ none
      real = omega (arith, few M R)

      far : cell_of (mate t f) ≡ u
      far = (mated M R f f< real).far_cell

      -- corner i of c, as a corner of the far cell
      shared : (i : ℕ) → i < 4 → i ≢ k → (l : ℕ) × (l < 4) × (corner t u l ≡ corner t c i)
      shared i h d = at ((mated M R f f< real).same i h (λ e. d (e ∙ face_opposite c k k<)))
        where
          at : OnFace t (mate t f) (corner t (cell_of f) i) → (l : ℕ) × (l < 4) × (corner t u l ≡ corner t c i)
          at o = (o.place, o.place<, ap (λ x. corner t x o.place) (sym far) ∙ (o.is ∙ ap (λ x. corner t x i) (face_cell c k k<)))

      abbrev corner_weight : ℕ → ℕ → ℤ
      corner_weight i l = side t (corner_at t c i) (4 * u + l)

      row_sum : (i : ℕ) → i < 4 → sum 4 (λ l. (form t q (4 * c + i) *ℤ corner_weight i l) *ℤ φ (corner t u l)) ≡ (form t q (4 * c + i) *ℤ φ (corner t c i)) *ℤ cell_volume t u
      row_sum i h = go (ℕ_discrete i k)
        where
          go : Dec (i ≡ k) → sum 4 (λ l. (form t q (4 * c + i) *ℤ corner_weight i l) *ℤ φ (corner t u l)) ≡ (form t q (4 * c + i) *ℤ φ (corner t c i)) *ℤ cell_volume t u
          go (yes e) =
              sum_zero 4 (λ l. (form t q (4 * c + i) *ℤ corner_weight i l) *ℤ φ (corner t u l)) (λ l hl. none₀ (corner_weight i l) (φ (corner t u l))) ∙ sym (none₀ (φ (corner t c i)) (cell_volume t u))
            where
              none₀ : (a b : ℤ) → (form t q (4 * c + i) *ℤ a) *ℤ b ≡ pos 0
              none₀ a b = ap (λ z. (z *ℤ a) *ℤ b) (ap (λ j. form t q (4 * c + j)) e ∙ level) ∙ ring (con (pos 0) ⊗ var 0 ⊗ var 1) (con (pos 0)) tt (a ∷ b ∷ [])
          go (no d) = at (shared i h d)
            where
              at : (l : ℕ) × (l < 4) × (corner t u l ≡ corner t c i) →
                  sum 4 (λ l. (form t q (4 * c + i) *ℤ corner_weight i l) *ℤ φ (corner t u l)) ≡ (form t q (4 * c + i) *ℤ φ (corner t c i)) *ℤ cell_volume t u
              at (m, hm, e) =
                  sum_one 4 (λ l. (form t q (4 * c + i) *ℤ corner_weight i l) *ℤ φ (corner t u l)) m hm
                  (λ l hl d. ap (λ z. (form t q (4 * c + i) *ℤ z) *ℤ φ (corner t u l)) (off l hl d) ∙ ring (var 0 ⊗ con (pos 0) ⊗ var 1) (con (pos 0)) tt (form t q (4 * c + i) ∷ φ (corner t u l) ∷ [])) ∙
                  (ap₂ (λ z y. (form t q (4 * c + i) *ℤ z) *ℤ y) own (ap φ e) ∙
                  ring (var 0 ⊗ var 1 ⊗ var 2) (var 0 ⊗ var 2 ⊗ var 1) tt (form t q (4 * c + i) ∷ cell_volume t u ∷ φ (corner t c i) ∷ []))
                where
                  here_is : corner_at t c i ≡ corner_at t u m
                  here_is = unfold corner_at in ap (point t) (sym e)

                  own : corner_weight i m ≡ cell_volume t u
                  own = ap (λ p. side t p (4 * u + m)) here_is ∙ (sym (form_whole t (corner_at t u m) (4 * u + m)) ∙ form_own t u m hm)

                  off : (l : ℕ) → l < 4 → l ≢ m → corner_weight i l ≡ pos 0
                  off l hl d = ap (λ p. side t p (4 * u + l)) here_is ∙ (sym (form_whole t (corner_at t u m) (4 * u + l)) ∙ form_off t u m l hm hl (λ x. d (sym x)))

      value_across : form_weighted t q φ u *ℤ cell_volume t c ≡ form_weighted t q φ c *ℤ cell_volume t u
      unfolding form_weighted
      value_across =
          sym (sum_times 4 (λ l. form t q (4 * u + l) *ℤ φ (corner t u l)) (cell_volume t c)) ∙
          (sum_cong 4 (λ l. (form t q (4 * u + l) *ℤ φ (corner t u l)) *ℤ cell_volume t c) (λ l. sum 4 (λ i. (form t q (4 * c + i) *ℤ corner_weight i l) *ℤ φ (corner t u l))) (λ l hl. spread l) ∙
          (sum_swap 4 4 (λ l i. (form t q (4 * c + i) *ℤ corner_weight i l) *ℤ φ (corner t u l)) ∙
          (sum_cong 4 (λ i. sum 4 (λ l. (form t q (4 * c + i) *ℤ corner_weight i l) *ℤ φ (corner t u l))) (λ i. (form t q (4 * c + i) *ℤ φ (corner t c i)) *ℤ cell_volume t u) row_sum ∙
          sum_times 4 (λ i. form t q (4 * c + i) *ℤ φ (corner t c i)) (cell_volume t u))))
        where
          spread : (l : ℕ) → (form t q (4 * u + l) *ℤ φ (corner t u l)) *ℤ cell_volume t c ≡ sum 4 (λ i. (form t q (4 * c + i) *ℤ corner_weight i l) *ℤ φ (corner t u l))
          spread l =
              ring (var 0 ⊗ var 1 ⊗ var 2) (var 2 ⊗ var 0 ⊗ var 1) tt (form t q (4 * u + l) ∷ φ (corner t u l) ∷ cell_volume t c ∷ []) ∙
              (ap (λ z. z *ℤ φ (corner t u l)) (sym (form_between t q c (4 * u + l))) ∙
              sym (sum_times 4 (λ i. form t q (4 * c + i) *ℤ corner_weight i l) (φ (corner t u l))))

    pub linked_value : 1 ≤ q.w → {c d : ℕ} → IsCell t n c → FacePath t n (FaceHolds t q) c d → form_weighted t q φ c *ℤ cell_volume t d ≡ form_weighted t q φ d *ℤ cell_volume t c
    linked_value w≥ l here = refl
    linked_value w≥ {c} {d} l (step k k< x u< v) = by (linked_value w≥ (next_cell c k l k< u<) v) (value_across c k l k< ((plane_form t q w≥ (4 * c + k)).0 x.plane) u<)
      where
        u : ℕ
        u = across t (4 * c + k)

        by : form_weighted t q φ u *ℤ cell_volume t d ≡ form_weighted t q φ d *ℤ cell_volume t u → form_weighted t q φ u *ℤ cell_volume t c ≡ form_weighted t q φ c *ℤ cell_volume t u →
            form_weighted t q φ c *ℤ cell_volume t d ≡ form_weighted t q φ d *ℤ cell_volume t c
        by a b =
            eq_of_sub (form_weighted t q φ c *ℤ cell_volume t d) (form_weighted t q φ d *ℤ cell_volume t c)
            (cancel_zero {a = cell_volume t u} (form_weighted t q φ c *ℤ cell_volume t d -ℤ form_weighted t q φ d *ℤ cell_volume t c) (M.positive u (next_cell c k l k< u<))
            (combine (var 5 ⊗ (var 0 ⊗ var 4 ⊖ var 1 ⊗ var 3)) (con (pos 0))
            (hyp (var 3) (var 2 ⊗ var 4) (var 1 ⊗ var 5) ∷ hyp (neg (var 4)) (var 2 ⊗ var 3) (var 0 ⊗ var 5) ∷ []) tt
            (form_weighted t q φ c ∷ form_weighted t q φ d ∷ form_weighted t q φ u ∷ cell_volume t c ∷ cell_volume t d ∷ cell_volume t u ∷ []) (a, (b, tt))))

  -- every cell that holds q gives the same value
  pub same_value : (q : Place) → InBoxAt X Y Z q → (φ : ℕ → ℤ) (c d : ℕ) → IsCell t n c → IsCell t n d → HoldsForm t q c → HoldsForm t q d →
      form_weighted t q φ c *ℤ cell_volume t d ≡ form_weighted t q φ d *ℤ cell_volume t c
  same_value q box φ c d lc ld hc hd = linked_value q φ box.w≥ lc (around q box c d lc ld hc hd)

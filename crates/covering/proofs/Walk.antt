-- The straight walk: from a place strictly inside a cell towards any field, through faces that strictly separate, to a cell that holds it or to a wall.
use Prim.Native.Nat.{ℕ, zero, suc, ◌+◌, ◌*◌, ◌≤◌, ◌<◌}
use mathlib.Core.Bool.{Bool, true, false, ◌&&◌}
use mathlib.Core.Logic.{◌≢◌, ◌⊎◌, inl, inr}
use mathlib.Core.Path.{◌≡◌, sym, ap, ap₂, ◌∙◌, subst}
use mathlib.Core.List.{[], ◌∷◌}
use native.Mathlib.Omega.{arith}
use native.Mathlib.Decide.{ℕ_discrete}
use native.Mathlib.Nat.{le_refl}
use lib.IntN.{ℤ, pos, neg_ℤ, ◌+ℤ◌, ◌-ℤ◌, ◌*ℤ◌, zero-*ℤ, neg_ℤ-neg_ℤ}
use lib.Signed.{◌<ℤ◌, ◌≤ℤ◌, lt_z}
use Rattle.arith.specs.Table.{count_below}
use Rattle.arith.proofs.Order.{arithℤ, ≡→≤, <→≤, <-irrefl, ≤-<-trans, <-≤-trans, trichotomy, total, *-nonneg, *-pos, +-pos, +-nonpos, *-nonpos-r, cancel_pos, cancel_zero, neg_pos, pos_pos, neg-mono-<, le_z_not, le_le_z, lt_z_true, lt_lt_z}
use Rattle.arith.proofs.Flags.{and_left, and_right, and_intro}
use Rattle.arith.proofs.Tables.{find}
use Rattle.arith.proofs.Counting.{count_lt, count_less}
use Rattle.arith.proofs.Sums.{sum_pos}
use Rattle.arith.proofs.Ring.{var, con, ◌⊕◌, ◌⊖◌, ◌⊗◌, neg, ring}
use Rattle.geometry.specs.Volume.{volume, replaced}
use Rattle.geometry.proofs.Algebra.{volume_id}
use Rattle.mesh.specs.Tables.{Tables, none, cell_of, opposite, corner, across, point, corner_at, cell_volume, side, mate, IsCell, IsFace}
use Rattle.mesh.specs.Mesh.{OnFace, IsMesh}
use Rattle.mesh.proofs.Room.{Room}
use Rattle.mesh.proofs.Faces.{mated, mate_mate, across_cell, same_back}
use Rattle.mesh.proofs.Held.{own_corner, side_at_lem}
use Rattle.mesh.proofs.FaceNumbers.{opposite<, face_in, face_cell, face_opposite, face_eq}
use Rattle.covering.specs.Holders.{FacePath, here, step}
use Rattle.covering.proofs.Avoid.{over_all, over_each, outweighs, at_zero, First, first}
use Rattle.covering.proofs.Fields.{Field, HoldsBy, InsideBy, blend, field_blend}

-- ---- starts from which the line to q meets no two faces of a cell at once

-- 0 where the line from x to q meets the planes of two faces of c at one place
abbrev pub cut : (ℕ → ℤ) → ℕ → ℕ → ℕ → (ℕ → ℤ) → ℤ
cut q c i j x = x (4 * c + i) *ℤ q (4 * c + j) -ℤ x (4 * c + j) *ℤ q (4 * c + i)

-- on the line through p and q it is a multiple
cut_line : (q : ℕ → ℤ) (c i j : ℕ) (a : ℤ) (p : ℕ → ℤ) (b : ℤ) → cut q c i j (blend a p b q) ≡ a *ℤ cut q c i j p
cut_line q c i j a p b =
    ring ((var 0 ⊗ var 1 ⊕ var 2 ⊗ var 3) ⊗ var 4 ⊖ (var 0 ⊗ var 5 ⊕ var 2 ⊗ var 4) ⊗ var 3) (var 0 ⊗ (var 1 ⊗ var 4 ⊖ var 5 ⊗ var 3)) tt
    (a ∷ p (4 * c + i) ∷ b ∷ q (4 * c + i) ∷ q (4 * c + j) ∷ p (4 * c + j) ∷ [])

cut_back : (q : ℕ → ℤ) (c i j : ℕ) (a : ℤ) (p : ℕ → ℤ) (b : ℤ) → pos 0 <ℤ a → cut q c i j (blend a p b q) ≡ pos 0 → cut q c i j p ≡ pos 0
cut_back q c i j a p b h e = cancel_zero {a = a} (cut q c i j p) h (sym (cut_line q c i j a p b) ∙ e)

abbrev pub Generic : Tables → ℕ → (ℕ → ℤ) → (ℕ → ℤ) → Type 0
Generic t n q x = (c i j : ℕ) → IsCell t n c → i < 4 → j < 4 → i ≢ j → q (4 * c + j) ≢ pos 0 → cut q c i j x ≢ pos 0

-- ---- how far the walk has to go: the planes between p and q, faces by faces

abbrev between? : (ℕ → ℤ) → (ℕ → ℤ) → ℕ → Bool
between? q p f = lt_z (pos 0) (p f) && lt_z (q f) (pos 0)

unfoldable left : ℕ → (ℕ → ℤ) → (ℕ → ℤ) → ℕ
left n q p = count_below (4 * n) (between? q p)

-- ---- the cells of a walk

-- cell c has a place of a walk, given by its field, strictly inside, and `Way` holds of it
pub record Visited (Way : (ℕ → ℤ) → Type 0) (c : ℕ) : Type 0 where
  pub place : ℕ → ℤ
  pub way : Way place
  pub inside : InsideBy place c

-- a walk to q crosses face k of such a cell c
pub record Crosses (q : ℕ → ℤ) (Way : (ℕ → ℤ) → Type 0) (c k : ℕ) : Type 0 where
  pub from : Visited Way c
  pub separates : q (4 * c + k) <ℤ pos 0

-- a walk to q leaves the box: it comes to a wall face that separates
pub record Leaves (t : Tables) (n : ℕ) (q : ℕ → ℤ) (c : ℕ) : Type 0 where
  pub end : ℕ
  pub end< : IsCell t n end
  pub path : FacePath t n (λ c k. q (4 * c + k) <ℤ pos 0) c end
  pub wall : ℕ
  pub wall< : wall < 4
  pub bare : across t (4 * end + wall) ≡ none
  pub beyond : q (4 * end + wall) <ℤ pos 0

-- ---- F3: on to just behind the first plane

module _ {X Y Z pc cc np n : ℕ} {t : Tables} (M : IsMesh X Y Z pc cc np n t) (R : Room pc cc t)
    (q : ℕ → ℤ) (Fq : Field t n q) (p : ℕ → ℤ) (Fp : Field t n p) (gen : Generic t n q p) (F : First (4 * n) p q) where
  -- on the first plane
  abbrev y : ℕ → ℤ
  y = blend (neg_ℤ (q F.at)) p (p F.at) q

  abbrev N : ℕ
  N = over_all (4 * n) q

  -- just behind it
  abbrev next : ℕ → ℤ
  next = blend (pos N) y (pos 1) q

  y_field : Field t n y
  y_field = field_blend (neg_ℤ (q F.at)) p (p F.at) q Fp Fq

  next_field : Field t n next
  next_field = field_blend (pos N) y (pos 1) q y_field Fq

  n_pos : pos 0 <ℤ pos N
  n_pos = pos_pos N (omega (arith, over_each (4 * n) q F.at F.at<))

  y_pos : (f : ℕ) → pos 0 <ℤ p f → pos 0 ≤ℤ q f → pos 0 <ℤ y f
  y_pos f h k = +-pos {a = neg_ℤ (q F.at) *ℤ p f} {b = p F.at *ℤ q f} (*-pos (neg_pos F.back) h) (*-nonneg (<→≤ F.front) k)

  y_nonneg : (f : ℕ) → f < 4 * n → pos 0 <ℤ p f → pos 0 ≤ℤ y f
  y_nonneg f f< h = go (total (pos 0) (q f))
    where
      go : (pos 0 ≤ℤ q f) ⊎ (q f <ℤ pos 0) → pos 0 ≤ℤ y f
      go (inl k) = <→≤ (y_pos f h k)
      go (inr k) = F.least f f< h k

  -- a face whose plane is met there is one that separates
  y_zero : (f : ℕ) → pos 0 <ℤ p f → y f ≡ pos 0 → q f <ℤ pos 0
  y_zero f h e = go (total (pos 0) (q f))
    where
      go : (pos 0 ≤ℤ q f) ⊎ (q f <ℤ pos 0) → q f <ℤ pos 0
      go (inl k) = absurd (<-irrefl (subst (λ z. pos 0 <ℤ z) e (y_pos f h k)))
      go (inr k) = k

  next_pos : (f : ℕ) → f < 4 * n → pos 0 <ℤ y f → pos 0 <ℤ next f
  next_pos f f< h = outweighs N (y f) (q f) (over_each (4 * n) q f f<) h

  next_zero : (f : ℕ) → y f ≡ pos 0 → next f ≡ q f
  next_zero f e = at_zero N (y f) (q f) e

  -- no two faces of a cell are met there
  y_alone : (c i j : ℕ) → IsCell t n c → i < 4 → j < 4 → i ≢ j → q (4 * c + j) ≢ pos 0 → y (4 * c + i) ≡ pos 0 → y (4 * c + j) ≢ pos 0
  y_alone c i j h hi hj d z ei ej = gen c i j h hi hj d z (cut_back q c i j (neg_ℤ (q F.at)) p (p F.at) (neg_pos F.back) zero)
    where
      zero : cut q c i j y ≡ pos 0
      zero =
          ap₂ (λ u v. u *ℤ q (4 * c + j) -ℤ v *ℤ q (4 * c + i)) ei ej ∙
          ring (con (pos 0) ⊗ var 0 ⊖ con (pos 0) ⊗ var 1) (con (pos 0)) tt (q (4 * c + j) ∷ q (4 * c + i) ∷ [])

  -- the walk's measure falls
  fewer : left n q next < left n q p
  unfolding left
  fewer = count_less (4 * n) (between? q p) (between? q next) stays F.at F.at< there gone
    where
      stays : (k : ℕ) → k < 4 * n → between? q next k ≡ true → between? q p k ≡ true
      stays k l e = and_intro (lt_lt_z (go (total (p k) (pos 0)))) (and_right (lt_z (pos 0) (next k)) (lt_z (q k) (pos 0)) e)
        where
          back : q k <ℤ pos 0
          back = lt_z_true (q k) (pos 0) (and_right (lt_z (pos 0) (next k)) (lt_z (q k) (pos 0)) e)

          ahead : pos 0 <ℤ next k
          ahead = lt_z_true (pos 0) (next k) (and_left (lt_z (pos 0) (next k)) (lt_z (q k) (pos 0)) e)

          low : {a b u : ℤ} → pos 0 ≤ℤ a → pos 0 ≤ℤ b → u ≤ℤ pos 0 → (a *ℤ u +ℤ b *ℤ q k) ≤ℤ pos 0
          low ha hb h = +-nonpos (*-nonpos-r ha h) (*-nonpos-r hb (<→≤ back))

          go : (p k ≤ℤ pos 0) ⊎ (pos 0 <ℤ p k) → pos 0 <ℤ p k
          go (inr h) = h
          go (inl h) =
              absurd (<-irrefl (<-≤-trans ahead (low {b = pos 1} (<→≤ n_pos) (omega arithℤ) (low (<→≤ (neg_pos F.back)) (<→≤ F.front) h))))

      met : y F.at ≡ pos 0
      met = ring (neg (var 1) ⊗ var 0 ⊕ var 0 ⊗ var 1) (con (pos 0)) tt (p F.at ∷ q F.at ∷ [])

      gone : between? q next F.at ≡ false
      gone = rw (le_z_not (next F.at) (pos 0), le_le_z (<→≤ (subst (λ z. z <ℤ pos 0) (sym (next_zero F.at met)) F.back)))

      there : between? q p F.at ≡ true
      there = and_intro (lt_lt_z F.front) (lt_lt_z F.back)

  next_generic : Generic t n q next
  next_generic c i j h hi hj d z e =
      gen c i j h hi hj d z
      (cut_back q c i j (neg_ℤ (q F.at)) p (p F.at) (neg_pos F.back) (cut_back q c i j (pos N) y (pos 1) n_pos e))

  on_next : (Way : (ℕ → ℤ) → Type 0) → ((a : ℤ) (p : ℕ → ℤ) (b : ℤ) → pos 0 <ℤ a → pos 0 ≤ℤ b → Way p → Way (blend a p b q)) → Way p → Way next
  on_next Way on w = on (pos N) y (pos 1) n_pos (omega arithℤ) (on (neg_ℤ (q F.at)) p (p F.at) (neg_pos F.back) (<→≤ F.front) w)

  -- ---- what becomes of a cell that p is strictly inside of

  pub data Passed (c : ℕ) : Type 0 where
    stays : InsideBy next c → Passed c
    moves : (k : ℕ) → k < 4 → q (4 * c + k) <ℤ pos 0 → y (4 * c + k) ≡ pos 0 →
        across t (4 * c + k) ≢ none → InsideBy next (across t (4 * c + k)) → Passed c

  module _ (c : ℕ) (c< : IsCell t n c) (in_c : InsideBy p c) where
    face : (k : ℕ) → k < 4 → IsFace t n (4 * c + k)
    face k h = face_in c k h c<

    face< : (k : ℕ) → k < 4 → 4 * c + k < 4 * n
    face< k h = omega (arith, c<.below)

    each : (k : ℕ) → k < 4 → (y (4 * c + k) ≡ pos 0) ⊎ (pos 0 <ℤ y (4 * c + k))
    each k h = go (trichotomy (pos 0) (y (4 * c + k)))
      where
        go : (pos 0 <ℤ y (4 * c + k)) ⊎ ((pos 0 ≡ y (4 * c + k)) ⊎ (y (4 * c + k) <ℤ pos 0)) → (y (4 * c + k) ≡ pos 0) ⊎ (pos 0 <ℤ y (4 * c + k))
        go (inl l) = inr l
        go (inr (inl e)) = inl (sym e)
        go (inr (inr l)) = absurd (<-irrefl (≤-<-trans (y_nonneg (4 * c + k) (face< k h) (in_c k h)) l))

    module _ (k : ℕ) (k< : k < 4) (zero_k : y (4 * c + k) ≡ pos 0) where
      abbrev f : ℕ
      f = 4 * c + k

      back : q f <ℤ pos 0
      back = y_zero f (in_c k k<) zero_k

      others : (j : ℕ) → j < 4 → j ≢ k → pos 0 <ℤ y (4 * c + j)
      others j hj d = go (each j hj)
        where
          go : (y (4 * c + j) ≡ pos 0) ⊎ (pos 0 <ℤ y (4 * c + j)) → pos 0 <ℤ y (4 * c + j)
          go (inl e) = absurd (y_alone c j k c< hj k< d (λ z. <-irrefl (subst (λ u. u <ℤ pos 0) z back)) e zero_k)
          go (inr l) = l

      module _ (real : across t f ≢ none) where
        far_cell : cell_of (mate t f) ≡ across t f
        far_cell = (mated M R f (face k k<) real).far_cell

        u< : IsCell t n (across t f)
        u< = across_cell M R f (face k k<) real

        above : (d : ℕ) → IsCell t n d → pos 0 <ℤ volume (corner_at t d)
        above d h = unfold cell_volume in M.positive d h

        -- the far side of the face itself
        own : pos 0 <ℤ next (mate t f)
        own =
            subst (λ z. pos 0 <ℤ z) (sym (next_zero (mate t f) (y_field.mirror f (face k k<) real ∙ ap neg_ℤ zero_k) ∙ Fq.mirror f (face k k<) real))
            (neg_pos back)

        -- the other faces of the far cell: only corners of the shared face have weight
        other : (l : ℕ) → l < 4 → l ≢ opposite (mate t f) → pos 0 <ℤ y (4 * across t f + l)
        other l hl d =
            cancel_pos {a = cell_volume t c} (y (4 * across t f + l)) (M.positive c c<)
            (subst (λ z. pos 0 <ℤ z) (y_field.between c (4 * across t f + l))
            (sum_pos 4 (λ i. y (4 * c + i) *ℤ side t (corner_at t c i) (4 * across t f + l)) (λ i hi. term i hi (ℕ_discrete i k)) j hj
            (*-pos (others j hj j≢) (subst (λ z. pos 0 <ℤ z) (sym whole_volume) (M.positive (across t f) u<)))))
          where
            o : OnFace t f (corner t (cell_of (mate t f)) l)
            o = same_back M R f (face k k<) real l hl d

            j : ℕ
            j = o.place

            hj : j < 4
            hj = o.place<

            j≢ : j ≢ k
            j≢ e = o.off (e ∙ sym (face_opposite c k k<))

            j_position : corner_at t c j ≡ corner_at t (across t f) l
            j_position =
                unfold corner_at in ap (point t) (ap (λ x. corner t x o.place) (sym (face_cell c k k<)) ∙ (o.is ∙ ap (λ x. corner t x l) far_cell))

            whole_volume : side t (corner_at t c j) (4 * across t f + l) ≡ cell_volume t (across t f)
            whole_volume =
                unfold cell_volume in side_at_lem t (corner_at t c j) (across t f) l hl ∙ volume_id (corner_at t (across t f)) l (corner_at t c j) (sym j_position)

            term : (i : ℕ) → i < 4 → Dec (i ≡ k) → pos 0 ≤ℤ (y (4 * c + i) *ℤ side t (corner_at t c i) (4 * across t f + l))
            term i hi (yes e) =
                ≡→≤ (sym (ap (λ x. y (4 * c + x) *ℤ side t (corner_at t c i) (4 * across t f + l)) e ∙
                (ap (λ z. z *ℤ side t (corner_at t c i) (4 * across t f + l)) zero_k ∙ zero-*ℤ (side t (corner_at t c i) (4 * across t f + l)))))
            term i hi (no e) =
                *-nonneg (<→≤ (others i hi e))
                (subst (λ z. pos 0 ≤ℤ z) (sym (side_at_lem t (corner_at t c i) (across t f) l hl))
                (subst (λ x. pos 0 ≤ℤ volume (replaced (corner_at t (across t f)) l x)) (sym i_position)
                (own_corner (corner_at t (across t f)) l s.place hl s.place< (above (across t f) u<))))
              where
                s : OnFace t (mate t f) (corner t (cell_of f) i)
                s = (mated M R f (face k k<) real).same i hi (λ x. e (x ∙ face_opposite c k k<))

                i_position : corner_at t c i ≡ corner_at t (across t f) s.place
                i_position =
                    unfold corner_at in ap (point t) (ap (λ x. corner t x i) (sym (face_cell c k k<)) ∙ (sym s.is ∙ ap (λ x. corner t x s.place) far_cell))

        moved : InsideBy next (across t f)
        moved l hl = go (ℕ_discrete l (opposite (mate t f)))
          where
            go : Dec (l ≡ opposite (mate t f)) → pos 0 <ℤ next (4 * across t f + l)
            go (yes e) =
                subst (λ x. pos 0 <ℤ next x) (sym (face_eq (mate t f)) ∙ ap₂ (λ x z. 4 * x + z) far_cell (sym e)) own
            go (no d) = next_pos (4 * across t f + l) (omega (arith, u<.below)) (other l hl d)

    pub pass : Passed c ⊎ Leaves t n q c
    pass = go (find 4 (λ k. y (4 * c + k) ≡ pos 0) (λ k. pos 0 <ℤ y (4 * c + k)) each)
      where
        go : ((k : ℕ) × (k < 4) × (y (4 * c + k) ≡ pos 0)) ⊎ ((k : ℕ) → k < 4 → pos 0 <ℤ y (4 * c + k)) → Passed c ⊎ Leaves t n q c
        go (inl (k, h, e)) = by (ℕ_discrete (across t (4 * c + k)) none)
          where
            by : Dec (across t (4 * c + k) ≡ none) → Passed c ⊎ Leaves t n q c
            by (yes b) = inr record { end = c; end< = c<; path = here; wall = k; wall< = h; bare = b; beyond = back k h e }
            by (no r) = inl (moves k h (back k h e) e r (moved k h e r))
        go (inr all) = inl (stays (λ k h. next_pos (4 * c + k) (face< k h) (all k h)))

  -- ---- the cell beyond

  abbrev onto : {c : ℕ} → Passed c → ℕ
  onto {c} (stays i) = c
  onto {c} (moves k h b z r i) = across t (4 * c + k)

  onto< : {c : ℕ} (P : Passed c) → IsCell t n c → IsCell t n (onto P)
  onto< (stays i) l = l
  onto< {c} (moves k h b z r i) l = across_cell M R (4 * c + k) (face_in c k h l) r

  onto_inside : {c : ℕ} (P : Passed c) → InsideBy next (onto P)
  onto_inside (stays i) = i
  onto_inside (moves k h b z r i) = i

  onto_path : (Way : (ℕ → ℤ) → Type 0) → Way p → {c d : ℕ} (P : Passed c) → IsCell t n c → InsideBy p c → FacePath t n (Crosses q Way) (onto P) d → FacePath t n (Crosses q Way) c d
  onto_path Way y (stays i) l j w = w
  onto_path Way y {c} (moves k h b z r i) l j w =
      step k h record { from = record { place = p; way = y; inside = j }; separates = b } (M.across< (4 * c + k) (face_in c k h l) r) w

  onto_leaves : {c : ℕ} (P : Passed c) → IsCell t n c → Leaves t n q (onto P) → Leaves t n q c
  onto_leaves (stays i) l L = L
  onto_leaves {c} (moves k h b z r i) l L = record {
    end = L.end;
    end< = L.end<;
    path = step k h b (M.across< (4 * c + k) (face_in c k h l) r) L.path;
    wall = L.wall;
    wall< = L.wall<;
    bare = L.bare;
    beyond = L.beyond;
  }

  -- a face that a walk leaves by lies before the cell beyond
  not_before : (f c : ℕ) → IsFace t n f → across t f ≢ none → pos 0 <ℤ p f → across t f ≡ c → InsideBy p c → ⊥
  not_before f c f< real ahead e i =
      <-irrefl (≤-<-trans
      (<→≤ (subst (λ x. pos 0 <ℤ p x) (ap (λ x. 4 * x + opposite (mate t f)) (sym ((mated M R f f< real).far_cell ∙ e)) ∙ face_eq (mate t f)) (i (opposite (mate t f)) (opposite< (mate t f)))))
      (subst (λ z. z <ℤ pos 0) (sym (Fp.mirror f f< real)) (neg-mono-< ahead)))

  -- two walks never meet
  onto_apart : {c₁ c₂ : ℕ} (P₁ : Passed c₁) (P₂ : Passed c₂) → IsCell t n c₁ → IsCell t n c₂ → InsideBy p c₁ → InsideBy p c₂ → onto P₁ ≡ onto P₂ → c₁ ≡ c₂
  onto_apart (stays i₁) (stays i₂) l₁ l₂ j₁ j₂ e = e
  onto_apart {c₁} {c₂} (moves k h b z r i) (stays i₂) l₁ l₂ j₁ j₂ e = absurd (not_before (4 * c₁ + k) c₂ (face_in c₁ k h l₁) r (j₁ k h) e j₂)
  onto_apart {c₁} {c₂} (stays i₁) (moves k h b z r i) l₁ l₂ j₁ j₂ e = absurd (not_before (4 * c₂ + k) c₁ (face_in c₂ k h l₂) r (j₂ k h) (sym e) j₁)
  onto_apart {c₁} {c₂} (moves k₁ h₁ b₁ z₁ r₁ i₁) (moves k₂ h₂ b₂ z₂ r₂ i₂) l₁ l₂ j₁ j₂ e = go (ℕ_discrete (opposite (mate t f₁)) (opposite (mate t f₂)))
    where
      f₁ : ℕ
      f₁ = 4 * c₁ + k₁

      f₂ : ℕ
      f₂ = 4 * c₂ + k₂

      f₁< : IsFace t n f₁
      f₁< = face_in c₁ k₁ h₁ l₁

      f₂< : IsFace t n f₂
      f₂< = face_in c₂ k₂ h₂ l₂

      u : ℕ
      u = across t f₁

      g₁ : 4 * u + opposite (mate t f₁) ≡ mate t f₁
      g₁ = ap (λ x. 4 * x + opposite (mate t f₁)) (sym (mated M R f₁ f₁< r₁).far_cell) ∙ face_eq (mate t f₁)

      g₂ : 4 * u + opposite (mate t f₂) ≡ mate t f₂
      g₂ = ap (λ x. 4 * x + opposite (mate t f₂)) (e ∙ sym (mated M R f₂ f₂< r₂).far_cell) ∙ face_eq (mate t f₂)

      met : (f : ℕ) → IsFace t n f → across t f ≢ none → y f ≡ pos 0 → y (mate t f) ≡ pos 0
      met f l r z = y_field.mirror f l r ∙ ap neg_ℤ z

      go : Dec (opposite (mate t f₁) ≡ opposite (mate t f₂)) → c₁ ≡ c₂
      go (yes s) =
          let same : f₁ ≡ f₂ = sym (mate_mate M R f₁ f₁< r₁) ∙ (ap (mate t) (sym g₁ ∙ (ap (λ x. 4 * u + x) s ∙ g₂)) ∙ mate_mate M R f₂ f₂< r₂) in
          omega arith
      go (no d) =
          absurd (y_alone u (opposite (mate t f₁)) (opposite (mate t f₂)) (across_cell M R f₁ f₁< r₁) (opposite< (mate t f₁)) (opposite< (mate t f₂)) d
          (λ x. <-irrefl (subst (λ v. v <ℤ pos 0) (sym (neg_ℤ-neg_ℤ (q f₂)) ∙ ap neg_ℤ (sym (Fq.mirror f₂ f₂< r₂) ∙ (ap q (sym g₂) ∙ x))) b₂))
          (ap y g₁ ∙ met f₁ f₁< r₁ z₁) (ap y g₂ ∙ met f₂ f₂< r₂ z₂))

-- ---- the walk

-- walks from c₁ and c₂ to q: they end in cells that hold q, and in one cell only if they began in one; `path` is the first
pub record Walks (t : Tables) (n : ℕ) (q : ℕ → ℤ) (Way : (ℕ → ℤ) → Type 0) (c₁ c₂ : ℕ) : Type 0 where
  pub end₁ : ℕ
  pub end₂ : ℕ
  pub end₁< : IsCell t n end₁
  pub end₂< : IsCell t n end₂
  pub path : FacePath t n (Crosses q Way) c₁ end₁
  pub last : Visited Way end₁
  pub holds₁ : HoldsBy q end₁
  pub holds₂ : HoldsBy q end₂
  pub apart : end₁ ≡ end₂ → c₁ ≡ c₂

pub data Walked (t : Tables) (n : ℕ) (q : ℕ → ℤ) (Way : (ℕ → ℤ) → Type 0) (c₁ c₂ : ℕ) : Type 0 where
  arrived : Walks t n q Way c₁ c₂ → Walked t n q Way c₁ c₂
  first_left : Leaves t n q c₁ → Walked t n q Way c₁ c₂
  second_left : Leaves t n q c₂ → Walked t n q Way c₁ c₂

-- `Way` holds of every place of the walk if it holds of the first
module _ {X Y Z pc cc np n : ℕ} {t : Tables} (M : IsMesh X Y Z pc cc np n t) (R : Room pc cc t) (q : ℕ → ℤ) (Fq : Field t n q)
    (Way : (ℕ → ℤ) → Type 0) (on : (a : ℤ) (p : ℕ → ℤ) (b : ℤ) → pos 0 <ℤ a → pos 0 ≤ℤ b → Way p → Way (blend a p b q)) where
  -- nothing between p and q
  at_rest : (p : ℕ → ℤ) → Way p → (c₁ c₂ : ℕ) → IsCell t n c₁ → IsCell t n c₂ → InsideBy p c₁ → InsideBy p c₂ →
      ((f : ℕ) → f < 4 * n → (p f ≤ℤ pos 0) ⊎ (pos 0 ≤ℤ q f)) → Walks t n q Way c₁ c₂
  at_rest p y c₁ c₂ l₁ l₂ i₁ i₂ free = record {
    end₁ = c₁;
    end₂ = c₂;
    end₁< = l₁;
    end₂< = l₂;
    path = here;
    last = record { place = p; way = y; inside = i₁ };
    holds₁ = held c₁ l₁ i₁;
    holds₂ = held c₂ l₂ i₂;
    apart = λ e. e;
  }
    where
      held : (c : ℕ) → IsCell t n c → InsideBy p c → HoldsBy q c
      held c l i k h = by (free (4 * c + k) (omega (arith, l.below)))
        where
          by : (p (4 * c + k) ≤ℤ pos 0) ⊎ (pos 0 ≤ℤ q (4 * c + k)) → pos 0 ≤ℤ q (4 * c + k)
          by (inl a) = absurd (<-irrefl (≤-<-trans a (i k h)))
          by (inr a) = a

  onward : (p : ℕ → ℤ) (Fp : Field t n p) (gen : Generic t n q p) (F : First (4 * n) p q) → Way p → (c₁ c₂ : ℕ) (l₁ : IsCell t n c₁) (l₂ : IsCell t n c₂) (i₁ : InsideBy p c₁) (i₂ : InsideBy p c₂)
      (P₁ : Passed M R q Fq p Fp gen F c₁) (P₂ : Passed M R q Fq p Fp gen F c₂) →
      Walked t n q Way (onto M R q Fq p Fp gen F P₁) (onto M R q Fq p Fp gen F P₂) → Walked t n q Way c₁ c₂
  onward p Fp gen F y c₁ c₂ l₁ l₂ i₁ i₂ P₁ P₂ (arrived L) = arrived record {
    end₁ = L.end₁;
    end₂ = L.end₂;
    end₁< = L.end₁<;
    end₂< = L.end₂<;
    path = onto_path M R q Fq p Fp gen F Way y P₁ l₁ i₁ L.path;
    last = L.last;
    holds₁ = L.holds₁;
    holds₂ = L.holds₂;
    apart = λ e. onto_apart M R q Fq p Fp gen F P₁ P₂ l₁ l₂ i₁ i₂ (L.apart e);
  }
  onward p Fp gen F y c₁ c₂ l₁ l₂ i₁ i₂ P₁ P₂ (first_left L) = first_left (onto_leaves M R q Fq p Fp gen F P₁ l₁ L)
  onward p Fp gen F y c₁ c₂ l₁ l₂ i₁ i₂ P₁ P₂ (second_left L) = second_left (onto_leaves M R q Fq p Fp gen F P₂ l₂ L)

  walk : (m : ℕ) (p : ℕ → ℤ) → Field t n p → Way p → Generic t n q p → (c₁ c₂ : ℕ) → IsCell t n c₁ → IsCell t n c₂ → InsideBy p c₁ → InsideBy p c₂ → left n q p ≤ m → Walked t n q Way c₁ c₂
  unfolding left
  walk zero p Fp y gen c₁ c₂ l₁ l₂ i₁ i₂ h = by (first (4 * n) p q)
    where
      by : First (4 * n) p q ⊎ ((f : ℕ) → f < 4 * n → (p f ≤ℤ pos 0) ⊎ (pos 0 ≤ℤ q f)) → Walked t n q Way c₁ c₂
      by (inl F) = absurd (omega (arith, count_lt F.at (4 * n) (between? q p) F.at< (and_intro (lt_lt_z F.front) (lt_lt_z F.back))))
      by (inr free) = arrived (at_rest p y c₁ c₂ l₁ l₂ i₁ i₂ free)
  walk (suc m) p Fp y gen c₁ c₂ l₁ l₂ i₁ i₂ h =
      by (λ p Fp y gen c₁ c₂ l₁ l₂ i₁ i₂ h. walk m p Fp y gen c₁ c₂ l₁ l₂ i₁ i₂ h) (first (4 * n) p q)
    where
      by : ((p : ℕ → ℤ) → Field t n p → Way p → Generic t n q p → (c₁ c₂ : ℕ) → IsCell t n c₁ → IsCell t n c₂ → InsideBy p c₁ → InsideBy p c₂ → left n q p ≤ m → Walked t n q Way c₁ c₂) →
          First (4 * n) p q ⊎ ((f : ℕ) → f < 4 * n → (p f ≤ℤ pos 0) ⊎ (pos 0 ≤ℤ q f)) → Walked t n q Way c₁ c₂
      by ih (inr free) = arrived (at_rest p y c₁ c₂ l₁ l₂ i₁ i₂ free)
      by ih (inl F) = both (pass M R q Fq p Fp gen F c₁ l₁ i₁) (pass M R q Fq p Fp gen F c₂ l₂ i₂)
        where
          both : Passed M R q Fq p Fp gen F c₁ ⊎ Leaves t n q c₁ → Passed M R q Fq p Fp gen F c₂ ⊎ Leaves t n q c₂ → Walked t n q Way c₁ c₂
          both (inr L) P₂ = first_left L
          both (inl P₁) (inr L) = second_left L
          both (inl P₁) (inl P₂) =
              onward p Fp gen F y c₁ c₂ l₁ l₂ i₁ i₂ P₁ P₂
              (ih (next M R q Fq p Fp gen F) (next_field M R q Fq p Fp gen F) (on_next M R q Fq p Fp gen F Way on y) (next_generic M R q Fq p Fp gen F)
              (onto M R q Fq p Fp gen F P₁) (onto M R q Fq p Fp gen F P₂) (onto< M R q Fq p Fp gen F P₁ l₁) (onto< M R q Fq p Fp gen F P₂ l₂)
              (onto_inside M R q Fq p Fp gen F P₁) (onto_inside M R q Fq p Fp gen F P₂) (omega (arith, fewer M R q Fq p Fp gen F)))

  pub walk_from : (p : ℕ → ℤ) → Field t n p → Way p → Generic t n q p → (c₁ c₂ : ℕ) → IsCell t n c₁ → IsCell t n c₂ → InsideBy p c₁ → InsideBy p c₂ → Walked t n q Way c₁ c₂
  walk_from p Fp y gen c₁ c₂ l₁ l₂ i₁ i₂ = walk (left n q p) p Fp y gen c₁ c₂ l₁ l₂ i₁ i₂ (le_refl (left n q p))

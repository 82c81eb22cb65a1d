-- F7, and nowhere twice: no place lies strictly inside two cells.
use Prim.Native.Nat.{ℕ, ◌+◌, ◌*◌, ◌≤◌, ◌<◌}
use mathlib.Core.Bool.{Bool, true, false}
use mathlib.Core.Logic.{◌≢◌, ◌⊎◌, inl, inr}
use mathlib.Core.Path.{◌≡◌, refl, sym, ap, ap₂, ◌∙◌, subst}
use mathlib.Core.List.{[], ◌∷◌}
use native.Mathlib.Omega.{arith}
use native.Mathlib.Decide.{ℕ_discrete}
use native.Mathlib.Nat.{mul-le-mul_left}
use lib.IntN.{ℤ, pos, neg_ℤ, ◌+ℤ◌, ◌-ℤ◌, ◌*ℤ◌, neg_ℤ-neg_ℤ}
use lib.Signed.{◌<ℤ◌, ◌≤ℤ◌}
use Rattle.arith.specs.Table.{sum}
use Rattle.arith.proofs.Order.{arithℤ, parts_sub, ≡→≤, <-irrefl, <-≤-trans, *-nonneg, *-nonpos-r, *-nonpos-nonpos, cancel_nonneg}
use Rattle.arith.proofs.Sums.{sum_nonneg, sum_ge_two}
use Rattle.arith.proofs.Flags.{split}
use Rattle.arith.proofs.Tables.{find}
use Rattle.arith.proofs.Determinant.{odd, signed}
use Rattle.arith.proofs.Ring.{Expr, var, con, ◌⊖◌, ◌⊗◌, ring}
use Rattle.geometry.specs.declared.Position.{Position}
use Rattle.geometry.specs.Volume.{volume6, volume, InBox}
use Rattle.geometry.proofs.Algebra.{volume_cong, volume_order}
use Rattle.mesh.specs.Tables.{Tables, point, corner, corner_at, cell_volume, live, IsCell}
use Rattle.mesh.specs.Mesh.{IsMesh}
use Rattle.mesh.proofs.Room.{Room}
use Rattle.mesh.proofs.Live.{freed_corner}
use Rattle.covering.specs.Place.{Place, whole, InBoxAt}
use Rattle.covering.proofs.Linear.{form, placed, row_volume, replaced_row, HoldsForm, InsideForm, row, r₄, env₄, sixₑ, lin, linₑ, between, form_at, volume_at_lem}
use Rattle.covering.proofs.Walk.{Walks}
use Rattle.covering.proofs.Cover.{two_walks}
use Rattle.covering.proofs.Closed.{sum_of}
use Rattle.covering.proofs.Labels.{label_of, top, volₑ, col, cols, top_at, top_off, labels_one}

-- ---- a form with whole coefficients

abbrev nlin : ℕ → ℕ → ℕ → ℕ → Place → ℕ
nlin a b c d q = a * q.x + b * q.y + c * q.z + d * q.w

lin_minus : (a b c d a' b' c' d' : ℤ) (q : Place) → lin (a -ℤ a') (b -ℤ b') (c -ℤ c') (d -ℤ d') q ≡ lin a b c d q -ℤ lin a' b' c' d' q
lin_minus a b c d a' b' c' d' q =
    ring (linₑ (var 4 ⊖ var 8) (var 5 ⊖ var 9) (var 6 ⊖ var 10) (var 7 ⊖ var 11) (r₄ 0)) (linₑ (var 4) (var 5) (var 6) (var 7) (r₄ 0) ⊖ linₑ (var 8) (var 9) (var 10) (var 11) (r₄ 0)) tt
    (env₄ (q ∷ []) (a ∷ b ∷ c ∷ d ∷ a' ∷ b' ∷ c' ∷ d' ∷ []))

module _ {X Y Z pc cc np n : ℕ} {t : Tables} (M : IsMesh X Y Z pc cc np n t) where
  -- what holds of a cell's corners holds of what the cell holds
  convex : (c : ℕ) → IsCell t n c → (q : Place) → HoldsForm t q c → (a b d e a' b' d' e' : ℕ) →
      ((k : ℕ) → k < 4 → nlin a' b' d' e' (placed t c k) ≤ nlin a b d e (placed t c k)) → nlin a' b' d' e' q ≤ nlin a b d e q
  convex c c< q held a b d e a' b' d' e' each = down (nlin a' b' d' e' q) (nlin a b d e q) over
    where
      F : Place → ℤ
      F p = lin (pos a -ℤ pos a') (pos b -ℤ pos b') (pos d -ℤ pos d') (pos e -ℤ pos e') p

      split_F : (p : Place) → F p ≡ pos (nlin a b d e p) -ℤ pos (nlin a' b' d' e' p)
      split_F p = lin_minus (pos a) (pos b) (pos d) (pos e) (pos a') (pos b') (pos d') (pos e') p

      up : (m k : ℕ) → m ≤ k → pos 0 ≤ℤ (pos k -ℤ pos m)
      up m k h = omega (arithℤ, parts_sub (pos k) (pos m))

      down : (m k : ℕ) → pos 0 ≤ℤ (pos k -ℤ pos m) → m ≤ k
      down m k h = omega (arithℤ, parts_sub (pos k) (pos m))

      over : pos 0 ≤ℤ (pos (nlin a b d e q) -ℤ pos (nlin a' b' d' e' q))
      over =
          subst (λ z. pos 0 ≤ℤ z) (split_F q)
          (cancel_nonneg {a = cell_volume t c} (F q) (M.positive c c<)
          (subst (λ z. pos 0 ≤ℤ z) (between (pos a -ℤ pos a') (pos b -ℤ pos b') (pos d -ℤ pos d') (pos e -ℤ pos e') (placed t c) q ∙ ap (λ z. z *ℤ F q) (volume_at_lem t c))
          (sum_nonneg 4 (λ k. row_volume (replaced_row (placed t c) k q) *ℤ F (placed t c k))
          (λ k h. *-nonneg (subst (λ z. pos 0 ≤ℤ z) (form_at t q c k h) (held k h)) (subst (λ z. pos 0 ≤ℤ z) (sym (split_F (placed t c k))) (up (nlin a' b' d' e' (placed t c k)) (nlin a b d e (placed t c k)) (each k h)))))))

-- ---- the four kinds of points

record IsCorner (X Y Z : ℕ) (p : Position) : Type 0 where
  ix : p.x ≡ X
  iy : p.y ≡ Y
  iz : p.z ≡ Z

record IsEdge (X Y Z : ℕ) (p : Position) : Type 0 where
  ix : p.x ≢ X
  iy : p.y ≡ Y
  iz : p.z ≡ Z

record IsWall (X Y Z : ℕ) (p : Position) : Type 0 where
  iy : p.y ≢ Y
  iz : p.z ≡ Z

data Kind (X Y Z : ℕ) (p : Position) : Type 0 where
  corner_point : IsCorner X Y Z p → Kind X Y Z p
  edge_point : IsEdge X Y Z p → Kind X Y Z p
  wall_point : IsWall X Y Z p → Kind X Y Z p
  other_point : p.z ≢ Z → Kind X Y Z p

kind : (X Y Z : ℕ) (p : Position) → Kind X Y Z p
kind X Y Z p = go (ℕ_discrete p.x X) (ℕ_discrete p.y Y) (ℕ_discrete p.z Z)
  where
    go : Dec (p.x ≡ X) → Dec (p.y ≡ Y) → Dec (p.z ≡ Z) → Kind X Y Z p
    go (yes a) (yes b) (yes c) = corner_point record { ix = a; iy = b; iz = c }
    go (no a) (yes b) (yes c) = edge_point record { ix = a; iy = b; iz = c }
    go a (no b) (yes c) = wall_point record { iy = b; iz = c }
    go a b (no c) = other_point c

abbrev at : ℕ → ℕ → ℕ → Position
at a b c = record { x = a * b * c; y = b * c; z = c }

module _ (X Y Z : ℕ) (p : Position) where
  label_corner : IsCorner X Y Z p → label_of X Y Z p ≡ record { x = 1; y = 1; z = 1 }
  label_corner k = λ i. at (top_at X p.x k.ix i) (top_at Y p.y k.iy i) (top_at Z p.z k.iz i)

  label_edge : IsEdge X Y Z p → label_of X Y Z p ≡ record { x = 0; y = 1; z = 1 }
  label_edge k = λ i. at (top_off X p.x k.ix i) (top_at Y p.y k.iy i) (top_at Z p.z k.iz i)

  label_wall : IsWall X Y Z p → label_of X Y Z p ≡ record { x = 0; y = 0; z = 1 }
  label_wall k = (λ i. at (top X p.x) (top_off Y p.y k.iy i) (top_at Z p.z k.iz i)) ∙ (λ i. record { x = zeros i; y = 0; z = 1 })
    where
      zeros : top X p.x * 0 * 1 ≡ 0
      zeros = omega arith

  label_other : p.z ≢ Z → label_of X Y Z p ≡ record { x = 0; y = 0; z = 0 }
  label_other d = (λ i. at (top X p.x) (top Y p.y) (top_off Z p.z d i)) ∙ (λ i. record { x = zeros i; y = zero_y i; z = 0 })
    where
      zeros : top X p.x * top Y p.y * 0 ≡ 0
      zeros = omega arith

      zero_y : top Y p.y * 0 ≡ 0
      zero_y = omega arith

-- ---- volumes of labels

module _ (s : ℕ → Position) where
  no_x : ((k : ℕ) → k < 4 → (s k).x ≡ 0) → volume s ≡ pos 0
  unfolding volume volume6
  no_x h =
      volume_cong s (λ k. record { x = 0; y = (s k).y; z = (s k).z }) (λ k l i. record { x = h k l i; y = (s k).y; z = (s k).z }) ∙
      ring (volₑ (λ k. con (pos 0)) (col 0) (col 1)) (con (pos 0)) tt (cols ((λ k. (s k).y) ∷ (λ k. (s k).z) ∷ []) [])

  same_xy : ((k : ℕ) → k < 4 → (s k).x ≡ (s k).y) → volume s ≡ pos 0
  unfolding volume volume6
  same_xy h =
      volume_cong s (λ k. record { x = (s k).y; y = (s k).y; z = (s k).z }) (λ k l i. record { x = h k l i; y = (s k).y; z = (s k).z }) ∙
      ring (volₑ (col 0) (col 0) (col 1)) (con (pos 0)) tt (cols ((λ k. (s k).y) ∷ (λ k. (s k).z) ∷ []) [])

  same_yz : ((k : ℕ) → k < 4 → (s k).y ≡ (s k).z) → volume s ≡ pos 0
  unfolding volume volume6
  same_yz h =
      volume_cong s (λ k. record { x = (s k).x; y = (s k).z; z = (s k).z }) (λ k l i. record { x = (s k).x; y = h k l i; z = (s k).z }) ∙
      ring (volₑ (col 0) (col 1) (col 1)) (con (pos 0)) tt (cols ((λ k. (s k).x) ∷ (λ k. (s k).z) ∷ []) [])

  one_z : ((k : ℕ) → k < 4 → (s k).z ≡ 1) → volume s ≡ pos 0
  unfolding volume volume6
  one_z h =
      volume_cong s (λ k. record { x = (s k).x; y = (s k).y; z = 1 }) (λ k l i. record { x = (s k).x; y = (s k).y; z = h k l i }) ∙
      ring (volₑ (col 0) (col 1) (λ k. con (pos 1))) (con (pos 0)) tt (cols ((λ k. (s k).x) ∷ (λ k. (s k).y) ∷ []) [])

-- four corners of four kinds
record Full (X Y Z : ℕ) (s : ℕ → Position) : Type 0 where
  k₀ : ℕ
  k₁ : ℕ
  k₂ : ℕ
  k₃ : ℕ
  k₀< : k₀ < 4
  k₁< : k₁ < 4
  k₂< : k₂ < 4
  k₃< : k₃ < 4
  is₀ : IsCorner X Y Z (s k₀)
  is₁ : IsEdge X Y Z (s k₁)
  is₂ : IsWall X Y Z (s k₂)
  is₃ : (s k₃).z ≢ Z

staircase : (X Y Z x₁ x₂ y₂ x₃ y₃ z₃ : ℕ) →
    volume6 record { x = X; y = Y; z = Z } record { x = x₁; y = Y; z = Z } record { x = x₂; y = y₂; z = Z } record { x = x₃; y = y₃; z = z₃ } ≡
    ((pos x₁ -ℤ pos X) *ℤ (pos y₂ -ℤ pos Y)) *ℤ (pos z₃ -ℤ pos Z)
unfolding volume6
staircase X Y Z x₁ x₂ y₂ x₃ y₃ z₃ =
    ring (sixₑ (row (var 0) (var 1) (var 2) o) (row (var 3) (var 1) (var 2) o) (row (var 4) (var 5) (var 2) o) (row (var 6) (var 7) (var 8) o))
    ((var 3 ⊖ var 0) ⊗ (var 5 ⊖ var 1) ⊗ (var 8 ⊖ var 2)) tt (pos X ∷ pos Y ∷ pos Z ∷ pos x₁ ∷ pos x₂ ∷ pos y₂ ∷ pos x₃ ∷ pos y₃ ∷ pos z₃ ∷ [])
  where
    o : Expr
    o = con (pos 1)

module _ (X Y Z : ℕ) (s : ℕ → Position) (in_box_lem : (k : ℕ) → k < 4 → InBox X Y Z (s k)) (F : Full X Y Z s) where
  -- with the corner, the edge, the wall and the rest in this order the volume is not above 0
  steps : volume6 (s F.k₀) (s F.k₁) (s F.k₂) (s F.k₃) ≤ℤ pos 0
  steps =
      subst (λ z. z ≤ℤ pos 0) (sym (sym' ∙ staircase X Y Z (s F.k₁).x (s F.k₂).x (s F.k₂).y (s F.k₃).x (s F.k₃).y (s F.k₃).z))
      (*-nonpos-r (*-nonpos-nonpos (low (in_box_lem F.k₁ F.k₁<).x≤) (low (in_box_lem F.k₂ F.k₂<).y≤)) (low (in_box_lem F.k₃ F.k₃<).z≤))
    where
      sym' : volume6 (s F.k₀) (s F.k₁) (s F.k₂) (s F.k₃) ≡
          volume6 record { x = X; y = Y; z = Z } record { x = (s F.k₁).x; y = Y; z = Z } record { x = (s F.k₂).x; y = (s F.k₂).y; z = Z } (s F.k₃)
      sym' = λ i.
          volume6 record { x = F.is₀.ix i; y = F.is₀.iy i; z = F.is₀.iz i } record { x = (s F.k₁).x; y = F.is₁.iy i; z = F.is₁.iz i }
          record { x = (s F.k₂).x; y = (s F.k₂).y; z = F.is₂.iz i } (s F.k₃)

      low : {a b : ℕ} → a ≤ b → (pos a -ℤ pos b) ≤ℤ pos 0
      low {a} {b} h = omega (arithℤ, parts_sub (pos a) (pos b))

  -- the volume of the four in this order, whatever stands at the places
  ordered : (r : ℕ → Position) → volume6 (r F.k₀) (r F.k₁) (r F.k₂) (r F.k₃) ≡ signed (odd F.k₀ F.k₁ F.k₂ F.k₃) (volume r)
  ordered r =
      volume_order r F.k₀ F.k₁ F.k₂ F.k₃ F.k₀< F.k₁< F.k₂< F.k₃<
      (λ e. F.is₁.ix (ap (λ k. (s k).x) (sym e) ∙ F.is₀.ix)) (λ e. F.is₂.iy (ap (λ k. (s k).y) (sym e) ∙ F.is₀.iy)) (λ e. F.is₃ (ap (λ k. (s k).z) (sym e) ∙ F.is₀.iz))
      (λ e. F.is₂.iy (ap (λ k. (s k).y) (sym e) ∙ F.is₁.iy)) (λ e. F.is₃ (ap (λ k. (s k).z) (sym e) ∙ F.is₁.iz)) (λ e. F.is₃ (ap (λ k. (s k).z) (sym e) ∙ F.is₂.iz))

  full_one : pos 0 <ℤ volume s → volume (λ k. label_of X Y Z (s k)) ≡ pos 1
  unfolding volume6
  full_one above = go (odd F.k₀ F.k₁ F.k₂ F.k₃) ordered
    where
      go : (o : Bool) → ((r : ℕ → Position) → volume6 (r F.k₀) (r F.k₁) (r F.k₂) (r F.k₃) ≡ signed o (volume r)) → volume (λ k. label_of X Y Z (s k)) ≡ pos 1
      go false h = absurd (<-irrefl (<-≤-trans (subst (λ z. pos 0 <ℤ z) (sym (h s)) above) steps))
      go true h =
          sym (neg_ℤ-neg_ℤ _) ∙ ap neg_ℤ (sym (h (λ k. label_of X Y Z (s k))) ∙
          (λ i. volume6 (label_corner X Y Z (s F.k₀) F.is₀ i) (label_edge X Y Z (s F.k₁) F.is₁ i) (label_wall X Y Z (s F.k₂) F.is₂ i) (label_other X Y Z (s F.k₃) F.is₃ i)))

-- ---- all four kinds, or one is missing

data Missing (X Y Z : ℕ) (s : ℕ → Position) : Type 0 where
  no_corner : ((k : ℕ) → k < 4 → IsCorner X Y Z (s k) → ⊥) → Missing X Y Z s
  no_edge : ((k : ℕ) → k < 4 → IsEdge X Y Z (s k) → ⊥) → Missing X Y Z s
  no_wall : ((k : ℕ) → k < 4 → IsWall X Y Z (s k) → ⊥) → Missing X Y Z s
  no_other : ((k : ℕ) → k < 4 → (s k).z ≡ Z) → Missing X Y Z s

module _ (X Y Z : ℕ) where
  corner? : (p : Position) → IsCorner X Y Z p ⊎ (IsCorner X Y Z p → ⊥)
  corner? p = go (kind X Y Z p)
    where
      go : Kind X Y Z p → IsCorner X Y Z p ⊎ (IsCorner X Y Z p → ⊥)
      go (corner_point a) = inl a
      go (edge_point a) = inr (λ i. a.ix i.ix)
      go (wall_point a) = inr (λ i. a.iy i.iy)
      go (other_point c) = inr (λ i. c i.iz)

  edge? : (p : Position) → IsEdge X Y Z p ⊎ (IsEdge X Y Z p → ⊥)
  edge? p = go (kind X Y Z p)
    where
      go : Kind X Y Z p → IsEdge X Y Z p ⊎ (IsEdge X Y Z p → ⊥)
      go (corner_point a) = inr (λ i. i.ix a.ix)
      go (edge_point a) = inl a
      go (wall_point a) = inr (λ i. a.iy i.iy)
      go (other_point c) = inr (λ i. c i.iz)

  wall? : (p : Position) → IsWall X Y Z p ⊎ (IsWall X Y Z p → ⊥)
  wall? p = go (kind X Y Z p)
    where
      go : Kind X Y Z p → IsWall X Y Z p ⊎ (IsWall X Y Z p → ⊥)
      go (corner_point a) = inr (λ i. i.iy a.iy)
      go (edge_point a) = inr (λ i. i.iy a.iy)
      go (wall_point a) = inl a
      go (other_point c) = inr (λ i. c i.iz)

  other? : (p : Position) → (p.z ≢ Z) ⊎ (p.z ≡ Z)
  other? p = go (ℕ_discrete p.z Z)
    where
      go : Dec (p.z ≡ Z) → (p.z ≢ Z) ⊎ (p.z ≡ Z)
      go (yes e) = inr e
      go (no d) = inl d

  full? : (s : ℕ → Position) → Full X Y Z s ⊎ Missing X Y Z s
  full? s =
      go (find 4 (λ k. IsCorner X Y Z (s k)) (λ k. IsCorner X Y Z (s k) → ⊥) (λ k h. corner? (s k)))
      (find 4 (λ k. IsEdge X Y Z (s k)) (λ k. IsEdge X Y Z (s k) → ⊥) (λ k h. edge? (s k)))
      (find 4 (λ k. IsWall X Y Z (s k)) (λ k. IsWall X Y Z (s k) → ⊥) (λ k h. wall? (s k)))
      (find 4 (λ k. (s k).z ≢ Z) (λ k. (s k).z ≡ Z) (λ k h. other? (s k)))
    where
      go : ((k : ℕ) × (k < 4) × IsCorner X Y Z (s k)) ⊎ ((k : ℕ) → k < 4 → IsCorner X Y Z (s k) → ⊥) →
          ((k : ℕ) × (k < 4) × IsEdge X Y Z (s k)) ⊎ ((k : ℕ) → k < 4 → IsEdge X Y Z (s k) → ⊥) →
          ((k : ℕ) × (k < 4) × IsWall X Y Z (s k)) ⊎ ((k : ℕ) → k < 4 → IsWall X Y Z (s k) → ⊥) →
          ((k : ℕ) × (k < 4) × ((s k).z ≢ Z)) ⊎ ((k : ℕ) → k < 4 → (s k).z ≡ Z) → Full X Y Z s ⊎ Missing X Y Z s
      go (inr a) b c d = inr (no_corner a)
      go (inl a) (inr b) c d = inr (no_edge b)
      go (inl a) (inl b) (inr c) d = inr (no_wall c)
      go (inl a) (inl b) (inl c) (inr d) = inr (no_other d)
      go (inl a) (inl b) (inl c) (inl d) = inl record {
        k₀ = a.0;
        k₁ = b.0;
        k₂ = c.0;
        k₃ = d.0;
        k₀< = a.1;
        k₁< = b.1;
        k₂< = c.1;
        k₃< = d.1;
        is₀ = a.2;
        is₁ = b.2;
        is₂ = c.2;
        is₃ = d.2;
      }

  -- a cell without one of the kinds has labels of volume 0
  missing_zero : (s : ℕ → Position) → Missing X Y Z s → volume (λ k. label_of X Y Z (s k)) ≡ pos 0
  missing_zero s (no_corner n) = no_x (λ k. label_of X Y Z (s k)) (λ k h. go k h (kind X Y Z (s k)))
    where
      go : (k : ℕ) → k < 4 → Kind X Y Z (s k) → (label_of X Y Z (s k)).x ≡ 0
      go k h (corner_point a) = absurd (n k h a)
      go k h (edge_point a) = ap (λ (p : Position). p.x) (label_edge X Y Z (s k) a)
      go k h (wall_point a) = ap (λ (p : Position). p.x) (label_wall X Y Z (s k) a)
      go k h (other_point c) = ap (λ (p : Position). p.x) (label_other X Y Z (s k) c)
  missing_zero s (no_edge n) = same_xy (λ k. label_of X Y Z (s k)) (λ k h. go k h (kind X Y Z (s k)))
    where
      same : {p r : Position} → p ≡ r → r.x ≡ r.y → p.x ≡ p.y
      same {p} {r} e q = ap (λ (p : Position). p.x) e ∙ (q ∙ ap (λ (p : Position). p.y) (sym e))

      go : (k : ℕ) → k < 4 → Kind X Y Z (s k) → (label_of X Y Z (s k)).x ≡ (label_of X Y Z (s k)).y
      go k h (corner_point a) = same (label_corner X Y Z (s k) a) refl
      go k h (edge_point a) = absurd (n k h a)
      go k h (wall_point a) = same (label_wall X Y Z (s k) a) refl
      go k h (other_point c) = same (label_other X Y Z (s k) c) refl
  missing_zero s (no_wall n) = same_yz (λ k. label_of X Y Z (s k)) (λ k h. go k h (kind X Y Z (s k)))
    where
      same : {p r : Position} → p ≡ r → r.y ≡ r.z → p.y ≡ p.z
      same {p} {r} e q = ap (λ (p : Position). p.y) e ∙ (q ∙ ap (λ (p : Position). p.z) (sym e))

      go : (k : ℕ) → k < 4 → Kind X Y Z (s k) → (label_of X Y Z (s k)).y ≡ (label_of X Y Z (s k)).z
      go k h (corner_point a) = same (label_corner X Y Z (s k) a) refl
      go k h (edge_point a) = same (label_edge X Y Z (s k) a) refl
      go k h (wall_point a) = absurd (n k h a)
      go k h (other_point c) = same (label_other X Y Z (s k) c) refl
  missing_zero s (no_other n) = one_z (λ k. label_of X Y Z (s k)) (λ k h. top_at Z (s k).z (n k h))

-- ---- the target: inside the box, close to the corner, closer to the edge, closest to the wall

unfoldable target : (X Y Z a b d : ℕ) → Place
target X Y Z a b d = record { x = a * X; y = (a + b) * Y; z = (a + b + d) * Z; w = a + b + d + 1 }

module _ {X Y Z pc cc np n : ℕ} {t : Tables} (M : IsMesh X Y Z pc cc np n t) (a b d : ℕ) (hd : d ≡ Z) (hb : b ≡ Y * (d + 1) + Z) (ha : a ≡ X * (b + d + 1) + Y * (d + 1) + Z) where
  target_box : InBoxAt X Y Z (target X Y Z a b d)
  unfolding target
  target_box = record { w≥ = omega arith; box = record { x≤ = omega arith; y≤ = omega arith; z≤ = omega arith } }

  module _ (c : ℕ) (c< : IsCell t n c) (held : HoldsForm t (target X Y Z a b d) c) where
    s : ℕ → Position
    s = corner_at t c

    in_box_lem : (k : ℕ) → k < 4 → InBox X Y Z (s k)
    unfolding s corner_at
    in_box_lem k h = M.inside (corner t c k) (M.corner< c k c< h)

    not_missing : Missing X Y Z s → ⊥
    unfolding s target
    not_missing (no_corner no_c) = end (convex M c c< (target X Y Z a b d) held 0 0 0 (X + Y + Z) 1 1 1 1 (λ k h. each (s k) (in_box_lem k h) (no_c k h) (kind X Y Z (s k))))
      where
        each : (p : Position) → InBox X Y Z p → (IsCorner X Y Z p → ⊥) → Kind X Y Z p → nlin 1 1 1 1 (whole p) ≤ nlin 0 0 0 (X + Y + Z) (whole p)
        each p i n (corner_point u) = absurd (n u)
        each p i n (edge_point u) = omega (arith, i)
        each p i n (wall_point u) = omega (arith, i)
        each p i n (other_point w) = omega (arith, i)

        end : nlin 1 1 1 1 (target X Y Z a b d) ≤ nlin 0 0 0 (X + Y + Z) (target X Y Z a b d) → ⊥
        end h = omega arith
    not_missing (no_edge no_e) = end (convex M c c< (target X Y Z a b d) held 1 0 0 (X * (Y + Z)) 0 X X X (λ k h. each (s k) (in_box_lem k h) (no_e k h) (kind X Y Z (s k))))
      where
        each : (p : Position) → InBox X Y Z p → (IsEdge X Y Z p → ⊥) → Kind X Y Z p → nlin 0 X X X (whole p) ≤ nlin 1 0 0 (X * (Y + Z)) (whole p)
        each p i n (corner_point u) = omega (arith, ap (λ m. X * m) u.iy, ap (λ m. X * m) u.iz)
        each p i n (edge_point u) = absurd (n u)
        each p i n (wall_point u) = let l : p.y + 1 ≤ Y = omega (arith, i) in omega (arith, ap (λ m. X * m) u.iz, mul-le-mul_left X l)
        each p i n (other_point w) = let l : p.z + 1 ≤ Z = omega (arith, i) in omega (arith, mul-le-mul_left X l, mul-le-mul_left X i.y≤)

        end : nlin 0 X X X (target X Y Z a b d) ≤ nlin 1 0 0 (X * (Y + Z)) (target X Y Z a b d) → ⊥
        end h = omega (arith, ap (λ m. X * m) hb, M.side_x.low)
    not_missing (no_wall no_w) = end (convex M c c< (target X Y Z a b d) held 0 1 0 (Y * Z) 0 0 Y Y (λ k h. each (s k) (in_box_lem k h) (no_w k h) (kind X Y Z (s k))))
      where
        each : (p : Position) → InBox X Y Z p → (IsWall X Y Z p → ⊥) → Kind X Y Z p → nlin 0 0 Y Y (whole p) ≤ nlin 0 1 0 (Y * Z) (whole p)
        each p i n (corner_point u) = omega (arith, u.iy, ap (λ m. Y * m) u.iz)
        each p i n (edge_point u) = omega (arith, u.iy, ap (λ m. Y * m) u.iz)
        each p i n (wall_point u) = absurd (n u)
        each p i n (other_point w) = let l : p.z + 1 ≤ Z = omega (arith, i) in omega (arith, mul-le-mul_left Y l)

        end : nlin 0 0 Y Y (target X Y Z a b d) ≤ nlin 0 1 0 (Y * Z) (target X Y Z a b d) → ⊥
        end h = omega (arith, ap (λ m. Y * m) hd, M.side_y.low)
    not_missing (no_other no_o) = end (convex M c c< (target X Y Z a b d) held 0 0 1 0 0 0 0 Z (λ k h. each (s k) (no_o k h)))
      where
        each : (p : Position) → p.z ≡ Z → nlin 0 0 0 Z (whole p) ≤ nlin 0 0 1 0 (whole p)
        each p e = omega arith

        end : nlin 0 0 0 Z (target X Y Z a b d) ≤ nlin 0 0 1 0 (target X Y Z a b d) → ⊥
        end h = omega (arith, M.side_z.low)

    in_target : volume (λ k. label_of X Y Z (corner_at t c k)) ≡ pos 1
    unfolding s
    in_target = go (full? X Y Z (corner_at t c))
      where
        go : Full X Y Z (corner_at t c) ⊎ Missing X Y Z (corner_at t c) → volume (λ k. label_of X Y Z (corner_at t c k)) ≡ pos 1
        go (inl F) = full_one X Y Z (corner_at t c) in_box_lem F (unfold cell_volume in M.positive c c<)
        go (inr L) = absurd (not_missing L)

-- ---- at most one

module _ {X Y Z pc cc np n : ℕ} {t : Tables} (M : IsMesh X Y Z pc cc np n t) (R : Room pc cc t) where
  labels_volume : ℕ → ℤ
  labels_volume c = volume (λ k. label_of X Y Z (corner_at t c k))

  labels_sum_one : sum n labels_volume ≡ pos 1
  unfolding labels_volume sum_of corner_at
  labels_sum_one = labels_one M R

  labels_nonneg : (c : ℕ) → c < n → pos 0 ≤ℤ labels_volume c
  unfolding labels_volume corner_at
  labels_nonneg c l = go (full? X Y Z (corner_at t c)) (split (live t c))
    where
      box : IsCell t n c → (k : ℕ) → k < 4 → InBox X Y Z (corner_at t c k)
      box h k hk = M.inside (corner t c k) (M.corner< c k h hk)

      go : Full X Y Z (corner_at t c) ⊎ Missing X Y Z (corner_at t c) → (live t c ≡ true) ⊎ (live t c ≡ false) → pos 0 ≤ℤ volume (λ k. label_of X Y Z (corner_at t c k))
      go (inr L) b = ≡→≤ (sym (missing_zero X Y Z (corner_at t c) L))
      go (inl F) (inl a) =
          let h : IsCell t n c = record { below = l; lives = a } in
          subst (λ z. pos 0 ≤ℤ z) (sym (full_one X Y Z (corner_at t c) (box h) F (unfold cell_volume in M.positive c h))) (omega arithℤ)
      -- a freed entry has four times one corner
      go (inl F) (inr a) = absurd (F.is₃ (ap (λ v. (point t v).z) (freed_corner t c a F.k₃ F.k₃< ∙ sym (freed_corner t c a F.k₀ F.k₀<)) ∙ F.is₀.iz))

  -- NOWHERE TWICE
  pub once : (q : Place) (c₁ c₂ : ℕ) → IsCell t n c₁ → IsCell t n c₂ → InsideForm t q c₁ → InsideForm t q c₂ → c₁ ≡ c₂
  once q c₁ c₂ l₁ l₂ i₁ i₂ = go (two_walks M R (target X Y Z a b Z) (target_box M a b Z refl refl refl) q c₁ c₂ l₁ l₂ i₁ i₂)
    where
      b : ℕ
      b = Y * (Z + 1) + Z

      a : ℕ
      a = X * (b + Z + 1) + Y * (Z + 1) + Z

      go : Walks t n (form t (target X Y Z a b Z)) (λ p. Unit {0}) c₁ c₂ → c₁ ≡ c₂
      go L = by (ℕ_discrete L.end₁ L.end₂)
        where
          one : (c : ℕ) → IsCell t n c → HoldsForm t (target X Y Z a b Z) c → labels_volume c ≡ pos 1
          one c l h = unfold labels_volume in in_target M a b Z refl refl refl c l h

          by : Dec (L.end₁ ≡ L.end₂) → c₁ ≡ c₂
          by (yes e) = L.apart e
          by (no d) =
              absurd (two (subst (λ z. z ≤ℤ pos 1) (ap₂ ◌+ℤ◌ (one L.end₁ L.end₁< L.holds₁) (one L.end₂ L.end₂< L.holds₂))
              (subst (λ z. (labels_volume L.end₁ +ℤ labels_volume L.end₂) ≤ℤ z) labels_sum_one (sum_ge_two n labels_volume labels_nonneg L.end₁ L.end₂ L.end₁<.below L.end₂<.below d))))
            where
              two : (pos 1 +ℤ pos 1) ≤ℤ pos 1 → ⊥
              two h = omega arithℤ

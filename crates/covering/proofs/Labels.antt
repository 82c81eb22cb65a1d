-- F6: labels 'at the corner (X, Y, Z)', 'else on the edge y = Y, z = Z', 'else on the wall z = Z', 'else', as positions, have volumes that add up to 1.
use Prim.Native.Nat.{ℕ, zero, suc, ◌+◌, ◌*◌, ◌≤◌}
use mathlib.Core.Bool.{Bool, true, false, cond}
use mathlib.Core.Logic.{◌≢◌, ◌⊎◌, inl, inr}
use mathlib.Core.Path.{◌≡◌, refl, sym, ap, ap₂, ◌∙◌}
use mathlib.Core.List.{List, [], ◌∷◌}
use native.Mathlib.Omega.{arith}
use borrow.Author.Tests.{eqb-true, eq-eqb, ne_eqb}
use lib.Dec.{eqb}
use lib.IntN.{ℤ, pos, negsuc, neg_ℤ, ◌+ℤ◌, ◌-ℤ◌, ◌*ℤ◌, +ℤ_idl, +ℤ_idr, *ℤ-zero}
use Rattle.arith.specs.Table.{sum}
use Rattle.arith.proofs.Integers.{eq_of_sub}
use Rattle.arith.proofs.Order.{arithℤ, pos_pos, cancel_zero, *-pos}
use Rattle.arith.proofs.Flags.{split}
use Rattle.arith.proofs.Sums.{sum_cong, sum_zero, sum_add, sum_neg, sum_times}
use Rattle.arith.proofs.Ring.{Expr, var, con, ◌⊕◌, ◌⊖◌, ◌⊗◌, neg, ring}
use Rattle.arith.proofs.Combine.{hyp, combine}
use Rattle.geometry.specs.declared.Position.{Position}
use Rattle.geometry.specs.Volume.{volume6, volume}
use Rattle.mesh.specs.Tables.{Tables, point, corner, corner_at, cell_volume}
use Rattle.mesh.specs.Mesh.{Wall, low_x, low_y, low_z, high_x, high_y, high_z, IsMesh}
use Rattle.mesh.proofs.Room.{Room}
use Rattle.covering.proofs.Linear.{Row, row, rowsₑ, sixₑ}
use Rattle.covering.proofs.Closed.{corners_by, sum_of, Part, ◌of◌, sums_of, triples, On, closed}

abbrev pub at₃ : (ℕ → ℕ) → (ℕ → ℕ) → (ℕ → ℕ) → ℕ → Position
at₃ f g h v = record { x = f v; y = g v; z = h v }

-- ---- a coordinate as its share on the far wall and the rest

unfoldable pub top : ℕ → ℕ → ℕ
top S v = cond (eqb v S) 1 0

unfoldable rest : ℕ → ℕ → ℕ
rest S v = cond (eqb v S) 0 v

pub top_at : (S v : ℕ) → v ≡ S → top S v ≡ 1
unfolding top
top_at S v e = rw (eq-eqb v S e)

pub top_off : (S v : ℕ) → v ≢ S → top S v ≡ 0
unfolding top
top_off S v d = rw (ne_eqb v S d)

-- the label of a position: at the corner (X, Y, Z), on the edge y = Y, z = Z, on the wall z = Z, or none of these
abbrev pub label_of : ℕ → ℕ → ℕ → Position → Position
label_of X Y Z p = record { x = top X p.x * top Y p.y * top Z p.z; y = top Y p.y * top Z p.z; z = top Z p.z }

rest_at : (S v : ℕ) → v ≡ S → rest S v ≡ 0
unfolding rest
rest_at S v e = rw (eq-eqb v S e)

rest_low : (S v : ℕ) → v ≡ 0 → rest S v ≡ 0
unfolding rest
rest_low S v e = go (eqb v S)
  where
    go : (b : Bool) → cond b 0 v ≡ 0
    go true = refl
    go false = e

parts : (S v : ℕ) → v ≡ rest S v + S * top S v
unfolding rest top
parts S v = go (split (eqb v S))
  where
    go : (eqb v S ≡ true) ⊎ (eqb v S ≡ false) → v ≡ cond (eqb v S) 0 v + S * cond (eqb v S) 1 0
    go (inl e) = rw e (omega (arith, eqb-true v S e))
    go (inr e) = rw e (omega arith)

-- ---- two combinations that are 0 on walls

abbrev pick : {A : Type 0} → A → A → A → ℕ → A
pick a b c zero = a
pick a b c (suc zero) = b
pick a b c (suc (suc k)) = c

abbrev pub Col : Type 0
Col = ℕ → Expr

abbrev oneₑ : Col
oneₑ k = con (pos 1)

-- m times the determinant of three columns, and more
abbrev termₑ : ℤ → Col → Col → Col → Expr → Expr
termₑ m f g h more = con m ⊗ rowsₑ (row (f 0) (g 0) (h 0) (con (pos 1))) (row (f 1) (g 1) (h 1) (con (pos 1))) (row (f 2) (g 2) (h 2) (con (pos 1))) ⊕ more

abbrev ◌·◌ : Col → Col → Col
◌·◌ f g k = f k ⊗ g k

infixl 70 ◌·◌
-- m times positions whose third coordinate is 1: they have no volume
data Coplanar : Type 0 where
  ◌times◌and◌ : ℤ → (ℕ → ℕ) → (ℕ → ℕ) → Coplanar

infix 80 ◌times◌and◌
abbrev coplanar : List Coplanar → List Part
coplanar [] = []
coplanar (m times f and g ∷ l) = m of at₃ f g (λ v. 1) ∷ coplanar l

abbrev push_parts : (ℕ → ℕ) → (ℕ → ℕ) → (ℕ → ℕ) → List Part
push_parts h u g = pos 1 of at₃ h u g ∷ coplanar (negsuc 0 times h and (λ v. u v * g v) ∷ pos 2 times (λ v. h v * u v) and g ∷ [])

abbrev pushₑ : Col → Col → Col → Expr
pushₑ h u g = termₑ (pos 1) h u g (termₑ (negsuc 0) h (u · g) oneₑ (termₑ (pos 2) (h · u) g oneₑ (con (pos 0))))

abbrev pushed : ℕ → ℕ → ℕ → ℕ → ℕ → ℕ → ℕ → ℕ → ℕ → ℤ
pushed h₀ h₁ h₂ u₀ u₁ u₂ g₀ g₁ g₂ = triples (push_parts (pick h₀ h₁ h₂) (pick u₀ u₁ u₂) (pick g₀ g₁ g₂)) 0 1 2

pushed_h : (u₀ u₁ u₂ g₀ g₁ g₂ : ℕ) → pushed 0 0 0 u₀ u₁ u₂ g₀ g₁ g₂ ≡ pos 0
pushed_h u₀ u₁ u₂ g₀ g₁ g₂ =
    ring (pushₑ (λ k. con (pos 0)) (λ k. var k) (λ k. var (3 + k))) (con (pos 0)) tt (pos u₀ ∷ pos u₁ ∷ pos u₂ ∷ pos g₀ ∷ pos g₁ ∷ pos g₂ ∷ [])

pushed_u : (h₀ h₁ h₂ u g₀ g₁ g₂ : ℕ) → pushed h₀ h₁ h₂ u u u g₀ g₁ g₂ ≡ pos 0
pushed_u h₀ h₁ h₂ u g₀ g₁ g₂ =
    ring (pushₑ (λ k. var k) (λ k. var 6) (λ k. var (3 + k))) (con (pos 0)) tt (pos h₀ ∷ pos h₁ ∷ pos h₂ ∷ pos g₀ ∷ pos g₁ ∷ pos g₂ ∷ pos u ∷ [])

pushed_g : (h₀ h₁ h₂ u₀ u₁ u₂ g : ℕ) → pushed h₀ h₁ h₂ u₀ u₁ u₂ g g g ≡ pos 0
pushed_g h₀ h₁ h₂ u₀ u₁ u₂ g =
    ring (pushₑ (λ k. var k) (λ k. var (3 + k)) (λ k. var 6)) (con (pos 0)) tt (pos h₀ ∷ pos h₁ ∷ pos h₂ ∷ pos u₀ ∷ pos u₁ ∷ pos u₂ ∷ pos g ∷ [])

abbrev label_rest : (ℕ → ℕ) → (ℕ → ℕ) → (ℕ → ℕ) → List Coplanar
label_rest A B C =
    pos 1 times AB and AC ∷ negsuc 0 times AB and BC ∷ pos 1 times AC and BC ∷ pos 2 times B and ABC ∷ negsuc 1 times C and ABC ∷
    negsuc 0 times AB and ABC ∷ pos 1 times AC and ABC ∷ pos 3 times BC and ABC ∷ []
  where
    AB : ℕ → ℕ
    AB v = A v * B v

    AC : ℕ → ℕ
    AC v = A v * C v

    BC : ℕ → ℕ
    BC v = B v * C v

    ABC : ℕ → ℕ
    ABC v = A v * B v * C v

abbrev label_parts : (ℕ → ℕ) → (ℕ → ℕ) → (ℕ → ℕ) → List Part
label_parts A B C = pos 6 of at₃ (λ v. A v * B v * C v) (λ v. B v * C v) C ∷ negsuc 0 of at₃ A B C ∷ coplanar (label_rest A B C)

abbrev labelₑ : Col → Col → Col → Expr
labelₑ A B C =
    termₑ (pos 6) (A · B · C) (B · C) C (termₑ (negsuc 0) A B C
    (termₑ (pos 1) (A · B) (A · C) oneₑ (termₑ (negsuc 0) (A · B) (B · C) oneₑ
    (termₑ (pos 1) (A · C) (B · C) oneₑ (termₑ (pos 2) B (A · B · C) oneₑ
    (termₑ (negsuc 1) C (A · B · C) oneₑ (termₑ (negsuc 0) (A · B) (A · B · C) oneₑ
    (termₑ (pos 1) (A · C) (A · B · C) oneₑ (termₑ (pos 3) (B · C) (A · B · C) oneₑ (con (pos 0)))))))))))

abbrev labelled : ℕ → ℕ → ℕ → ℕ → ℕ → ℕ → ℕ → ℕ → ℕ → ℤ
labelled a₀ a₁ a₂ b₀ b₁ b₂ c₀ c₁ c₂ = triples (label_parts (pick a₀ a₁ a₂) (pick b₀ b₁ b₂) (pick c₀ c₁ c₂)) 0 1 2

labelled_A0 : (b₀ b₁ b₂ c₀ c₁ c₂ : ℕ) → labelled 0 0 0 b₀ b₁ b₂ c₀ c₁ c₂ ≡ pos 0
labelled_A0 b₀ b₁ b₂ c₀ c₁ c₂ = ring (labelₑ (λ k. con (pos 0)) (λ k. var k) (λ k. var (3 + k))) (con (pos 0)) tt (pos b₀ ∷ pos b₁ ∷ pos b₂ ∷ pos c₀ ∷ pos c₁ ∷ pos c₂ ∷ [])

labelled_A1 : (b₀ b₁ b₂ c₀ c₁ c₂ : ℕ) → labelled 1 1 1 b₀ b₁ b₂ c₀ c₁ c₂ ≡ pos 0
labelled_A1 b₀ b₁ b₂ c₀ c₁ c₂ = ring (labelₑ (λ k. con (pos 1)) (λ k. var k) (λ k. var (3 + k))) (con (pos 0)) tt (pos b₀ ∷ pos b₁ ∷ pos b₂ ∷ pos c₀ ∷ pos c₁ ∷ pos c₂ ∷ [])

labelled_B0 : (a₀ a₁ a₂ c₀ c₁ c₂ : ℕ) → labelled a₀ a₁ a₂ 0 0 0 c₀ c₁ c₂ ≡ pos 0
labelled_B0 a₀ a₁ a₂ c₀ c₁ c₂ = ring (labelₑ (λ k. var k) (λ k. con (pos 0)) (λ k. var (3 + k))) (con (pos 0)) tt (pos a₀ ∷ pos a₁ ∷ pos a₂ ∷ pos c₀ ∷ pos c₁ ∷ pos c₂ ∷ [])

labelled_B1 : (a₀ a₁ a₂ c₀ c₁ c₂ : ℕ) → labelled a₀ a₁ a₂ 1 1 1 c₀ c₁ c₂ ≡ pos 0
labelled_B1 a₀ a₁ a₂ c₀ c₁ c₂ = ring (labelₑ (λ k. var k) (λ k. con (pos 1)) (λ k. var (3 + k))) (con (pos 0)) tt (pos a₀ ∷ pos a₁ ∷ pos a₂ ∷ pos c₀ ∷ pos c₁ ∷ pos c₂ ∷ [])

labelled_C0 : (a₀ a₁ a₂ b₀ b₁ b₂ : ℕ) → labelled a₀ a₁ a₂ b₀ b₁ b₂ 0 0 0 ≡ pos 0
labelled_C0 a₀ a₁ a₂ b₀ b₁ b₂ = ring (labelₑ (λ k. var k) (λ k. var (3 + k)) (λ k. con (pos 0))) (con (pos 0)) tt (pos a₀ ∷ pos a₁ ∷ pos a₂ ∷ pos b₀ ∷ pos b₁ ∷ pos b₂ ∷ [])

labelled_C1 : (a₀ a₁ a₂ b₀ b₁ b₂ : ℕ) → labelled a₀ a₁ a₂ b₀ b₁ b₂ 1 1 1 ≡ pos 0
labelled_C1 a₀ a₁ a₂ b₀ b₁ b₂ = ring (labelₑ (λ k. var k) (λ k. var (3 + k)) (λ k. con (pos 1))) (con (pos 0)) tt (pos a₀ ∷ pos a₁ ∷ pos a₂ ∷ pos b₀ ∷ pos b₁ ∷ pos b₂ ∷ [])

-- ---- volumes, column by column

abbrev pub volₑ : Col → Col → Col → Expr
volₑ f g h = sixₑ (r 0) (r 1) (r 2) (r 3)
  where
    r : ℕ → Row
    r k = row (f k) (g k) (h k) (con (pos 1))

abbrev pub col : ℕ → Col
col m k = var (4 * m + k)

abbrev pub cols : List (ℕ → ℕ) → List ℤ → List ℤ
cols [] l = l
cols (f ∷ fs) l = pos (f 0) ∷ pos (f 1) ∷ pos (f 2) ∷ pos (f 3) ∷ cols fs l

vol_flat : (f g : ℕ → ℕ) → volume (at₃ f g (λ v. 1)) ≡ pos 0
unfolding volume volume6
vol_flat f g = ring (volₑ (col 0) (col 1) oneₑ) (con (pos 0)) tt (cols (f ∷ g ∷ []) [])

vol_x : (h g u w : ℕ → ℕ) → volume (at₃ (λ v. h v + g v) u w) ≡ volume (at₃ h u w) +ℤ volume (at₃ g u w)
unfolding volume volume6
vol_x h g u w =
    ring (volₑ (λ k. col 0 k ⊕ col 1 k) (col 2) (col 3)) (volₑ (col 0) (col 2) (col 3) ⊕ volₑ (col 1) (col 2) (col 3)) tt (cols (h ∷ g ∷ u ∷ w ∷ []) [])

vol_y : (h g u w : ℕ → ℕ) → volume (at₃ u (λ v. h v + g v) w) ≡ neg_ℤ (volume (at₃ h u w)) +ℤ volume (at₃ u g w)
unfolding volume volume6
vol_y h g u w =
    ring (volₑ (col 2) (λ k. col 0 k ⊕ col 1 k) (col 3)) (neg (volₑ (col 0) (col 2) (col 3)) ⊕ volₑ (col 2) (col 1) (col 3)) tt (cols (h ∷ g ∷ u ∷ w ∷ []) [])

vol_z : (h g u w : ℕ → ℕ) → volume (at₃ u w (λ v. h v + g v)) ≡ volume (at₃ h u w) +ℤ volume (at₃ u w g)
unfolding volume volume6
vol_z h g u w =
    ring (volₑ (col 2) (col 3) (λ k. col 0 k ⊕ col 1 k)) (volₑ (col 0) (col 2) (col 3) ⊕ volₑ (col 2) (col 3) (col 1)) tt (cols (h ∷ g ∷ u ∷ w ∷ []) [])

vol_scale : (a b c : ℕ) (f g h : ℕ → ℕ) → volume (at₃ (λ v. a * f v) (λ v. b * g v) (λ v. c * h v)) ≡ volume (at₃ f g h) *ℤ (pos a *ℤ pos b *ℤ pos c)
unfolding volume volume6
vol_scale a b c f g h =
    ring (volₑ (λ k. var 12 ⊗ col 0 k) (λ k. var 13 ⊗ col 1 k) (λ k. var 14 ⊗ col 2 k)) (volₑ (col 0) (col 1) (col 2) ⊗ (var 12 ⊗ var 13 ⊗ var 14)) tt
    (cols (f ∷ g ∷ h ∷ []) (pos a ∷ pos b ∷ pos c ∷ []))

module _ (t : Tables) (n : ℕ) where
  sum_flat : (f g : ℕ → ℕ) → sum_of t n (at₃ f g (λ v. 1)) ≡ pos 0
  unfolding sum_of
  sum_flat f g = sum_zero n (λ c. volume (corners_by t (at₃ f g (λ v. 1)) c)) (λ c l. vol_flat (λ k. f (corner t c k)) (λ k. g (corner t c k)))

  coplanar_sums : (l : List Coplanar) → sums_of t n (coplanar l) ≡ pos 0
  coplanar_sums [] = refl
  coplanar_sums (m times f and g ∷ l) = ap₂ (λ u v. m *ℤ u +ℤ v) (sum_flat f g) (coplanar_sums l) ∙ (+ℤ_idr (m *ℤ pos 0) ∙ *ℤ-zero m)

  sum_x : (h g u w : ℕ → ℕ) → sum_of t n (at₃ (λ v. h v + g v) u w) ≡ sum_of t n (at₃ h u w) +ℤ sum_of t n (at₃ g u w)
  unfolding sum_of
  sum_x h g u w =
      sum_cong n (λ c. volume (corners_by t (at₃ (λ v. h v + g v) u w) c)) (λ c. volume (corners_by t (at₃ h u w) c) +ℤ volume (corners_by t (at₃ g u w) c))
      (λ c l. vol_x (λ k. h (corner t c k)) (λ k. g (corner t c k)) (λ k. u (corner t c k)) (λ k. w (corner t c k))) ∙
      sum_add n (λ c. volume (corners_by t (at₃ h u w) c)) (λ c. volume (corners_by t (at₃ g u w) c))

  sum_y : (h g u w : ℕ → ℕ) → sum_of t n (at₃ u (λ v. h v + g v) w) ≡ neg_ℤ (sum_of t n (at₃ h u w)) +ℤ sum_of t n (at₃ u g w)
  unfolding sum_of
  sum_y h g u w =
      sum_cong n (λ c. volume (corners_by t (at₃ u (λ v. h v + g v) w) c)) (λ c. neg_ℤ (volume (corners_by t (at₃ h u w) c)) +ℤ volume (corners_by t (at₃ u g w) c))
      (λ c l. vol_y (λ k. h (corner t c k)) (λ k. g (corner t c k)) (λ k. u (corner t c k)) (λ k. w (corner t c k))) ∙
      (sum_add n (λ c. neg_ℤ (volume (corners_by t (at₃ h u w) c))) (λ c. volume (corners_by t (at₃ u g w) c)) ∙
      ap (λ z. z +ℤ sum n (λ c. volume (corners_by t (at₃ u g w) c))) (sum_neg n (λ c. volume (corners_by t (at₃ h u w) c))))

  sum_z : (h g u w : ℕ → ℕ) → sum_of t n (at₃ u w (λ v. h v + g v)) ≡ sum_of t n (at₃ h u w) +ℤ sum_of t n (at₃ u w g)
  unfolding sum_of
  sum_z h g u w =
      sum_cong n (λ c. volume (corners_by t (at₃ u w (λ v. h v + g v)) c)) (λ c. volume (corners_by t (at₃ h u w) c) +ℤ volume (corners_by t (at₃ u w g) c))
      (λ c l. vol_z (λ k. h (corner t c k)) (λ k. g (corner t c k)) (λ k. u (corner t c k)) (λ k. w (corner t c k))) ∙
      sum_add n (λ c. volume (corners_by t (at₃ h u w) c)) (λ c. volume (corners_by t (at₃ u w g) c))

  sum_scale : (a b c : ℕ) (f g h : ℕ → ℕ) → sum_of t n (at₃ (λ v. a * f v) (λ v. b * g v) (λ v. c * h v)) ≡ sum_of t n (at₃ f g h) *ℤ (pos a *ℤ pos b *ℤ pos c)
  unfolding sum_of
  sum_scale a b c f g h =
      sum_cong n (λ d. volume (corners_by t (at₃ (λ v. a * f v) (λ v. b * g v) (λ v. c * h v)) d)) (λ d. volume (corners_by t (at₃ f g h) d) *ℤ (pos a *ℤ pos b *ℤ pos c))
      (λ d l. vol_scale a b c (λ k. f (corner t d k)) (λ k. g (corner t d k)) (λ k. h (corner t d k))) ∙
      sum_times n (λ d. volume (corners_by t (at₃ f g h) d)) (pos a *ℤ pos b *ℤ pos c)

-- ---- a column that is 0 on its two walls

module _ (h u g : ℕ → ℕ) (a b c : ℕ) where
  by_h : h a ≡ 0 → h b ≡ 0 → h c ≡ 0 → triples (push_parts h u g) a b c ≡ pos 0
  by_h p q r = (λ i. pushed (p i) (q i) (r i) (u a) (u b) (u c) (g a) (g b) (g c)) ∙ pushed_h (u a) (u b) (u c) (g a) (g b) (g c)

  by_u : (k : ℕ) → u a ≡ k → u b ≡ k → u c ≡ k → triples (push_parts h u g) a b c ≡ pos 0
  by_u k p q r = (λ i. pushed (h a) (h b) (h c) (p i) (q i) (r i) (g a) (g b) (g c)) ∙ pushed_u (h a) (h b) (h c) k (g a) (g b) (g c)

  by_g : (k : ℕ) → g a ≡ k → g b ≡ k → g c ≡ k → triples (push_parts h u g) a b c ≡ pos 0
  by_g k p q r = (λ i. pushed (h a) (h b) (h c) (u a) (u b) (u c) (p i) (q i) (r i)) ∙ pushed_g (h a) (h b) (h c) (u a) (u b) (u c) k

module _ {X Y Z pc cc np n : ℕ} {t : Tables} (M : IsMesh X Y Z pc cc np n t) (R : Room pc cc t) where
  push : (h u g : ℕ → ℕ) → ((w : Wall) (a b c : ℕ) → On M R w a → On M R w b → On M R w c → triples (push_parts h u g) a b c ≡ pos 0) → sum_of t n (at₃ h u g) ≡ pos 0
  push h u g flat =
      combine (var 0) (con (pos 0))
      (hyp (con (pos 1)) (con (pos 1) ⊗ var 0 ⊕ var 1) (con (pos 0)) ∷ hyp (con (negsuc 0)) (var 1) (con (pos 0)) ∷ []) tt
      (sum_of t n (at₃ h u g) ∷ sums_of t n (coplanar l) ∷ []) (closed M R (push_parts h u g) flat, (coplanar_sums t n l, tt))
    where
      l : List Coplanar
      l = negsuc 0 times h and (λ v. u v * g v) ∷ pos 2 times (λ v. h v * u v) and g ∷ []

  abbrev px : ℕ → ℕ
  px v = (point t v).x

  abbrev py : ℕ → ℕ
  py v = (point t v).y

  abbrev pz : ℕ → ℕ
  pz v = (point t v).z

  abbrev pub tx : ℕ → ℕ
  tx v = top X (point t v).x

  abbrev pub ty : ℕ → ℕ
  ty v = top Y (point t v).y

  abbrev pub tz : ℕ → ℕ
  tz v = top Z (point t v).z

  push_x : sum_of t n (at₃ (λ v. rest X (px v)) py pz) ≡ pos 0
  push_x = push (λ v. rest X (px v)) py pz flat
    where
      flat : (w : Wall) (a b c : ℕ) → On M R w a → On M R w b → On M R w c → triples (push_parts (λ v. rest X (px v)) py pz) a b c ≡ pos 0
      flat low_x a b c p q r = by_h (λ v. rest X (px v)) py pz a b c (rest_low X (px a) p) (rest_low X (px b) q) (rest_low X (px c) r)
      flat high_x a b c p q r = by_h (λ v. rest X (px v)) py pz a b c (rest_at X (px a) p) (rest_at X (px b) q) (rest_at X (px c) r)
      flat low_y a b c p q r = by_u (λ v. rest X (px v)) py pz a b c 0 p q r
      flat high_y a b c p q r = by_u (λ v. rest X (px v)) py pz a b c Y p q r
      flat low_z a b c p q r = by_g (λ v. rest X (px v)) py pz a b c 0 p q r
      flat high_z a b c p q r = by_g (λ v. rest X (px v)) py pz a b c Z p q r

  push_y : sum_of t n (at₃ (λ v. rest Y (py v)) (λ v. X * tx v) pz) ≡ pos 0
  push_y = push (λ v. rest Y (py v)) (λ v. X * tx v) pz flat
    where
      flat : (w : Wall) (a b c : ℕ) → On M R w a → On M R w b → On M R w c → triples (push_parts (λ v. rest Y (py v)) (λ v. X * tx v) pz) a b c ≡ pos 0
      flat low_y a b c p q r = by_h (λ v. rest Y (py v)) (λ v. X * tx v) pz a b c (rest_low Y (py a) p) (rest_low Y (py b) q) (rest_low Y (py c) r)
      flat high_y a b c p q r = by_h (λ v. rest Y (py v)) (λ v. X * tx v) pz a b c (rest_at Y (py a) p) (rest_at Y (py b) q) (rest_at Y (py c) r)
      flat low_x a b c p q r = by_u (λ v. rest Y (py v)) (λ v. X * tx v) pz a b c (X * top X 0) (ap (λ m. X * top X m) p) (ap (λ m. X * top X m) q) (ap (λ m. X * top X m) r)
      flat high_x a b c p q r = by_u (λ v. rest Y (py v)) (λ v. X * tx v) pz a b c (X * top X X) (ap (λ m. X * top X m) p) (ap (λ m. X * top X m) q) (ap (λ m. X * top X m) r)
      flat low_z a b c p q r = by_g (λ v. rest Y (py v)) (λ v. X * tx v) pz a b c 0 p q r
      flat high_z a b c p q r = by_g (λ v. rest Y (py v)) (λ v. X * tx v) pz a b c Z p q r

  push_z : sum_of t n (at₃ (λ v. rest Z (pz v)) (λ v. X * tx v) (λ v. Y * ty v)) ≡ pos 0
  push_z = push (λ v. rest Z (pz v)) (λ v. X * tx v) (λ v. Y * ty v) flat
    where
      flat : (w : Wall) (a b c : ℕ) → On M R w a → On M R w b → On M R w c → triples (push_parts (λ v. rest Z (pz v)) (λ v. X * tx v) (λ v. Y * ty v)) a b c ≡ pos 0
      flat low_z a b c p q r = by_h (λ v. rest Z (pz v)) (λ v. X * tx v) (λ v. Y * ty v) a b c (rest_low Z (pz a) p) (rest_low Z (pz b) q) (rest_low Z (pz c) r)
      flat high_z a b c p q r = by_h (λ v. rest Z (pz v)) (λ v. X * tx v) (λ v. Y * ty v) a b c (rest_at Z (pz a) p) (rest_at Z (pz b) q) (rest_at Z (pz c) r)
      flat low_x a b c p q r = by_u (λ v. rest Z (pz v)) (λ v. X * tx v) (λ v. Y * ty v) a b c (X * top X 0) (ap (λ m. X * top X m) p) (ap (λ m. X * top X m) q) (ap (λ m. X * top X m) r)
      flat high_x a b c p q r = by_u (λ v. rest Z (pz v)) (λ v. X * tx v) (λ v. Y * ty v) a b c (X * top X X) (ap (λ m. X * top X m) p) (ap (λ m. X * top X m) q) (ap (λ m. X * top X m) r)
      flat low_y a b c p q r = by_g (λ v. rest Z (pz v)) (λ v. X * tx v) (λ v. Y * ty v) a b c (Y * top Y 0) (ap (λ m. Y * top Y m) p) (ap (λ m. Y * top Y m) q) (ap (λ m. Y * top Y m) r)
      flat high_y a b c p q r = by_g (λ v. rest Z (pz v)) (λ v. X * tx v) (λ v. Y * ty v) a b c (Y * top Y Y) (ap (λ m. Y * top Y m) p) (ap (λ m. Y * top Y m) q) (ap (λ m. Y * top Y m) r)

  -- every coordinate pushed to its two walls
  corners_sum : sum_of t n (at₃ px py pz) ≡ sum_of t n (at₃ tx ty tz) *ℤ (pos X *ℤ pos Y *ℤ pos Z)
  corners_sum =
      (λ i. sum_of t n (at₃ (λ v. parts X (px v) i) py pz)) ∙
      (sum_x t n (λ v. rest X (px v)) (λ v. X * tx v) py pz ∙
      (ap (λ z. z +ℤ sum_of t n (at₃ (λ v. X * tx v) py pz)) push_x ∙ (+ℤ_idl _ ∙
      ((λ i. sum_of t n (at₃ (λ v. X * tx v) (λ v. parts Y (py v) i) pz)) ∙
      (sum_y t n (λ v. rest Y (py v)) (λ v. Y * ty v) (λ v. X * tx v) pz ∙
      (ap (λ z. neg_ℤ z +ℤ sum_of t n (at₃ (λ v. X * tx v) (λ v. Y * ty v) pz)) push_y ∙ (+ℤ_idl _ ∙
      ((λ i. sum_of t n (at₃ (λ v. X * tx v) (λ v. Y * ty v) (λ v. parts Z (pz v) i))) ∙
      (sum_z t n (λ v. rest Z (pz v)) (λ v. Z * tz v) (λ v. X * tx v) (λ v. Y * ty v) ∙
      (ap (λ z. z +ℤ sum_of t n (at₃ (λ v. X * tx v) (λ v. Y * ty v) (λ v. Z * tz v))) push_z ∙ (+ℤ_idl _ ∙
      sum_scale t n X Y Z tx ty tz)))))))))))

  abbrev label : ℕ → Position
  label v = label_of X Y Z (point t v)

  label_closed : sums_of t n (label_parts tx ty tz) ≡ pos 0
  label_closed = closed M R (label_parts tx ty tz) flat
    where
      off : (S v : ℕ) → 1 ≤ S → v ≡ 0 → top S v ≡ 0
      off S v h e = top_off S v (omega arith)

      flat : (w : Wall) (a b c : ℕ) → On M R w a → On M R w b → On M R w c → triples (label_parts tx ty tz) a b c ≡ pos 0
      flat low_x a b c p q r =
          (λ i. labelled (off X (px a) M.side_x.low p i) (off X (px b) M.side_x.low q i) (off X (px c) M.side_x.low r i) (ty a) (ty b) (ty c) (tz a) (tz b) (tz c)) ∙ labelled_A0 (ty a) (ty b) (ty c) (tz a) (tz b) (tz c)
      flat high_x a b c p q r =
          (λ i. labelled (top_at X (px a) p i) (top_at X (px b) q i) (top_at X (px c) r i) (ty a) (ty b) (ty c) (tz a) (tz b) (tz c)) ∙ labelled_A1 (ty a) (ty b) (ty c) (tz a) (tz b) (tz c)
      flat low_y a b c p q r =
          (λ i. labelled (tx a) (tx b) (tx c) (off Y (py a) M.side_y.low p i) (off Y (py b) M.side_y.low q i) (off Y (py c) M.side_y.low r i) (tz a) (tz b) (tz c)) ∙ labelled_B0 (tx a) (tx b) (tx c) (tz a) (tz b) (tz c)
      flat high_y a b c p q r =
          (λ i. labelled (tx a) (tx b) (tx c) (top_at Y (py a) p i) (top_at Y (py b) q i) (top_at Y (py c) r i) (tz a) (tz b) (tz c)) ∙ labelled_B1 (tx a) (tx b) (tx c) (tz a) (tz b) (tz c)
      flat low_z a b c p q r =
          (λ i. labelled (tx a) (tx b) (tx c) (ty a) (ty b) (ty c) (off Z (pz a) M.side_z.low p i) (off Z (pz b) M.side_z.low q i) (off Z (pz c) M.side_z.low r i)) ∙ labelled_C0 (tx a) (tx b) (tx c) (ty a) (ty b) (ty c)
      flat high_z a b c p q r =
          (λ i. labelled (tx a) (tx b) (tx c) (ty a) (ty b) (ty c) (top_at Z (pz a) p i) (top_at Z (pz b) q i) (top_at Z (pz c) r i)) ∙ labelled_C1 (tx a) (tx b) (tx c) (ty a) (ty b) (ty c)

  six_labels : pos 6 *ℤ sum_of t n label ≡ sum_of t n (at₃ tx ty tz)
  six_labels =
      combine (con (pos 6) ⊗ var 0) (var 1)
      (hyp (con (pos 1)) (con (pos 6) ⊗ var 0 ⊕ (con (negsuc 0) ⊗ var 1 ⊕ var 2)) (con (pos 0)) ∷ hyp (con (negsuc 0)) (var 2) (con (pos 0)) ∷ []) tt
      (sum_of t n label ∷ sum_of t n (at₃ tx ty tz) ∷ sums_of t n (coplanar (label_rest tx ty tz)) ∷ []) (label_closed, (coplanar_sums t n (label_rest tx ty tz), tt))

  volumes_are : sum_of t n (at₃ px py pz) ≡ pos 6 *ℤ pos X *ℤ pos Y *ℤ pos Z
  unfolding sum_of corner_at cell_volume
  volumes_are = M.volumes

  -- THE LABELS' VOLUMES SUM TO 1
  pub labels_one : sum_of t n label ≡ pos 1
  labels_one =
      eq_of_sub (sum_of t n label) (pos 1)
      (cancel_zero {a = pos 6 *ℤ pos X *ℤ pos Y *ℤ pos Z} (sum_of t n label -ℤ pos 1)
      (*-pos (*-pos (*-pos {a = pos 6} {b = pos X} (omega arithℤ) (pos_pos X M.side_x.low)) (pos_pos Y M.side_y.low)) (pos_pos Z M.side_z.low))
      (combine (con (pos 6) ⊗ var 2 ⊗ var 3 ⊗ var 4 ⊗ (var 0 ⊖ con (pos 1))) (con (pos 0))
      (hyp (var 2 ⊗ var 3 ⊗ var 4) (con (pos 6) ⊗ var 0) (var 1) ∷ hyp (con (negsuc 0)) (con (pos 6) ⊗ var 2 ⊗ var 3 ⊗ var 4) (var 1 ⊗ (var 2 ⊗ var 3 ⊗ var 4)) ∷ [])
      tt (sum_of t n label ∷ sum_of t n (at₃ tx ty tz) ∷ pos X ∷ pos Y ∷ pos Z ∷ [])
      (six_labels, (sym volumes_are ∙ corners_sum, tt))))

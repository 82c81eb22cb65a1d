-- Nowhere uncovered: every place of the box is held by a cell; and the straight walk from any cell leads to one.
use Prim.Native.Nat.{ℕ, ◌+◌, ◌*◌, ◌/◌, ◌%◌, ◌<◌}
use mathlib.Core.Logic.{◌≢◌}
use mathlib.Core.Path.{◌≡◌, refl, sym, ap, ap₂, ◌∙◌, subst}
use mathlib.Core.List.{[], ◌∷◌}
use native.Mathlib.Omega.{arith}
use native.Mathlib.Decide.{ℕ_discrete}
use lib.IntN.{ℤ, pos, ◌+ℤ◌, ◌-ℤ◌, ◌*ℤ◌, zero-*ℤ, +ℤ_idr}
use lib.Signed.{◌<ℤ◌, ◌≤ℤ◌}
use Rattle.arith.specs.Table.{sum}
use Rattle.arith.proofs.Order.{arithℤ, <→≤, ≡→≤, <-irrefl, ≤-<-trans, cancel_zero}
use Rattle.arith.proofs.Ring.{var, con, ◌⊕◌, ◌⊖◌, ◌⊗◌, ring}
use Rattle.arith.proofs.Combine.{nonneg, times, term, done}
use Rattle.arith.proofs.Sums.{sum_pos}
use Rattle.geometry.specs.Volume.{replaced}
use Rattle.geometry.proofs.Places.{replaced_same, replaced_other}
use Rattle.geometry.proofs.Algebra.{volume_id, volume_zero}
use Rattle.mesh.specs.Tables.{Tables, corner_at, cell_volume, IsCell}
use Rattle.mesh.specs.Mesh.{CornerOf, IsMesh}
use Rattle.mesh.proofs.Room.{Room}
use Rattle.mesh.proofs.Live.{live_of}
use Rattle.mesh.proofs.Held.{side_at_lem}
use Rattle.mesh.proofs.FaceNumbers.{face_in}
use Rattle.covering.specs.Place.{Place, InBoxAt}
use Rattle.covering.specs.Holders.{FacePath, here, step}
use Rattle.covering.proofs.Linear.{placed, form, HoldsForm, InsideForm, mix, form_mix, form_whole}
use Rattle.covering.proofs.Avoid.{Linear, Avoids, avoid}
use Rattle.covering.proofs.Fields.{blend, form_field}
use Rattle.covering.proofs.Walk.{cut, Generic, Leaves, Walks, Walked, arrived, first_left, second_left, walk_from}
use Rattle.covering.proofs.Walls.{wall_inner_form}

-- ---- a cell's own corners

module _ (t : Tables) (c : ℕ) where
  pub form_own : (i : ℕ) → i < 4 → form t (placed t c i) (4 * c + i) ≡ cell_volume t c
  unfolding cell_volume
  form_own i h = form_whole t (corner_at t c i) (4 * c + i) ∙ (side_at_lem t (corner_at t c i) c i h ∙ volume_id (corner_at t c) i (corner_at t c i) refl)

  pub form_off : (i j : ℕ) → i < 4 → j < 4 → i ≢ j → form t (placed t c i) (4 * c + j) ≡ pos 0
  form_off i j hi hj d =
      form_whole t (corner_at t c i) (4 * c + j) ∙ (side_at_lem t (corner_at t c i) c j hj ∙
      volume_zero (replaced (corner_at t c) j (corner_at t c i)) i j hi hj d
      (replaced_other (corner_at t c) j (corner_at t c i) i d ∙ sym (replaced_same (corner_at t c) j (corner_at t c i))))

  cut_own : (q : ℕ → ℤ) (i j : ℕ) → i < 4 → j < 4 → i ≢ j → cut q c i j (form t (placed t c i)) ≡ cell_volume t c *ℤ q (4 * c + j)
  cut_own q i j hi hj d =
      ap₂ (λ u v. u *ℤ q (4 * c + j) -ℤ v *ℤ q (4 * c + i)) (form_own i hi) (form_off i j hi hj d) ∙
      (ap (λ u. cell_volume t c *ℤ q (4 * c + j) -ℤ u) (zero-*ℤ (q (4 * c + i))) ∙ +ℤ_idr (cell_volume t c *ℤ q (4 * c + j)))

-- ---- F2: near a given place, one from which the line to q meets no two planes of a cell at once

pub record Start (t : Tables) (n : ℕ) (q : ℕ → ℤ) (x₀ x : Place) : Type 0 where
  pub generic : Generic t n q (form t x)
  pub near : (c : ℕ) → c < n → InsideForm t x₀ c → InsideForm t x c
  pub below : (f : ℕ) → f < 4 * n → form t x₀ f <ℤ pos 0 → form t x f <ℤ pos 0

module _ {X Y Z pc cc np n : ℕ} {t : Tables} (M : IsMesh X Y Z pc cc np n t) (q : ℕ → ℤ) where
  cut_mix : (c i j : ℕ) → Linear (λ x. cut q c i j (form t x))
  cut_mix c i j m p k r =
      ap₂ (λ u v. u *ℤ q (4 * c + j) -ℤ v *ℤ q (4 * c + i)) (form_mix t m p k r (4 * c + i)) (form_mix t m p k r (4 * c + j)) ∙
      ring ((var 0 ⊗ var 1 ⊕ var 2 ⊗ var 3) ⊗ var 4 ⊖ (var 0 ⊗ var 5 ⊕ var 2 ⊗ var 6) ⊗ var 7)
      (var 0 ⊗ (var 1 ⊗ var 4 ⊖ var 5 ⊗ var 7) ⊕ var 2 ⊗ (var 3 ⊗ var 4 ⊖ var 6 ⊗ var 7)) tt
      (pos m ∷ form t p (4 * c + i) ∷ pos k ∷ form t r (4 * c + i) ∷ q (4 * c + j) ∷ form t p (4 * c + j) ∷ form t r (4 * c + j) ∷ q (4 * c + i) ∷ [])

  abbrev plane : ℕ → Place → ℤ
  plane κ x = cut q (κ / 16) (κ / 4 % 4) (κ % 4) (form t x)

  abbrev tip : ℕ → Place
  tip κ = placed t (κ / 16) (κ / 4 % 4)

  pub start : (x₀ : Place) → (x : Place) × Start t n q x₀ x
  start x₀ =
      go (avoid (4 * n) (λ f x. form t x f) (λ f m p k r. form_mix t m p k r f) plane (λ κ. cut_mix (κ / 16) (κ / 4 % 4) (κ % 4)) tip (16 * n) x₀)
    where
      go : (x : Place) × Avoids (4 * n) (λ f x. form t x f) (λ f m p k r. form_mix t m p k r f) plane (λ κ. cut_mix (κ / 16) (κ / 4 % 4) (κ % 4)) tip (16 * n) x₀ x →
          (x : Place) × Start t n q x₀ x
      go (x, A) = (x, record { generic = gen; near = λ c l i k h. A.keeps (4 * c + k) (omega arith) (i k h); below = A.keeps_below })
        where
          gen : Generic t n q (form t x)
          gen c i j l hi hj d z e =
              A.off κ (omega (arith, l.below))
              (λ u. z (cancel_zero {a = cell_volume t c} (q (4 * c + j)) (M.positive c l) (sym (cut_own t c q i j hi hj d) ∙ (sym (at (placed t c i)) ∙ (ap (λ y. plane κ y) (sym tip_is) ∙ u)))))
              (at x ∙ e)
            where
              κ : ℕ
              κ = 16 * c + 4 * i + j

              κc : κ / 16 ≡ c
              κc = omega arith

              κi : κ / 4 % 4 ≡ i
              κi = omega arith

              κj : κ % 4 ≡ j
              κj = omega arith

              at : (y : Place) → plane κ y ≡ cut q c i j (form t y)
              at y = λ ι. cut q (κc ι) (κi ι) (κj ι) (form t y)

              tip_is : tip κ ≡ placed t c i
              tip_is = λ ι. placed t (κc ι) (κi ι)

-- ---- the middle of a cell

abbrev pub middle : Tables → ℕ → Place
middle t c = mix 1 (mix 1 (placed t c 0) 1 (placed t c 1)) 1 (mix 1 (placed t c 2) 1 (placed t c 3))

four_pos : (u : ℕ → ℤ) → ((i : ℕ) → i < 4 → pos 0 ≤ℤ u i) → (k : ℕ) → k < 4 → pos 0 <ℤ u k →
    pos 0 <ℤ (pos 1 *ℤ (pos 1 *ℤ u 0 +ℤ pos 1 *ℤ u 1) +ℤ pos 1 *ℤ (pos 1 *ℤ u 2 +ℤ pos 1 *ℤ u 3))
unfolding sum
four_pos u all k h l =
    subst (λ z. pos 0 <ℤ z)
    (ring (con (pos 0) ⊕ var 0 ⊕ var 1 ⊕ var 2 ⊕ var 3) (con (pos 1) ⊗ (con (pos 1) ⊗ var 0 ⊕ con (pos 1) ⊗ var 1) ⊕ con (pos 1) ⊗ (con (pos 1) ⊗ var 2 ⊕ con (pos 1) ⊗ var 3)) tt (u 0 ∷ u 1 ∷ u 2 ∷ u 3 ∷ []))
    (sum_pos 4 u all k h l)

middle_side : (t : Tables) (c f : ℕ) → form t (middle t c) f ≡
    pos 1 *ℤ (pos 1 *ℤ form t (placed t c 0) f +ℤ pos 1 *ℤ form t (placed t c 1) f) +ℤ pos 1 *ℤ (pos 1 *ℤ form t (placed t c 2) f +ℤ pos 1 *ℤ form t (placed t c 3) f)
middle_side t c f =
    form_mix t 1 (mix 1 (placed t c 0) 1 (placed t c 1)) 1 (mix 1 (placed t c 2) 1 (placed t c 3)) f ∙
    ap₂ (λ u v. pos 1 *ℤ u +ℤ pos 1 *ℤ v) (form_mix t 1 (placed t c 0) 1 (placed t c 1) f) (form_mix t 1 (placed t c 2) 1 (placed t c 3) f)

-- what is not negative at the four corners is not negative in the middle
pub middle_nonneg : (t : Tables) (c f : ℕ) → ((i : ℕ) → i < 4 → pos 0 ≤ℤ form t (placed t c i) f) → pos 0 ≤ℤ form t (middle t c) f
middle_nonneg t c f all =
    subst (λ z. pos 0 ≤ℤ z) (sym (middle_side t c f))
    (nonneg
    (con (pos 1) ⊗ (con (pos 1) ⊗ var 0 ⊕ con (pos 1) ⊗ var 1) ⊕ con (pos 1) ⊗ (con (pos 1) ⊗ var 2 ⊕ con (pos 1) ⊗ var 3))
    (times (con (pos 1)) (var 0) ∷ times (con (pos 1)) (var 1) ∷ times (con (pos 1)) (var 2) ∷ times (con (pos 1)) (var 3) ∷ []) tt
    (form t (placed t c 0) f ∷ form t (placed t c 1) f ∷ form t (placed t c 2) f ∷ form t (placed t c 3) f ∷ [])
    (term one (all 0 (omega arith)) (term one (all 1 (omega arith)) (term one (all 2 (omega arith)) (term one (all 3 (omega arith)) done)))))
  where
    one : pos 0 ≤ℤ pos 1
    one = omega arithℤ

pub path_map : {t : Tables} {n : ℕ} {P Q : ℕ → ℕ → Type 0} → ((c k : ℕ) → P c k → Q c k) → {c d : ℕ} → FacePath t n P c d → FacePath t n Q c d
path_map f here = here
path_map f (step {c} k h x u v) = step k h (f c k x) u (path_map f v)

-- where the straight walk from c to q ends
pub record Reached (t : Tables) (n : ℕ) (q : Place) (c : ℕ) : Type 0 where
  pub cell : ℕ
  pub cell< : IsCell t n cell
  pub path : FacePath t n (λ c k. form t q (4 * c + k) <ℤ pos 0) c cell
  pub holds : HoldsForm t q cell

module _ {X Y Z pc cc np n : ℕ} {t : Tables} (M : IsMesh X Y Z pc cc np n t) where
  pub middle_inside : (c : ℕ) → IsCell t n c → InsideForm t (middle t c) c
  middle_inside c l k h =
      subst (λ z. pos 0 <ℤ z) (sym (middle_side t c (4 * c + k)))
      (four_pos (λ i. form t (placed t c i) (4 * c + k)) (λ i hi. each i hi (ℕ_discrete i k)) k h (full k h))
    where
      full : (i : ℕ) → i < 4 → pos 0 <ℤ form t (placed t c i) (4 * c + i)
      full i hi = subst (λ z. pos 0 <ℤ z) (sym (form_own t c i hi)) (M.positive c l)

      each : (i : ℕ) → i < 4 → Dec (i ≡ k) → pos 0 ≤ℤ form t (placed t c i) (4 * c + k)
      each i hi (yes e) = subst (λ x. pos 0 ≤ℤ form t (placed t c i) (4 * c + x)) e (<→≤ (full i hi))
      each i hi (no d) = ≡→≤ (sym (form_off t c i k hi h d))

  module _ (R : Room pc cc t) where
    -- an entry with a point of the mesh for a corner is a cell
    pub used_cell : (v : ℕ) → v < np → (U : CornerOf t n v) → IsCell t n U.cell
    used_cell v h U = record { below = U.cell<; lives = live_of t U.cell U.place U.place< (omega (arith, U.is, M.points≤, R.points≤)) }

    -- to a place of the box no walk leaves it
    pub walk_to : (q : Place) → InBoxAt X Y Z q → (Way : (ℕ → ℤ) → Type 0) →
        ((a : ℤ) (p : ℕ → ℤ) (b : ℤ) → pos 0 <ℤ a → pos 0 ≤ℤ b → Way p → Way (blend a p b (form t q))) → (x : Place) → Way (form t x) → Generic t n (form t q) (form t x) →
        (c₁ c₂ : ℕ) → IsCell t n c₁ → IsCell t n c₂ → InsideForm t x c₁ → InsideForm t x c₂ → Walks t n (form t q) Way c₁ c₂
    walk_to q box Way on x w gen c₁ c₂ l₁ l₂ i₁ i₂ = go (walk_from M R (form t q) (form_field M R q) Way on (form t x) (form_field M R x) w gen c₁ c₂ l₁ l₂ i₁ i₂)
      where
        never : {c : ℕ} → Leaves t n (form t q) c → ⊥
        never L = <-irrefl (≤-<-trans (wall_inner_form M (4 * L.end + L.wall) (face_in L.end L.wall L.wall< L.end<) L.bare q box) L.beyond)

        go : Walked t n (form t q) Way c₁ c₂ → Walks t n (form t q) Way c₁ c₂
        go (arrived W) = W
        go (first_left L) = absurd (never L)
        go (second_left L) = absurd (never L)

    -- two cells strictly around one place: from each a path to a cell that holds q, and these differ if the two do
    pub two_walks : (q : Place) → InBoxAt X Y Z q → (x : Place) (c₁ c₂ : ℕ) → IsCell t n c₁ → IsCell t n c₂ → InsideForm t x c₁ → InsideForm t x c₂ → Walks t n (form t q) (λ p. Unit {0}) c₁ c₂
    two_walks q box x₀ c₁ c₂ l₁ l₂ i₁ i₂ = go (start M (form t q) x₀)
      where
        go : (x : Place) × Start t n (form t q) x₀ x → Walks t n (form t q) (λ p. Unit {0}) c₁ c₂
        go (x, S) = walk_to q box (λ p. Unit {0}) (λ a p b h k w. tt) x tt S.generic c₁ c₂ l₁ l₂ (S.near c₁ l₁.below i₁) (S.near c₂ l₂.below i₂)

    -- F4: THE STRAIGHT WALK
    pub straight_walk : (q : Place) → InBoxAt X Y Z q → (c : ℕ) → IsCell t n c → Reached t n q c
    straight_walk q box c l = go (two_walks q box (middle t c) c c l l (middle_inside c l) (middle_inside c l))
      where
        go : Walks t n (form t q) (λ p. Unit {0}) c c → Reached t n q c
        go L = record { cell = L.end₁; cell< = L.end₁<; path = path_map (λ c k x. x.separates) L.path; holds = L.holds₁ }

    -- NOWHERE UNCOVERED
    pub held : (q : Place) → InBoxAt X Y Z q → (c : ℕ) × IsCell t n c × HoldsForm t q c
    held q box = go (straight_walk q box some.cell (used_cell 0 (omega (arith, M.points≥)) some))
      where
        some : CornerOf t n 0
        some = M.used 0 (omega (arith, M.points≥))

        go : Reached t n q some.cell → (c : ℕ) × IsCell t n c × HoldsForm t q c
        go r = (r.cell, r.cell<, r.holds)

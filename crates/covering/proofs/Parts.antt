-- What the definitions in parts of a step are by forms, and at whole steps.
use Prim.Native.Nat.{ℕ, ◌+◌, ◌*◌, ◌≤◌, ◌<◌}
use mathlib.Core.Bool.{true, false}
use mathlib.Core.List.{List, [], ◌∷◌, map}
use mathlib.Core.Logic.{◌⊎◌, inl, inr, ◌↔◌}
use mathlib.Core.Path.{◌≡◌, refl, sym, ap, ap₂, ◌∙◌, subst}
use native.Mathlib.Omega.{arith}
use native.Mathlib.Decide.{ℕ_discrete}
use lib.IntN.{ℤ, pos, ◌*ℤ◌, *ℤ-zero, zero-*ℤ}
use lib.ListN.{get_or, get_or-map}
use lib.Signed.{◌≤ℤ◌, ◌<ℤ◌, le_z, lt_z}
use Rattle.arith.specs.Table.{all_below}
use Rattle.arith.proofs.Flags.{split, and_left, and_right, and_intro, below_four}
use Rattle.arith.proofs.Order.{arithℤ, le_z_true, le_le_z, lt_z_true, lt_lt_z, *-nonneg, *-pos, *-neg-r, cancel_nonneg, cancel_pos, cancel_zero, <→≤, <-irrefl}
use Rattle.arith.proofs.Ring.{var, ◌⊗◌, ring}
use Rattle.arith.proofs.Tables.{all_at, all_intro}
use Rattle.geometry.specs.declared.Position.{Position}
use Rattle.geometry.specs.Volume.{InBox, volume6, volume, replaced}
use Rattle.geometry.proofs.Algebra.{volume_zero}
use Rattle.mesh.specs.Tables.{Tables, point_in, point, cell_of, opposite, corner, corner_at, cell_volume, side, live, IsCell}
use Rattle.mesh.proofs.Live.{live_same, freed_corner}
use Rattle.mesh.proofs.Held.{side_at_lem}
use Rattle.mesh.proofs.FaceNumbers.{opposite<}
use Rattle.locate.specs.Locate.{holds}
use Rattle.covering.specs.Place.{Place, whole, in_parts, InBoxAt, tables_in_parts, holds_at, side_at, inside_at}
use Rattle.covering.specs.Holders.{weight}
use Rattle.covering.proofs.Linear.{Row, row, p₃, q₄, rx, ry, rz, env₃, env₄, atₑ, sixₑ, row_volume, replaced_row, form, HoldsForm, InsideForm}

-- ---- at whole steps

map_one : (l : List ℕ) → map (λ x. 1 * x) l ≡ l
map_one [] = refl
map_one (x ∷ l) = ap₂ ◌∷◌ (one x) (map_one l)
  where
    one : (x : ℕ) → 1 * x ≡ x
    one x = omega arith

tables_whole : (t : Tables) → tables_in_parts 1 t ≡ t
unfolding tables_in_parts
tables_whole t = λ i. record { points = map_one t.points i; corners = t.corners; neighbours = t.neighbours }

-- AT WHOLE STEPS HOLDING IS LOCATE'S OWN
pub holds_whole : (t : Tables) (p : Position) (c : ℕ) → holds_at t (whole p) c ≡ holds t p c
unfolding holds_at holds
holds_whole t p c = ap (λ u. holds u p c) (tables_whole t)

pub side_whole : (t : Tables) (p : Position) (f : ℕ) → side_at t (whole p) f ≡ side t p f
unfolding side_at
side_whole t p f = ap (λ u. side u p f) (tables_whole t)

pub weight_whole : (t : Tables) (p : Position) (c : ℕ) → weight t (whole p) c ≡ cell_volume t c
unfolding weight
weight_whole t p c = ap (λ u. cell_volume u c) (tables_whole t)

pub whole_in_box : {X Y Z : ℕ} {p : Position} → InBox X Y Z p → InBoxAt X Y Z (whole p)
whole_in_box box = record {
  w≥ = omega arith;
  box = record { x≤ = omega (arith, box.x≤); y≤ = omega (arith, box.y≤); z≤ = omega (arith, box.z≤) };
}

-- ---- volumes of scaled positions

abbrev scaled : ℕ → Position → Position
scaled w p = record { x = w * p.x; y = w * p.y; z = w * p.z }

-- point k with its coordinates times variable 15
abbrev scaledₑ : ℕ → Row
scaledₑ k = row (var 15 ⊗ rx (p₃ k)) (var 15 ⊗ ry (p₃ k)) (var 15 ⊗ rz (p₃ k)) (var 15)

abbrev Scales : (ℕ → Position) → Place → ℕ → Type 0
Scales s q i =
    volume (replaced (λ k. scaled q.w (s k)) i (in_parts q)) ≡ (pos q.w *ℤ pos q.w) *ℤ row_volume (replaced_row (λ k. whole (s k)) i q)

replaced_scaled : (s : ℕ → Position) (q : Place) (i : ℕ) → i < 4 → Scales s q i
unfolding row_volume volume volume6
replaced_scaled s q =
    below_four (Scales s q)
    (ring (sixₑ q₄ (scaledₑ 1) (scaledₑ 2) (scaledₑ 3)) (var 15 ⊗ var 15 ⊗ atₑ q₄ (p₃ 1) (p₃ 2) (p₃ 3)) tt values)
    (ring (sixₑ (scaledₑ 0) q₄ (scaledₑ 2) (scaledₑ 3)) (var 15 ⊗ var 15 ⊗ atₑ (p₃ 0) q₄ (p₃ 2) (p₃ 3)) tt values)
    (ring (sixₑ (scaledₑ 0) (scaledₑ 1) q₄ (scaledₑ 3)) (var 15 ⊗ var 15 ⊗ atₑ (p₃ 0) (p₃ 1) q₄ (p₃ 3)) tt values)
    (ring (sixₑ (scaledₑ 0) (scaledₑ 1) (scaledₑ 2) q₄) (var 15 ⊗ var 15 ⊗ atₑ (p₃ 0) (p₃ 1) (p₃ 2) q₄) tt values)
  where
    values : List ℤ
    values = env₃ (s 0 ∷ s 1 ∷ s 2 ∷ s 3 ∷ []) (env₄ (q ∷ []) [])

volume_scaled : (s : ℕ → Position) (q : Place) → volume (λ k. scaled q.w (s k)) ≡ (pos q.w *ℤ pos q.w *ℤ pos q.w) *ℤ volume s
unfolding volume volume6
volume_scaled s q =
    ring (sixₑ (scaledₑ 0) (scaledₑ 1) (scaledₑ 2) (scaledₑ 3)) (var 15 ⊗ var 15 ⊗ var 15 ⊗ sixₑ (p₃ 0) (p₃ 1) (p₃ 2) (p₃ 3)) tt
    (env₃ (s 0 ∷ s 1 ∷ s 2 ∷ s 3 ∷ []) (env₄ (q ∷ []) []))

-- ---- by forms; `holds` is unfolded also where only an edit needs it, which is then refused for the test that differs

module _ (t : Tables) where
  entry : (w : ℕ) (l : List ℕ) (i : ℕ) → get_or (map (λ x. w * x) l) i 0 ≡ w * get_or l i 0
  entry w l i = subst (λ d. get_or (map (λ x. w * x) l) i d ≡ w * get_or l i 0) none_left (get_or-map (λ x. w * x) l i 0)
    where
      none_left : w * 0 ≡ 0
      none_left = omega arith

  corner_scaled : (w c i : ℕ) → corner_at (tables_in_parts w t) c i ≡ scaled w (corner_at t c i)
  unfolding corner_at point_in tables_in_parts corner
  corner_scaled w c i = λ ι. record {
    x = entry w t.points (3 * corner t c i) ι;
    y = entry w t.points (3 * corner t c i + 1) ι;
    z = entry w t.points (3 * corner t c i + 2) ι;
  }

  pub side_form : (q : Place) (f : ℕ) → side_at t q f ≡ (pos q.w *ℤ pos q.w) *ℤ form t q f
  unfolding side_at side form
  side_form q f =
      (λ ι. volume (replaced (λ k. corner_scaled q.w (cell_of f) k ι) (opposite f) (in_parts q))) ∙
      replaced_scaled (corner_at t (cell_of f)) q (opposite f) (opposite< f)

  pub weight_form : (q : Place) (c : ℕ) → weight t q c ≡ (pos q.w *ℤ pos q.w *ℤ pos q.w) *ℤ cell_volume t c
  unfolding weight cell_volume
  weight_form q c = (λ ι. volume (λ k. corner_scaled q.w c k ι)) ∙ volume_scaled (corner_at t c) q

  live_parts : (w c : ℕ) → live (tables_in_parts w t) c ≡ live t c
  unfolding tables_in_parts corner
  live_parts w c = live_same (tables_in_parts w t) t c c (λ i h. refl)

  -- what holds a place is a cell
  pub holder_at : (q : Place) {n c : ℕ} → c < n → holds_at t q c ≡ true → IsCell t n c
  unfolding holds_at holds side_at
  holder_at q {n} {c} l e = record { below = l; lives = sym (live_parts q.w c) ∙ and_left (live (tables_in_parts q.w t) c) (all_below 4 (λ k. le_z (pos 0) (side_at t q (4 * c + k)))) e }

  module _ (q : Place) (w≥ : 1 ≤ q.w) where
    square : pos 0 <ℤ (pos q.w *ℤ pos q.w)
    square = *-pos {a = pos q.w} {b = pos q.w} (omega arithℤ) (omega arithℤ)

    pub separates_form : (f : ℕ) → form t q f <ℤ pos 0 → side_at t q f <ℤ pos 0
    separates_form f h = subst (λ z. z <ℤ pos 0) (sym (side_form q f)) (*-neg-r square h)

    pub plane_form : (f : ℕ) → (side_at t q f ≡ pos 0) ↔ (form t q f ≡ pos 0)
    plane_form f = (
      (λ e. cancel_zero (form t q f) square (sym (side_form q f) ∙ e)),
      (λ e. side_form q f ∙ (ap (λ z. (pos q.w *ℤ pos q.w) *ℤ z) e ∙ *ℤ-zero (pos q.w *ℤ pos q.w))),
    )

    module _ (c : ℕ) where
      pub holds_form : live t c ≡ true → (holds_at t q c ≡ true) ↔ HoldsForm t q c
      unfolding holds_at holds side_at
      holds_form a = (
        (λ e k h.
            cancel_nonneg (form t q (4 * c + k)) square
            (subst (λ z. pos 0 ≤ℤ z) (side_form q (4 * c + k))
            (le_z_true (pos 0) (side_at t q (4 * c + k))
            (all_at 4 (λ k. le_z (pos 0) (side_at t q (4 * c + k))) (and_right (live (tables_in_parts q.w t) c) (all_below 4 (λ k. le_z (pos 0) (side_at t q (4 * c + k)))) e) k h)))),
        (λ H.
            and_intro (live_parts q.w c ∙ a)
            (all_intro 4 (λ k. le_z (pos 0) (side_at t q (4 * c + k))) (λ k h. le_le_z (subst (λ z. pos 0 ≤ℤ z) (sym (side_form q (4 * c + k))) (*-nonneg (<→≤ square) (H k h)))))),
      )

      pub inside_form : (inside_at t q c ≡ true) ↔ InsideForm t q c
      unfolding inside_at holds side_at
      inside_form = (
        (λ e k h.
            cancel_pos (form t q (4 * c + k)) square
            (subst (λ z. pos 0 <ℤ z) (side_form q (4 * c + k)) (lt_z_true (pos 0) (side_at t q (4 * c + k)) (all_at 4 (λ k. lt_z (pos 0) (side_at t q (4 * c + k))) e k h)))),
        (λ H. all_intro 4 (λ k. lt_z (pos 0) (side_at t q (4 * c + k))) (λ k h. lt_lt_z (subst (λ z. pos 0 <ℤ z) (sym (side_form q (4 * c + k))) (*-pos square (H k h))))),
      )

  -- strictly on its side of face 0
  inside_first : (q : Place) (c : ℕ) → inside_at t q c ≡ true → pos 0 <ℤ side_at t q (4 * c + 0)
  unfolding inside_at holds side_at
  inside_first q c e = lt_z_true (pos 0) (side_at t q (4 * c + 0)) (all_at 4 (λ k. lt_z (pos 0) (side_at t q (4 * c + k))) e 0 (omega arith))

  -- an entry with a place strictly inside is a cell: a freed one has three times one point on each face
  pub insider_at : (q : Place) {n c : ℕ} → c < n → inside_at t q c ≡ true → IsCell t n c
  insider_at q {n} {c} l e = record { below = l; lives = sym (live_parts q.w c) ∙ go (split (live t₁ c)) }
    where
      t₁ : Tables
      t₁ = tables_in_parts q.w t

      flat : live t₁ c ≡ false → side_at t q (4 * c + 0) ≡ pos 0
      flat a =
          unfold side_at corner_at in side_at_lem t₁ (in_parts q) c 0 (omega arith) ∙
          volume_zero (replaced (corner_at t₁ c) 0 (in_parts q)) 1 2 (omega arith) (omega arith) (omega arith)
          (ap (point t₁) (freed_corner t₁ c a 1 (omega arith) ∙ sym (freed_corner t₁ c a 2 (omega arith))))

      go : (live t₁ c ≡ true) ⊎ (live t₁ c ≡ false) → live t₁ c ≡ true
      go (inl a) = a
      go (inr a) = absurd (<-irrefl (subst (λ z. pos 0 <ℤ z) (flat a) (inside_first q c e)))

  -- a place strictly inside a cell has a w above 0
  pub inside_w : (q : Place) (c : ℕ) → inside_at t q c ≡ true → 1 ≤ q.w
  inside_w q c e = go (ℕ_discrete q.w 0)
    where
      above : pos 0 <ℤ ((pos q.w *ℤ pos q.w) *ℤ form t q (4 * c + 0))
      above = subst (λ z. pos 0 <ℤ z) (side_form q (4 * c + 0)) (inside_first q c e)

      go : Dec (q.w ≡ 0) → 1 ≤ q.w
      go (yes z) = absurd (<-irrefl (subst (λ u. pos 0 <ℤ u) (ap (λ w. (pos w *ℤ pos w) *ℤ form t q (4 * c + 0)) z ∙ zero-*ℤ (form t q (4 * c + 0))) above))
      go (no d) = omega arith

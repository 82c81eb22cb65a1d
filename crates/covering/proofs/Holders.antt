-- The cells that hold one place, and the corners of cells.
use Prim.Native.Nat.{ℕ, ◌+◌, ◌*◌, ◌<◌}
use mathlib.Core.Bool.{true, cond}
use mathlib.Core.Logic.{◌≢◌, ◌⊎◌, inl, inr}
use mathlib.Core.Path.{◌≡◌, refl, sym, ap, ap₂, ◌∙◌, subst}
use mathlib.Core.List.{[], ◌∷◌}
use native.Mathlib.Omega.{arith}
use native.Mathlib.Decide.{ℕ_discrete}
use borrow.Author.Tests.{eq-eqb, ne_eqb}
use lib.Dec.{eqb}
use lib.IntN.{ℤ, pos, ◌*ℤ◌, *ℤ-zero, *ℤ_comm, zero-*ℤ}
use lib.Signed.{◌<ℤ◌, ◌≤ℤ◌}
use Rattle.arith.proofs.Combine.{hyp, combine}
use Rattle.arith.proofs.Integers.{one-*}
use Rattle.arith.proofs.Order.{<-irrefl, *-pos}
use Rattle.arith.proofs.Ring.{var, ◌⊗◌, ring}
use Rattle.arith.proofs.Sums.{sum_cong, sum_zero, sum_one, sum_times}
use Rattle.arith.proofs.Tables.{find}
use Rattle.mesh.specs.Tables.{Tables, point, corner, corner_at, cell_volume, IsCell}
use Rattle.mesh.specs.Mesh.{CornerOf, IsMesh}
use Rattle.mesh.proofs.Room.{Room}
use Rattle.mesh.proofs.Faces.{distinct}
use Rattle.mesh.proofs.Held.{own_corner, side_at_lem}
use Rattle.locate.specs.Locate.{holds}
use Rattle.locate.proofs.Codes.{holder_cell}
use Rattle.covering.specs.Place.{Place, whole, InBoxAt, holds_at, side_at, inside_at}
use Rattle.covering.specs.Holders.{FacePath, Separates, FaceHolds, weighted, weight, SameCorners}
use Rattle.covering.proofs.Linear.{placed, form, HoldsForm, form_whole}
use Rattle.covering.proofs.Cover.{path_map, Reached, straight_walk, used_cell, form_own, middle, middle_inside, middle_nonneg}
use Rattle.covering.proofs.Parts.{holds_whole, whole_in_box, side_form, weight_form, separates_form, holder_at, holds_form, insider_at, inside_form, inside_w}
use Rattle.covering.proofs.Shared.{form_weighted, held_inside, around, linked_value, same_value}

-- the weights are the forms, times w²
weighted_form : (t : Tables) (q : Place) (φ : ℕ → ℤ) (c : ℕ) → weighted t q φ c ≡ form_weighted t q φ c *ℤ (pos q.w *ℤ pos q.w)
unfolding weighted form_weighted
weighted_form t q φ c =
    sum_cong 4 (λ k. side_at t q (4 * c + k) *ℤ φ (corner t c k)) (λ k. (form t q (4 * c + k) *ℤ φ (corner t c k)) *ℤ (pos q.w *ℤ pos q.w))
    (λ k h.
    ap (λ z. z *ℤ φ (corner t c k)) (side_form t q (4 * c + k)) ∙
    ring (var 0 ⊗ var 1 ⊗ var 2) (var 1 ⊗ var 2 ⊗ var 0) tt ((pos q.w *ℤ pos q.w) ∷ form t q (4 * c + k) ∷ φ (corner t c k) ∷ [])) ∙
    sum_times 4 (λ k. form t q (4 * c + k) *ℤ φ (corner t c k)) (pos q.w *ℤ pos q.w)

-- 1 at the point number v, 0 elsewhere
abbrev pub only_at : ℕ → ℕ → ℤ
only_at v u = cond (eqb u v) (pos 1) (pos 0)

placed_at : (t : Tables) (c i v : ℕ) → corner t c i ≡ v → placed t c i ≡ whole (point t v)
unfolding corner_at
placed_at t c i v e = ap (λ u. whole (point t u)) e

-- a table of values that is 0 at a cell's corners is 0 in it; one that is 1 at one corner and 0 at the others is that corner's weight
module _ (t : Tables) (q : Place) (v c : ℕ) where
  pub value_none : ((k : ℕ) → k < 4 → corner t c k ≢ v) → form_weighted t q (only_at v) c ≡ pos 0
  unfolding form_weighted
  value_none off =
      sum_zero 4 (λ k. form t q (4 * c + k) *ℤ only_at v (corner t c k)) (λ k h. rw (ne_eqb (corner t c k) v (off k h)) (*ℤ-zero (form t q (4 * c + k))))

  pub value_one : (i : ℕ) → i < 4 → corner t c i ≡ v → ((k : ℕ) → k < 4 → k ≢ i → corner t c k ≢ v) → form_weighted t q (only_at v) c ≡ form t q (4 * c + i)
  unfolding form_weighted
  value_one i h e off =
      sum_one 4 (λ k. form t q (4 * c + k) *ℤ only_at v (corner t c k)) i h (λ k l d. rw (ne_eqb (corner t c k) v (off k l d)) (*ℤ-zero (form t q (4 * c + k)))) ∙
      rw (eq-eqb (corner t c i) v e) (*ℤ_comm (form t q (4 * c + i)) (pos 1) ∙ one-* (form t q (4 * c + i)))

module _ {X Y Z pc cc np n : ℕ} {t : Tables} (M : IsMesh X Y Z pc cc np n t) (R : Room pc cc t) where
  -- a cell's own corner is not beyond any of its faces
  corner_side : (c i k : ℕ) → IsCell t n c → i < 4 → k < 4 → pos 0 ≤ℤ form t (placed t c i) (4 * c + k)
  unfolding cell_volume
  corner_side c i k l hi hk =
      subst (λ z. pos 0 ≤ℤ z) (sym (form_whole t (corner_at t c i) (4 * c + k) ∙ side_at_lem t (corner_at t c i) c k hk))
      (own_corner (corner_at t c) k i hk hi (M.positive c l))

  -- from any cell a path through faces that separate it from a place leads to a cell that holds the place
  pub path_to_holder : (q : Place) → InBoxAt X Y Z q → (c : ℕ) → IsCell t n c → (d : ℕ) × (d < n) × (FacePath t n (Separates t q) c d × (holds_at t q d ≡ true))
  path_to_holder q box c l = go (straight_walk M R q box c l)
    where
      go : Reached t n q c → (d : ℕ) × (d < n) × (FacePath t n (Separates t q) c d × (holds_at t q d ≡ true))
      go r = (r.cell, r.cell<.below, (path_map (λ c k. separates_form t q box.w≥ (4 * c + k)) r.path, (holds_form t q box.w≥ r.cell r.cell<.lives).1 r.holds))

  -- a place strictly inside a cell is held by no other
  pub inside_held_alone : (q : Place) (c d : ℕ) → c < n → d < n → inside_at t q c ≡ true → holds_at t q d ≡ true → d ≡ c
  inside_held_alone q c d lc ld i h =
      let w≥ = inside_w t q c i in
      let D : IsCell t n d = holder_at t q ld h in
      held_inside M R q d c D (insider_at t q lc i) ((holds_form t q w≥ d D.lives).0 h) ((inside_form t q w≥ c).0 i)

  module _ (q : Place) (box : InBoxAt X Y Z q) (c d : ℕ) (lc : c < n) (ld : d < n) (hc : holds_at t q c ≡ true) (hd : holds_at t q d ≡ true) where
    C : IsCell t n c
    C = holder_at t q lc hc

    D : IsCell t n d
    D = holder_at t q ld hd

    -- cells that hold a place are linked through faces that hold it
    pub holders_linked : FacePath t n (FaceHolds t q) c d
    holders_linked = around M R q box c d C D ((holds_form t q box.w≥ c C.lives).0 hc) ((holds_form t q box.w≥ d D.lives).0 hd)

    -- every table of numbers on the points is interpolated alike from them
    pub interpolated_alike : (φ : ℕ → ℤ) → weighted t q φ c *ℤ weight t q d ≡ weighted t q φ d *ℤ weight t q c
    interpolated_alike φ =
        ap₂ ◌*ℤ◌ (weighted_form t q φ c) (weight_form t q d) ∙
        (combine (var 0 ⊗ var 4 ⊗ (var 4 ⊗ var 5 ⊗ var 3)) (var 1 ⊗ var 4 ⊗ (var 4 ⊗ var 5 ⊗ var 2))
        (hyp (var 4 ⊗ var 4 ⊗ var 5) (var 0 ⊗ var 3) (var 1 ⊗ var 2) ∷ []) tt
        (form_weighted t q φ c ∷ form_weighted t q φ d ∷ cell_volume t c ∷ cell_volume t d ∷ (pos q.w *ℤ pos q.w) ∷ pos q.w ∷ [])
        (linked_value M R q φ box.w≥ C holders_linked, tt) ∙
        sym (ap₂ ◌*ℤ◌ (weighted_form t q φ d) (weight_form t q c)))

  -- no two cells have the same four corners: the middle of the one would be held by the other
  pub corners_tell_cells : (c d : ℕ) → IsCell t n c → IsCell t n d → SameCorners t c d → c ≡ d
  corners_tell_cells c d lc ld same = sym (held_inside M R (middle t c) d c ld lc held (middle_inside M c lc))
    where
      held : HoldsForm t (middle t c) d
      held k h = middle_nonneg t c (4 * d + k) (λ i hi. at i hi (same i hi))
        where
          at : (i : ℕ) → i < 4 → (j : ℕ) × (j < 4) × (corner t d j ≡ corner t c i) → pos 0 ≤ℤ form t (placed t c i) (4 * d + k)
          at i hi (j, hj, e) =
              subst (λ p. pos 0 ≤ℤ form t p (4 * d + k)) (placed_at t d j (corner t c i) e ∙ sym (placed_at t c i (corner t c i) refl)) (corner_side d j k ld hj h)

  -- a cell that holds a point of the mesh has it as a corner: with 1 at this point and 0 at all others, the cells that hold it give one value
  pub held_point_is_corner : (v c : ℕ) → v < np → c < n → holds t (point t v) c ≡ true → (i : ℕ) × (i < 4) × (corner t c i ≡ v)
  held_point_is_corner v c lv lc e = go (find 4 (λ k. corner t c k ≡ v) (λ k. corner t c k ≢ v) (λ k h. each (ℕ_discrete (corner t c k) v)))
    where
      each : {k : ℕ} → Dec (k ≡ v) → (k ≡ v) ⊎ (k ≢ v)
      each (yes a) = inl a
      each (no a) = inr a

      q : Place
      q = whole (point t v)

      box : InBoxAt X Y Z q
      box = whole_in_box (M.inside v lv)

      U : CornerOf t n v
      U = M.used v lv

      d : ℕ
      d = U.cell

      at : placed t d U.place ≡ q
      at = placed_at t d U.place v U.is

      D : IsCell t n d
      D = used_cell M R v lv U

      C : IsCell t n c
      C = holder_cell t (point t v) lc e

      held : HoldsForm t q d
      held k h = subst (λ r. pos 0 ≤ℤ form t r (4 * d + k)) at (corner_side d U.place k D U.place< h)

      own : form_weighted t q (only_at v) d ≡ cell_volume t d
      own =
          value_one t q v d U.place U.place< U.is (λ k h a b. a (distinct M R d k U.place D h U.place< (b ∙ sym U.is))) ∙
          (ap (λ r. form t r (4 * d + U.place)) (sym at) ∙ form_own t d U.place U.place<)

      go : ((k : ℕ) × (k < 4) × (corner t c k ≡ v)) ⊎ ((k : ℕ) → k < 4 → corner t c k ≢ v) → (i : ℕ) × (i < 4) × (corner t c i ≡ v)
      go (inl r) = r
      go (inr off) =
          absurd (<-irrefl (subst (λ z. pos 0 <ℤ z)
          (ap (λ z. z *ℤ cell_volume t c) (sym own) ∙ (same_value M R q box (only_at v) d c D C held ((holds_form t q (omega arith) c C.lives).0 (holds_whole t (point t v) c ∙ e)) ∙
          (ap (λ z. z *ℤ cell_volume t d) (value_none t q v c off) ∙ zero-*ℤ (cell_volume t d))))
          (*-pos (M.positive d D) (M.positive c C))))

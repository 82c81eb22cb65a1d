-- Mates and turns of joined faces are joined.
use Prim.Native.Nat.{ℕ, ◌+◌, ◌*◌, ◌<◌}
use mathlib.Core.Bool.{Bool, true, false, cond, ◌||◌}
use mathlib.Core.List.{List}
use mathlib.Core.Logic.{◌≢◌}
use mathlib.Core.Path.{◌≡◌, refl, sym, ap, ap₂, ◌∙◌, subst}
use native.Mathlib.Omega.{arith}
use lib.Dec.{eqb}
use Rattle.arith.proofs.Flags.{clash}
use Rattle.arith.proofs.Tables.{all_cong}
use Rattle.geometry.specs.declared.Position.{Position}
use Rattle.mesh.specs.Tables.{Tables, cell_of, opposite, corner, across, mate, same_face, face_has, place_of}
use Rattle.mesh.proofs.Room.{room_of}
use Rattle.mesh.proofs.Faces.{glued}
use Rattle.mesh.proofs.FaceNumbers.{face_cell, face_opposite, face_eq, opposite<}
use Rattle.cavity.specs.Cavity.{in_set, outer, visible}
use Rattle.cavity.proofs.Tests.{visible_of}
use Rattle.star.specs.Turn.{State, in_face, out_face, cross, turn}
use Rattle.star.specs.Star.{turn_face}
use Rattle.star.proofs.Cross.{Valid, cross_valid}
use Rattle.star.proofs.Turn.{Walk, here, step, turned, stops, turn_valid}
use Rattle.layouts.specs.Same.{Next, no_cell, cells}
use Rattle.layouts.proofs.Alike.{AlikeMeshes, no_none, Faces}
use Rattle.layouts.proofs.Cavities.{Agree, next_same, has_alike}

module _ {R : ℕ → ℕ → Type 0} {np n n₁ : ℕ} {t t₁ : Tables} (T : AlikeMeshes R np t n t₁ n₁) where
  -- faces of joined cells
  pub faces_of_lem : (c d : ℕ) → R c d → (i : ℕ) → i < 4 → Faces R (4 * c + i) (4 * d + i)
  faces_of_lem c d r i h = record {
    joined = subst (λ x. R x (cell_of (4 * d + i))) (sym (face_cell c i h)) (subst (R c) (sym (face_cell d i h)) r);
    place = face_opposite c i h ∙ sym (face_opposite d i h);
  }

  -- what lies across
  pub next_alike : {f g : ℕ} → Faces R f g → Next R (across t f) (across t₁ g)
  next_alike {f} {g} w =
      subst (λ x. Next R (across t f) (across t₁ x)) (ap (λ i. 4 * cell_of g + i) w.place ∙ face_eq g)
      (subst (λ x. Next R (across t x) (across t₁ (4 * cell_of g + opposite f))) (face_eq f) (T.alike.neighbours (cell_of f) (cell_of g) w.joined (opposite f) (opposite< f)))

  -- ---- the mate

  same_alike : {f f₁ g g₁ : ℕ} → Faces R f f₁ → Faces R g g₁ → same_face t f g ≡ same_face t₁ f₁ g₁
  unfolding same_face
  same_alike {f} {f₁} {g} {g₁} w x =
      all_cong 4 (λ k. eqb k (opposite f) || face_has t g (corner t (cell_of f) k)) (λ k. eqb k (opposite f₁) || face_has t₁ g₁ (corner t₁ (cell_of f₁) k))
      (λ k h. ap₂ (λ o y. eqb k o || y) w.place
      (has_alike T x (corner t (cell_of f) k) ∙ ap (face_has t₁ g₁) (T.alike.corners (cell_of f) (cell_of f₁) w.joined k h)))

  pub mate_alike : {f g : ℕ} → Faces R f g → R (across t f) (across t₁ g) → Faces R (mate t f) (mate t₁ g)
  unfolding mate
  mate_alike {f} {g} w r =
      subst (λ z. Faces R (pick a (same_face t f (4 * a)) (same_face t f (4 * a + 1)) (same_face t f (4 * a + 2))) (pick b (same_face t₁ g (4 * b)) (same_face t₁ g (4 * b + 1)) z)) (same_alike w (at 2 (omega arith)))
      (subst (λ y. Faces R (pick a (same_face t f (4 * a)) (same_face t f (4 * a + 1)) (same_face t f (4 * a + 2))) (pick b (same_face t₁ g (4 * b)) y (same_face t f (4 * a + 2)))) (same_alike w (at 1 (omega arith)))
      (subst (λ x. Faces R (pick a (same_face t f (4 * a)) (same_face t f (4 * a + 1)) (same_face t f (4 * a + 2))) (pick b x (same_face t f (4 * a + 1)) (same_face t f (4 * a + 2)))) (same_alike w at_0)
      (picked (same_face t f (4 * a)) (same_face t f (4 * a + 1)) (same_face t f (4 * a + 2)))))
    where
      a : ℕ
      a = across t f

      b : ℕ
      b = across t₁ g

      pick : ℕ → Bool → Bool → Bool → ℕ
      pick c x y z = cond x (4 * c) (cond y (4 * c + 1) (cond z (4 * c + 2) (4 * c + 3)))

      at : (i : ℕ) → i < 4 → Faces R (4 * a + i) (4 * b + i)
      at = faces_of_lem a b r

      at_0 : Faces R (4 * a) (4 * b)
      at_0 = let e : (c : ℕ) → 4 * c + 0 ≡ 4 * c = λ c. omega arith in subst (λ x. Faces R x (4 * b)) (e a) (subst (Faces R (4 * a + 0)) (e b) (at 0 (omega arith)))

      picked : (x y z : Bool) → Faces R (pick a x y z) (pick b x y z)
      picked true y z = at_0
      picked false true z = at 1 (omega arith)
      picked false false true = at 2 (omega arith)
      picked false false false = at 3 (omega arith)

  -- ---- the turn

  record States (x y : State) : Type 0 where
    joined : R x.cell y.cell
    entry : x.entry ≡ y.entry
    exit : x.exit ≡ y.exit

  out_faces : {x y : State} → States x y → x.exit < 4 → Faces R (out_face x) (out_face y)
  out_faces {x} {y} w h = subst (λ i. Faces R (out_face x) (4 * y.cell + i)) w.exit (faces_of_lem x.cell y.cell w.joined x.exit h)

  place_alike : (a b v : ℕ) → R a b → place_of (corner t) a v ≡ place_of (corner t₁) b v
  unfolding place_of
  place_alike a b v r =
      ap₂ (λ x y. cond (eqb x v) 0 (cond (eqb y v) 1 (cond (eqb (corner t a 2) v) 2 3))) (T.alike.corners a b r 0 (omega arith)) (T.alike.corners a b r 1 (omega arith)) ∙
      ap (λ z. cond (eqb (corner t₁ b 0) v) 0 (cond (eqb (corner t₁ b 1) v) 1 (cond (eqb z v) 2 3))) (T.alike.corners a b r 2 (omega arith))

  cross_alike : {x y : State} → States x y → x.entry < 4 → x.exit < 4 → R (across t (out_face x)) (across t₁ (out_face y)) →
      States (cross (corner t) (across t) (mate t) x) (cross (corner t₁) (across t₁) (mate t₁) y)
  unfolding cross
  cross_alike {x} {y} w he hx r = record {
    joined = r;
    entry = (mate_alike (out_faces w hx) r).place;
    exit =
        place_alike (across t (out_face x)) (across t₁ (out_face y)) (corner t x.cell x.entry) r ∙
        ap (place_of (corner t₁) (across t₁ (out_face y))) (T.alike.corners x.cell y.cell w.joined x.entry he ∙ ap (corner t₁ y.cell) w.entry);
  }

  module _ {s s₁ : List Bool} (G : Agree T s s₁) where
    -- two walks from joined states that end at outer faces end in joined states
    walks_alike : {k m : ℕ} {x e y g : State} → Walk (corner t) (across t) (mate t) (in_set s) k x e → Walk (corner t₁) (across t₁) (mate t₁) (in_set s₁) m y g →
        States x y → Valid (in_set s) x → in_set s (across t (out_face e)) ≡ false → in_set s₁ (across t₁ (out_face g)) ≡ false → States e g
    walks_alike here here w v a b = w
    walks_alike here (step {s = y} J u) w v a b = clash J (sym (next_same T G _ _ (next_alike (out_faces w v.exit<))) ∙ a)
    walks_alike (step {s = x} I u) here w v a b = clash I (next_same T G _ _ (next_alike (out_faces w v.exit<)) ∙ b)
    walks_alike (step {s = x} I u) (step {s = y} J u₁) w v a b =
        walks_alike u u₁ (cross_alike w v.entry< v.exit< (real (next_alike (out_faces w v.exit<)))) (cross_valid (glued T.mesh.mesh (room_of t T.mesh.w)) G.cells x v I) a b
      where
        real : Next R (across t (out_face x)) (across t₁ (out_face y)) → R (across t (out_face x)) (across t₁ (out_face y))
        real (cells r) = r
        real (no_cell p q) = absurd (no_none T.mesh (G.cells (across t (out_face x)) I) p)

    pub turn_alike : (p : Position) {f g : ℕ} → Faces R f g → visible t p s f ≡ true → visible t₁ p s₁ g ≡ true → (j : ℕ) → j < 4 → j ≢ opposite f →
        Faces R (turn_face t n s f j) (turn_face t₁ n₁ s₁ g j)
    unfolding turn_face
    turn_alike p {f} {g} w v v₁ j h d = out_faces ends ends_valid.exit<
      where
        x : State
        x = record { cell = cell_of f; entry = opposite f; exit = j }

        y : State
        y = record { cell = cell_of g; entry = opposite g; exit = j }

        vx : Valid (in_set s) x
        vx = record { held = (visible_of t p s f v).held; entry< = opposite< f; exit< = h; apart = λ e. d (sym e) }

        vy : Valid (in_set s₁) y
        vy = record { held = (visible_of t₁ p s₁ g v₁).held; entry< = opposite< g; exit< = h; apart = λ e. d (sym e ∙ sym w.place) }

        start : outer (across t) (in_set s) (in_face x) ≡ true
        start = ap (outer (across t) (in_set s)) (face_eq f) ∙ (visible_of t p s f v).outer?

        start₁ : outer (across t₁) (in_set s₁) (in_face y) ≡ true
        start₁ = ap (outer (across t₁) (in_set s₁)) (face_eq g) ∙ (visible_of t₁ p s₁ g v₁).outer?

        ends : States (turn (corner t) (across t) (mate t) (in_set s) n x) (turn (corner t₁) (across t₁) (mate t₁) (in_set s₁) n₁ y)
        ends =
            walks_alike (turned (glued T.mesh.mesh (room_of t T.mesh.w)) G.cells x vx start n (omega arith)) (turned (glued T.mesh₁.mesh (room_of t₁ T.mesh₁.w)) G.cells₁ y vy start₁ n₁ (omega arith))
            record { joined = w.joined; entry = w.place; exit = refl } vx
            (stops (glued T.mesh.mesh (room_of t T.mesh.w)) G.cells x vx start n (omega arith)) (stops (glued T.mesh₁.mesh (room_of t₁ T.mesh₁.w)) G.cells₁ y vy start₁ n₁ (omega arith))

        ends_valid : Valid (in_set s) (turn (corner t) (across t) (mate t) (in_set s) n x)
        ends_valid = turn_valid (glued T.mesh.mesh (room_of t T.mesh.w)) G.cells x vx start n (omega arith)

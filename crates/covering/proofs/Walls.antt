-- M5 for places: a place of the box is not beyond any wall face. Its form is a weighted mean of those of the eight box corners.
use Prim.Native.Nat.{ℕ, ◌*◌, ◌≤◌}
use mathlib.Core.Path.{◌≡◌, sym, ◌∙◌, subst}
use mathlib.Core.List.{[], ◌∷◌}
use native.Mathlib.Omega.{arith}
use lib.IntN.{ℤ, pos, ◌-ℤ◌, ◌*ℤ◌}
use lib.Signed.{◌≤ℤ◌}
use Rattle.arith.proofs.Order.{arithℤ, parts_sub, *-nonneg, *-pos, cancel_nonneg, pos_pos}
use Rattle.arith.proofs.Ring.{Expr, var, con, ◌⊖◌, ◌⊗◌}
use Rattle.arith.proofs.Combine.{nonneg, times, term, done}
use Rattle.geometry.specs.declared.Position.{Position}
use Rattle.geometry.specs.Volume.{InBox}
use Rattle.mesh.specs.Tables.{Tables, none, across, side, IsFace}
use Rattle.mesh.specs.Mesh.{IsMesh}
use Rattle.mesh.proofs.Walls.{wall_inner}
use Rattle.covering.specs.Place.{Place, whole, InBoxAt}
use Rattle.covering.proofs.Linear.{form, Row, row, r₄, env₄, lin, linₑ, o₀, e₁, e₂, e₃, form_of_sides, form_whole}

module _ {X Y Z pc cc np n : ℕ} {t : Tables} (M : IsMesh X Y Z pc cc np n t) (f : ℕ) (f< : IsFace t n f) (bare : across t f ≡ none) (q : Place) (box : InBoxAt X Y Z q) where
  abbrev a : ℤ
  a = side t e₁ f -ℤ side t o₀ f

  abbrev b : ℤ
  b = side t e₂ f -ℤ side t o₀ f

  abbrev c : ℤ
  c = side t e₃ f -ℤ side t o₀ f

  abbrev d : ℤ
  d = side t o₀ f

  inner : (p : Position) → InBox X Y Z p → pos 0 ≤ℤ lin a b c d (whole p)
  inner p i = subst (λ z. pos 0 ≤ℤ z) (sym (form_whole t p f) ∙ form_of_sides t (whole p) f) (wall_inner M f f< bare p i)

  far : (x w s : ℕ) → x ≤ w * s → pos 0 ≤ℤ (pos w *ℤ pos s -ℤ pos x)
  far x w s h = omega (arithℤ, parts_sub (pos (w * s)) (pos x))

  corner_mean : pos 0 ≤ℤ ((pos X *ℤ pos Y *ℤ pos Z *ℤ pos q.w *ℤ pos q.w) *ℤ lin a b c d q)
  corner_mean =
      nonneg (var 8 ⊗ var 9 ⊗ var 10 ⊗ var 3 ⊗ var 3 ⊗ lₑ (r₄ 0))
      (times (lo 0 8 ⊗ lo 1 9 ⊗ lo 2 10) (lₑ (row zₑ zₑ zₑ oₑ)) ∷ times (hi 0 ⊗ lo 1 9 ⊗ lo 2 10) (lₑ (row (var 8) zₑ zₑ oₑ)) ∷
      times (lo 0 8 ⊗ hi 1 ⊗ lo 2 10) (lₑ (row zₑ (var 9) zₑ oₑ)) ∷ times (hi 0 ⊗ hi 1 ⊗ lo 2 10) (lₑ (row (var 8) (var 9) zₑ oₑ)) ∷
      times (lo 0 8 ⊗ lo 1 9 ⊗ hi 2) (lₑ (row zₑ zₑ (var 10) oₑ)) ∷ times (hi 0 ⊗ lo 1 9 ⊗ hi 2) (lₑ (row (var 8) zₑ (var 10) oₑ)) ∷
      times (lo 0 8 ⊗ hi 1 ⊗ hi 2) (lₑ (row zₑ (var 9) (var 10) oₑ)) ∷ times (hi 0 ⊗ hi 1 ⊗ hi 2) (lₑ (row (var 8) (var 9) (var 10) oₑ)) ∷ [])
      tt (env₄ (q ∷ []) (a ∷ b ∷ c ∷ d ∷ pos X ∷ pos Y ∷ pos Z ∷ []))
      (term (three lx ly lz) (inner record { x = 0; y = 0; z = 0 } (omega arith))
      (term (three hx ly lz) (inner record { x = X; y = 0; z = 0 } (omega arith))
      (term (three lx hy lz) (inner record { x = 0; y = Y; z = 0 } (omega arith))
      (term (three hx hy lz) (inner record { x = X; y = Y; z = 0 } (omega arith))
      (term (three lx ly hz) (inner record { x = 0; y = 0; z = Z } (omega arith))
      (term (three hx ly hz) (inner record { x = X; y = 0; z = Z } (omega arith))
      (term (three lx hy hz) (inner record { x = 0; y = Y; z = Z } (omega arith))
      (term (three hx hy hz) (inner record { x = X; y = Y; z = Z } (omega arith)) done))))))))
    where
      zₑ : Expr
      zₑ = con (pos 0)

      oₑ : Expr
      oₑ = con (pos 1)

      lₑ : Row → Expr
      lₑ = linₑ (var 4) (var 5) (var 6) (var 7)

      lo : ℕ → ℕ → Expr
      lo k s = var 3 ⊗ var s ⊖ var k

      hi : ℕ → Expr
      hi k = var k

      three : {u v w : ℤ} → pos 0 ≤ℤ u → pos 0 ≤ℤ v → pos 0 ≤ℤ w → pos 0 ≤ℤ (u *ℤ v *ℤ w)
      three h k l = *-nonneg (*-nonneg h k) l

      lx : pos 0 ≤ℤ (pos q.w *ℤ pos X -ℤ pos q.x)
      lx = far q.x q.w X box.box.x≤

      ly : pos 0 ≤ℤ (pos q.w *ℤ pos Y -ℤ pos q.y)
      ly = far q.y q.w Y box.box.y≤

      lz : pos 0 ≤ℤ (pos q.w *ℤ pos Z -ℤ pos q.z)
      lz = far q.z q.w Z box.box.z≤

      hx : pos 0 ≤ℤ pos q.x
      hx = omega arithℤ

      hy : pos 0 ≤ℤ pos q.y
      hy = omega arithℤ

      hz : pos 0 ≤ℤ pos q.z
      hz = omega arithℤ

  pub wall_inner_form : pos 0 ≤ℤ form t q f
  wall_inner_form =
      subst (λ z. pos 0 ≤ℤ z) (sym (form_of_sides t q f))
      (cancel_nonneg {a = pos X *ℤ pos Y *ℤ pos Z *ℤ pos q.w *ℤ pos q.w} (lin a b c d q)
      (*-pos (*-pos (*-pos (*-pos (pos_pos X M.side_x.low) (pos_pos Y M.side_y.low)) (pos_pos Z M.side_z.low)) (pos_pos q.w box.w≥)) (pos_pos q.w box.w≥))
      corner_mean)

-- A position of the box is on the inner side of every wall face (M5).
use Prim.Native.Nat.{ℕ, ◌≤◌}
use mathlib.Core.Logic.{◌⊎◌, inl, inr}
use mathlib.Core.Path.{◌≡◌, sym, ap, ap₂, ◌∙◌, subst}
use lib.IntN.{ℤ, pos, neg_ℤ, ◌+ℤ◌, ◌-ℤ◌, ◌*ℤ◌, *ℤ-zero, *ℤ_comm}
use lib.Signed.{◌<ℤ◌, ◌≤ℤ◌}
use Rattle.arith.specs.Table.{sum}
use Rattle.arith.proofs.Integers.{*-distl-sub, sub_self}
use Rattle.arith.proofs.Order.{arithℤ, parts_sub, <→≤, <-irrefl, <-≤-trans, *-pos, *-nonneg, cancel_nonneg, trichotomy}
use Rattle.arith.proofs.Sums.{sum_cong, sum_add, sum_neg, sum_times, sum_one}
use Rattle.geometry.specs.declared.Position.{Position}
use Rattle.geometry.specs.Volume.{volume, replaced, InBox}
use Rattle.geometry.proofs.Algebra.{volume_split}
use Rattle.mesh.specs.Tables.{Tables, none, cell_of, opposite, corner, across, corner_at, cell_volume, side, IsFace}
use Rattle.mesh.specs.Mesh.{Wall, low_x, low_y, low_z, high_x, high_y, high_z, along, level, OnWall, IsMesh}
use Rattle.mesh.proofs.FaceNumbers.{opposite<}
use Rattle.mesh.proofs.Held.{cramer}

-- how far a point lies from a wall, inwards
depth : ℕ → ℕ → ℕ → Wall → Position → ℤ
depth X Y Z low_x q = pos q.x
depth X Y Z low_y q = pos q.y
depth X Y Z low_z q = pos q.z
depth X Y Z high_x q = pos X -ℤ pos q.x
depth X Y Z high_y q = pos Y -ℤ pos q.y
depth X Y Z high_z q = pos Z -ℤ pos q.z

-- a distance from the far end is interpolated too
from_level : (a : Position → ℕ) (L : ℕ) (s : ℕ → Position) (q : Position) → sum 4 (λ k. volume (replaced s k q) *ℤ pos (a (s k))) ≡ volume s *ℤ pos (a q) →
    sum 4 (λ k. volume (replaced s k q) *ℤ (pos L -ℤ pos (a (s k)))) ≡ volume s *ℤ (pos L -ℤ pos (a q))
from_level a L s q e =
    sum_cong 4 (λ k. volume (replaced s k q) *ℤ (pos L -ℤ pos (a (s k)))) (λ k. volume (replaced s k q) *ℤ pos L +ℤ neg_ℤ (volume (replaced s k q) *ℤ pos (a (s k)))) (λ k l. *-distl-sub (volume (replaced s k q)) (pos L) (pos (a (s k)))) ∙
    (sum_add 4 (λ k. volume (replaced s k q) *ℤ pos L) (λ k. neg_ℤ (volume (replaced s k q) *ℤ pos (a (s k)))) ∙
    (ap₂ ◌+ℤ◌ (sum_times 4 (λ k. volume (replaced s k q)) (pos L) ∙ ap (λ z. z *ℤ pos L) (volume_split s q)) (sum_neg 4 (λ k. volume (replaced s k q) *ℤ pos (a (s k))) ∙ ap neg_ℤ e) ∙
    sym (*-distl-sub (volume s) (pos L) (pos (a q)))))

module _ (X Y Z : ℕ) where
  depth_between : (w : Wall) (s : ℕ → Position) (q : Position) → sum 4 (λ k. volume (replaced s k q) *ℤ depth X Y Z w (s k)) ≡ volume s *ℤ depth X Y Z w q
  unfolding depth
  depth_between low_x s q = cramer low_x s q
  depth_between low_y s q = cramer low_y s q
  depth_between low_z s q = cramer low_z s q
  depth_between high_x s q = from_level (λ r. r.x) X s q (cramer low_x s q)
  depth_between high_y s q = from_level (λ r. r.y) Y s q (cramer low_y s q)
  depth_between high_z s q = from_level (λ r. r.z) Z s q (cramer low_z s q)

  depth_wall : (w : Wall) (q : Position) → along w q ≡ level X Y Z w → depth X Y Z w q ≡ pos 0
  unfolding depth
  depth_wall low_x q e = ap pos e
  depth_wall low_y q e = ap pos e
  depth_wall low_z q e = ap pos e
  depth_wall high_x q e = ap (λ m. pos X -ℤ pos m) e ∙ sub_self (pos X)
  depth_wall high_y q e = ap (λ m. pos Y -ℤ pos m) e ∙ sub_self (pos Y)
  depth_wall high_z q e = ap (λ m. pos Z -ℤ pos m) e ∙ sub_self (pos Z)

  depth_in : (w : Wall) (q : Position) → InBox X Y Z q → pos 0 ≤ℤ depth X Y Z w q
  unfolding depth
  depth_in low_x q b = omega arithℤ
  depth_in low_y q b = omega arithℤ
  depth_in low_z q b = omega arithℤ
  depth_in high_x q b = omega (arithℤ, parts_sub (pos X) (pos q.x), b.x≤)
  depth_in high_y q b = omega (arithℤ, parts_sub (pos Y) (pos q.y), b.y≤)
  depth_in high_z q b = omega (arithℤ, parts_sub (pos Z) (pos q.z), b.z≤)

  deep : Wall → Position
  deep low_x = record { x = 1; y = 1; z = 1 }
  deep low_y = record { x = 1; y = 1; z = 1 }
  deep low_z = record { x = 1; y = 1; z = 1 }
  deep high_x = record { x = 0; y = 0; z = 0 }
  deep high_y = record { x = 0; y = 0; z = 0 }
  deep high_z = record { x = 0; y = 0; z = 0 }

  depth_deep : 1 ≤ X → 1 ≤ Y → 1 ≤ Z → (w : Wall) → pos 0 <ℤ depth X Y Z w (deep w)
  unfolding depth deep
  depth_deep a b c low_x = omega arithℤ
  depth_deep a b c low_y = omega arithℤ
  depth_deep a b c low_z = omega arithℤ
  depth_deep a b c high_x = omega (arithℤ, parts_sub (pos X) (pos 0))
  depth_deep a b c high_y = omega (arithℤ, parts_sub (pos Y) (pos 0))
  depth_deep a b c high_z = omega (arithℤ, parts_sub (pos Z) (pos 0))

module _ {X Y Z pc cc np n : ℕ} {t : Tables} (M : IsMesh X Y Z pc cc np n t) (f : ℕ) (f< : IsFace t n f) (bare : across t f ≡ none) where
  abbrev o : OnWall X Y Z t f
  o = M.walls f f< bare

  abbrev h : Position → ℤ
  h = depth X Y Z o.wall

  abbrev s : ℕ → Position
  s = corner_at t (cell_of f)

  above : pos 0 <ℤ volume s
  unfolding cell_volume
  above = M.positive (cell_of f) f<

  -- only the corner opposite to the face has depth
  by_apex : (q : Position) → volume (replaced s (opposite f) q) *ℤ h (s (opposite f)) ≡ volume s *ℤ h q
  by_apex q =
      sym (sum_one 4 (λ k. volume (replaced s k q) *ℤ h (s k)) (opposite f) (opposite< f)
      (λ k l d. ap (λ z. volume (replaced s k q) *ℤ z) (depth_wall X Y Z o.wall (s k) (o.on k l d)) ∙ *ℤ-zero (volume (replaced s k q)))) ∙
      depth_between X Y Z o.wall s q

  apex_in : InBox X Y Z (s (opposite f))
  unfolding corner_at
  apex_in = M.inside (corner t (cell_of f) (opposite f)) (M.corner< (cell_of f) (opposite f) f< (opposite< f))

  apex_deep : pos 0 <ℤ h (s (opposite f))
  apex_deep = go (trichotomy (pos 0) (h (s (opposite f))))
    where
      go : (pos 0 <ℤ h (s (opposite f))) ⊎ ((pos 0 ≡ h (s (opposite f))) ⊎ (h (s (opposite f)) <ℤ pos 0)) → pos 0 <ℤ h (s (opposite f))
      go (inl l) = l
      go (inr (inl e)) =
          absurd (<-irrefl (subst (λ z. pos 0 <ℤ z)
          (sym (by_apex (deep X Y Z o.wall)) ∙ (ap (λ z. volume (replaced s (opposite f) (deep X Y Z o.wall)) *ℤ z) (sym e) ∙ *ℤ-zero (volume (replaced s (opposite f) (deep X Y Z o.wall)))))
          (*-pos above (depth_deep X Y Z M.side_x.low M.side_y.low M.side_z.low o.wall))))
      go (inr (inr l)) = absurd (<-irrefl (<-≤-trans l (depth_in X Y Z o.wall (s (opposite f)) apex_in)))

  pub wall_inner : (q : Position) → InBox X Y Z q → pos 0 ≤ℤ side t q f
  unfolding side
  wall_inner q b =
      cancel_nonneg (volume (replaced s (opposite f) q)) apex_deep
      (subst (λ z. pos 0 ≤ℤ z) (sym (by_apex q) ∙ *ℤ_comm (volume (replaced s (opposite f) q)) (h (s (opposite f))))
      (*-nonneg (<→≤ above) (depth_in X Y Z o.wall q b)))

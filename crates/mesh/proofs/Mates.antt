-- The mate by name: of the faces of the cell across f, only the mate names f's cell back. So code finds it by four comparisons.
use Prim.Native.Nat.{ℕ, ◌+◌, ◌*◌, ◌<◌}
use mathlib.Core.Logic.{◌≢◌}
use mathlib.Core.Path.{◌≡◌, sym, ap, ◌∙◌, subst}
use native.Mathlib.Omega.{arith}
use native.Mathlib.Decide.{ℕ_discrete}
use lib.IntN.{pos}
use lib.Signed.{◌<ℤ◌}
use Rattle.arith.proofs.Order.{<-irrefl, <-≤-trans}
use Rattle.mesh.specs.Tables.{Tables, none, cell_of, opposite, point, corner, across, corner_at, cell_volume, side, mate, IsFace}
use Rattle.mesh.specs.Mesh.{OnFace, IsMesh}
use Rattle.mesh.proofs.Room.{Room}
use Rattle.mesh.proofs.FaceNumbers.{face_eq, face_cell, face_opposite, opposite<, face_in}
use Rattle.mesh.proofs.Faces.{few, mated, across_cell}
use Rattle.mesh.proofs.Held.{own_corner}

module _ {X Y Z pc cc np n : ℕ} {t : Tables} (M : IsMesh X Y Z pc cc np n t) (R : Room pc cc t) where
  -- no corner of f's own cell lies beyond f
  not_beyond : (f : ℕ) → IsFace t n f → (l : ℕ) → l < 4 → side t (corner_at t (cell_of f) l) f <ℤ pos 0 → ⊥
  unfolding side cell_volume
  not_beyond f f< l h e =
      <-irrefl (<-≤-trans e (own_corner (corner_at t (cell_of f)) (opposite f) l (opposite< f) h (M.positive (cell_of f) f<)))

  pub mate_by_name : (f k : ℕ) → IsFace t n f → across t f ≢ none → k < 4 → across t (4 * across t f + k) ≡ cell_of f → 4 * across t f + k ≡ mate t f
  unfolding corner_at
  mate_by_name f k f< real k< e = go (ℕ_discrete k (opposite (mate t f)))
    where
      g : ℕ
      g = 4 * across t f + k

      far : cell_of (mate t f) ≡ across t f
      far = (mated M R f f< real).far_cell

      g< : IsFace t n g
      g< = face_in (across t f) k k< (across_cell M R f f< real)

      g_real : across t g ≢ none
      g_real = omega (arith, e, f<.below, few M R)

      go : Dec (k ≡ opposite (mate t f)) → 4 * across t f + k ≡ mate t f
      go (yes q) = ap (λ x. 4 * across t f + x) q ∙ (ap (λ x. 4 * x + opposite (mate t f)) (sym far) ∙ face_eq (mate t f))
      go (no d) =
          let o : OnFace t (mate t g) (corner t (cell_of g) (opposite (mate t f))) = (mated M R g g< g_real).same (opposite (mate t f)) (opposite< (mate t f)) (λ q. d (sym (q ∙ face_opposite (across t f) k k<))) in
          let same : corner t (cell_of f) o.place ≡ corner t (cell_of (mate t f)) (opposite (mate t f)) =
          ap (λ x. corner t x o.place) (sym ((mated M R g g< g_real).far_cell ∙ e)) ∙ (o.is ∙ ap (λ x. corner t x (opposite (mate t f))) (face_cell (across t f) k k< ∙ sym far)) in
          absurd (not_beyond f f< o.place o.place< (subst (λ v. side t (point t v) f <ℤ pos 0) (sym same) (mated M R f f< real).far_side))

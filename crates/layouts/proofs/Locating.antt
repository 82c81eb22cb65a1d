-- A position is located in the same cell: among the cells that hold it, the one that comes first is told by its corners.
use Prim.Native.Nat.{ℕ}
use mathlib.Core.Path.{◌≡◌, sym, ap₂, ◌∙◌, subst}
use Rattle.geometry.specs.declared.Position.{Position}
use Rattle.mesh.specs.Tables.{Tables, IsCell}
use Rattle.mesh.proofs.Room.{room_of}
use Rattle.locate.specs.Order.{lex_before}
use Rattle.locate.specs.Locate.{sorted_corners}
use Rattle.locate.proofs.Order.{before_same}
use Rattle.locate.proofs.Codes.{holder_cell}
use Rattle.locate.proofs.First.{corners_length, corners_cong, corners_same, IsFirst}
use Rattle.covering.proofs.Holders.{corners_tell_cells}
use Rattle.layouts.proofs.Alike.{AlikeMeshes}
use Rattle.layouts.proofs.Cavities.{same_holds}

module _ {R : ℕ → ℕ → Type 0} {np n n₁ : ℕ} {t t₁ : Tables} (T : AlikeMeshes R np t n t₁ n₁) (p : Position) where
  same_order : (c d : ℕ) → R c d → sorted_corners t c ≡ sorted_corners t₁ d
  same_order c d r = corners_cong t t₁ c d (T.alike.corners c d r)

  -- the first in the one and the first in the other are joined
  pub first_joined : (c d : ℕ) → IsFirst t p n c → IsFirst t₁ p n₁ d → R c d
  first_joined c d F F₁ = go (T.alike.there c (holder_cell t p F.cell< F.holding)) (T.alike.back d (holder_cell t₁ p F₁.cell< F₁.holding))
    where
      go : (d' : ℕ) × R c d' → (c' : ℕ) × R c' d → R c d
      go (d', r) (c', r') = subst (R c) (corners_tell_cells T.mesh₁.mesh (room_of t₁ T.mesh₁.w) d' d h' (T.alike.right c' d r') (corners_same t₁ t₁ d' d order)) r
        where
          h' : IsCell t₁ n₁ d'
          h' = T.alike.right c d' r

          -- neither comes before the other
          order : sorted_corners t₁ d' ≡ sorted_corners t₁ d
          order =
              before_same (sorted_corners t₁ d') (sorted_corners t₁ d) (corners_length t₁ d' ∙ sym (corners_length t₁ d))
              (F₁.first d' h'.below (sym (same_holds T p c d' r) ∙ F.holding))
              (sym (ap₂ lex_before (same_order c' d r') (same_order c d' r)) ∙ F.first c' (T.alike.left c' d r').below (same_holds T p c' d r' ∙ F₁.holding))

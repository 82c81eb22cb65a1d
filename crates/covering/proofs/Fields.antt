-- A number for each face, with the laws that the forms of one place have. A walk needs no more of where it goes to, so that it may go outside the box.
use Prim.Native.Nat.{ℕ, ◌+◌, ◌*◌, ◌<◌}
use mathlib.Core.Logic.{◌≢◌}
use mathlib.Core.Path.{◌≡◌, ap₂, ◌∙◌}
use mathlib.Core.List.{[], ◌∷◌}
use lib.IntN.{ℤ, pos, neg_ℤ, ◌+ℤ◌, ◌*ℤ◌}
use lib.Signed.{◌<ℤ◌, ◌≤ℤ◌}
use Rattle.arith.specs.Table.{sum}
use Rattle.arith.proofs.Ring.{Expr, var, con, ◌⊕◌, ◌⊗◌, neg, ring}
use Rattle.arith.proofs.Combine.{hyp, combine}
use Rattle.mesh.specs.Tables.{Tables, none, across, corner_at, cell_volume, side, mate, IsFace}
use Rattle.mesh.specs.Mesh.{IsMesh}
use Rattle.mesh.proofs.Room.{Room}
use Rattle.covering.specs.Place.{Place}
use Rattle.covering.proofs.Linear.{form, form_between, mate_opposite_form}

pub record Field (t : Tables) (n : ℕ) (σ : ℕ → ℤ) : Type 0 where
  pub between : (c g : ℕ) → sum 4 (λ k. σ (4 * c + k) *ℤ side t (corner_at t c k) g) ≡ cell_volume t c *ℤ σ g
  pub mirror : (f : ℕ) → IsFace t n f → across t f ≢ none → σ (mate t f) ≡ neg_ℤ (σ f)

abbrev pub HoldsBy : (ℕ → ℤ) → ℕ → Type 0
HoldsBy σ c = (k : ℕ) → k < 4 → pos 0 ≤ℤ σ (4 * c + k)

abbrev pub InsideBy : (ℕ → ℤ) → ℕ → Type 0
InsideBy σ c = (k : ℕ) → k < 4 → pos 0 <ℤ σ (4 * c + k)

abbrev pub blend : ℤ → (ℕ → ℤ) → ℤ → (ℕ → ℤ) → ℕ → ℤ
blend a σ b τ f = a *ℤ σ f +ℤ b *ℤ τ f

-- also with factors below 0
pub field_blend : {t : Tables} {n : ℕ} (a : ℤ) (σ : ℕ → ℤ) (b : ℤ) (τ : ℕ → ℤ) → Field t n σ → Field t n τ → Field t n (blend a σ b τ)
unfolding sum
field_blend {t} {n} a σ b τ S T = record { between = mid; mirror = back }
  where
    mid : (c g : ℕ) → sum 4 (λ k. blend a σ b τ (4 * c + k) *ℤ side t (corner_at t c k) g) ≡ cell_volume t c *ℤ blend a σ b τ g
    mid c g =
        combine (con (pos 0) ⊕ e 0 ⊕ e 1 ⊕ e 2 ⊕ e 3) (var 14 ⊗ (var 0 ⊗ var 15 ⊕ var 1 ⊗ var 16))
        (hyp (var 0) (con (pos 0) ⊕ s 0 ⊕ s 1 ⊕ s 2 ⊕ s 3) (var 14 ⊗ var 15) ∷ hyp (var 1) (con (pos 0) ⊕ r 0 ⊕ r 1 ⊕ r 2 ⊕ r 3) (var 14 ⊗ var 16) ∷ []) tt
        (a ∷ b ∷ σ (4 * c + 0) ∷ σ (4 * c + 1) ∷ σ (4 * c + 2) ∷ σ (4 * c + 3) ∷ τ (4 * c + 0) ∷ τ (4 * c + 1) ∷ τ (4 * c + 2) ∷ τ (4 * c + 3) ∷
        side t (corner_at t c 0) g ∷ side t (corner_at t c 1) g ∷ side t (corner_at t c 2) g ∷ side t (corner_at t c 3) g ∷ cell_volume t c ∷ σ g ∷ τ g ∷ [])
        (S.between c g, (T.between c g, tt))
      where
        s : ℕ → Expr
        s k = var (2 + k) ⊗ var (10 + k)

        r : ℕ → Expr
        r k = var (6 + k) ⊗ var (10 + k)

        e : ℕ → Expr
        e k = (var 0 ⊗ var (2 + k) ⊕ var 1 ⊗ var (6 + k)) ⊗ var (10 + k)

    back : (f : ℕ) → IsFace t n f → across t f ≢ none → blend a σ b τ (mate t f) ≡ neg_ℤ (blend a σ b τ f)
    back f l r =
        ap₂ (λ u v. a *ℤ u +ℤ b *ℤ v) (S.mirror f l r) (T.mirror f l r) ∙
        ring (var 0 ⊗ neg (var 1) ⊕ var 2 ⊗ neg (var 3)) (neg (var 0 ⊗ var 1 ⊕ var 2 ⊗ var 3)) tt (a ∷ σ f ∷ b ∷ τ f ∷ [])

pub form_field : {X Y Z pc cc np n : ℕ} {t : Tables} → IsMesh X Y Z pc cc np n t → Room pc cc t → (q : Place) → Field t n (form t q)
form_field {t = t} M R q = record { between = λ c g. form_between t q c g; mirror = λ f l r. mate_opposite_form M R f l r q }

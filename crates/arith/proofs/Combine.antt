-- What follows from given facts by a certificate that the ring solver checks. `combine`: e₁ ≡ e₂ from equations lᵢ ≡ rᵢ, by
-- e₁ − e₂ = Σ cᵢ·(lᵢ − rᵢ). `nonneg`: 0 ≤ e by e = Σ cᵢ·hᵢ, where no cᵢ and no hᵢ is below 0.
use mathlib.Core.Path.{◌≡◌, refl, sym, ◌∙◌, ap, ap₂, subst}
use mathlib.Core.List.{List, [], ◌∷◌}
use lib.Dec.{T}
use lib.IntN.{ℤ, pos, ◌+ℤ◌, ◌*ℤ◌, ◌-ℤ◌, *ℤ-zero, +ℤ_invr}
use lib.Signed.{◌≤ℤ◌, ≤ℤ_refl}
use Rattle.arith.proofs.Integers.{eq_of_sub}
use Rattle.arith.proofs.Ring.{Expr, con, ◌⊕◌, ◌⊖◌, ◌⊗◌, check, eval, ring}
use Rattle.arith.proofs.Order.{+-nonneg, *-nonneg}

-- ---- equations

-- the factor cᵢ, then lᵢ and rᵢ
pub data Hyp : Type 0 where
  hyp : Expr → Expr → Expr → Hyp

abbrev pub combination : List Hyp → Expr
combination [] = con (pos 0)
combination (hyp c l r ∷ hs) = c ⊗ (l ⊖ r) ⊕ combination hs

-- the equations, one after the other, and `tt`
abbrev pub Given : List ℤ → List Hyp → Type 0
Given ρ [] = Unit {0}
Given ρ (hyp c l r ∷ hs) = (eval ρ l ≡ eval ρ r) × Given ρ hs

combination_zero : (ρ : List ℤ) (hs : List Hyp) → Given ρ hs → eval ρ (combination hs) ≡ pos 0
combination_zero ρ [] h = refl
combination_zero ρ (hyp c l r ∷ hs) h =
    ap₂ ◌+ℤ◌
    (ap (λ t. eval ρ c *ℤ (t -ℤ eval ρ r)) h.0 ∙ ap (λ t. eval ρ c *ℤ t) (+ℤ_invr (eval ρ r)) ∙ *ℤ-zero (eval ρ c))
    (combination_zero ρ hs h.1)

pub combine : (e₁ e₂ : Expr) (hs : List Hyp) → T (check (e₁ ⊖ e₂) (combination hs)) → (ρ : List ℤ) → Given ρ hs → eval ρ e₁ ≡ eval ρ e₂
combine e₁ e₂ hs t ρ h =
    eq_of_sub (eval ρ e₁) (eval ρ e₂) (ring (e₁ ⊖ e₂) (combination hs) t ρ ∙ combination_zero ρ hs h)

-- ---- signs

-- cᵢ and hᵢ
pub data Term : Type 0 where
  times : Expr → Expr → Term

abbrev pub terms : List Term → Expr
terms [] = con (pos 0)
terms (times c h ∷ ts) = c ⊗ h ⊕ terms ts

pub data Nonneg (ρ : List ℤ) : List Term → Type 0 where
  done : Nonneg ρ []
  term : {c h : Expr} {ts : List Term} → pos 0 ≤ℤ eval ρ c → pos 0 ≤ℤ eval ρ h → Nonneg ρ ts → Nonneg ρ (times c h ∷ ts)

terms_nonneg : {ρ : List ℤ} {ts : List Term} → Nonneg ρ ts → pos 0 ≤ℤ eval ρ (terms ts)
terms_nonneg done = ≤ℤ_refl (pos 0)
terms_nonneg (term a b r) = +-nonneg (*-nonneg a b) (terms_nonneg r)

pub nonneg : (e : Expr) (ts : List Term) → T (check e (terms ts)) → (ρ : List ℤ) → Nonneg ρ ts → pos 0 ≤ℤ eval ρ e
nonneg e ts t ρ h = subst (λ z. pos 0 ≤ℤ z) (sym (ring e (terms ts) t ρ)) (terms_nonneg h)

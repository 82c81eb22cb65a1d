-- What the float sum tells: it is near the exact sum, and beyond ±2^39 has its sign.
use Prim.Native.Nat.{ℕ, ◌*◌, ◌≤◌, ◌^◌}
use mathlib.Core.Bool.{Bool, true, false, ◌&&◌, cond}
use mathlib.Core.List.{[], ◌∷◌}
use mathlib.Core.Logic.{◌⊎◌, inl, inr}
use mathlib.Core.Path.{◌≡◌, refl, subst}
use native.Mathlib.Omega.{arith}
use lib.Dec.{lit≤}
use lib.IntN.{pos, nat_abs}
use lib.Signed.{lt_z}
use lib.Ieee.{Float, lt}
use Rattle.arith.proofs.Order.{<-irrefl, <-trans, lt_z_true, lt_lt_z}
use Rattle.arith.proofs.Flags.{split, holds, fails, and_left, and_right}
use Rattle.arith.proofs.Magnitude.{fits}
use Rattle.arith.proofs.Ring.{var, ◌⊕◌, ◌⊗◌}
use Rattle.rounding.specs.Whole.{Near}
use Rattle.rounding.proofs.Sums.{Factors, total_within, total_above, total_below}
use Rattle.geometry.specs.declared.Position.{Position}
use Rattle.geometry.specs.declared.Tetrahedron.{Tetrahedron}
use Rattle.geometry.specs.Volume.{InRange, in_range, corners_in_range}
use Rattle.geometry.specs.Inner.{CornersInRange, volumes_at}
use Rattle.geometry.proofs.Bounds.{volume_within, distance_within}
use Rattle.geometry.proofs.Distances.{distance_nonneg}
use Rattle.geometry.proofs.Ranges.{box_in, corners_in}
use Rattle.insphere.specs.declared.Sphere.{Sphere}
use Rattle.insphere.specs.declared.Sphere.TheVariants.{Inside, Outside}
use Rattle.insphere.specs.Sphere.{Answered}
use Rattle.insphere.specs.declared.Term.{Term}
use Rattle.insphere.specs.declared.Terms.{Terms}
use Rattle.insphere.specs.Sphere.{sphere_sum, sphere_t, sphere_answer, sphere_refusal, CarriesNear}
use Rattle.insphere.specs.Inner.{TermInRange, TermsInRange, terms_at, exact_sum, float_sum, limit, low_limit}

-- ---- the terms

factors : {x : Term} → TermInRange x → Factors x.volume x.distance
factors h = record { first = h.volume≤; second = h.distance≤ }

module _ {x : Terms} (h : TermsInRange x) where
  sum_near : Near (float_sum x) (exact_sum x)
  unfolding float_sum exact_sum
  sum_near = total_within _ _ _ _ _ _ _ _ (factors h.t0) (factors h.t1) (factors h.t2) (factors h.t3)

  pub sum_positive : lt limit (float_sum x) ≡ true → lt_z (pos 0) (exact_sum x) ≡ true
  unfolding float_sum exact_sum
  sum_positive e = lt_lt_z (total_above _ _ _ _ _ _ _ _ (factors h.t0) (factors h.t1) (factors h.t2) (factors h.t3) (holds e))

  pub sum_negative : lt (float_sum x) low_limit ≡ true → lt_z (pos 0) (exact_sum x) ≡ false
  unfolding float_sum exact_sum
  sum_negative e =
      fails (lt_z (pos 0) (exact_sum x)) (λ y. <-irrefl (<-trans (lt_z_true _ _ y)
      (total_below _ _ _ _ _ _ _ _ (factors h.t0) (factors h.t1) (factors h.t2) (factors h.t3) (holds e))))

  -- two words hold E
  sum_size : nat_abs (exact_sum x) ≤ 3 * 2 ^ 88
  unfolding exact_sum
  sum_size =
      fits (var 0 ⊗ var 1 ⊕ var 2 ⊗ var 3 ⊕ var 4 ⊗ var 5 ⊕ var 6 ⊗ var 7)
      (x.t0.volume ∷ x.t0.distance ∷ x.t1.volume ∷ x.t1.distance ∷ x.t2.volume ∷ x.t2.distance ∷ x.t3.volume ∷ x.t3.distance ∷ [])
      (2 ^ 52 ∷ 3 * 2 ^ 34 ∷ 2 ^ 52 ∷ 3 * 2 ^ 34 ∷ 2 ^ 52 ∷ 3 * 2 ^ 34 ∷ 2 ^ 52 ∷ 3 * 2 ^ 34 ∷ []) (3 * 2 ^ 88) (lit≤ tt)
      (h.t0.volume≤, (h.t0.distance≤, (h.t1.volume≤, (h.t1.distance≤, (h.t2.volume≤, (h.t2.distance≤, (h.t3.volume≤, (h.t3.distance≤, tt))))))))

pub terms_in : {t : Tetrahedron} {p : Position} → CornersInRange t → InRange p → TermsInRange (terms_at t p)
unfolding terms_at volumes_at
terms_in {t} {p} h k = record {
  t0 = record { volume≤ = volume_within p t.b t.c t.d k h.b h.c h.d; distance≥ = distance_nonneg t.a p; distance≤ = distance_within t.a p h.a k };
  t1 = record { volume≤ = volume_within t.a p t.c t.d h.a k h.c h.d; distance≥ = distance_nonneg t.b p; distance≤ = distance_within t.b p h.b k };
  t2 = record { volume≤ = volume_within t.a t.b p t.d h.a h.b k h.d; distance≥ = distance_nonneg t.c p; distance≤ = distance_within t.c p h.c k };
  t3 = record { volume≤ = volume_within t.a t.b t.c p h.a h.b h.c k; distance≥ = distance_nonneg t.d p; distance≤ = distance_within t.d p h.d k };
}

pub exact_at : (t : Tetrahedron) (p : Position) → exact_sum (terms_at t p) ≡ sphere_sum t.a t.b t.c t.d p
unfolding exact_sum terms_at volumes_at sphere_sum
exact_at t p = refl

pub float_at : (t : Tetrahedron) (p : Position) → float_sum (terms_at t p) ≡ sphere_t t.a t.b t.c t.d p
unfolding float_sum terms_at volumes_at sphere_t
float_at t p = refl

-- ---- the call

module _ (t : Tetrahedron) (p : Position) (h : CornersInRange t) (k : InRange p) where
  -- 'T lies within 2^39 of E'
  pub sphere_near : Near (sphere_t t.a t.b t.c t.d p) (sphere_sum t.a t.b t.c t.d p)
  sphere_near = subst (λ z. Near (sphere_t t.a t.b t.c t.d p) z) (exact_at t p) (subst (λ f. Near f (exact_sum (terms_at t p))) (float_at t p) (sum_near (terms_in h k)))

  pub sphere_size : nat_abs (sphere_sum t.a t.b t.c t.d p) ≤ 3 * 2 ^ 88
  sphere_size = subst (λ z. nat_abs z ≤ 3 * 2 ^ 88) (exact_at t p) (sum_size (terms_in h k))

  pub answer_near : CarriesNear (sphere_sum t.a t.b t.c t.d p) (Answered (sphere_answer t.a t.b t.c t.d p))
  unfolding sphere_answer
  answer_near = go (lt_z (pos 0) (sphere_sum t.a t.b t.c t.d p))
    where
      T' : Float
      T' = sphere_t t.a t.b t.c t.d p

      go : (b : Bool) → CarriesNear (sphere_sum t.a t.b t.c t.d p) (Answered (cond b (Inside T') (Outside T')))
      go true = sphere_near
      go false = sphere_near

pub accepted_in : (a b c d p : Position) → sphere_refusal a b c d p ≡ 0 → CornersInRange (record { a = a; b = b; c = c; d = d }) × InRange p
unfolding sphere_refusal
accepted_in a b c d p e = go (split (corners_in_range a b c d && in_range p))
  where
    go : (corners_in_range a b c d && in_range p ≡ true) ⊎ (corners_in_range a b c d && in_range p ≡ false) →
        CornersInRange (record { a = a; b = b; c = c; d = d }) × InRange p
    go (inl t) = (corners_in _ (and_left (corners_in_range a b c d) (in_range p) t), box_in (and_right (corners_in_range a b c d) (in_range p) t))
    go (inr f) = absurd (four (rw f at e))
      where
        four : ◌≡◌ {A = ℕ} 4 0 → ⊥
        four q = omega arith

-- ---- what an answer says

abbrev pub is_inside : Sphere → Bool
is_inside (Inside t) = true
is_inside (Outside t) = false

abbrev pub carried : Sphere → Float
carried (Inside t) = t
carried (Outside t) = t

pub answer_inside : (a b c d p : Position) → is_inside (sphere_answer a b c d p) ≡ lt_z (pos 0) (sphere_sum a b c d p)
unfolding sphere_answer
answer_inside a b c d p = go (lt_z (pos 0) (sphere_sum a b c d p))
  where
    go : (x : Bool) → is_inside (cond x (Inside (sphere_t a b c d p)) (Outside (sphere_t a b c d p))) ≡ x
    go true = refl
    go false = refl

pub answer_carries : (a b c d p : Position) → carried (sphere_answer a b c d p) ≡ sphere_t a b c d p
unfolding sphere_answer
answer_carries a b c d p = go (lt_z (pos 0) (sphere_sum a b c d p))
  where
    go : (x : Bool) → carried (cond x (Inside (sphere_t a b c d p)) (Outside (sphere_t a b c d p))) ≡ sphere_t a b c d p
    go true = refl
    go false = refl

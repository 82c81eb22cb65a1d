-- Places chosen well: near a given place and off finitely many planes; and the first of finitely many planes between two places.
use Prim.Native.Nat.{ℕ, zero, suc, ◌+◌, ◌≤◌, ◌<◌}
use mathlib.Core.Logic.{◌≢◌, ◌⊎◌, inl, inr}
use mathlib.Core.Path.{◌≡◌, sym, ap, ◌∙◌, subst}
use mathlib.Core.List.{[], ◌∷◌}
use native.Mathlib.Omega.{arith}
use native.Mathlib.Decide.{ℕ_discrete}
use native.Mathlib.Nat.{mul-le-mul_left}
use lib.IntN.{ℤ, pos, negsuc, neg_ℤ, nat_abs, ◌+ℤ◌, ◌*ℤ◌, *ℤ-zero, +ℤ_idl}
use lib.Signed.{◌<ℤ◌, ◌≤ℤ◌}
use Rattle.arith.proofs.Integers.{one-*}
use Rattle.arith.proofs.Order.{arithℤ, atom, ◌⊠◌, ◌⊞◌, ≡→≤, <-irrefl, ≤-<-trans, trichotomy, total, +-pos, *-pos, cancel_nonneg, parts_neg}
use Rattle.arith.proofs.Ring.{Expr, var, con, ◌⊕◌, ◌⊗◌, neg, ring}
use Rattle.arith.proofs.Combine.{nonneg, times, term, done}
use Rattle.covering.specs.Place.{Place}
use Rattle.covering.proofs.Linear.{mix}

abbrev pub Linear : (Place → ℤ) → Type 0
Linear F = (m : ℕ) (p : Place) (k : ℕ) (q : Place) → F (mix m p k q) ≡ pos m *ℤ F p +ℤ pos k *ℤ F q

-- ---- a number above every |G k|

unfoldable pub over_all : ℕ → (ℕ → ℤ) → ℕ
over_all zero G = 1
over_all (suc m) G = nat_abs (G m) + over_all m G

over_all_pos : (m : ℕ) (G : ℕ → ℤ) → 1 ≤ over_all m G
unfolding over_all
over_all_pos zero G = omega arith
over_all_pos (suc m) G = omega (arith, over_all_pos m G)

pub over_each : (m : ℕ) (G : ℕ → ℤ) (k : ℕ) → k < m → nat_abs (G k) < over_all m G
unfolding over_all
over_each zero G k h = absurd (omega arith)
over_each (suc m) G k h = go (ℕ_discrete k m) (λ l. over_each m G k l)
  where
    go : Dec (k ≡ m) → (k < m → nat_abs (G k) < over_all m G) → nat_abs (G k) < nat_abs (G m) + over_all m G
    go (yes e) r = rw e (omega (arith, over_all_pos m G))
    go (no d) r = omega (arith, r (omega arith))

pub outweighs : (N : ℕ) (u w : ℤ) → nat_abs w < N → pos 0 <ℤ u → pos 0 <ℤ (pos N *ℤ u +ℤ pos 1 *ℤ w)
outweighs N (pos zero) w h l = absurd (<-irrefl l)
outweighs N (negsuc u) w h l = absurd l.lt
outweighs N (pos (suc u)) (pos w) h l = +-pos {a = pos N *ℤ pos (suc u)} {b = pos 1 *ℤ pos w} (*-pos {a = pos N} {b = pos (suc u)} (omega arithℤ) l) (omega arithℤ)
outweighs N (pos (suc u)) (negsuc w) h l =
    omega (arithℤ, (atom (pos N) ⊠ atom (pos (suc u)) ⊞ atom (pos 1) ⊠ atom (negsuc w)).is, mul-le-mul_left {m = 1} {n = suc u} N (omega arith))

-- the same below 0, and at 0
pub outweighs_neg : (N : ℕ) (u w : ℤ) → nat_abs w < N → u <ℤ pos 0 → (pos N *ℤ u +ℤ pos 1 *ℤ w) <ℤ pos 0
outweighs_neg N (pos u) w h l = absurd (go l)
  where
    go : pos u <ℤ pos 0 → ⊥
    go l = omega arithℤ
outweighs_neg N (negsuc u) (negsuc w) h l = omega (arithℤ, (atom (pos N) ⊠ atom (negsuc u) ⊞ atom (pos 1) ⊠ atom (negsuc w)).is)
outweighs_neg N (negsuc u) (pos w) h l =
    omega (arithℤ, (atom (pos N) ⊠ atom (negsuc u) ⊞ atom (pos 1) ⊠ atom (pos w)).is, mul-le-mul_left {m = 1} {n = suc u} N (omega arith))

pub at_zero : (N : ℕ) (u w : ℤ) → u ≡ pos 0 → pos N *ℤ u +ℤ pos 1 *ℤ w ≡ w
at_zero N u w e = ap (λ z. pos N *ℤ z +ℤ pos 1 *ℤ w) e ∙ (ap (λ z. z +ℤ pos 1 *ℤ w) (*ℤ-zero (pos N)) ∙ (+ℤ_idl (pos 1 *ℤ w) ∙ one-* w))

outweighs_off : (N : ℕ) (u w : ℤ) → nat_abs w < N → u ≢ pos 0 → pos N *ℤ u +ℤ pos 1 *ℤ w ≢ pos 0
outweighs_off N u w h d e = go (trichotomy (pos 0) u)
  where
    go : (pos 0 <ℤ u) ⊎ ((pos 0 ≡ u) ⊎ (u <ℤ pos 0)) → ⊥
    go (inl l) = <-irrefl (subst (λ z. pos 0 <ℤ z) e (outweighs N u w h l))
    go (inr (inl q)) = d (sym q)
    go (inr (inr l)) = <-irrefl (subst (λ z. z <ℤ pos 0) e (outweighs_neg N u w h l))

-- ---- a place off finitely many planes

module _ (r : ℕ) (S : ℕ → Place → ℤ) (lin_s : (k : ℕ) → Linear (S k)) (L : ℕ → Place → ℤ) (lin_l : (k : ℕ) → Linear (L k)) (e : ℕ → Place) where
  pub record Avoids (j : ℕ) (x₀ x : Place) : Type 0 where
    pub keeps : (k : ℕ) → k < r → pos 0 <ℤ S k x₀ → pos 0 <ℤ S k x
    pub keeps_below : (k : ℕ) → k < r → S k x₀ <ℤ pos 0 → S k x <ℤ pos 0
    pub off : (k : ℕ) → k < j → L k (e k) ≢ pos 0 → L k x ≢ pos 0

  pub avoid : (j : ℕ) (x₀ : Place) → (x : Place) × Avoids j x₀ x
  avoid zero x₀ = (x₀, record { keeps = λ k h l. l; keeps_below = λ k h l. l; off = λ k h d. absurd (omega arith) })
  avoid (suc j) x₀ = go (avoid j x₀)
    where
      go : (x : Place) × Avoids j x₀ x → (x : Place) × Avoids (suc j) x₀ x
      go (x, A) = by (trichotomy (pos 0) (L j x))
        where
          same : L j x ≢ pos 0 → (x : Place) × Avoids (suc j) x₀ x
          same d = (x, record { keeps = A.keeps; keeps_below = A.keeps_below; off = λ k h l. at k h l (ℕ_discrete k j) })
            where
              at : (k : ℕ) → k < suc j → L k (e k) ≢ pos 0 → Dec (k ≡ j) → L k x ≢ pos 0
              at k h l (yes q) z = d (ap (λ i. L i x) (sym q) ∙ z)
              at k h l (no q) z = A.off k (omega arith) l z

          N : ℕ
          N = over_all r (λ k. S k (e j)) + over_all j (λ k. L k (e j))

          moved : L j x ≡ pos 0 → (x : Place) × Avoids (suc j) x₀ x
          moved z = (
            mix N x 1 (e j),
            record {
              keeps = λ k h l.
                  subst (λ u. pos 0 <ℤ u) (sym (lin_s k N x 1 (e j)))
                  (outweighs N (S k x) (S k (e j)) (omega (arith, over_each r (λ k. S k (e j)) k h)) (A.keeps k h l));
              keeps_below = λ k h l.
                  subst (λ u. u <ℤ pos 0) (sym (lin_s k N x 1 (e j)))
                  (outweighs_neg N (S k x) (S k (e j)) (omega (arith, over_each r (λ k. S k (e j)) k h)) (A.keeps_below k h l));
              off = λ k h l u. at k h l (ℕ_discrete k j) (sym (lin_l k N x 1 (e j)) ∙ u);
            },
          )
            where
              at : (k : ℕ) → k < suc j → L k (e k) ≢ pos 0 → Dec (k ≡ j) → pos N *ℤ L k x +ℤ pos 1 *ℤ L k (e j) ≢ pos 0
              at k h l (yes q) u = l (ap (λ i. L k (e i)) q ∙ (sym (at_zero N (L k x) (L k (e j)) (ap (λ i. L i x) q ∙ z)) ∙ u))
              at k h l (no q) u =
                  outweighs_off N (L k x) (L k (e j)) (omega (arith, over_each j (λ k. L k (e j)) k (omega arith))) (A.off k (omega arith) l) u

          by : (pos 0 <ℤ L j x) ⊎ ((pos 0 ≡ L j x) ⊎ (L j x <ℤ pos 0)) → (x : Place) × Avoids (suc j) x₀ x
          by (inl l) = same (λ z. <-irrefl (subst (λ u. pos 0 <ℤ u) z l))
          by (inr (inl z)) = moved (sym z)
          by (inr (inr l)) = same (λ z. <-irrefl (subst (λ u. u <ℤ pos 0) z l))

-- ---- the first of finitely many planes between two places: a f and b f are their values at the two

abbrev pub Crossed : ℤ → ℤ → Type 0
Crossed a b = (pos 0 <ℤ a) × (b <ℤ pos 0)

-- at the place where the form (a, b) is 0, the form (c, d) is not below 0
abbrev pub ahead : ℤ → ℤ → ℤ → ℤ → ℤ
ahead a b c d = neg_ℤ b *ℤ c +ℤ a *ℤ d

crossed? : (a b : ℤ) → Crossed a b ⊎ ((a ≤ℤ pos 0) ⊎ (pos 0 ≤ℤ b))
crossed? a b = go (total a (pos 0)) (total (pos 0) b)
  where
    go : (a ≤ℤ pos 0) ⊎ (pos 0 <ℤ a) → (pos 0 ≤ℤ b) ⊎ (b <ℤ pos 0) → Crossed a b ⊎ ((a ≤ℤ pos 0) ⊎ (pos 0 ≤ℤ b))
    go (inl h) k = inr (inl h)
    go (inr h) (inl k) = inr (inr k)
    go (inr h) (inr k) = inl (h, k)

ahead_trans : (a₀ b₀ a₁ b₁ a b : ℤ) → b₀ <ℤ pos 0 → b₁ <ℤ pos 0 → b <ℤ pos 0 → pos 0 ≤ℤ ahead a₀ b₀ a b → ahead a₀ b₀ a₁ b₁ <ℤ pos 0 → pos 0 ≤ℤ ahead a₁ b₁ a b
ahead_trans a₀ b₀ a₁ b₁ a b h₀ h₁ h k l =
    cancel_nonneg {a = neg_ℤ b₀} (ahead a₁ b₁ a b) (omega (arithℤ, parts_neg b₀))
    (nonneg (neg (var 1) ⊗ aₑ (var 2) (var 3) (var 4) (var 5))
    (times (neg (var 3)) (aₑ (var 0) (var 1) (var 4) (var 5)) ∷ times (neg (var 5)) (neg (aₑ (var 0) (var 1) (var 2) (var 3))) ∷ [])
    tt (a₀ ∷ b₀ ∷ a₁ ∷ b₁ ∷ a ∷ b ∷ [])
    (term (omega (arithℤ, parts_neg b₁)) k (term (omega (arithℤ, parts_neg b)) (omega (arithℤ, parts_neg (ahead a₀ b₀ a₁ b₁))) done)))
  where
    aₑ : Expr → Expr → Expr → Expr → Expr
    aₑ a b c d = neg b ⊗ c ⊕ a ⊗ d

pub record First (m : ℕ) (a b : ℕ → ℤ) : Type 0 where
  pub at : ℕ
  pub at< : at < m
  pub front : pos 0 <ℤ a at
  pub back : b at <ℤ pos 0
  pub least : (k : ℕ) → k < m → pos 0 <ℤ a k → b k <ℤ pos 0 → pos 0 ≤ℤ ahead (a at) (b at) (a k) (b k)

ahead_self : (a b : ℤ) → ahead a b a b ≡ pos 0
ahead_self a b = ring (neg (var 1) ⊗ var 0 ⊕ var 0 ⊗ var 1) (con (pos 0)) tt (a ∷ b ∷ [])

pub first : (m : ℕ) (a b : ℕ → ℤ) → First m a b ⊎ ((k : ℕ) → k < m → (a k ≤ℤ pos 0) ⊎ (pos 0 ≤ℤ b k))
first zero a b = inr (λ k h. absurd (omega arith))
first (suc m) a b = go (first m a b) (crossed? (a m) (b m))
  where
    wider : (F : First m a b) → (Crossed (a m) (b m) → pos 0 ≤ℤ ahead (a F.at) (b F.at) (a m) (b m)) → First (suc m) a b
    wider F last = record { at = F.at; at< = omega (arith, F.at<); front = F.front; back = F.back; least = λ k h u w. by k h u w (ℕ_discrete k m) }
      where
        by : (k : ℕ) → k < suc m → pos 0 <ℤ a k → b k <ℤ pos 0 → Dec (k ≡ m) → pos 0 ≤ℤ ahead (a F.at) (b F.at) (a k) (b k)
        by k h u w (yes e) = rw e (last (subst (λ i. Crossed (a i) (b i)) e (u, w)))
        by k h u w (no d) = F.least k (omega arith) u w

    newest : Crossed (a m) (b m) → ((k : ℕ) → k < m → pos 0 <ℤ a k → b k <ℤ pos 0 → pos 0 ≤ℤ ahead (a m) (b m) (a k) (b k)) → First (suc m) a b
    newest p all = record { at = m; at< = omega arith; front = p.0; back = p.1; least = λ k h u w. by k h u w (ℕ_discrete k m) }
      where
        by : (k : ℕ) → k < suc m → pos 0 <ℤ a k → b k <ℤ pos 0 → Dec (k ≡ m) → pos 0 ≤ℤ ahead (a m) (b m) (a k) (b k)
        by k h u w (yes e) = rw e (≡→≤ (sym (ahead_self (a m) (b m))))
        by k h u w (no d) = all k (omega arith) u w

    none : {k : ℕ} → (a k ≤ℤ pos 0) ⊎ (pos 0 ≤ℤ b k) → pos 0 <ℤ a k → b k <ℤ pos 0 → ⊥
    none (inl h) u w = <-irrefl (≤-<-trans h u)
    none (inr h) u w = <-irrefl (≤-<-trans h w)

    go : First m a b ⊎ ((k : ℕ) → k < m → (a k ≤ℤ pos 0) ⊎ (pos 0 ≤ℤ b k)) → Crossed (a m) (b m) ⊎ ((a m ≤ℤ pos 0) ⊎ (pos 0 ≤ℤ b m)) →
        First (suc m) a b ⊎ ((k : ℕ) → k < suc m → (a k ≤ℤ pos 0) ⊎ (pos 0 ≤ℤ b k))
    go (inl F) (inr d) = inl (wider F (λ p. absurd (none d p.0 p.1)))
    go (inl F) (inl p) = inl (by (total (pos 0) (ahead (a F.at) (b F.at) (a m) (b m))))
      where
        by : (pos 0 ≤ℤ ahead (a F.at) (b F.at) (a m) (b m)) ⊎ (ahead (a F.at) (b F.at) (a m) (b m) <ℤ pos 0) → First (suc m) a b
        by (inl l) = wider F (λ q. l)
        by (inr l) = newest p (λ k h u w. ahead_trans (a F.at) (b F.at) (a m) (b m) (a k) (b k) F.back p.1 w (F.least k h u w) l)
    go (inr all) (inl p) = inl (newest p (λ k h u w. absurd (none (all k h) u w)))
    go (inr all) (inr d) = inr (λ k h. by k h (ℕ_discrete k m))
      where
        by : (k : ℕ) → k < suc m → Dec (k ≡ m) → (a k ≤ℤ pos 0) ⊎ (pos 0 ≤ℤ b k)
        by k h (yes e) = subst (λ i. (a i ≤ℤ pos 0) ⊎ (pos 0 ≤ℤ b i)) (sym e) d
        by k h (no e) = all k (omega arith)

-- Sums and counts over numbers that move: two families of numbers that together go one to one to the numbers below m.
use Prim.Native.Nat.{ℕ, zero, suc, ◌≤◌, ◌<◌}
use mathlib.Core.Bool.{Bool, true, false, not, ◌&&◌, cond}
use mathlib.Core.Logic.{◌≢◌, ◌⊎◌, inl, inr}
use mathlib.Core.Path.{◌≡◌, refl, sym, ap, ap₂, ◌∙◌, subst}
use native.Mathlib.Omega.{arith}
use borrow.Author.Tests.{eqb-true, eq-eqb, ne_eqb}
use lib.Dec.{eqb}
use lib.IntN.{ℤ, pos, ◌+ℤ◌, +ℤ_idl, +ℤ_idr}
use Rattle.arith.specs.Table.{sum, count_below}
use Rattle.arith.proofs.Flags.{split, and_left, and_right, and_intro}
use Rattle.arith.proofs.Sums.{sum_cong, sum_zero, sum_add, sum_swap, sum_one}
use Rattle.arith.proofs.Counting.{count_yes, count_no, count_added}

cond_zero : (b : Bool) → cond b (pos 0) (pos 0) ≡ pos 0
cond_zero true = refl
cond_zero false = refl

-- the values g at the places σ a of those a below n that pass p
module _ (m n : ℕ) (g : ℕ → ℤ) (p : ℕ → Bool) (σ : ℕ → ℕ) where
  -- what they give at place c
  hits : ℕ → ℤ
  hits c = sum n (λ a. cond (p a && eqb (σ a) c) (g c) (pos 0))

  hits_none : (c : ℕ) → ((a : ℕ) → a < n → p a ≡ true → σ a ≢ c) → hits c ≡ pos 0
  unfolding hits
  hits_none c off = sum_zero n (λ a. cond (p a && eqb (σ a) c) (g c) (pos 0)) (λ a h. go a h (split (p a && eqb (σ a) c)))
    where
      go : (a : ℕ) → a < n → ((p a && eqb (σ a) c) ≡ true) ⊎ ((p a && eqb (σ a) c) ≡ false) → cond (p a && eqb (σ a) c) (g c) (pos 0) ≡ pos 0
      go a h (inl e) = absurd (off a h (and_left (p a) (eqb (σ a) c) e) (eqb-true (σ a) c (and_right (p a) (eqb (σ a) c) e)))
      go a h (inr e) = rw e

  hits_zero : (c : ℕ) → g c ≡ pos 0 → hits c ≡ pos 0
  unfolding hits
  hits_zero c e = sum_zero n (λ a. cond (p a && eqb (σ a) c) (g c) (pos 0)) (λ a h. ap (λ z. cond (p a && eqb (σ a) c) z (pos 0)) e ∙ cond_zero (p a && eqb (σ a) c))

  hits_one : ((a b : ℕ) → a < n → b < n → p a ≡ true → p b ≡ true → σ a ≡ σ b → a ≡ b) → (a : ℕ) → a < n → p a ≡ true → hits (σ a) ≡ g (σ a)
  unfolding hits
  hits_one one a h e =
      sum_one n (λ b. cond (p b && eqb (σ b) (σ a)) (g (σ a)) (pos 0)) a h (λ b l d. go b l d (split (p b && eqb (σ b) (σ a)))) ∙
      rw (and_intro e (eq-eqb (σ a) (σ a) refl))
    where
      go : (b : ℕ) → b < n → b ≢ a → ((p b && eqb (σ b) (σ a)) ≡ true) ⊎ ((p b && eqb (σ b) (σ a)) ≡ false) → cond (p b && eqb (σ b) (σ a)) (g (σ a)) (pos 0) ≡ pos 0
      go b l d (inl q) = absurd (d (one b a l h (and_left (p b) (eqb (σ b) (σ a)) q) e (eqb-true (σ b) (σ a) (and_right (p b) (eqb (σ b) (σ a)) q))))
      go b l d (inr q) = rw q

  hits_sum : ((a : ℕ) → a < n → p a ≡ true → σ a < m) → sum m hits ≡ sum n (λ a. cond (p a) (g (σ a)) (pos 0))
  unfolding hits
  hits_sum below =
      sum_swap m n (λ c a. cond (p a && eqb (σ a) c) (g c) (pos 0)) ∙
      sum_cong n (λ a. sum m (λ c. cond (p a && eqb (σ a) c) (g c) (pos 0))) (λ a. cond (p a) (g (σ a)) (pos 0)) (λ a h. go a h (split (p a)))
    where
      go : (a : ℕ) → a < n → (p a ≡ true) ⊎ (p a ≡ false) → sum m (λ c. cond (p a && eqb (σ a) c) (g c) (pos 0)) ≡ cond (p a) (g (σ a)) (pos 0)
      go a h (inl e) =
          sum_one m (λ c. cond (p a && eqb (σ a) c) (g c) (pos 0)) (σ a) (below a h e) (λ c l d. rw (e, ne_eqb (σ a) c (λ q. d (sym q)))) ∙
          rw (e, eq-eqb (σ a) (σ a) refl)
      go a h (inr e) = sum_zero m (λ c. cond (p a && eqb (σ a) c) (g c) (pos 0)) (λ c l. rw e) ∙ rw e

-- where a number below m comes from: a number of the first family, one of the second, or nowhere
pub data From (n k : ℕ) (p q : ℕ → Bool) (σ τ : ℕ → ℕ) (c : ℕ) : Type 0 where
  first : (a : ℕ) → a < n → p a ≡ true → c ≡ σ a → From n k p q σ τ c
  second : (b : ℕ) → b < k → q b ≡ true → c ≡ τ b → From n k p q σ τ c

-- two families that go one to one below m
pub record Together (m n k : ℕ) (p q : ℕ → Bool) (σ τ : ℕ → ℕ) : Type 0 where
  pub first< : (a : ℕ) → a < n → p a ≡ true → σ a < m
  pub second< : (b : ℕ) → b < k → q b ≡ true → τ b < m
  pub first_one : (a b : ℕ) → a < n → b < n → p a ≡ true → p b ≡ true → σ a ≡ σ b → a ≡ b
  pub second_one : (a b : ℕ) → a < k → b < k → q a ≡ true → q b ≡ true → τ a ≡ τ b → a ≡ b
  pub apart : (a b : ℕ) → a < n → b < k → p a ≡ true → q b ≡ true → σ a ≢ τ b

pub sum_together : {m n k : ℕ} {p q : ℕ → Bool} {σ τ : ℕ → ℕ} → Together m n k p q σ τ → (g : ℕ → ℤ) →
    ((c : ℕ) → c < m → From n k p q σ τ c ⊎ (g c ≡ pos 0)) →
    sum m g ≡ sum n (λ a. cond (p a) (g (σ a)) (pos 0)) +ℤ sum k (λ b. cond (q b) (g (τ b)) (pos 0))
sum_together {m} {n} {k} {p} {q} {σ} {τ} T g only =
    sum_cong m g (λ c. hits m n g p σ c +ℤ hits m k g q τ c) (λ c h. sym (go c (only c h))) ∙
    (sum_add m (hits m n g p σ) (hits m k g q τ) ∙
    ap₂ ◌+ℤ◌ (hits_sum m n g p σ T.first<) (hits_sum m k g q τ T.second<))
  where
    go : (c : ℕ) → From n k p q σ τ c ⊎ (g c ≡ pos 0) → hits m n g p σ c +ℤ hits m k g q τ c ≡ g c
    go c (inl (first a h e x)) =
        subst (λ y. hits m n g p σ y +ℤ hits m k g q τ y ≡ g y) (sym x)
        (ap₂ ◌+ℤ◌ (hits_one m n g p σ T.first_one a h e) (hits_none m k g q τ (σ a) (λ b l f r. T.apart a b h l e f (sym r))) ∙ +ℤ_idr (g (σ a)))
    go c (inl (second b h e x)) =
        subst (λ y. hits m n g p σ y +ℤ hits m k g q τ y ≡ g y) (sym x)
        (ap₂ ◌+ℤ◌ (hits_none m n g p σ (τ b) (λ a l f r. T.apart a b l h f e r)) (hits_one m k g q τ T.second_one b h e) ∙ +ℤ_idl (g (τ b)))
    go c (inr z) = ap₂ ◌+ℤ◌ (hits_zero m n g p σ c z) (hits_zero m k g q τ c z) ∙ sym z

-- ---- counts

-- those that pass p go one to one to some that pass q
pub count_into : (n m : ℕ) (p q : ℕ → Bool) (R : ℕ → ℕ → Type 0) →
    ((a : ℕ) → a < n → p a ≡ true → (b : ℕ) × (b < m) × ((q b ≡ true) × R a b)) →
    ((a a' b : ℕ) → R a b → R a' b → a ≡ a') → count_below n p ≤ count_below m q
unfolding count_below
count_into zero m p q R to one = omega arith
count_into (suc n) m p q R to one = go (λ q' to'. count_into n m p q' R to' one) (split (p n))
  where
    Into : (ℕ → Bool) → Type 0
    Into q = (a : ℕ) → a < n → p a ≡ true → (b : ℕ) × (b < m) × ((q b ≡ true) × R a b)

    go : ((q' : ℕ → Bool) → Into q' → count_below n p ≤ count_below m q') → (p n ≡ true) ⊎ (p n ≡ false) → count_below (suc n) p ≤ count_below m q
    go ih (inr e) = omega (arith, count_no n p e, ih q (λ a h. to a (omega arith)))
    go ih (inl e) = with_b (to n (omega arith) e)
      where
        with_b : (b : ℕ) × (b < m) × ((q b ≡ true) × R n b) → count_below (suc n) p ≤ count_below m q
        with_b (b, b<, (e₁, r)) = omega (arith, count_yes n p e, fewer, ih less to_less)
          where
            less : ℕ → Bool
            less c = q c && not (eqb c b)

            off : (c : ℕ) → c ≢ b → q c ≡ less c
            off c d = sym (rw (ne_eqb c b d) (and_true (q c)))
              where
                and_true : (x : Bool) → (x && true) ≡ x
                and_true true = refl
                and_true false = refl

            fewer : count_below m q ≡ suc (count_below m less)
            fewer = count_added m less q b b< (rw (e₁, eq-eqb b b refl)) e₁ (λ c h d. off c d)

            to_less : Into less
            to_less a h f = at (to a (omega arith) f)
              where
                at : (b : ℕ) × (b < m) × ((q b ≡ true) × R a b) → (b : ℕ) × (b < m) × ((less b ≡ true) × R a b)
                at (b', l, (f₁, r₁)) = (b', l, (sym (off b' (λ x. absurd (omega (arith, one a n b (subst (R a) x r₁) r)))) ∙ f₁, r₁))

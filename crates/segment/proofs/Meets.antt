-- Document 02 §4: forms on a segment by their values at its ends. None is below 0 at some place of it just where the test `meets` passes: intervals that
-- meet in pairs have a common place.
use Prim.Native.Nat.{ℕ, zero, suc, ◌+◌, ◌-◌, ◌≤◌, ◌<◌}
use mathlib.Core.Bool.{Bool, true, false, not, ◌&&◌}
use mathlib.Core.List.{[], ◌∷◌}
use mathlib.Core.Logic.{◌⊎◌, inl, inr, ◌↔◌}
use mathlib.Core.Path.{◌≡◌, refl, sym, ap, ap₂, ◌∙◌, subst}
use native.Mathlib.Omega.{arith}
use native.Mathlib.Decide.{ℕ_discrete}
use lib.IntN.{ℤ, pos, negsuc, neg_ℤ, ◌+ℤ◌, ◌-ℤ◌, ◌*ℤ◌}
use lib.Signed.{◌<ℤ◌, ◌≤ℤ◌, le_z}
use borrow.Author.Tests.{not-true}
use Rattle.arith.specs.Table.{all_below}
use Rattle.arith.proofs.Combine.{times, term, done, nonneg}
use Rattle.arith.proofs.Flags.{split, clash, and_left, and_right, and_intro, or_cases, or_left, or_right}
use Rattle.arith.proofs.Order.{arithℤ, pos_part, neg_part, parts_sub, parts_neg, ≡→≤, <-irrefl, ≤-<-trans, total, sub_nonneg, cancel_nonneg, lt_z_true, le_z_true, lt_lt_z, le_le_z, lt_z_no_le_z, le_z_not}
use Rattle.arith.proofs.Ring.{Expr, var, con, ◌⊕◌, ◌⊖◌, ◌⊗◌, neg, ring}
use Rattle.arith.proofs.Tables.{all_at, all_intro}
use Rattle.segment.specs.Call.{below, enters, in_order, meets}

pub record Meets (m : ℕ) (a b : ℕ → ℤ) : Type 0 where
  pub apart : (k : ℕ) → k < m → a k <ℤ pos 0 → b k <ℤ pos 0 → ⊥
  pub pairs : (k l : ℕ) → k < m → l < m → a k <ℤ pos 0 → pos 0 ≤ℤ b k → b l <ℤ pos 0 → pos 0 ≤ℤ a l → (a k *ℤ b l) ≤ℤ (a l *ℤ b k)

-- n d-ths of the way on none is below 0
pub record Common (m : ℕ) (a b : ℕ → ℤ) : Type 0 where
  pub n : ℕ
  pub d : ℕ
  pub within : n ≤ d
  pub some : 1 ≤ d
  pub above : (k : ℕ) → k < m → pos 0 ≤ℤ (pos (d - n) *ℤ a k +ℤ pos n *ℤ b k)

-- the form (c, d), where the form (a, b) enters
abbrev entered : ℤ → ℤ → ℤ → ℤ → ℤ
entered a b c d = b *ℤ c +ℤ neg_ℤ a *ℤ d

enteredₑ : Expr → Expr → Expr → Expr → Expr
enteredₑ a b c d = b ⊗ c ⊕ neg a ⊗ d

-- the last form that enters
record Last (m : ℕ) (a b : ℕ → ℤ) : Type 0 where
  at : ℕ
  at< : at < m
  front : a at <ℤ pos 0
  back : pos 0 ≤ℤ b at
  last : (k : ℕ) → k < m → a k <ℤ pos 0 → pos 0 ≤ℤ b k → pos 0 ≤ℤ entered (a at) (b at) (a k) (b k)

later : (a₀ b₀ a₁ b₁ a b : ℤ) → a₀ <ℤ pos 0 → a₁ <ℤ pos 0 → a <ℤ pos 0 → pos 0 ≤ℤ entered a₀ b₀ a b → entered a₀ b₀ a₁ b₁ <ℤ pos 0 → pos 0 ≤ℤ entered a₁ b₁ a b
unfolding enteredₑ
later a₀ b₀ a₁ b₁ a b h₀ h₁ h k l =
    cancel_nonneg {a = neg_ℤ a₀} (entered a₁ b₁ a b) (omega (arithℤ, parts_neg a₀))
    (nonneg (neg (var 0) ⊗ enteredₑ (var 2) (var 3) (var 4) (var 5))
    (times (neg (var 2)) (enteredₑ (var 0) (var 1) (var 4) (var 5)) ∷ times (neg (var 4)) (neg (enteredₑ (var 0) (var 1) (var 2) (var 3))) ∷ [])
    tt (a₀ ∷ b₀ ∷ a₁ ∷ b₁ ∷ a ∷ b ∷ [])
    (term (omega (arithℤ, parts_neg a₁)) k (term (omega (arithℤ, parts_neg a)) (omega (arithℤ, parts_neg (entered a₀ b₀ a₁ b₁))) done)))

abbrev Enters : ℤ → ℤ → Type 0
Enters a b = (a <ℤ pos 0) × (pos 0 ≤ℤ b)

enters? : (a b : ℤ) → Enters a b ⊎ ((pos 0 ≤ℤ a) ⊎ (b <ℤ pos 0))
enters? a b = go (total (pos 0) a) (total (pos 0) b)
  where
    go : (pos 0 ≤ℤ a) ⊎ (a <ℤ pos 0) → (pos 0 ≤ℤ b) ⊎ (b <ℤ pos 0) → Enters a b ⊎ ((pos 0 ≤ℤ a) ⊎ (b <ℤ pos 0))
    go (inl h) k = inr (inl h)
    go (inr h) (inl k) = inl (h, k)
    go (inr h) (inr k) = inr (inr k)

not_entering : {a b : ℤ} → (pos 0 ≤ℤ a) ⊎ (b <ℤ pos 0) → a <ℤ pos 0 → pos 0 ≤ℤ b → ⊥
not_entering (inl h) u w = <-irrefl (≤-<-trans h u)
not_entering (inr h) u w = <-irrefl (≤-<-trans w h)

last_of : (m : ℕ) (a b : ℕ → ℤ) → Last m a b ⊎ ((k : ℕ) → k < m → (pos 0 ≤ℤ a k) ⊎ (b k <ℤ pos 0))
last_of zero a b = inr (λ k h. absurd (omega arith))
last_of (suc m) a b = go (last_of m a b) (enters? (a m) (b m))
  where
    -- the choice e, and what is asked of form m
    wider : (e : ℕ) → e < suc m → a e <ℤ pos 0 → pos 0 ≤ℤ b e → ((k : ℕ) → k < m → a k <ℤ pos 0 → pos 0 ≤ℤ b k → pos 0 ≤ℤ entered (a e) (b e) (a k) (b k)) →
        (a m <ℤ pos 0 → pos 0 ≤ℤ b m → pos 0 ≤ℤ entered (a e) (b e) (a m) (b m)) → Last (suc m) a b
    wider e l h w old new = record { at = e; at< = l; front = h; back = w; last = λ k l u w. by k l u w (ℕ_discrete k m) }
      where
        by : (k : ℕ) → k < suc m → a k <ℤ pos 0 → pos 0 ≤ℤ b k → Dec (k ≡ m) → pos 0 ≤ℤ entered (a e) (b e) (a k) (b k)
        by k l u w (yes q) = subst (λ i. pos 0 ≤ℤ entered (a e) (b e) (a i) (b i)) (sym q) (new (subst (λ i. a i <ℤ pos 0) q u) (subst (λ i. pos 0 ≤ℤ b i) q w))
        by k l u w (no q) = old k (omega arith) u w

    self : pos 0 ≤ℤ entered (a m) (b m) (a m) (b m)
    self = ≡→≤ (sym (ring (var 1 ⊗ var 0 ⊕ neg (var 0) ⊗ var 1) (con (pos 0)) tt (a m ∷ b m ∷ [])))

    go : Last m a b ⊎ ((k : ℕ) → k < m → (pos 0 ≤ℤ a k) ⊎ (b k <ℤ pos 0)) → Enters (a m) (b m) ⊎ ((pos 0 ≤ℤ a m) ⊎ (b m <ℤ pos 0)) →
        Last (suc m) a b ⊎ ((k : ℕ) → k < suc m → (pos 0 ≤ℤ a k) ⊎ (b k <ℤ pos 0))
    go (inl L) (inr d) = inl (wider L.at (omega (arith, L.at<)) L.front L.back L.last (λ u w. absurd (not_entering d u w)))
    go (inl L) (inl p) = inl (by (total (pos 0) (entered (a L.at) (b L.at) (a m) (b m))))
      where
        by : (pos 0 ≤ℤ entered (a L.at) (b L.at) (a m) (b m)) ⊎ (entered (a L.at) (b L.at) (a m) (b m) <ℤ pos 0) → Last (suc m) a b
        by (inl l) = wider L.at (omega (arith, L.at<)) L.front L.back L.last (λ u w. l)
        by (inr l) = wider m (omega arith) p.0 p.1 (λ k h u w. later (a L.at) (b L.at) (a m) (b m) (a k) (b k) L.front p.0 u (L.last k h u w) l) (λ u w. self)
    go (inr all) (inl p) = inl (wider m (omega arith) p.0 p.1 (λ k h u w. absurd (not_entering (all k h) u w)) (λ u w. self))
    go (inr all) (inr d) = inr (λ k h. by k h (ℕ_discrete k m))
      where
        by : (k : ℕ) → k < suc m → Dec (k ≡ m) → (pos 0 ≤ℤ a k) ⊎ (b k <ℤ pos 0)
        by k h (yes e) = subst (λ i. (pos 0 ≤ℤ a i) ⊎ (b i <ℤ pos 0)) (sym e) d
        by k h (no e) = all k (omega arith)

up : (z : ℤ) → pos 0 ≤ℤ z → z ≡ pos (pos_part z)
up (pos n) h = refl
up (negsuc n) h = absurd h.le

down : (z : ℤ) → z <ℤ pos 0 → neg_ℤ z ≡ pos (neg_part z)
down (pos n) h = absurd (not_below n h)
  where
    not_below : (n : ℕ) → pos n <ℤ pos 0 → ⊥
    not_below n h = omega arithℤ
down (negsuc n) h = refl

below_no : (z : ℤ) → pos 0 ≤ℤ z → not (below z) ≡ true
below_no z h = ap not (le_z_not (pos 0) z ∙ ap not (le_le_z h))

below_off : (z : ℤ) → not (below z) ≡ true → pos 0 ≤ℤ z
below_off z h = le_z_true (pos 0) z (lt_z_no_le_z (pos 0) z (not-true (below z) h))

module _ {a b c d : ℤ} where
  in_order_of : a <ℤ pos 0 → pos 0 ≤ℤ b → d <ℤ pos 0 → pos 0 ≤ℤ c → in_order a b c d ≡ true → (a *ℤ d) ≤ℤ (c *ℤ b)
  unfolding in_order
  in_order_of u v w z e = go (or_cases (not (enters a b && enters d c)) (le_z (a *ℤ d) (c *ℤ b)) e)
    where
      go : (not (enters a b && enters d c) ≡ true) ⊎ (le_z (a *ℤ d) (c *ℤ b) ≡ true) → (a *ℤ d) ≤ℤ (c *ℤ b)
      go (inl q) = clash (and_intro (and_intro (lt_lt_z u) (below_no b v)) (and_intro (lt_lt_z w) (below_no c z))) (not-true (enters a b && enters d c) q)
      go (inr q) = le_z_true (a *ℤ d) (c *ℤ b) q

  in_order_yes : (a <ℤ pos 0 → pos 0 ≤ℤ b → d <ℤ pos 0 → pos 0 ≤ℤ c → (a *ℤ d) ≤ℤ (c *ℤ b)) → in_order a b c d ≡ true
  unfolding in_order
  in_order_yes h = go (split (enters a b && enters d c))
    where
      go : ((enters a b && enters d c) ≡ true) ⊎ ((enters a b && enters d c) ≡ false) → in_order a b c d ≡ true
      go (inr q) = or_left (not (enters a b && enters d c)) (le_z (a *ℤ d) (c *ℤ b)) (ap not q)
      go (inl q) =
          let i = and_left (enters a b) (enters d c) q in
          let j = and_right (enters a b) (enters d c) q in
          or_right (not (enters a b && enters d c)) (le_z (a *ℤ d) (c *ℤ b))
          (le_le_z (h (lt_z_true a (pos 0) (and_left (below a) (not (below b)) i)) (below_off b (and_right (below a) (not (below b)) i))
          (lt_z_true d (pos 0) (and_left (below d) (not (below c)) j)) (below_off c (and_right (below d) (not (below c)) j))))

module _ (m : ℕ) (a b : ℕ → ℤ) where
  -- where the last form enters, none is below 0
  pub meets_common : Meets m a b → Common m a b
  meets_common M = go (last_of m a b)
    where
      go : Last m a b ⊎ ((k : ℕ) → k < m → (pos 0 ≤ℤ a k) ⊎ (b k <ℤ pos 0)) → Common m a b
      go (inr free) = record { n = 0; d = 1; within = omega arith; some = omega arith; above = λ k h. at k h (free k h) (total (pos 0) (a k)) }
        where
          one : (x y : ℤ) → pos 0 ≤ℤ x → pos 0 ≤ℤ (pos 1 *ℤ x +ℤ pos 0 *ℤ y)
          one x y h = nonneg (con (pos 1) ⊗ var 0 ⊕ con (pos 0) ⊗ var 1) (times (con (pos 1)) (var 0) ∷ []) tt (x ∷ y ∷ []) (term (omega arithℤ) h done)

          at : (k : ℕ) → k < m → (pos 0 ≤ℤ a k) ⊎ (b k <ℤ pos 0) → (pos 0 ≤ℤ a k) ⊎ (a k <ℤ pos 0) → pos 0 ≤ℤ (pos 1 *ℤ a k +ℤ pos 0 *ℤ b k)
          at k h f (inl u) = one (a k) (b k) u
          at k h (inl f) (inr u) = absurd (<-irrefl (≤-<-trans f u))
          at k h (inr f) (inr u) = absurd (M.apart k h u f)
      go (inl L) = record { n = neg_part (a e); d = pos_part (b e) + neg_part (a e); within = omega arith; some = omega (arithℤ, L.front); above = λ k h. subst (λ z. pos 0 ≤ℤ z) (here k) (at k h (total (pos 0) (a k)) (total (pos 0) (b k))) }
        where
          e : ℕ
          e = L.at

          back : (x y : ℕ) → x ≡ x + y - y
          back x y = omega arith

          here : (k : ℕ) → entered (a e) (b e) (a k) (b k) ≡ pos (pos_part (b e) + neg_part (a e) - neg_part (a e)) *ℤ a k +ℤ pos (neg_part (a e)) *ℤ b k
          here k = ap₂ (λ x y. x *ℤ a k +ℤ y *ℤ b k) (up (b e) L.back ∙ ap pos (back (pos_part (b e)) (neg_part (a e)))) (down (a e) L.front)

          both : (x y u w : ℤ) → x <ℤ pos 0 → pos 0 ≤ℤ y → pos 0 ≤ℤ u → pos 0 ≤ℤ w → pos 0 ≤ℤ entered x y u w
          both x y u w h k i j =
              nonneg (var 1 ⊗ var 2 ⊕ neg (var 0) ⊗ var 3) (times (var 1) (var 2) ∷ times (neg (var 0)) (var 3) ∷ []) tt (x ∷ y ∷ u ∷ w ∷ [])
              (term k i (term (omega (arithℤ, parts_neg x)) j done))

          leaving : (x y u w : ℤ) → (x *ℤ w) ≤ℤ (u *ℤ y) → pos 0 ≤ℤ entered x y u w
          leaving x y u w h =
              nonneg (var 1 ⊗ var 2 ⊕ neg (var 0) ⊗ var 3) (times (con (pos 1)) (var 2 ⊗ var 1 ⊖ var 0 ⊗ var 3) ∷ []) tt (x ∷ y ∷ u ∷ w ∷ [])
              (term (omega arithℤ) (sub_nonneg.0 h) done)

          at : (k : ℕ) → k < m → (pos 0 ≤ℤ a k) ⊎ (a k <ℤ pos 0) → (pos 0 ≤ℤ b k) ⊎ (b k <ℤ pos 0) → pos 0 ≤ℤ entered (a e) (b e) (a k) (b k)
          at k h (inl u) (inl w) = both (a e) (b e) (a k) (b k) L.front L.back u w
          at k h (inl u) (inr w) = leaving (a e) (b e) (a k) (b k) (M.pairs e k L.at< h L.front L.back w u)
          at k h (inr u) (inl w) = L.last k h u w
          at k h (inr u) (inr w) = absurd (M.apart k h u w)

  pub common_meets : Common m a b → Meets m a b
  common_meets C = record { apart = λ k h u w. low (C.d - C.n) C.n (a k) (b k) (omega (arith, C.some, C.within)) u w (C.above k h); pairs = λ k l hk hl u v w z. crossed (C.d - C.n) C.n (a k) (b k) (a l) (b l) (omega (arith, C.some, C.within)) u v w z (C.above k hk) (C.above l hl) }
    where
      low : (e n : ℕ) (x y : ℤ) → 1 ≤ e + n → x <ℤ pos 0 → y <ℤ pos 0 → pos 0 ≤ℤ (pos e *ℤ x +ℤ pos n *ℤ y) → ⊥
      low e n x y h u w k = sums (pos e *ℤ x +ℤ pos n *ℤ y) less k
        where
          less : pos 0 ≤ℤ (neg_ℤ (pos e *ℤ x +ℤ pos n *ℤ y) -ℤ pos (e + n))
          less =
              nonneg (neg (var 0 ⊗ var 2 ⊕ var 1 ⊗ var 3) ⊖ (var 0 ⊕ var 1)) (times (var 0) (neg (var 2) ⊖ con (pos 1)) ∷ times (var 1) (neg (var 3) ⊖ con (pos 1)) ∷ []) tt (pos e ∷ pos n ∷ x ∷ y ∷ [])
              (term (omega arithℤ) (omega (arithℤ, parts_neg x, parts_sub (neg_ℤ x) (pos 1))) (term (omega arithℤ) (omega (arithℤ, parts_neg y, parts_sub (neg_ℤ y) (pos 1))) done))

          sums : (z : ℤ) → pos 0 ≤ℤ (neg_ℤ z -ℤ pos (e + n)) → pos 0 ≤ℤ z → ⊥
          sums z i j = omega (arithℤ, parts_neg z, parts_sub (neg_ℤ z) (pos (e + n)))

      crossed : (e n : ℕ) (x y u w : ℤ) → 1 ≤ e + n → x <ℤ pos 0 → pos 0 ≤ℤ y → w <ℤ pos 0 → pos 0 ≤ℤ u →
          pos 0 ≤ℤ (pos e *ℤ x +ℤ pos n *ℤ y) → pos 0 ≤ℤ (pos e *ℤ u +ℤ pos n *ℤ w) → (x *ℤ w) ≤ℤ (u *ℤ y)
      crossed e n x y u w h i j k l p q =
          sub_nonneg.1 (cancel_nonneg {a = pos (e + n)} (u *ℤ y -ℤ x *ℤ w) (omega arithℤ)
          (nonneg ((var 0 ⊕ var 1) ⊗ (var 4 ⊗ var 3 ⊖ var 2 ⊗ var 5))
          (times (neg (var 5)) P ∷ times (var 3) Q ∷ times (var 4) P ∷ times (neg (var 2)) Q ∷ []) tt (pos e ∷ pos n ∷ x ∷ y ∷ u ∷ w ∷ [])
          (term (omega (arithℤ, parts_neg w)) p (term j q (term l p (term (omega (arithℤ, parts_neg x)) q done))))))
        where
          P : Expr
          P = var 0 ⊗ var 2 ⊕ var 1 ⊗ var 3

          Q : Expr
          Q = var 0 ⊗ var 4 ⊕ var 1 ⊗ var 5

  -- ---- the test

  abbrev each : ℕ → Bool
  each k = not (below (a k) && below (b k)) && all_below m (λ l. in_order (a k) (b k) (a l) (b l))

  meets_of : meets m a b ≡ true → Meets m a b
  unfolding meets
  meets_of e = record {
    apart = λ k h u w. clash (and_intro (lt_lt_z u) (lt_lt_z w)) (not-true (below (a k) && below (b k)) (and_left (not (below (a k) && below (b k))) _ (all_at m each e k h)));
    pairs = λ k l hk hl u v w z. in_order_of u v w z (all_at m (λ l. in_order (a k) (b k) (a l) (b l)) (and_right (not (below (a k) && below (b k))) _ (all_at m each e k hk)) l hl);
  }

  meets_yes : Meets m a b → meets m a b ≡ true
  unfolding meets
  meets_yes M = all_intro m each (λ k hk. and_intro (one k hk (split (below (a k) && below (b k)))) (all_intro m (λ l. in_order (a k) (b k) (a l) (b l)) (λ l hl. in_order_yes (M.pairs k l hk hl))))
    where
      one : (k : ℕ) → k < m → ((below (a k) && below (b k)) ≡ true) ⊎ ((below (a k) && below (b k)) ≡ false) → not (below (a k) && below (b k)) ≡ true
      one k h (inl q) = absurd (M.apart k h (lt_z_true (a k) (pos 0) (and_left (below (a k)) (below (b k)) q)) (lt_z_true (b k) (pos 0) (and_right (below (a k)) (below (b k)) q)))
      one k h (inr q) = ap not q

  -- THE TEST IS RIGHT
  pub meets_is : (meets m a b ≡ true) ↔ Common m a b
  meets_is = ((λ e. meets_common (meets_of e)), (λ C. meets_yes (common_meets C)))

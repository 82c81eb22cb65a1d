-- Side codes: a cell whose corners share a bit lies beyond the position on one side of an axis, and does not hold it; nor does a freed entry.
use Prim.Native.Nat.{ℕ, zero, suc, ◌+◌, ◌*◌, ◌-◌, ◌/◌, ◌%◌, ◌^◌, ◌≤◌, ◌<◌, min}
use mathlib.Core.Bool.{Bool, true, false, not, ◌&&◌, cond, and-true, ◌||◌}
use mathlib.Core.List.{List, []}
use mathlib.Core.Logic.{◌≢◌, ◌⊎◌, inl, inr}
use mathlib.Core.Path.{◌≡◌, refl, sym, ap, ap₂, ◌∙◌, subst}
use native.Mathlib.Omega.{arith}
use native.Mathlib.Decide.{ℕ_discrete}
use borrow.Author.Tests.{ltb-true, eqb-true, eqb-false, lt-ltb, eq-eqb, ne_eqb, not-true}
use lib.Dec.{ltb, eqb}
use lib.Bits.{bit_and, and_shr, and_mod, and_le_l}
use lib.ListN.{length, get_or, set}
use lib.IntN.{pos, ◌*ℤ◌}
use lib.Signed.{◌<ℤ◌, ◌≤ℤ◌, le_z, lt_z}
use mir.Val.{bool_byte}
use Rattle.arith.specs.Table.{tabulate, all_below, any_below, sum}
use Rattle.arith.proofs.Flags.{split, fails, and_left, bool_ext, or_cases, below_four, below_six}
use Rattle.arith.proofs.Order.{arithℤ, total, le_z_true, lt_z_yes_le_z, lt_z_no_le_z, ≤-<-trans, <-irrefl, *-mono-≤-l, *-mono-<-l}
use Rattle.arith.proofs.Sums.{sum_mono, sum_times}
use Rattle.arith.proofs.Tables.{tabulate_at, tabulate_length, set_tabulate, all_cong, all_at, any_found, Found, find}
use Rattle.geometry.specs.declared.Position.{Position}
use Rattle.geometry.specs.declared.Volumes.{Volumes}
use Rattle.geometry.specs.Volume.{InRange, volume, replaced}
use Rattle.geometry.specs.Inner.{volumes_at}
use Rattle.geometry.proofs.Algebra.{volume_cong, volume_split}
use Rattle.geometry.proofs.ReadBack.{held_volume}
use Rattle.mesh.specs.Tables.{Tables, none, point_in, corner, corner_at, side, freed, live, IsCell, tables}
use Rattle.mesh.specs.Mesh.{Wall, low_x, low_y, low_z, along}
use Rattle.mesh.specs.Inner.{four_at, positions_of, Cornered, volume_of_four, Solid}
use Rattle.mesh.proofs.Corners.{placed_cornered}
use Rattle.mesh.proofs.FaceNumbers.{face_cell, face_opposite}
use Rattle.mesh.proofs.Numbers.{byte≤, four_entry, four_corner, four_volume}
use Rattle.mesh.proofs.Held.{cramer}
use Rattle.mesh.proofs.Live.{live_of}
use Rattle.locate.specs.Inner.{axis_code, side_code, codes_below, side_codes, shared_bits, may_hold, volume_at, none_negative, holds_four, Coded}
use Rattle.locate.specs.Locate.{holds}

-- ---- a cell that holds q has q in its bounding box

module _ (w : Wall) (s : ℕ → Position) (q : Position) (h : pos 0 <ℤ volume s)
    (held : (k : ℕ) → k < 4 → pos 0 ≤ℤ volume (replaced s k q)) where
  level_sum : (b : ℕ) → sum 4 (λ k. volume (replaced s k q) *ℤ pos b) ≡ volume s *ℤ pos b
  level_sum b = sum_times 4 (λ k. volume (replaced s k q)) (pos b) ∙ ap (λ z. z *ℤ pos b) (volume_split s q)

  pub most : (b : ℕ) → ((k : ℕ) → k < 4 → along w (s k) ≤ b) → along w q ≤ b
  most b each = go (total (pos (along w q)) (pos b))
    where
      go : (pos (along w q) ≤ℤ pos b) ⊎ (pos b <ℤ pos (along w q)) → along w q ≤ b
      go (inl l) = omega (arithℤ, l)
      go (inr l) =
          absurd (<-irrefl (≤-<-trans
          (subst (λ z. (volume s *ℤ pos (along w q)) ≤ℤ z) (level_sum b)
          (subst (λ z. z ≤ℤ sum 4 (λ k. volume (replaced s k q) *ℤ pos b)) (cramer w s q)
          (sum_mono 4 (λ k. volume (replaced s k q) *ℤ pos (along w (s k))) (λ k. volume (replaced s k q) *ℤ pos b)
          (λ k j. *-mono-≤-l (held k j) (omega (arithℤ, each k j))))))
          (*-mono-<-l h l)))

  pub least : (b : ℕ) → ((k : ℕ) → k < 4 → b ≤ along w (s k)) → b ≤ along w q
  least b each = go (total (pos b) (pos (along w q)))
    where
      go : (pos b ≤ℤ pos (along w q)) ⊎ (pos (along w q) <ℤ pos b) → b ≤ along w q
      go (inl l) = omega (arithℤ, l)
      go (inr l) =
          absurd (<-irrefl (≤-<-trans
          (subst (λ z. z ≤ℤ (volume s *ℤ pos (along w q))) (level_sum b)
          (subst (λ z. sum 4 (λ k. volume (replaced s k q) *ℤ pos b) ≤ℤ z) (cramer w s q)
          (sum_mono 4 (λ k. volume (replaced s k q) *ℤ pos b) (λ k. volume (replaced s k q) *ℤ pos (along w (s k)))
          (λ k j. *-mono-≤-l (held k j) (omega (arithℤ, each k j))))))
          (*-mono-<-l h l)))

-- ---- bits

pub axis≤ : (a b : ℕ) → axis_code a b ≤ 3
unfolding axis_code
axis≤ a b = omega (arith, byte≤ (ltb a b), byte≤ (ltb b a))

-- a number below 64 with the bits b
pub record Bits (n : ℕ) (b : ℕ → Bool) : Type 0 where
  pub below : n < 64
  pub bit : (j : ℕ) → j < 6 → n / 2 ^ j % 2 ≡ bool_byte (b j)

pub six_bits : (b : ℕ → Bool) →
    Bits ((bool_byte (b 0) + 2 * bool_byte (b 1)) + 4 * (bool_byte (b 2) + 2 * bool_byte (b 3)) + 16 * (bool_byte (b 4) + 2 * bool_byte (b 5))) b
six_bits b =
    let b₀ = byte≤ (b 0) in
    let b₁ = byte≤ (b 1) in
    let b₂ = byte≤ (b 2) in
    let b₃ = byte≤ (b 3) in
    let b₄ = byte≤ (b 4) in
    let b₅ = byte≤ (b 5) in
    record {
      below = omega (arith, b₀, b₁, b₂, b₃, b₄, b₅);
      bit = below_six (λ j. six / 2 ^ j % 2 ≡ bool_byte (b j))
          (omega (arith, b₀, b₁, b₂, b₃, b₄, b₅)) (omega (arith, b₀, b₁, b₂, b₃, b₄, b₅)) (omega (arith, b₀, b₁, b₂, b₃, b₄, b₅))
          (omega (arith, b₀, b₁, b₂, b₃, b₄, b₅)) (omega (arith, b₀, b₁, b₂, b₃, b₄, b₅)) (omega (arith, b₀, b₁, b₂, b₃, b₄, b₅));
    }
  where
    six : ℕ
    six = (bool_byte (b 0) + 2 * bool_byte (b 1)) + 4 * (bool_byte (b 2) + 2 * bool_byte (b 3)) + 16 * (bool_byte (b 4) + 2 * bool_byte (b 5))

-- bit j of a code
unfoldable pub beyond : ℕ → Position → Position → Bool
beyond zero p q = ltb p.x q.x
beyond (suc zero) p q = ltb q.x p.x
beyond (suc (suc zero)) p q = ltb p.y q.y
beyond (suc (suc (suc zero))) p q = ltb q.y p.y
beyond (suc (suc (suc (suc zero)))) p q = ltb p.z q.z
beyond (suc (suc (suc (suc (suc j))))) p q = ltb q.z p.z

pub code_bits : (p q : Position) → Bits (side_code p q) (λ j. beyond j p q)
unfolding side_code axis_code beyond
code_bits p q = six_bits (λ j. beyond j p q)

and_bit : (a b j : ℕ) → bit_and a b / 2 ^ j % 2 ≡ min (a / 2 ^ j % 2) (b / 2 ^ j % 2)
and_bit a b j = ap (λ z. z % 2) (and_shr a b j) ∙ (and_mod (a / 2 ^ j) (b / 2 ^ j) 1 ∙ small (a / 2 ^ j % 2) (b / 2 ^ j % 2) (omega arith) (omega arith))
  where
    small : (x y : ℕ) → x < 2 → y < 2 → bit_and x y ≡ min x y
    small zero zero h k = refl
    small zero (suc zero) h k = refl
    small (suc zero) zero h k = refl
    small (suc zero) (suc zero) h k = refl
    small zero (suc (suc y)) h k = absurd (omega arith)
    small (suc zero) (suc (suc y)) h k = absurd (omega arith)
    small (suc (suc x)) y h k = absurd (omega arith)

pub and_bits : {m n : ℕ} {a b : ℕ → Bool} → Bits m a → Bits n b → Bits (bit_and m n) (λ j. a j && b j)
and_bits {m} {n} {a} {b} A B = record {
  below = omega (arith, and_le_l m n, A.below);
  bit = λ j l. and_bit m n j ∙ (ap₂ min (A.bit j l) (B.bit j l) ∙ both (a j) (b j));
}
  where
    both : (x y : Bool) → min (bool_byte x) (bool_byte y) ≡ bool_byte (x && y)
    both true true = refl
    both true false = refl
    both false true = refl
    both false false = refl

some_bit : all_below 64 (λ a. eqb a 0 || any_below 6 (λ j. eqb (a / 2 ^ j % 2) 1)) ≡ true
unfolding all_below any_below
some_bit = refl

no_bit : (a : ℕ) → a < 64 → ((j : ℕ) → j < 6 → a / 2 ^ j % 2 ≡ 0) → a ≡ 0
no_bit a h z = go (or_cases (eqb a 0) (any_below 6 (λ j. eqb (a / 2 ^ j % 2) 1)) (all_at 64 (λ a. eqb a 0 || any_below 6 (λ j. eqb (a / 2 ^ j % 2) 1)) some_bit a h))
  where
    by : Found 6 (λ j. eqb (a / 2 ^ j % 2) 1) → ⊥
    by r = let e = z r.at r.below in let f = eqb-true (a / 2 ^ r.at % 2) 1 r.passes in absurd (omega (arith, e, f))

    go : (eqb a 0 ≡ true) ⊎ (any_below 6 (λ j. eqb (a / 2 ^ j % 2) 1) ≡ true) → a ≡ 0
    go (inl e) = eqb-true a 0 e
    go (inr e) = absurd (by (any_found 6 (λ j. eqb (a / 2 ^ j % 2) 1) e))

-- no bit is shared by the codes of four corners that are not all beyond q on one side
shared_none : (a b c d : ℕ) → a < 64 → ((j : ℕ) → j < 6 → (a / 2 ^ j % 2 ≡ 0) ⊎ ((b / 2 ^ j % 2 ≡ 0) ⊎ ((c / 2 ^ j % 2 ≡ 0) ⊎ (d / 2 ^ j % 2 ≡ 0)))) →
    bit_and (bit_and (bit_and a b) c) d ≡ 0
shared_none a b c d h each =
    no_bit (bit_and (bit_and (bit_and a b) c) d)
    (omega (arith, and_le_l (bit_and (bit_and a b) c) d, and_le_l (bit_and a b) c, and_le_l a b))
    (λ j l. and_bit (bit_and (bit_and a b) c) d j ∙
    (ap (λ z. min z (d / 2 ^ j % 2)) (and_bit (bit_and a b) c j ∙ ap (λ z. min z (c / 2 ^ j % 2)) (and_bit a b j)) ∙ go j (each j l)))
  where
    go : (j : ℕ) → (a / 2 ^ j % 2 ≡ 0) ⊎ ((b / 2 ^ j % 2 ≡ 0) ⊎ ((c / 2 ^ j % 2 ≡ 0) ⊎ (d / 2 ^ j % 2 ≡ 0))) →
        min (min (min (a / 2 ^ j % 2) (b / 2 ^ j % 2)) (c / 2 ^ j % 2)) (d / 2 ^ j % 2) ≡ 0
    go j (inl e) = omega (arith, e)
    go j (inr (inl e)) = omega (arith, e)
    go j (inr (inr (inl e))) = omega (arith, e)
    go j (inr (inr (inr e))) = omega (arith, e)

swap : {A B : Type 0} → A ⊎ B → B ⊎ A
swap (inl a) = inr a
swap (inr b) = inl b

-- a bit that is set in all four
pub record Shared (b : ℕ → ℕ → Bool) : Type 0 where
  pub bit : ℕ
  pub bit< : bit < 6
  pub all : (i : ℕ) → i < 4 → b i bit ≡ true

pub shared_bit : (codes k : List ℕ) (b : ℕ → ℕ → Bool) → ((i : ℕ) → i < 4 → Bits (get_or codes (get_or k i 0) 0) (b i)) → shared_bits codes k ≢ 0 → Shared b
unfolding shared_bits
shared_bit codes k b each d = go (find 6 All Some (λ j l. swap (find 4 (λ i. b i j ≡ false) (λ i. b i j ≡ true) (λ i h. swap (split (b i j))))))
  where
    code : ℕ → ℕ
    code i = get_or codes (get_or k i 0) 0

    All : ℕ → Type 0
    All j = (i : ℕ) → i < 4 → b i j ≡ true

    Some : ℕ → Type 0
    Some j = (i : ℕ) × (i < 4) × (b i j ≡ false)

    Off : ℕ → Type 0
    Off j = (code 0 / 2 ^ j % 2 ≡ 0) ⊎ ((code 1 / 2 ^ j % 2 ≡ 0) ⊎ ((code 2 / 2 ^ j % 2 ≡ 0) ⊎ (code 3 / 2 ^ j % 2 ≡ 0)))

    off : (j : ℕ) → j < 6 → Some j → Off j
    off j l (i, h, e) =
        below_four (λ i. code i / 2 ^ j % 2 ≡ 0 → Off j) inl (λ z. inr (inl z)) (λ z. inr (inr (inl z))) (λ z. inr (inr (inr z))) i h
        ((each i h).bit j l ∙ ap bool_byte e)

    go : ((j : ℕ) × (j < 6) × All j) ⊎ ((j : ℕ) → j < 6 → Some j) → Shared b
    go (inl (j, l, a)) = record { bit = j; bit< = l; all = a }
    go (inr none) = absurd (d (shared_none (code 0) (code 1) (code 2) (code 3) (each 0 (omega arith)).below (λ j l. off j l (none j l))))

-- ---- the law

-- not all four corners are beyond q on one side of an axis
some_not : (s : ℕ → Position) (q : Position) → pos 0 <ℤ volume s → ((k : ℕ) → k < 4 → pos 0 ≤ℤ volume (replaced s k q)) →
    (j : ℕ) → j < 6 → ((k : ℕ) → k < 4 → beyond j (s k) q ≡ true) → ⊥
unfolding beyond
some_not s q h held =
    below_six (λ j. ((k : ℕ) → k < 4 → beyond j (s k) q ≡ true) → ⊥)
    (λ e. no_less low_x (λ k l. ltb-true _ _ (e k l)))
    (λ e. no_more low_x (λ k l. ltb-true _ _ (e k l)))
    (λ e. no_less low_y (λ k l. ltb-true _ _ (e k l)))
    (λ e. no_more low_y (λ k l. ltb-true _ _ (e k l)))
    (λ e. no_less low_z (λ k l. ltb-true _ _ (e k l)))
    (λ e. no_more low_z (λ k l. ltb-true _ _ (e k l)))
  where
    no_less : (w : Wall) → ((k : ℕ) → k < 4 → along w (s k) < along w q) → ⊥
    no_less w e = let m = most w s q h held (along w q - 1) (λ k l. omega (arith, e k l)) in absurd (omega (arith, m, e 0 (omega arith)))

    no_more : (w : Wall) → ((k : ℕ) → k < 4 → along w q < along w (s k)) → ⊥
    no_more w e = let m = least w s q h held (suc (along w q)) e in absurd (omega arith)

pub apart : (ps codes k : List ℕ) (q : Position) → Coded ps codes k q → shared_bits codes k ≢ 0 → holds_four ps k q ≡ false
unfolding holds_four
apart ps codes k q C d =
    fails (holds_four ps k q) (λ e. by e (shared_bit codes k (λ i j. beyond j (s i) q) (λ i h. subst (λ n. Bits n (λ j. beyond j (s i) q)) (sym (C.code i h)) (code_bits (s i) q)) d))
  where
    s : ℕ → Position
    s i = point_in ps (get_or k i 0)

    by : holds_four ps k q ≡ true → Shared (λ i j. beyond j (s i) q) → ⊥
    by e r = some_not s q C.positive (λ i h. le_z_true (pos 0) _ (all_at 4 (λ i. le_z (pos 0) (volume (replaced s i q))) e i h)) r.bit r.bit< r.all

-- ---- the four volumes as the code holds them

module _ (ps k : List ℕ) (q : Position) where
  abbrev s : ℕ → Position
  s i = point_in ps (get_or k i 0)

  pub measured : {v : Volumes} → v ≡ volumes_at (positions_of ps k) q → Cornered ps k → InRange q → (i : ℕ) → i < 4 → volume_at v i ≡ volume (replaced s i q)
  unfolding volumes_at volume
  measured {v} e h hq =
      let h₀ = h.in_range 0 (omega arith) in
      let h₁ = h.in_range 1 (omega arith) in
      let h₂ = h.in_range 2 (omega arith) in
      let h₃ = h.in_range 3 (omega arith) in
      below_four (λ i. volume_at v i ≡ volume (replaced s i q))
      (held_volume q (s 1) (s 2) (s 3) (ap (λ u. u.v0) e) hq h₁ h₂ h₃).is
      (held_volume (s 0) q (s 2) (s 3) (ap (λ u. u.v1) e) h₀ hq h₂ h₃).is
      (held_volume (s 0) (s 1) q (s 3) (ap (λ u. u.v2) e) h₀ h₁ hq h₃).is
      (held_volume (s 0) (s 1) (s 2) q (ap (λ u. u.v3) e) h₀ h₁ h₂ hq).is

  pub none_negative_is : {v : Volumes} → v ≡ volumes_at (positions_of ps k) q → Cornered ps k → InRange q → none_negative v ≡ holds_four ps k q
  unfolding none_negative holds_four
  none_negative_is {v} e h hq =
      all_cong 4 (λ i. le_z (pos 0) (volume_at v i)) (λ i. le_z (pos 0) (volume (replaced s i q))) (λ i l. ap (le_z (pos 0)) (measured e h hq i l))

-- the tests as they are made, from the last volume to the first
module _ (v : Volumes) where
  tests : none_negative v ≡ (le_z (pos 0) (volume_at v 3) && (le_z (pos 0) (volume_at v 2) && (le_z (pos 0) (volume_at v 1) && le_z (pos 0) (volume_at v 0))))
  unfolding none_negative all_below
  tests = rw and-true

  pub fourth_fails : lt_z (volume_at v 3) (pos 0) ≡ true → false ≡ none_negative v
  fourth_fails a = sym (tests ∙ rw (lt_z_yes_le_z (pos 0) (volume_at v 3) a))

  pub third_fails : lt_z (volume_at v 3) (pos 0) ≡ false → lt_z (volume_at v 2) (pos 0) ≡ true → false ≡ none_negative v
  third_fails a b = sym (tests ∙ rw (lt_z_no_le_z (pos 0) (volume_at v 3) a, lt_z_yes_le_z (pos 0) (volume_at v 2) b))

  pub second_fails : lt_z (volume_at v 3) (pos 0) ≡ false → lt_z (volume_at v 2) (pos 0) ≡ false → lt_z (volume_at v 1) (pos 0) ≡ true → false ≡ none_negative v
  second_fails a b c = sym (tests ∙ rw (lt_z_no_le_z (pos 0) (volume_at v 3) a, lt_z_no_le_z (pos 0) (volume_at v 2) b, lt_z_yes_le_z (pos 0) (volume_at v 1) c))

  pub first_decides : lt_z (volume_at v 3) (pos 0) ≡ false → lt_z (volume_at v 2) (pos 0) ≡ false → lt_z (volume_at v 1) (pos 0) ≡ false →
      le_z (pos 0) (volume_at v 0) ≡ none_negative v
  first_decides a b c = sym (tests ∙ rw (lt_z_no_le_z (pos 0) (volume_at v 3) a, lt_z_no_le_z (pos 0) (volume_at v 2) b, lt_z_no_le_z (pos 0) (volume_at v 1) c))

-- ---- the codes, point by point

pub codes_more : (f : ℕ → ℕ) (v : ℕ) → v < 1024 → set (codes_below v f) v (f v) ≡ codes_below (v + 1) f
unfolding codes_below
codes_more f v h = set_tabulate 1024 (λ k. cond (ltb k v) (f k) 0) v (f v) h ∙ ap (tabulate 1024) (λ i k. at k (ℕ_discrete v k) i)
  where
    at : (k : ℕ) → Dec (v ≡ k) → cond (eqb v k) (f v) (cond (ltb k v) (f k) 0) ≡ cond (ltb k (v + 1)) (f k) 0
    at k (yes e) = rw (eq-eqb v k e, lt-ltb k (v + 1) (omega arith)) (ap f e)
    at k (no d) = rw (ne_eqb v k d) (ap (λ b. cond b (f k) 0) (bool_ext (ltb k v) (ltb k (v + 1))
        (λ e. lt-ltb k (v + 1) (omega (arith, ltb-true k v e))) (λ e. lt-ltb k v (omega (arith, ltb-true k (v + 1) e)))))

pub codes_length : (np : ℕ) (f : ℕ → ℕ) → length (codes_below np f) ≡ 1024
unfolding codes_below
codes_length np f = tabulate_length 1024 (λ v. cond (ltb v np) (f v) 0)

code_at : (np : ℕ) (f : ℕ → ℕ) → np ≤ 1024 → (v : ℕ) → v < np → get_or (codes_below np f) v 0 ≡ f v
unfolding codes_below
code_at np f h v l = tabulate_at 1024 (λ v. cond (ltb v np) (f v) 0) v 0 (omega arith) ∙ rw (lt-ltb v np l)

pub side_codes_length : (ps : List ℕ) (np : ℕ) (q : Position) → length (side_codes ps np q) ≡ 1024
unfolding side_codes
side_codes_length ps np q = codes_length np (λ v. side_code (point_in ps v) q)

pub side_code_at : (ps : List ℕ) (np : ℕ) (q : Position) → np ≤ 1024 → (v : ℕ) → v < np → get_or (side_codes ps np q) v 0 ≡ side_code (point_in ps v) q
unfolding side_codes
side_code_at ps np q = code_at np (λ v. side_code (point_in ps v) q)

-- the volumes that a cell's four corners give are its sides
pub side_of_four : (ps cs ns : List ℕ) (c i : ℕ) (q : Position) → i < 4 →
    volume (replaced (λ j. point_in ps (get_or (four_at cs c) j 0)) i q) ≡ side (tables ps cs ns) q (4 * c + i)
unfolding side corner_at
side_of_four ps cs ns c i q h =
    volume_cong (replaced (λ j. point_in ps (get_or (four_at cs c) j 0)) i q) (replaced (corner_at t c) i q)
    (λ j l. ap (λ v. cond (eqb j i) q (point_in ps v)) (four_corner t c j l)) ∙
    sym (ap₂ (λ d j. volume (replaced (corner_at t d) j q)) (face_cell c i h) (face_opposite c i h))
  where
    t : Tables
    t = tables ps cs ns

pub holds_is : (ps cs ns : List ℕ) (c : ℕ) (q : Position) → live (tables ps cs ns) c ≡ true → {k : List ℕ} → k ≡ four_at cs c → holds_four ps k q ≡ holds (tables ps cs ns) q c
unfolding holds_four holds
holds_is ps cs ns c q a ek =
    ap (λ k. holds_four ps k q) ek ∙
    (all_cong 4 (λ i. le_z (pos 0) (volume (replaced (λ j. point_in ps (get_or (four_at cs c) j 0)) i q))) (λ i. le_z (pos 0) (side (tables ps cs ns) q (4 * c + i)))
    (λ i h. ap (le_z (pos 0)) (side_of_four ps cs ns c i q h)) ∙
    sym (ap (λ b. b && all_below 4 (λ i. le_z (pos 0) (side (tables ps cs ns) q (4 * c + i)))) a))

-- what holds a position is a cell
pub holds_live : (t : Tables) (p : Position) (c : ℕ) → holds t p c ≡ true → live t c ≡ true
unfolding holds
holds_live t p c e = and_left (live t c) _ e

pub holder_cell : (t : Tables) (p : Position) {n c : ℕ} → c < n → holds t p c ≡ true → IsCell t n c
holder_cell t p {n} {c} h e = record { below = h; lives = holds_live t p c e }

-- ---- an entry of solid tables

-- what the first corner of an entry tells: a cell's points are few, so 65,535 is that of a freed entry alone
entry_cell : (ps cs ns : List ℕ) {n c : ℕ} → c < n → get_or (four_at cs c) 0 0 ≢ none → IsCell (tables ps cs ns) n c
entry_cell ps cs ns {n} {c} h d =
    record { below = h; lives = live_of (tables ps cs ns) c 0 (omega arith) (λ e. d (four_corner (tables ps cs ns) c 0 (omega arith) ∙ e)) }

module _ (ps cs : List ℕ) (np n : ℕ) (S : Solid ps cs np n) (c : ℕ) where
  corner< : IsCell (tables [] cs []) n c → (i : ℕ) → i < 4 → get_or (four_at cs c) i 0 < np
  corner< c< i h = subst (λ m. m < np) (sym (four_entry cs c i h)) (S.below c i c< h)

  entry_freed : c < n → (ns : List ℕ) → get_or (four_at cs c) 0 0 ≡ none → live (tables ps cs ns) c ≡ false
  unfolding live freed corner
  entry_freed c< ns e = fails (live (tables ps cs ns) c) (λ l. by (corner< record { below = c<; lives = l } 0 (omega arith)))
    where
      by : get_or (four_at cs c) 0 0 < np → ⊥
      by h = omega (arith, e, S.placed.points_few)

  -- the corners that the code has of it
  module _ (c< : c < n) {k : List ℕ} (ek : k ≡ four_at cs c) where
    first_is : get_or k 0 0 ≡ get_or (four_at cs c) 0 0
    first_is = ap (λ k. get_or k 0 0) ek

    pub cell_at : (qs ns : List ℕ) → get_or k 0 0 ≢ none → IsCell (tables qs cs ns) n c
    cell_at qs ns d = entry_cell qs cs ns c< (λ z. d (first_is ∙ z))

    corners_below : get_or k 0 0 ≢ none → (i : ℕ) → i < 4 → get_or k i 0 < np
    corners_below d i h = subst (λ k. get_or k i 0 < np) (sym ek) (corner< (cell_at [] [] d) i h)

    pub cornered_at : get_or k 0 0 ≢ none → Cornered ps k
    cornered_at d = placed_cornered S.placed (corners_below d)

    pub positive_at : get_or k 0 0 ≢ none → pos 0 <ℤ volume_of_four ps k
    positive_at d = subst (λ k. pos 0 <ℤ volume_of_four ps k) (sym ek) (subst (λ z. pos 0 <ℤ z) (sym (four_volume ps cs c)) (S.positive c (cell_at [] [] d)))

    -- and the points' codes
    module _ (codes : List ℕ) where
      pub codes_there : length codes ≡ 1024 → get_or k 0 0 ≢ none → (i : ℕ) → i < 4 → get_or k i 0 < length codes
      codes_there e d i h = omega (arith, e, S.placed.points_few, corners_below d i h)

      pub coded_at : (f : ℕ → ℕ) → codes ≡ codes_below np f → get_or k 0 0 ≢ none → (i : ℕ) → i < 4 → get_or codes (get_or k i 0) 0 ≡ f (get_or k i 0)
      coded_at f e d i h = ap (λ codes. get_or codes (get_or k i 0) 0) e ∙ code_at np f S.placed.points_few (get_or k i 0) (corners_below d i h)

      pub may_hold_first : may_hold codes k ≡ true → get_or k 0 0 ≢ none
      unfolding may_hold
      may_hold_first e = eqb-false (get_or k 0 0) none (not-true (eqb (get_or k 0 0) none) (and_left _ _ e))

      -- an entry that the codes rule out is freed, or its corners share a bit
      pub ruled_out : (ns : List ℕ) → may_hold codes k ≡ false → (live (tables ps cs ns) c ≡ false) ⊎ ((get_or k 0 0 ≢ none) × (shared_bits codes k ≢ 0))
      unfolding may_hold
      ruled_out ns e = go (ℕ_discrete (get_or k 0 0) none)
        where
          go : Dec (get_or k 0 0 ≡ none) → (live (tables ps cs ns) c ≡ false) ⊎ ((get_or k 0 0 ≢ none) × (shared_bits codes k ≢ 0))
          go (yes z) = inl (entry_freed c< ns (sym first_is ∙ z))
          go (no d) = inr (d, eqb-false (shared_bits codes k) 0 (sym (ap (λ b. not b && eqb (shared_bits codes k) 0) (ne_eqb (get_or k 0 0) none d)) ∙ e))

      pub may_not_hold : (q : Position) → codes ≡ side_codes ps np q → (ns : List ℕ) → may_hold codes k ≡ false → holds (tables ps cs ns) q c ≡ false
      unfolding holds side_codes
      may_not_hold q ec ns e = go (ruled_out ns e)
        where
          go : (live (tables ps cs ns) c ≡ false) ⊎ ((get_or k 0 0 ≢ none) × (shared_bits codes k ≢ 0)) → holds (tables ps cs ns) q c ≡ false
          go (inl l) = rw l
          go (inr (d, s)) =
              sym (holds_is ps cs ns c q (cell_at ps ns d).lives ek) ∙
              apart ps codes k q record { code = coded_at (λ v. side_code (point_in ps v) q) ec d; positive = positive_at d } s

-- Face codes count the visible faces, and so number the new cells.
use Prim.Native.Nat.{ℕ, zero, suc, ◌+◌, ◌*◌, ◌%◌, ◌/◌, ◌^◌, ◌≤◌, ◌<◌}
use mathlib.Core.Bool.{Bool, true, false, cond}
use mathlib.Core.List.{List}
use mathlib.Core.Path.{◌≡◌, refl, sym, ap, ap₂, ◌∙◌}
use native.Mathlib.Omega.{arith}
use native.Mathlib.Numerals.{add-one}
use native.Mathlib.Nat.{add-zero}
use lib.Dec.{eqb}
use lib.ListN.{length, get_or, set}
use lib.Seq.{get_or-set_same, get_or-set_other}
use mir.Val.{bool_byte}
use Rattle.arith.specs.Table.{count_below}
use Rattle.arith.proofs.Counting.{count_cong, count_append}
use Rattle.arith.proofs.Flags.{below_four}
use Rattle.arith.proofs.Tables.{tabulate_at, below_more}
use Rattle.geometry.specs.declared.Position.{Position}
use Rattle.mesh.specs.Tables.{Tables}
use Rattle.mesh.specs.Mesh.{bit}
use Rattle.mesh.proofs.Numbers.{byte≤}
use Rattle.cavity.specs.Cavity.{in_set, visible}
use Rattle.cavity.specs.Inner.{inside, set_of, hidden, four_bits, faces_code}
use Rattle.star.specs.Inner.{bit_set}

-- ---- bits

pub bits_more : (code rest i count : ℕ) → bit rest 0 ≡ bit code (i + 0) → count ≡ count_below i (bit_set code) →
    count + rest % 2 ≡ count_below (i + 1) (bit_set code)
unfolding count_below
bits_more code rest i count e h =
    rw (add-one i) (ap₂ ◌+◌ h (value (rest % 2) (omega arith) ∙ ap (λ b. cond (eqb b 1) 1 0) (e ∙ ap (bit code) (add-zero i))) ∙ omega arith)
  where
    value : (b : ℕ) → b < 2 → b ≡ cond (eqb b 1) 1 0
    value zero h = refl
    value (suc zero) h = refl
    value (suc (suc b)) h = absurd (omega arith)

pub bits_shift : (code rest i : ℕ) → ((j : ℕ) → bit rest j ≡ bit code (i + j)) → (j : ℕ) → bit (rest / 2) j ≡ bit code (i + 1 + j)
bits_shift code rest i h j = let e : i + suc j ≡ i + 1 + j = omega arith in h (suc j) ∙ ap (bit code) e

-- ---- a cell's code

module _ (n : ℕ) (st : List ℕ) where
  pub set_at : (c : ℕ) → c < n → in_set (set_of n st) c ≡ inside st c
  unfolding set_of
  set_at c h = tabulate_at n (inside st) c false h

module _ (t : Tables) (p : Position) (s : List Bool) where
  -- a bit is set where the face is visible
  pub code_bit : (c k : ℕ) → k < 4 → bit_set (faces_code t p s c) k ≡ visible t p s (4 * c + k)
  unfolding faces_code
  code_bit c =
      let at = places v₀ v₁ v₂ v₃ (four_bits (hidden t p s (4 * c + 0)) (hidden t p s (4 * c + 1)) (hidden t p s (4 * c + 2)) (hidden t p s (4 * c + 3))) in
      below_four (λ k. bit_set (faces_code t p s c) k ≡ visible t p s (4 * c + k))
      (ap (λ b. eqb b 1) at.0 ∙ byte v₀) (ap (λ b. eqb b 1) at.1 ∙ byte v₁) (ap (λ b. eqb b 1) at.2 ∙ byte v₂) (ap (λ b. eqb b 1) at.3 ∙ byte v₃)
    where
      v₀ : Bool
      v₀ = visible t p s (4 * c + 0)

      v₁ : Bool
      v₁ = visible t p s (4 * c + 1)

      v₂ : Bool
      v₂ = visible t p s (4 * c + 2)

      v₃ : Bool
      v₃ = visible t p s (4 * c + 3)

      places : (v w x y : Bool) (high : ℕ) → let code = four_bits v w x y + 16 * high in
          (code % 2 ≡ bool_byte v) × (code / 2 % 2 ≡ bool_byte w) × (code / 2 / 2 % 2 ≡ bool_byte x) × (code / 2 / 2 / 2 % 2 ≡ bool_byte y)
      places v w x y high = let a = byte≤ v in let b = byte≤ w in let c = byte≤ x in let d = byte≤ y in omega arith

      byte : (b : Bool) → eqb (bool_byte b) 1 ≡ b
      byte true = refl
      byte false = refl

  -- the visible faces before face k of cell c
  pub count_cell : (c k : ℕ) → k ≤ 4 → (code : ℕ) → code ≡ faces_code t p s c →
      count_below (4 * c + k) (visible t p s) ≡ count_below (4 * c) (visible t p s) + count_below k (bit_set code)
  count_cell c k h code e =
      count_append (4 * c) k (visible t p s) ∙
      ap (λ m. count_below (4 * c) (visible t p s) + m)
      (count_cong k (λ i. visible t p s (4 * c + i)) (bit_set code) (λ i l. sym (ap (λ x. bit_set x i) e ∙ code_bit c i (omega arith))))

-- a list with one more right entry
pub filled_more : (l l' : List ℕ) (g : ℕ → ℕ) (i a : ℕ) → i < length l → l' ≡ set l i a → a ≡ g i →
    ((k : ℕ) → k < i → get_or l k 0 ≡ g k) → (k : ℕ) → k < i + 1 → get_or l' k 0 ≡ g k
filled_more l l' g i a h e q old =
    below_more (λ k. get_or l' k 0 ≡ g k) i
    (λ k l<. ap (λ x. get_or x k 0) e ∙ (get_or-set_other l i k a 0 (omega arith) ∙ old k l<))
    (ap (λ x. get_or x i 0) e ∙ (get_or-set_same l i a 0 h ∙ q))

pub bit_shift : (code k : ℕ) → k < 4 → code / 2 ^ k % 2 ≡ bit code k
bit_shift code =
    below_four (λ k. code / 2 ^ k % 2 ≡ bit code k) (omega arith) (omega arith) (omega arith) (omega arith)

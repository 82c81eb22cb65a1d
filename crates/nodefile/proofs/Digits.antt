-- Numbers and their bytes: each gives the other back.
use Prim.Native.Nat.{ℕ, ◌+◌, ◌*◌, ◌-◌, ◌/◌, ◌%◌, ◌^◌, ◌<◌}
use mathlib.Core.List.{List, ◌++◌}
use mathlib.Core.Path.{◌≡◌, sym, ap, ◌∙◌}
use native.Mathlib.Omega.{arith}
use native.Mathlib.Decide.{dec_lt}
use native.Mathlib.Nat.{add-zero}
use lib.ListN.{length, get_or, length-append, get_or-append}
use lib.Seq.{ext_get_or, get_or-append-add}
use Rattle.arith.proofs.Flags.{below_four}
use Rattle.arith.proofs.Tables.{tabulate_at, tabulate_length}
use Rattle.nodefile.specs.RoundTrip.{IsBytes}
use Rattle.nodefile.specs.Bytes.{number_at, numbers_of, byte_at, bytes_of}

pub numbers_length : (bytes : List ℕ) → length (numbers_of bytes) ≡ length bytes / 4
unfolding numbers_of
numbers_length bytes = tabulate_length (length bytes / 4) (number_at bytes)

pub numbers_at : (bytes : List ℕ) (k : ℕ) → k < length bytes / 4 → get_or (numbers_of bytes) k 0 ≡ number_at bytes k
unfolding numbers_of
numbers_at bytes k h = tabulate_at (length bytes / 4) (number_at bytes) k 0 h

pub bytes_length : (numbers : List ℕ) → length (bytes_of numbers) ≡ 4 * length numbers
unfolding bytes_of
bytes_length numbers = tabulate_length (4 * length numbers) (byte_at numbers)

pub bytes_at : (numbers : List ℕ) (i : ℕ) → i < 4 * length numbers → get_or (bytes_of numbers) i 0 ≡ byte_at numbers i
unfolding bytes_of
bytes_at numbers i h = tabulate_at (4 * length numbers) (byte_at numbers) i 0 h

-- ---- there and back

abbrev pub Words : List ℕ → Type 0
Words numbers = (k : ℕ) → k < length numbers → get_or numbers k 0 < 4294967296

digits_sum : (n : ℕ) → n < 4294967296 → n % 256 + 256 * (n / 256 % 256) + 65536 * (n / 65536 % 256) + 16777216 * (n / 16777216 % 256) ≡ n
digits_sum n h =
    let a : n / 256 ≡ 256 * (n / 65536) + n / 256 % 256 = omega arith in
    let b : n / 65536 ≡ 256 * (n / 16777216) + n / 65536 % 256 = omega arith in
    let c : n / 16777216 % 256 ≡ n / 16777216 = omega arith in
    let d : n ≡ 256 * (n / 256) + n % 256 = omega arith in
    omega arith

module _ (numbers : List ℕ) where
  digit : (k j : ℕ) → k < length numbers → j < 4 → get_or (bytes_of numbers) (4 * k + j) 0 ≡ get_or numbers k 0 / 256 ^ j % 256
  unfolding byte_at
  digit k j h l =
      let q : (4 * k + j) / 4 ≡ k = omega arith in
      let r : (4 * k + j) % 4 ≡ j = omega arith in
      bytes_at numbers (4 * k + j) (omega arith) ∙ λ i. get_or numbers (q i) 0 / 256 ^ r i % 256

  number_back : (k : ℕ) → k < length numbers → get_or numbers k 0 < 4294967296 → number_at (bytes_of numbers) k ≡ get_or numbers k 0
  unfolding number_at
  number_back k h l =
      let z : get_or (bytes_of numbers) (4 * k + 0) 0 ≡ get_or (bytes_of numbers) (4 * k) 0 = ap (λ i. get_or (bytes_of numbers) i 0) (add-zero (4 * k)) in
      omega (arith, digits_sum (get_or numbers k 0) l, digit k 0 h (omega arith), digit k 1 h (omega arith), digit k 2 h (omega arith), digit k 3 h (omega arith))

  pub numbers_of_bytes : Words numbers → numbers_of (bytes_of numbers) ≡ numbers
  numbers_of_bytes w =
      let m : length (bytes_of numbers) / 4 ≡ length numbers = omega (arith, bytes_length numbers) in
      ext_get_or 0 (numbers_of (bytes_of numbers)) numbers (numbers_length (bytes_of numbers) ∙ m)
      (λ k l. let h : k < length (bytes_of numbers) / 4 = omega (arith, numbers_length (bytes_of numbers)) in
      numbers_at (bytes_of numbers) k h ∙ number_back k (omega arith) (w k (omega arith)))

module _ (bytes : List ℕ) (n : ℕ) (e : length bytes ≡ 4 * n) (b : IsBytes bytes) where
  byte_back : (k j : ℕ) → k < n → j < 4 → number_at bytes k / 256 ^ j % 256 ≡ get_or bytes (4 * k + j) 0
  unfolding number_at
  byte_back k j h =
      let z : get_or bytes (4 * k + 0) 0 ≡ get_or bytes (4 * k) 0 = ap (λ i. get_or bytes i 0) (add-zero (4 * k)) in
      let b₀ = b (4 * k) (omega arith) in
      let b₁ = b (4 * k + 1) (omega arith) in
      let b₂ = b (4 * k + 2) (omega arith) in
      let b₃ = b (4 * k + 3) (omega arith) in
      below_four (λ j. number_at bytes k / 256 ^ j % 256 ≡ get_or bytes (4 * k + j) 0) (omega arith) (omega arith) (omega arith) (omega arith) j

  pub bytes_of_numbers : bytes_of (numbers_of bytes) ≡ bytes
  unfolding byte_at
  bytes_of_numbers =
      let m : 4 * length (numbers_of bytes) ≡ length bytes = omega (arith, numbers_length bytes) in
      ext_get_or 0 (bytes_of (numbers_of bytes)) bytes (bytes_length (numbers_of bytes) ∙ m)
      (λ i l. let h : i < length bytes = omega (arith, bytes_length (numbers_of bytes)) in
      let s : 4 * (i / 4) + i % 4 ≡ i = omega arith in
      bytes_at (numbers_of bytes) i (omega arith) ∙
      (ap (λ x. x / 256 ^ (i % 4) % 256) (numbers_at bytes (i / 4) (omega arith)) ∙
      (byte_back (i / 4) (i % 4) (omega arith) (omega arith) ∙ ap (λ j. get_or bytes j 0) s)))

-- ---- one list of numbers after another

pub bytes_append : (a b : List ℕ) → bytes_of (a ++ b) ≡ bytes_of a ++ bytes_of b
unfolding byte_at
bytes_append a b =
    ext_get_or 0 (bytes_of (a ++ b)) (bytes_of a ++ bytes_of b)
    (bytes_length (a ++ b) ∙ (ap (λ n. 4 * n) (length-append a b) ∙ omega (arith, length-append (bytes_of a) (bytes_of b), bytes_length a, bytes_length b)))
    (λ i l. go i (omega (arith, bytes_length (a ++ b), length-append a b)) (dec_lt i (4 * length a)))
  where
    go : (i : ℕ) → i < 4 * (length a + length b) → Dec (i < 4 * length a) → get_or (bytes_of (a ++ b)) i 0 ≡ get_or (bytes_of a ++ bytes_of b) i 0
    go i l (yes h) =
        bytes_at (a ++ b) i (omega (arith, length-append a b)) ∙
        (ap (λ x. x / 256 ^ (i % 4) % 256) (get_or-append a b 0 (i / 4) (omega arith)) ∙
        sym (get_or-append (bytes_of a) (bytes_of b) 0 i (omega (arith, bytes_length a)) ∙ bytes_at a i h))
    go i l (no h) =
        let j : ℕ = i - 4 * length a in
        let q : i / 4 ≡ length a + j / 4 = omega arith in
        let r : i % 4 ≡ j % 4 = omega arith in
        let s : i ≡ length (bytes_of a) + j = omega (arith, bytes_length a) in
        bytes_at (a ++ b) i (omega (arith, length-append a b)) ∙
        ((λ t. get_or (a ++ b) (q t) 0 / 256 ^ r t % 256) ∙
        (ap (λ x. x / 256 ^ (j % 4) % 256) (get_or-append-add a b (j / 4) 0) ∙
        sym (ap (λ k. get_or (bytes_of a ++ bytes_of b) k 0) s ∙ (get_or-append-add (bytes_of a) (bytes_of b) j 0 ∙ bytes_at b j (omega arith)))))

-- Four bytes a number: what `as_chunks` cuts, and a write of four bytes.
use Rattle.std.proofs.Common.{◌≡◌, ℕ, zero, suc, ◌+◌, ◌*◌, ◌/◌, ◌%◌, ◌^◌, ◌<◌, ◌≤◌, List, [], ◌∷◌, ◌++◌, length, get_or, take, drop, set, sym, ap, ◌∙◌, append_assoc, arith}
use native.Mathlib.Nat.{zero-mul}
use Rattle.std.proofs.lemmas.List.{get_or-drop, get_or-take, drop-drop, length-append, length-drop}
use lib.Seq.{length-take-le}
use Rattle.std.proofs.lemmas.List.Edits.{sets-eq}
use Rattle.std.specs.Simd.{first_chunks}
use borrow.Rule.Slice.PartMut.{put_mid}
use Rattle.mesh.specs.Inner.{four_at, with_four}
use Rattle.mesh.proofs.Loops.{four_more}
use Rattle.nodefile.specs.Bytes.{number_at, byte_at, bytes_of}
use Rattle.nodefile.proofs.Digits.{bytes_length, bytes_at}

chunk_at : (k n j : ℕ) (xs : List ℕ) → j < k → get_or (first_chunks n k xs) j [] ≡ take n (drop (j * n) xs)
chunk_at zero n j xs h = absurd (omega arith)
chunk_at (suc k) n zero xs h = rw zero-mul
chunk_at (suc k) n (suc j) xs h = chunk_at k n j (drop n xs) (omega arith) ∙ ap (take n) (drop-drop (j * n) n xs ∙ ap (λ m. drop m xs) (omega arith))

byte_in : (bytes : List ℕ) (n k i : ℕ) → k < n → i < 4 → get_or (get_or (first_chunks 4 n bytes) k []) i 0 ≡ get_or bytes (4 * k + i) 0
byte_in bytes n k i h l =
    ap (λ four. get_or four i 0) (chunk_at n 4 k bytes h) ∙
    (get_or-take 4 (drop (k * 4) bytes) i 0 l ∙ (get_or-drop (k * 4) bytes i 0 ∙ ap (λ m. get_or bytes m 0) (omega arith)))

-- the number that four bytes are
pub number_in : (bytes : List ℕ) (n k : ℕ) (fours : List (List ℕ)) → fours ≡ first_chunks 4 n bytes → k < n →
    (v : ℕ) → v ≡ get_or (get_or fours k []) 0 0 + get_or (get_or fours k []) 1 0 * 256 + get_or (get_or fours k []) 2 0 * 65536 + get_or (get_or fours k []) 3 0 * 16777216 →
    v ≡ number_at bytes k
unfolding number_at
number_in bytes n k fours e h v d =
    let cut = λ (i : ℕ). ap (λ (fs : List (List ℕ)). get_or (get_or fs k []) i 0) e in
    let first = byte_in bytes n k 0 h (omega arith) in
    let b₁ = cut 1 ∙ byte_in bytes n k 1 h (omega arith) in
    let b₂ = cut 2 ∙ byte_in bytes n k 2 h (omega arith) in
    let b₃ = cut 3 ∙ byte_in bytes n k 3 h (omega arith) in
    let z : 4 * k + 0 ≡ 4 * k = omega arith in
    let b₀ = cut 0 ∙ (first ∙ ap (λ m. get_or bytes m 0) z) in
    omega arith

byte_out : (numbers : List ℕ) (k j : ℕ) → k < length numbers → j < 4 → get_or (bytes_of numbers) (4 * k + j) 0 ≡ get_or numbers k 0 / 256 ^ j % 256
unfolding byte_at
byte_out numbers k j h l =
    let q : (4 * k + j) / 4 ≡ k = omega arith in
    let r : (4 * k + j) % 4 ≡ j = omega arith in
    bytes_at numbers (4 * k + j) (omega arith) ∙ λ i. get_or numbers (q i) 0 / 256 ^ r i % 256

-- four bytes more are written
pub bytes_more : (numbers old : List ℕ) (k w : ℕ) (four : List ℕ) → k < length numbers → 4 * length numbers ≤ length old → w ≡ 4 →
    (let v = get_or numbers k 0 in four ≡ v % 256 ∷ v / 256 % 256 ∷ v / 65536 % 256 ∷ v / 16777216 % 256 ∷ []) →
    put_mid (4 * k) w (take (4 * k) (bytes_of numbers) ++ drop (4 * k) old) four ≡ take (4 * (k + 1)) (bytes_of numbers) ++ drop (4 * (k + 1)) old
unfolding four_at with_four
bytes_more numbers old k w four h l e d =
    let B = bytes_of numbers in
    let n = bytes_length numbers in
    let xs : List ℕ = take (4 * k) B ++ drop (4 * k) old in
    let z : 4 * k + 0 ≡ 4 * k = omega arith in
    let b₀ = ap (λ m. get_or B m 0) (sym z) ∙ byte_out numbers k 0 h (omega arith) in
    let first : get_or numbers k 0 / 256 ^ 0 % 256 ≡ get_or numbers k 0 % 256 = omega arith in
    let b₁ = byte_out numbers k 1 h (omega arith) in
    let b₂ = byte_out numbers k 2 h (omega arith) in
    let b₃ = byte_out numbers k 3 h (omega arith) in
    let q : four ≡ four_at B k = d ∙ λ i. sym (b₀ ∙ first) i ∷ sym b₁ i ∷ sym b₂ i ∷ sym b₃ i ∷ [] in
    let s₁ : suc (4 * k) ≡ 4 * k + 1 = omega arith in
    let s₂ : suc (suc (4 * k)) ≡ 4 * k + 2 = omega arith in
    let s₃ : suc (suc (suc (4 * k))) ≡ 4 * k + 3 = omega arith in
    (λ i. put_mid (4 * k) (e i) xs (q i)) ∙
    (ap (λ r. take (4 * k) xs ++ (four_at B k ++ r)) (drop-drop 4 (4 * k) xs) ∙
    (sym (append_assoc (take (4 * k) xs) (four_at B k) (drop (4 * k + 4) xs)) ∙
    (sym (sets-eq (four_at B k) xs (4 * k) (omega (arith, length-append (take (4 * k) B) (drop (4 * k) old), length-take-le (4 * k) B (omega arith), length-drop (4 * k) old))) ∙
    ((λ i. set (set (set (set xs (4 * k) (get_or B (4 * k) 0)) (s₁ i) (get_or B (4 * k + 1) 0)) (s₂ i) (get_or B (4 * k + 2) 0)) (s₃ i) (get_or B (4 * k + 3) 0)) ∙
    four_more k B old (omega arith) (omega arith)))))

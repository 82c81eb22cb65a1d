-- Loops over a table: one that writes it from the front, and one that tests all numbers below a bound.
use mathlib.Core.Path.{◌≡◌, refl, ap, ◌∙◌}
use mathlib.Core.List.{List, ◌∷◌, ◌++◌, append-nil, []}
use Prim.Native.Nat.{ℕ, zero, suc, ◌+◌, ◌*◌, ◌<◌, ◌≤◌}
use native.Mathlib.Nat.{not-suc-le-zero, le_of_suc-le-suc, le_antisymm}
use native.Mathlib.Numerals.{add-one}
use native.Mathlib.Omega.{arith}
use lib.ListN.{length, set, take, drop, get_or, replicate, length-set, drop_of_length-le}
use lib.Seq.{take_all}
use Rattle.mesh.specs.Tables.{cleared}
use Rattle.mesh.specs.Start.{over}
use Rattle.mesh.specs.Inner.{four_at, with_four}

copy_suc : (i : ℕ) (src dst : List ℕ) → i < length src → i < length dst → set (take i src ++ drop i dst) i (get_or src i 0) ≡ take (suc i) src ++ drop (suc i) dst
copy_suc i [] dst h k = absurd (not-suc-le-zero h)
copy_suc i (a ∷ src) [] h k = absurd (not-suc-le-zero k)
copy_suc zero (a ∷ src) (b ∷ dst) h k = refl
copy_suc (suc i) (a ∷ src) (b ∷ dst) h k = ap (λ (t : List ℕ). a ∷ t) (copy_suc i src dst (le_of_suc-le-suc h) (le_of_suc-le-suc k))

-- one entry more is written
pub copy_more : (i : ℕ) (src dst : List ℕ) → i < length src → i < length dst →
    set (take i src ++ drop i dst) i (get_or src i 0) ≡ take (i + 1) src ++ drop (i + 1) dst
copy_more i src dst h k = rw add-one (copy_suc i src dst h k)

-- all are
pub copy_all : (i : ℕ) (src dst l : List ℕ) → l ≡ take i src ++ drop i dst → i ≤ length src → length src ≤ i → l ≡ over src dst
copy_all i src dst l e h k = e ∙ rw (take_all i src k, le_antisymm h k)

pub clear_all : (i : ℕ) (d l : List ℕ) → l ≡ replicate i 0 ++ drop i d → i ≤ length d → length d ≤ i → l ≡ cleared d
clear_all i d l e h k = e ∙ rw (drop_of_length-le d k, append-nil, le_antisymm h k)

-- ---- four entries at a time

copy_to : (i j : ℕ) → i + 1 ≡ j → (src dst : List ℕ) → j ≤ length src → j ≤ length dst →
    set (take i src ++ drop i dst) i (get_or src i 0) ≡ take j src ++ drop j dst
copy_to i j e src dst h l = copy_more i src dst (omega arith) (omega arith) ∙ rw e

pub four_more : (k : ℕ) (src dst : List ℕ) → 4 * (k + 1) ≤ length src → 4 * (k + 1) ≤ length dst →
    with_four (take (4 * k) src ++ drop (4 * k) dst) k (four_at src k) ≡ take (4 * (k + 1)) src ++ drop (4 * (k + 1)) dst
unfolding with_four four_at
four_more k src dst h l =
    rw (
      copy_to (4 * k) (4 * k + 1) (omega arith) src dst (omega arith) (omega arith),
      copy_to (4 * k + 1) (4 * k + 2) (omega arith) src dst (omega arith) (omega arith),
      copy_to (4 * k + 2) (4 * k + 3) (omega arith) src dst (omega arith) (omega arith),
      copy_to (4 * k + 3) (4 * (k + 1)) (omega arith) src dst (omega arith) (omega arith),
    )

pub length_four : (xs : List ℕ) (c : ℕ) (v : List ℕ) → length (with_four xs c v) ≡ length xs
unfolding with_four
length_four xs c v = simp length-set

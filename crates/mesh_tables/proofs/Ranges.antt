-- What `all` over a range gives is the test of all numbers below its end.
use Rattle.std.proofs.Common.{◌≡◌, ◌∙◌, ℕ, zero, suc, ◌+◌, [], ◌∷◌, ◌++◌, Bool, ap, refl, arith}
use Rattle.std.specs.List.{range_with_len, list_all}
use Rattle.std.proofs.lemmas.List.Folds.{list_all-append}
use native.Mathlib.Nat.{add-zero, zero-add}
use Rattle.arith.specs.Table.{all_below}

range_more : (s n : ℕ) → range_with_len s (suc n) ≡ range_with_len s n ++ ((s + n) ∷ [])
range_more s zero = rw add-zero
range_more s (suc n) = ap (λ xs. s ∷ xs) (range_more (s + 1) n ∙ ap (λ k. range_with_len (s + 1) n ++ (k ∷ [])) (omega arith))

pub all_range : (n : ℕ) (p : ℕ → Bool) → list_all p (range_with_len 0 n) ≡ all_below n p
unfolding all_below
all_range zero p = refl
all_range (suc n) p =
    ap (list_all p) (range_more 0 n) ∙
    (list_all-append p (range_with_len 0 n) ((0 + n) ∷ []) ∙ rw (all_range n p, zero-add) (grind arith))

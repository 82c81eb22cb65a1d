-- Tests of the items of a list, by their places.
use Rattle.std.proofs.Common.{ℕ, zero, suc, Bool, true, false, ◌&&◌, List, [], ◌∷◌, length, get_or, ◌≡◌, refl, sym, ap, ◌∙◌}
use Rattle.std.specs.List.{list_all}
use Rattle.arith.specs.Table.{all_below}

swapped : (a b c : Bool) → (a && (b && c)) ≡ (b && (a && c))
swapped true b c = refl
swapped false true c = refl
swapped false false c = refl

-- the first test taken out
all_below-front : (n : ℕ) (p : ℕ → Bool) → all_below (suc n) p ≡ (p 0 && all_below n (λ k. p (suc k)))
unfolding all_below
all_below-front zero p = refl
all_below-front (suc n) p = ap (λ b. p (suc n) && b) (all_below-front n p) ∙ swapped (p (suc n)) (p 0) (all_below n (λ k. p (suc k)))

pub list_all-below : (p : ℕ → Bool) (xs : List ℕ) → list_all p xs ≡ all_below (length xs) (λ i. p (get_or xs i 0))
unfolding all_below
list_all-below p [] = refl
list_all-below p (x ∷ xs) = ap (λ b. p x && b) (list_all-below p xs) ∙ sym (all_below-front (length xs) (λ i. p (get_or (x ∷ xs) i 0)))

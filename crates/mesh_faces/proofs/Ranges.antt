-- Tests of all the numbers of a range.
use Rattle.std.proofs.Common.{ℕ, zero, suc, ◌+◌, Bool, true, false, ◌&&◌, ◌≡◌, refl, sym, ap, ◌∙◌, arith}
use Rattle.std.specs.List.{list_all, range_with_len}
use Rattle.arith.specs.Table.{all_below}
use Rattle.arith.proofs.Tables.{all_cong}

swapped : (a b c : Bool) → (a && (b && c)) ≡ (b && (a && c))
swapped true b c = refl
swapped false true c = refl
swapped false false c = refl

-- the first test taken out
all_below-front : (n : ℕ) (p : ℕ → Bool) → all_below (suc n) p ≡ (p 0 && all_below n (λ k. p (suc k)))
unfolding all_below
all_below-front zero p = refl
all_below-front (suc n) p = ap (λ b. p (suc n) && b) (all_below-front n p) ∙ swapped (p (suc n)) (p 0) (all_below n (λ k. p (suc k)))

from : (p : ℕ → Bool) (s n : ℕ) → list_all p (range_with_len s n) ≡ all_below n (λ k. p (s + k))
unfolding all_below
from p s zero = refl
from p s (suc n) =
    ap (λ b. p s && b) (from p (s + 1) n ∙ all_cong n (λ k. p (s + 1 + k)) (λ k. p (s + suc k)) (λ k l. ap p (omega arith))) ∙
    (ap (λ v. p v && all_below n (λ k. p (s + suc k))) (omega arith) ∙ sym (all_below-front n (λ k. p (s + k))))

pub list_all-range : (p : ℕ → Bool) (n : ℕ) → list_all p (range_with_len 0 n) ≡ all_below n p
list_all-range p n = from p 0 n ∙ all_cong n (λ k. p (0 + k)) p (λ k l. ap p (omega arith))

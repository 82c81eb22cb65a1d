-- Numbers and words as bytes.
use Rattle.std.specs.Prelude.{ℕ, zero, suc, ◌+◌, ◌-◌, ◌/◌, ◌%◌, ◌^◌, cond, ◌||◌, List, ◌∷◌, ◌++◌, [], ltb, eqb}

-- f 0, f 1, .., n of them, one after another
unfoldable pub concat_below : ℕ → (ℕ → List ℕ) → List ℕ
concat_below zero f = []
concat_below (suc n) f = concat_below n f ++ f n

-- digit p of k, which counts 10 ^ p; none before the first digit of k
unfoldable pub digit : ℕ → ℕ → List ℕ
digit k p = cond (eqb p 0 || ltb 0 (k / 10 ^ p)) ((48 + k / 10 ^ p % 10) ∷ []) []

-- a number below 10 ^ 10 in base ten
unfoldable pub decimal : ℕ → List ℕ
decimal k = concat_below 10 (λ i. digit k (9 - i))

abbrev pub space : List ℕ
space = 32 ∷ []

abbrev pub line_end : List ℕ
line_end = 10 ∷ []

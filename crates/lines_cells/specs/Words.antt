-- The four numbers of an entry as text.
use Rattle.std.specs.Prelude.{ℕ, Option, Some, cond, List, ◌∷◌, ◌++◌, [], eqb, get_or}
use Rattle.std.specs.Option.{option_eq}
use Rattle.lines.specs.Text.{concat_below, decimal, space}

-- a number; a dash for the number that says there is none
unfoldable pub word : Option ℕ → ℕ → List ℕ
word none v = cond (option_eq eqb (Some v) none) (32 ∷ 45 ∷ []) (space ++ decimal v)

unfoldable pub four_words : Option ℕ → List ℕ → List ℕ
four_words none numbers = concat_below 4 (λ i. word none (get_or numbers i 0))

use Prim.Native.Nat.{ℕ, ◌+◌, ◌*◌, ◌/◌, ◌%◌, ◌^◌, ◌≤◌}
use mathlib.Core.List.{List, [], ◌∷◌}
use native.Mathlib.Omega.{arith}
use lib.IntN.{ℤ, pos}
use mir.Syntax.{w64}
use Rattle.arith.proofs.Magnitude.{Within}
use Rattle.arith.proofs.Machine.{safe, exact}
use Rattle.arith.proofs.Ring.{Expr, var, ◌⊕◌}
use Rattle.insphere.specs.declared.Words.{Words}
use Rattle.insphere.specs.Inner.{WordsInRange, unit, sum_words}
use Rattle.insphere.proofs.exact.add.Goals as goal

abbrev low : Words → Words → Words → Words → ℕ
low a b c d = a.low + b.low + c.low + d.low

-- the high words and the low sum's units
abbrev parts : Words → Words → Words → Words → List ℤ
parts a b c d = a.high ∷ b.high ∷ c.high ∷ d.high ∷ pos (low a b c d / unit) ∷ []

abbrev tops : List ℕ
tops = 7 * 2 ^ 58 ∷ 7 * 2 ^ 58 ∷ 7 * 2 ^ 58 ∷ 7 * 2 ^ 58 ∷ 4 ∷ []

within : {a b c d : Words} → WordsInRange a × WordsInRange b × WordsInRange c × WordsInRange d → Within (parts a b c d) tops
within {a} {b} {c} {d} h =
    let units≤ : low a b c d / unit ≤ 4 = omega (arith, h.0.low<, h.1.low<, h.2.low<, h.3.low<) in
    (h.0.high≤, (h.1.high≤, (h.2.high≤, (h.3.high≤, (units≤, tt)))))

abbrev sum : Expr
sum = var 0 ⊕ var 1 ⊕ var 2 ⊕ var 3 ⊕ var 4

pub overflow_add-result-4 : goal.overflow_add-result-4
overflow_add-result-4 c = let s = c.args in safe w64 sum (parts s.a s.b s.c s.d) tops tt (within c.requires)

pub returns : goal.returns
unfolding sum_words
returns c =
    let s = c.args in
    λ i. record { high = exact w64 sum (parts s.a s.b s.c s.d) tops tt (within c.requires) i; low = low s.a s.b s.c s.d % unit }

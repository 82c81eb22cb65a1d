use Rattle.std.proofs.Common.{◌≡◌, ℕ, ◌*◌, ◌^◌, ◌<◌, Bool, not, ◌||◌, List, length, get_or, take, pos, refl, sym, ap, ◌∙◌, arith}
use mathlib.Core.Path.{ap₂}
use Rattle.std.proofs.lemmas.List.{get_or-take, length-take}
use lib.IntN.{ℤ}
use lib.Signed.{mag}
use mir.Syntax.{w32}
use Rattle.arith.specs.Table.{any_below}
use Rattle.arith.proofs.Machine.{back}
use Rattle.arith.proofs.Tables.{any_intro, any_more}
use Rattle.corrections.specs.Corrections.{in_range, out_of_range}
use Rattle.corrections_value.proofs.Words.{tested}
use Rattle.corrections_value.proofs.out_of_range.Goals as goal

-- number i of the first n
number_tested : (cs : List ℤ) (n i : ℕ) → i < length (take n cs) → mag (get_or (take n cs) i (pos 0)) < 2 ^ 31 → {r b : Bool} →
    r ≡ in_range (back w32 (get_or (take n cs) i (pos 0))) → r ≡ b → not (in_range (get_or cs i (pos 0))) ≡ not b
number_tested cs n i l h e q =
    ap (λ z. not (in_range z)) (sym (get_or-take n cs i (pos 0) (omega (arith, l, length-take n cs)))) ∙ (tested _ h e ∙ ap not q)

pub loop-d-init : goal.loop-d-init
unfolding any_below
loop-d-init c = refl

pub returns-then-not-in_range : goal.returns-then-not-in_range
unfolding out_of_range
returns-then-not-in_range c =
    let n = 3 * c.args.np in
    let i = c.loop-d.d-index in
    sym (any_intro _ _ i (omega (arith, length-take n c.args.corrections.now)) (number_tested c.args.corrections.now n i (omega arith) (omega arith) c.in_range.ensures c.if-not-in_range.true))

pub loop-d-preserved : goal.loop-d-preserved
loop-d-preserved c =
    let l = c.loop-d in
    any_more l.d-index _ ∙
    ap₂ ◌||◌ (number_tested c.args.corrections.now (3 * c.args.np) l.d-index (omega arith) (omega arith) c.in_range.ensures c.if-not-in_range.false) l.invariant

pub returns : goal.returns
unfolding out_of_range
returns c =
    let l = c.loop-d in
    let n = 3 * c.args.np in
    let e : l.d-index ≡ n = omega (arith, length-take n c.args.corrections.now) in
    sym (ap (λ n. any_below n (λ k. not (in_range (get_or c.args.corrections.now k (pos 0))))) (sym e) ∙ l.invariant)

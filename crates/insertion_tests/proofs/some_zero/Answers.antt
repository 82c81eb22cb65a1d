use Rattle.std.proofs.Common.{◌≡◌, ℕ, ◌<◌, ◌≤◌, Bool, true, false, List, length, take, sym, ap, ◌∙◌, arith, nat_eq}
use Rattle.std.specs.List.{IsAnyAnswer}
use Rattle.std.proofs.lemmas.List.{get_or-take, length-take}
use Rattle.std.proofs.lemmas.Bool.{eqb-true}
use Rattle.insertion.specs.Inner.{some_zero}
use Rattle.insertion.proofs.Admission.{no_zero, a_zero}
use Rattle.insertion_tests.proofs.some_zero.Goals as goal

-- the codes of the first np points
answer_is : (r : Bool) (codes : List ℕ) (np : ℕ) → np ≤ length codes → IsAnyAnswer (λ y b. nat_eq y 0 ≡ b) (take np codes) r → r ≡ some_zero codes np
answer_is true codes np h w =
    let k = w.0 in
    let l : k < np = omega (arith, w.1, length-take np codes) in
    a_zero codes np k l (sym (get_or-take np codes k 0 l) ∙ eqb-true _ _ (w.2 0))
answer_is false codes np h w =
    no_zero codes np (λ k l. ap (λ x. nat_eq x 0) (sym (get_or-take np codes k 0 l)) ∙ w k 0 (omega arith) (omega (arith, length-take np codes)))

pub returns : goal.returns
returns c = answer_is _ c.args.codes.now c.args.np c.requires c.contains.ensures.cases

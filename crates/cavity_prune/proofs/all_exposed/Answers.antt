use Rattle.std.proofs.Common.{◌≡◌, ℕ, zero, suc, ◌<◌, ◌≤◌, ◌&&◌, Bool, List, length, get_or, take, take_all, refl, sym, ap, ◌∙◌, add-one, arith, rules, tests}
use Rattle.std.proofs.Math.Bool.{and_comm}
use Rattle.std.specs.List.{list_all}
use Rattle.std.proofs.lemmas.Iterator.{YieldsList-from_slice}
use Rattle.std.proofs.lemmas.Iterator.Adapters.{serves_from_places}
use Rattle.std.proofs.lemmas.Iterator.Search.{all_from_yields_List}
use Rattle.std.proofs.lemmas.List.{get_or_read}
use Rattle.std.proofs.lemmas.List.Folds.{list_all_more}
use Rattle.arith.specs.Table.{all_below}
use Rattle.cavity.specs.Inner.Correction.{all_exposed, is_exposed}
use Rattle.cavity_prune.proofs.all_exposed.Goals as goal

list_all-below : (p : ℕ → Bool) (k : List ℕ) (n : ℕ) → n ≤ length k → list_all p (take n k) ≡ all_below n (λ i. p (get_or k i 0))
unfolding all_below
list_all-below p k zero h = refl
list_all-below p k (suc n) h =
    rw (← (add-one n)) (list_all_more p k n 0 (omega arith) ∙ (and_comm (list_all p (take n k)) (p (get_or k n 0)) ∙ ap (λ b. p (get_or k n 0) && b) (list_all-below p k n (omega arith))))

-- src/lib.rt:26:5
pub all-requires-clause-callable : goal.all-requires-clause-callable
all-requires-clause-callable c =
    serves_from_places (YieldsList-from_slice c.args.k cc) (λ x q k. search (rules, tests)) (λ x k h e.
    let here : x.now ≡ get_or c.args.k k 0 = get_or_read c.args.k _ _ h e 0 in
    let b : x.now < length c.args.exposed.now = omega (arith, c.requires k (omega arith)) in
    search rules)

-- src/lib.rt:21:1
pub returns : goal.returns
unfolding all_exposed
returns c =
    let h = all_from_yields_List (is_exposed c.args.exposed.now) _ _ c.all.result c.all.ensures.ran (YieldsList-from_slice c.args.k cc) (λ x b q k. search (rules, tests)) in
    let whole : take 4 c.args.k ≡ c.args.k = take_all 4 c.args.k (omega arith) in
    h ∙ (ap (list_all (is_exposed c.args.exposed.now)) (sym whole) ∙ list_all-below (is_exposed c.args.exposed.now) c.args.k 4 (omega arith))

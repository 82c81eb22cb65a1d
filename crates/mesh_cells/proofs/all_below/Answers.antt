use Rattle.std.proofs.Common.{ℕ, Bool, length, ltb, tests, rules, ◌≡◌, ◌∙◌}
use Rattle.std.proofs.lemmas.Iterator.{YieldsList-from_slice}
use Rattle.std.proofs.lemmas.Iterator.Search.{all_from_yields_List}
use Rattle.mesh.specs.Inner.Cells.{numbers_below}
use Rattle.mesh_cells.proofs.Lists.{list_all-below}
use Rattle.mesh_cells.proofs.all_below.Goals as goal

pub returns : goal.returns
unfolding numbers_below
returns c =
    let a = c.args in
    let test : ℕ → Bool = λ v. ltb v a.np in
    let four : length a.k ≡ 4 = search rules in
    all_from_yields_List test _ _ c.all.result c.all.ensures.ran (YieldsList-from_slice a.k cc) (λ x b q k. search (rules, tests)) ∙ rw four at (list_all-below test a.k)

use Rattle.std.proofs.Common.{eqb, tests, rules, ◌∙◌}
use Rattle.std.proofs.lemmas.Iterator.{YieldsList-from_slice}
use Rattle.std.proofs.lemmas.Iterator.Search.{all_from_yields_List}
use Rattle.mesh_cells.proofs.Lists.{list_all-below}
use Rattle.mesh_cells.proofs.all_marked.Goals as goal

pub returns : goal.returns
returns c =
    let marked = c.args.marked.now in
    all_from_yields_List (λ m. eqb m 1) _ _ _ c.all.ensures.ran (YieldsList-from_slice marked cc) (λ x b q k. search (rules, tests)) ∙ list_all-below (λ m. eqb m 1) marked

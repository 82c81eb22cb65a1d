use Rattle.std.proofs.Common.{◌∙◌, arith, rules, tests}
use Rattle.std.proofs.lemmas.Iterator.{YieldsList-from_range}
use Rattle.std.proofs.lemmas.Iterator.Search.{all_from_yields_List}
use Rattle.geometry.specs.Volume.{in_box}
use Rattle.mesh.specs.Tables.{point_in}
use Rattle.mesh_tables.proofs.Ranges.{all_range}
use Rattle.mesh_tables.proofs.points_in_box.Goals as goal

pub returns : goal.returns
returns c =
    let a = c.args in
    all_from_yields_List (λ k. in_box a.x a.y a.z (point_in a.points.now k)) _ _ _ c.all.ensures.ran (YieldsList-from_range 0 a.count a.count (cc) (omega arith)) (λ x b q k. search (rules, tests)) ∙
    all_range a.count _

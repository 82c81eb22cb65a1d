use Rattle.std.proofs.Common.{ℕ, Bool, refl, tests, rules, ◌∙◌}
use Rattle.std.proofs.lemmas.Iterator.{YieldsList-from_range}
use Rattle.std.proofs.lemmas.Iterator.Search.{all_from_yields_List}
use Rattle.geometry.specs.Volume.{same_position}
use Rattle.mesh.specs.Tables.{point_in}
use Rattle.mesh.specs.Mesh.{box_corner}
use Rattle.mesh.specs.Check.{box_ok}
use Rattle.mesh_faces.proofs.Ranges.{list_all-range}
use Rattle.mesh_check.proofs.box_corners_pass.Goals as goal

pub returns : goal.returns
unfolding box_ok
returns c =
    let a = c.args in
    let test : ℕ → Bool = λ k. same_position (point_in a.points.now k) (box_corner a.x a.y a.z k) in
    all_from_yields_List test _ _ _ c.all.ensures.ran (YieldsList-from_range 0 8 8 refl refl) (λ x b q k. search (rules, tests)) ∙ list_all-range test 8

use Rattle.std.proofs.Common.{ℕ, Bool, refl, tests, rules, ◌∙◌, arith}
use Rattle.std.proofs.lemmas.Iterator.{YieldsList-from_range}
use Rattle.std.proofs.lemmas.Iterator.Search.{all_from_yields_List}
use Rattle.mesh.specs.Tables.{tables}
use Rattle.mesh.specs.Inner.Faces.{faces_of}
use Rattle.mesh_faces.proofs.Ranges.{list_all-range}
use Rattle.mesh_faces.proofs.faces_pass.Goals as goal

pub returns : goal.returns
returns c =
    let a = c.args in
    let m = a.mesh in
    let test : ℕ → Bool = faces_of m.x m.y m.z (tables a.points.now a.corners.now a.neighbours.now) m.used in
    all_from_yields_List test _ _ _ c.all.ensures.ran (YieldsList-from_range 0 m.used m.used refl (omega arith)) (λ x b q k. search (rules, tests)) ∙ list_all-range test m.used

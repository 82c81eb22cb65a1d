use Rattle.std.proofs.Common.{get_or, ap, arith}
use Rattle.mesh.proofs.Reading.{cells_few, has_corners, corner_mark}
use Rattle.cavity.proofs.Marking.{kinds≤}
use Rattle.cavity_faces.proofs.inspect.Goals as goal

pub code_of-requires : goal.code_of-requires
code_of-requires c = kinds≤ _ _ _ _ c.face_kinds-k.ensures

pub bounds-faces-c : goal.bounds-faces-c
bounds-faces-c c = omega (arith, c.requires.3.below, c.requires.4, cells_few c.requires.0)

pub four_at-requires : goal.four_at-requires
four_at-requires c = has_corners c.requires.0 _ c.requires.3.below

pub mark_faces-requires : goal.mark_faces-requires
mark_faces-requires c j l =
    let e = ap (λ k. get_or k j 0) c.four_at.ensures in
    omega (arith, e, corner_mark c.requires.0 c.args.c j c.requires.3 l, c.requires.5)

use Rattle.std.proofs.Common.{◌+◌, ◌*◌, Bool, true, false, not, cond, eqb, get_or, ◌≡◌, refl, arith}
use mir.Val.{bool_byte}
use Rattle.mesh.specs.Inner.Faces.{place_in}
use Rattle.mesh_faces.proofs.place_in.Goals as goal

place : (a b c d : Bool) → bool_byte (not a) * (1 + bool_byte (not b) * (1 + bool_byte (not c) * (1 + 5 * bool_byte (not d)))) ≡
    cond a 0 (cond b 1 (cond c 2 (cond d 3 8)))
place true b c d = omega arith
place false true c d = omega arith
place false false true d = omega arith
place false false false true = refl
place false false false false = refl

pub returns : goal.returns
unfolding place_in
returns c =
    let a = c.args in
    let h = c.from-e0.ensures in
    rw (c.from-e0.ensures, c.from-e1.ensures, c.from-e2.ensures, c.from-e3.ensures)
    (place (eqb (get_or a.b 0 0) a.v) (eqb (get_or a.b 1 0) a.v) (eqb (get_or a.b 2 0) a.v) (eqb (get_or a.b 3 0) a.v))

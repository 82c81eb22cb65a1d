use Rattle.std.proofs.Common.{ℕ, Bool, true, false, ◌&&◌, List, [], ◌≡◌, ◌-◌, refl, sym, arith}
use Rattle.arith.specs.Table.{all_below}
use Rattle.geometry.specs.Volume.{in_box}
use Rattle.mesh.specs.declared.Mesh.{Mesh}
use Rattle.mesh.specs.Tables.{Tables, point_capacity, cell_capacity, point_in, tables}
use Rattle.mesh.specs.Chain.{chain_ok}
use Rattle.mesh.specs.Check.{box_ok, counts_ok, is_mesh}
use Rattle.mesh.specs.Inner.Cells.{cells_pass}
use Rattle.mesh.specs.Inner.Faces.{faces_of}
use Rattle.mesh.proofs.Verdict.{counts_fail, box_fails, inside_fails, cells_fail, chain_fails, points_room, box_room, placed, celled, sound, corners_below, faces_decide, sides}
use Rattle.mesh_check.proofs.is_mesh.Goals as goal

module _ (m : Mesh) (ps cs ns : List ℕ) (w : ℕ) where
  abbrev t : Tables
  t = tables ps cs ns

  abbrev counts : Bool
  counts = counts_ok m.x m.y m.z (point_capacity t) (cell_capacity t w) m.points m.used

  abbrev box : Bool
  box = box_ok m.x m.y m.z (tables ps [] [])

  abbrev inside : Bool
  inside = all_below m.points (λ k. in_box m.x m.y m.z (point_in ps k))

  abbrev cells : Bool
  cells = cells_pass m (tables ps cs [])

  abbrev chain : Bool
  chain = chain_ok (tables [] cs ns) m.used (m.used - m.cells) m.chain

  abbrev faces : Bool
  faces = all_below m.used (faces_of m.x m.y m.z t m.used)

  -- the tests one after another
  verdict : is_mesh m t w ≡ (counts && (box && (inside && (cells && (chain && faces)))))
  verdict = go counts box inside cells chain refl refl refl refl refl
    where
      go : (a b c d e : Bool) → counts ≡ a → box ≡ b → inside ≡ c → cells ≡ d → chain ≡ e → is_mesh m t w ≡ (a && (b && (c && (d && (e && faces)))))
      go true true true true true f g h i j = sym (faces_decide m ps cs ns w f g h i j)
      go true true true true false f g h i j = chain_fails m ps cs ns w j
      go true true true false e f g h i j = cells_fail m ps cs ns w i
      go true true false d e f g h i j = inside_fails m ps cs ns w h
      go true false c d e f g h i j = box_fails m ps cs ns w g
      go false b c d e f g h i j = counts_fail m ps cs ns w f

pub box_corners_pass-requires : goal.box_corners_pass-requires
unfolding point_capacity cell_capacity
box_corners_pass-requires c =
    let a = c.args in
    let h : counts a.mesh a.points.now a.corners.now a.neighbours.now a.work ≡ true = grind arith in
    box_room a.mesh a.points.now a.corners.now a.neighbours.now a.work h

pub points_in_box-requires : goal.points_in_box-requires
unfolding point_capacity cell_capacity
points_in_box-requires c =
    let a = c.args in
    let h : counts a.mesh a.points.now a.corners.now a.neighbours.now a.work ≡ true = grind arith in
    (points_room a.mesh a.points.now a.corners.now a.neighbours.now a.work h).1

pub cells_pass-requires : goal.cells_pass-requires
unfolding point_capacity cell_capacity
cells_pass-requires c =
    let a = c.args in
    let h : counts a.mesh a.points.now a.corners.now a.neighbours.now a.work ≡ true = grind arith in
    let i : inside a.mesh a.points.now a.corners.now a.neighbours.now a.work ≡ true = grind arith in
    let s = sides a.mesh a.points.now a.corners.now a.neighbours.now a.work h in
    (s.0, s.1, s.2, placed a.mesh a.points.now a.corners.now a.neighbours.now a.work h i, (celled a.mesh a.points.now a.corners.now a.neighbours.now a.work h).0)

pub chain_passes-requires : goal.chain_passes-requires
unfolding point_capacity cell_capacity
chain_passes-requires c =
    let a = c.args in
    let h : counts a.mesh a.points.now a.corners.now a.neighbours.now a.work ≡ true = grind arith in
    let k = celled a.mesh a.points.now a.corners.now a.neighbours.now a.work h in
    (k.0, k.1)

pub faces_pass-requires : goal.faces_pass-requires
unfolding point_capacity cell_capacity
faces_pass-requires c =
    let a = c.args in
    let h : counts a.mesh a.points.now a.corners.now a.neighbours.now a.work ≡ true = grind arith in
    let i : inside a.mesh a.points.now a.corners.now a.neighbours.now a.work ≡ true = grind arith in
    let k : cells a.mesh a.points.now a.corners.now a.neighbours.now a.work ≡ true = grind arith in
    (sound a.mesh a.points.now a.corners.now a.neighbours.now a.work h i, corners_below a.mesh a.points.now a.corners.now [] 0 k)

pub returns-then-chain_passes : goal.returns-then-chain_passes
unfolding point_capacity cell_capacity
returns-then-chain_passes c =
    let a = c.args in
    let e = verdict a.mesh a.points.now a.corners.now a.neighbours.now a.work in
    grind arith

pub returns-else-chain_passes : goal.returns-else-chain_passes
unfolding point_capacity cell_capacity
returns-else-chain_passes c =
    let a = c.args in
    let e = verdict a.mesh a.points.now a.corners.now a.neighbours.now a.work in
    grind arith

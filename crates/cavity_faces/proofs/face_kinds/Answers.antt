use Rattle.std.proofs.Common.{ℕ, ◌<◌, length, get_or, sym, ap, ◌∙◌, subst, arith}
use mathlib.Core.Logic.{◌≢◌}
use Rattle.geometry.specs.Inner.{volumes_at}
use Rattle.mesh.specs.Tables.{none}
use Rattle.mesh.specs.Inner.{Cornered}
use Rattle.mesh.proofs.Corners.{read_in_range}
use Rattle.mesh.proofs.Reading.{has_corners, has_neighbours, loaded_cornered, loaded_link}
use Rattle.cavity.proofs.Marking.{kinds_are}
use Rattle.cavity_faces.proofs.face_kinds.Goals as goal
use Rattle.cavity_faces.proofs.face_kinds.Goals.{After-load-cell}

corners_are : (c : After-load-cell) → Cornered c.args.points.now c.load-cell.result.corners
corners_are c = loaded_cornered c.requires.0 c.requires.3 c.load-cell.ensures

-- what lies across a face is none or a cell with a state
link : (c : After-load-cell) (i : ℕ) → i < 4 → get_or c.load-cell.result.neighbours i 0 ≢ none → get_or c.load-cell.result.neighbours i 0 < length c.args.state.now
link c i l real = subst (λ m. get_or c.load-cell.result.neighbours i 0 < m) (sym c.requires.2) (loaded_link c.requires.0 c.requires.3 c.load-cell.ensures i l real)

pub load-cell-requires : goal.load-cell-requires
load-cell-requires c = (has_corners c.requires.0 _ c.requires.3.below, has_neighbours c.requires.0 _ c.requires.3.below)

pub positions-requires : goal.positions-requires
positions-requires c = (corners_are (goal.at.positions-requires c).After-load-cell).has

pub volumes_at-v-requires : goal.volumes_at-v-requires
volumes_at-v-requires c =
    (read_in_range c.positions.ensures (corners_are (goal.at.volumes_at-v-requires c).After-load-cell), c.requires.1)

pub face_kind-requires : goal.face_kind-requires
face_kind-requires c = link (goal.at.face_kind-requires c).After-load-cell 0 (omega arith)

pub face_kind-requires-2 : goal.face_kind-requires-2
face_kind-requires-2 c = link (goal.at.face_kind-requires-2 c).After-load-cell 1 (omega arith)

pub face_kind-requires-3 : goal.face_kind-requires-3
face_kind-requires-3 c = link (goal.at.face_kind-requires-3 c).After-load-cell 2 (omega arith)

pub face_kind-requires-4 : goal.face_kind-requires-4
face_kind-requires-4 c = link (goal.at.face_kind-requires-4 c).After-load-cell 3 (omega arith)

pub returns : goal.returns
returns c =
    kinds_are c.requires.0 c.requires.1 c.requires.3 c.load-cell.ensures c.args.state.now
    (c.volumes_at-v.ensures ∙ ap (λ t. volumes_at t c.args.node.position) c.positions.ensures)
    c.face_kind.ensures c.face_kind-2.ensures c.face_kind-3.ensures c.face_kind-4.ensures

-- All the definitions that the pieces compute with: `unfolding opened` opens them.
use Rattle.arith.specs.Table
use Rattle.geometry.specs.Volume
use Rattle.insphere.specs.Sphere
use Rattle.mesh.specs.Tables
use Rattle.mesh.specs.Chain
use Rattle.mesh.specs.Check
use Rattle.mesh.specs.Start
use Rattle.mesh.specs.Refusal
use Rattle.locate.specs.Locate
use Rattle.cavity.specs.Answers
use Rattle.cavity.specs.Cavity
use Rattle.star.specs.Turn
use Rattle.star.specs.Star
use Rattle.insertion.specs.Insertion
use Rattle.calls.specs.Calls
use Rattle.pieces.specs.Piece

unfoldable pub opened : Unit {0}
unfolding Table.fill Table.tabulate Table.all_below Table.any_below Table.count_below Table.select_from Table.select_below
    Table.first_from Table.first_below Table.iterate Table.sum
    Volume.volume6 Volume.volume Volume.squared_distance
    Sphere.sphere_sum Sphere.sphere_t Sphere.sphere_answer
    lib.Ieee.lt lib.Ieee.add lib.Ieee.mul lib.Ieee.of_int
    Tables.point_capacity Tables.cell_capacity Tables.point_in Tables.corner Tables.freed Tables.live Tables.across
    Tables.corner_at Tables.cell_volume Tables.side Tables.face_has Tables.same_face Tables.mate Tables.place_of
    Chain.freed_entry Chain.chain_from Chain.chain_ok Chain.chain_of
    Check.counts_ok Check.box_ok Check.used_ok Check.points_ok Check.cell_ok Check.wall_ok Check.some_wall Check.mated_ok
    Check.face_ok Check.mesh_check Check.entries_ok Check.is_mesh
    Start.short Start.started Start.start_points Start.start_corners Start.start_neighbours Start.start_refusal
    Start.start_tables
    Refusal.mesh_refusal
    Locate.holds
    Answers.cell_e Answers.cell_t Answers.says_yes Answers.report_t Answers.least_t
    Cavity.base Cavity.grown Cavity.cavity Cavity.outer Cavity.coplanar Cavity.visible Cavity.faces_good Cavity.corners_good
    Cavity.marked Cavity.pruned Cavity.corrected Cavity.cavity_of Cavity.corrected_cavity Cavity.cavity_size
    Turn.cross Turn.turn
    Star.turn_face Star.made_count Star.made_faces Star.slot Star.used_after Star.new_at Star.highest_below Star.chain_after
    Star.old_across Star.star_across Star.made_corner Star.made_across Star.new_corners Star.new_neighbours Star.new_points
    Star.star
    Insertion.first_cavity Insertion.last_cavity Insertion.cells_made Insertion.node_refusal Insertion.fewer_bytes
    Insertion.insert_refusal Insertion.report_of Insertion.inserted_mesh Insertion.inserted_tables Insertion.insert_unless
    Insertion.insert_call
    Calls.start_build Calls.record_after Calls.insert_outcome Calls.outcome Calls.mesh_after
    Piece.reached Piece.given Piece.expected Piece.concat_map Piece.filled
opened = tt

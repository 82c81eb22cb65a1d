-- Document 01, 'Lists of calls': what a list of insertion calls leaves, which nodes it accepts, and condition 3.
use Rattle.std.specs.Prelude.{ℕ, ◌*◌, ◌≤◌, ◌<◌, List, [], ◌∷◌, ◌++◌, ◌≡◌, pos, ◌<ℤ◌}
use Rattle.arith.specs.Table.{tabulate, sum}
use Rattle.geometry.specs.declared.Position.{Position}
use Rattle.mesh.specs.declared.Mesh.{Mesh}
use Rattle.mesh.specs.Tables.{Tables, none, point, across, cell_volume, IsCell, IsFace}
use Rattle.mesh.specs.Mesh.{box_corner, OnWall, Mated, CornerOf, ValidMesh}
use Rattle.mesh.specs.Start.{started_mesh, start_tables}
use Rattle.cavity.specs.Answers.{sphere, handed}
use Rattle.insertion.specs.Inserted.{Inserted}
use Rattle.insertion.specs.Inserted.{Accepted, Refused}
use Rattle.insertion.specs.Listed.{Listed}
use Rattle.insertion.specs.Listed.{Ended, Stopped, Refused as AllRefused}
use Rattle.insertion.specs.Insertion.{Result, insert_call}
use Rattle.insertion.specs.List.{listed_node, listed_count, list_call}
use Rattle.insertion.specs.Look.{LookResult, look_call, marked_call}

-- what one call hands on to the next: 'the record and the point, corner and neighbour tables'
pub record Build : Type 0 where
  pub mesh : Mesh
  pub tables : Tables

-- 'the record and tables that an accepted start leaves', of a box X, Y, Z, tables t and a work area of w entries
unfoldable pub start_build : ℕ → ℕ → ℕ → Tables → ℕ → Build
start_build X Y Z t w = record { mesh = started_mesh X Y Z; tables = start_tables X Y Z t w }

-- 'The list holds the three insertions'; 'an insertion asked for later joins them': that with marks. A look may stand between them.
-- 'Work area, nodes and answer bytes may be any at each call': a call has its work area's length, then the answer bytes or marks
-- where they are handed in, then the node or the listed numbers.
pub data Call : Type 0 where
  by_sphere : ℕ → Position → Call
  by_answers : ℕ → List ℕ → Position → Call
  by_marks : ℕ → List ℕ → Position → Call
  by_list : ℕ → List ℕ → Call
  look : ℕ → List ℕ → Position → Call

-- the record after an answer: the answer's own, or, where it has none, the old one
unfoldable pub record_after : Mesh → Inserted → Mesh
record_after m (Accepted m' r) = m'
record_after m (Refused e) = m

unfoldable pub record_after_list : Mesh → Listed → Mesh
record_after_list m (Ended m' k) = m'
record_after_list m (Stopped m' place e) = m'
record_after_list m (AllRefused e) = m

-- 'A node is accepted when its insertion call answers a report'
unfoldable pub accepted_node : Position → Inserted → List Position
accepted_node p (Accepted m r) = p ∷ []
accepted_node p (Refused e) = []

-- 'of listed nodes, those before the place answered are accepted, all if their list ends, none if the whole list is refused'
unfoldable pub accepted_nodes : List ℕ → Listed → List Position
accepted_nodes ns (Ended m k) = tabulate (listed_count ns) (listed_node ns)
accepted_nodes ns (Stopped m place e) = tabulate place (listed_node ns)
accepted_nodes ns (AllRefused e) = []

-- what a call leaves, and the nodes that it accepts
pub record Outcome : Type 0 where
  pub after : Build
  pub accepted : List Position

unfoldable pub insert_outcome : Mesh → Position → Result Inserted → Outcome
insert_outcome m p l =
    record { after = record { mesh = record_after m l.answer; tables = l.tables }; accepted = accepted_node p l.answer }

unfoldable pub list_outcome : Mesh → List ℕ → Result Listed → Outcome
list_outcome m ns l =
    record { after = record { mesh = record_after_list m l.answer; tables = l.tables }; accepted = accepted_nodes ns l.answer }

-- 'A look in it accepts no node, though it answers a report' (document 02 §8)
unfoldable pub look_outcome : Mesh → LookResult → Outcome
look_outcome m l = record { after = record { mesh = m; tables = l.tables }; accepted = [] }

unfoldable pub outcome : Build → Call → Outcome
outcome b (by_sphere w p) = insert_outcome b.mesh p (insert_call b.mesh b.tables w p sphere)
outcome b (by_answers w bytes p) = insert_outcome b.mesh p (insert_call b.mesh b.tables w p (handed bytes))
outcome b (by_marks w marks p) = insert_outcome b.mesh p (marked_call b.mesh b.tables w p marks)
outcome b (by_list w ns) = list_outcome b.mesh ns (list_call b.mesh b.tables w ns)
outcome b (look w marks p) = look_outcome b.mesh (look_call b.mesh b.tables w p marks)

-- 'Each call gets the record and the point, corner and neighbour tables as the last one left them'
unfoldable pub mesh_after : Build → List Call → Build
mesh_after b [] = b
mesh_after b (c ∷ cs) = mesh_after (outcome b c).after cs

-- the nodes that the calls accept, in their order
unfoldable pub accepted_by : Build → List Call → List Position
accepted_by b [] = []
accepted_by b (c ∷ cs) = (outcome b c).accepted ++ accepted_by (outcome b c).after cs

-- face f is on a wall, or shared with a cell on its far side that names it back
pub data FaceStands (X Y Z : ℕ) (t : Tables) (n f : ℕ) : Type 0 where
  on_wall : across t f ≡ none → OnWall X Y Z t f → FaceStands X Y Z t n f
  shared : IsCell t n (across t f) → (g : ℕ) → Mated t f g → FaceStands X Y Z t n f

-- condition 3, of what a list of calls leaves in the box X, Y, Z and the nodes ps that it accepts
pub record Claim (X Y Z : ℕ) (b : Build) (ps : List Position) : Type 0 where
  -- every cell's six-fold volume is above 0
  pub positive : (c : ℕ) → IsCell b.tables b.mesh.used c → pos 0 <ℤ cell_volume b.tables c
  pub faces : (f : ℕ) → IsFace b.tables b.mesh.used f → FaceStands X Y Z b.tables b.mesh.used f
  -- the volumes add up to the box, with the start's sides; a freed entry's, four times one point, is 0
  pub volumes : sum b.mesh.used (cell_volume b.tables) ≡ pos (6 * X * Y * Z)
  -- the points are the eight corners of the box and then just the accepted nodes, in their order
  pub points : tabulate b.mesh.points (point b.tables) ≡ tabulate 8 (box_corner X Y Z) ++ ps
  -- every point is a corner of some cell
  pub used : (k : ℕ) → k < b.mesh.points → CornerOf b.tables b.mesh.used k
  -- the record has the start's sides
  pub side_x : b.mesh.x ≡ X
  pub side_y : b.mesh.y ≡ Y
  pub side_z : b.mesh.z ≡ Z
  -- all of 'What a mesh is', the chain of freed entries and the cell count, for every work area of three entries for each that is in use, and
  -- of the 18 that the least capacity takes
  pub mesh : (w : ℕ) → 18 ≤ w → 3 * b.mesh.used ≤ w → ValidMesh b.mesh b.tables w

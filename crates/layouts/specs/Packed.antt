-- Document 01's layout, which document 02 §11 replaced: cells are packed. 'A record holds the sides, the point count and the cell count'. It is
-- written as a record of §11 with an empty chain and as many entries in use as there are cells, so that cavity, refusals, report, marks, look and
-- locating are the definitions that both layouts share (that they are document 01's there: proofs/Shared). Step 6 differs.
use Rattle.std.specs.Prelude.{ℕ, zero, suc, ◌+◌, ◌*◌, ◌-◌, ◌/◌, ◌%◌, Bool, false, cond, List, ltb, eqb, length, get_or}
use Rattle.arith.specs.Table.{tabulate, count_below, select_below}
use Rattle.geometry.specs.declared.Position.{Position}
use Rattle.mesh.specs.declared.Mesh.{Mesh}
use Rattle.mesh.specs.Tables.{Tables, none, corner}
use Rattle.mesh.specs.Refusal.{mesh_refusal}
use Rattle.cavity.specs.Cavity.{visible}
use Rattle.cavity.specs.Answers.{Answers, sphere, handed}
use Rattle.star.specs.Star.{kept?, made_count, made_faces, Numbers, old_across, made_across, made_corner, new_points}
use Rattle.insertion.specs.Inserted.{Inserted}
use Rattle.insertion.specs.Inserted.{Accepted, Refused}
use Rattle.insertion.specs.Listed.{Listed}
use Rattle.insertion.specs.Listed.{Ended, Stopped, Refused as AllRefused}
use Rattle.insertion.specs.Insertion.{last_cavity, node_refusal, insert_refusal, report_of, Result}
use Rattle.insertion.specs.List.{listed_node, listed_count}
use Rattle.insertion.specs.Look.{marked_refusal, look_call}
use Rattle.calls.specs.Calls.{Build, Call, by_sphere, by_answers, by_marks, by_list, look, Outcome, insert_outcome, list_outcome, look_outcome}

abbrev pub packed_record : ℕ → ℕ → ℕ → ℕ → ℕ → Mesh
packed_record x y z points cells = record { x = x; y = y; z = z; points = points; cells = cells; chain = none; used = cells }

-- the record with the same sides, point count and cell count
abbrev pub packed_of : Mesh → Mesh
packed_of m = packed_record m.x m.y m.z m.points m.cells

-- ---- step 6: 'The table becomes the cells outside the spot in their old order, then the new ones, neighbours renumbered.'

unfoldable pub kept_cells : ℕ → List Bool → List ℕ
kept_cells n s = select_below n (kept? s)

unfoldable pub new_count : Tables → ℕ → Position → List Bool → ℕ
new_count t n p s = count_below n (kept? s) + made_count t n p s

abbrev pub packed_numbers : Tables → ℕ → Position → List Bool → Numbers
packed_numbers t n p s = record { kept = λ c. count_below c (kept? s); made = λ f. count_below n (kept? s) + count_below f (visible t p s) }

-- Entry q of a table of four a cell: of a kept cell, of a new one; 'Entries from the new count up to old count plus new cells are 0;
-- those beyond are unchanged.'
abbrev pub packed_entry : List ℕ → List ℕ → ℕ → (ℕ → ℕ → ℕ) → (ℕ → ℕ → ℕ) → List ℕ → ℕ → ℕ
packed_entry kept made n old new l q =
    cond (ltb (q / 4) (length kept)) (old (get_or kept (q / 4) 0) (q % 4))
    (cond (ltb (q / 4) (length kept + length made)) (new (get_or made (q / 4 - length kept) 0) (q % 4))
    (cond (ltb (q / 4) (n + length made)) 0 (get_or l q 0)))

unfoldable pub packed_corners : Tables → ℕ → Position → ℕ → List Bool → List ℕ
packed_corners t n p v s =
    tabulate (length t.corners) (packed_entry (kept_cells n s) (made_faces t n p s) n (corner t) (made_corner t v) t.corners)

unfoldable pub packed_neighbours : Tables → ℕ → Position → List Bool → List ℕ
packed_neighbours t n p s =
    let N = packed_numbers t n p s in
    tabulate (length t.neighbours)
    (packed_entry (kept_cells n s) (made_faces t n p s) n (λ c j. old_across N t s (4 * c + j)) (made_across N t n p s) t.neighbours)

-- the tables after p is inserted over the cavity s, as point number v
unfoldable pub packed_star : Tables → ℕ → Position → ℕ → List Bool → Tables
packed_star t n p v s =
    record { points = new_points t p v; corners = packed_corners t n p v s; neighbours = packed_neighbours t n p s }

-- ---- the calls

-- the record with p inserted, and the tables
unfoldable pub packed_mesh : Mesh → Tables → Position → Answers → Mesh
packed_mesh m t p a = packed_record m.x m.y m.z (m.points + 1) (new_count t m.used p (last_cavity m t p a))

unfoldable pub packed_tables : Mesh → Tables → Position → Answers → Tables
packed_tables m t p a = packed_star t m.used p m.points (last_cavity m t p a)

-- with the refusal r
unfoldable pub packed_unless : ℕ → Mesh → Tables → Position → Answers → Result Inserted
packed_unless r m t p a =
    cond (eqb r 0)
    record { answer = Accepted (packed_mesh m t p a) (report_of m t p a); tables = packed_tables m t p a }
    record { answer = Refused r; tables = t }

-- an insertion, one with marks, and a node after tests 1 to 3
unfoldable pub packed_call : Mesh → Tables → ℕ → Position → Answers → Result Inserted
packed_call m t w p a = packed_unless (insert_refusal m t w p a) m t p a

unfoldable pub packed_marked : Mesh → Tables → ℕ → Position → List ℕ → Result Inserted
packed_marked m t w p marks = packed_unless (marked_refusal (insert_refusal m t w p sphere) m t p sphere marks) m t p sphere

unfoldable pub packed_node : Mesh → Tables → ℕ → Position → Answers → Result Inserted
packed_node m t w p a = packed_unless (node_refusal m t w p a) m t p a

-- k nodes of a list from place i on, and the list
unfoldable pub packed_from : ℕ → ℕ → Mesh → Tables → ℕ → List ℕ → Result Listed
packed_from zero i m t w ns = record { answer = Ended m i; tables = t }
packed_from (suc k) i m t w ns =
    let l = packed_node m t w (listed_node ns i) sphere in
    elim l.answer [
      | Accepted m' r ↦ packed_from k (suc i) m' l.tables w ns
      | Refused e ↦ record { answer = Stopped m i e; tables = l.tables }
    ]

unfoldable pub packed_list : Mesh → Tables → ℕ → List ℕ → Result Listed
packed_list m t w ns =
    let r = mesh_refusal m t w false in
    cond (eqb r 0) (packed_from (listed_count ns) 0 m t w ns) record { answer = AllRefused r; tables = t }

-- what a call leaves; a look changes no record and no table
unfoldable pub packed_outcome : Build → Call → Outcome
packed_outcome b (by_sphere w p) = insert_outcome b.mesh p (packed_call b.mesh b.tables w p sphere)
packed_outcome b (by_answers w bytes p) = insert_outcome b.mesh p (packed_call b.mesh b.tables w p (handed bytes))
packed_outcome b (by_marks w marks p) = insert_outcome b.mesh p (packed_marked b.mesh b.tables w p marks)
packed_outcome b (by_list w ns) = list_outcome b.mesh ns (packed_list b.mesh b.tables w ns)
packed_outcome b (look w marks p) = look_outcome b.mesh (look_call b.mesh b.tables w p marks)

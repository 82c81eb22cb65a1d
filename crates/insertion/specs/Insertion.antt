-- Inserting one node, by the sphere test or by answers handed in: refusals, report, record and tables.
use Rattle.std.specs.Prelude.{ℕ, ◌+◌, ◌-◌, Bool, false, not, cond, List, ltb, eqb, length}
use Rattle.arith.specs.Table.{any_below}
use Rattle.geometry.specs.declared.Position.{Position}
use Rattle.geometry.specs.Volume.{in_box, same_position}
use Rattle.mesh.specs.declared.Mesh.{Mesh}
use Rattle.mesh.specs.Tables.{Tables, point_capacity, cell_capacity, point}
use Rattle.mesh.specs.Chain.{chain_of}
use Rattle.mesh.specs.Refusal.{mesh_refusal}
use Rattle.locate.specs.Locate.{holds}
use Rattle.cavity.specs.Answers.{Answers, sphere, handed, says_yes, report_t, least_t}
use Rattle.cavity.specs.Cavity.{cavity_of, corrected_cavity, cavity_size}
use Rattle.star.specs.Star.{made_count, used_after, chain_after, star}
use Rattle.insertion.specs.declared.Report.{Report}
use Rattle.insertion.specs.Inserted.{Inserted}
use Rattle.insertion.specs.Inserted.{Accepted, Refused}

-- the cavity of p before correction
unfoldable pub first_cavity : Mesh → Tables → Position → Answers → List Bool
first_cavity m t p a = cavity_of t m.used p (says_yes a t p)

-- and after it
unfoldable pub last_cavity : Mesh → Tables → Position → Answers → List Bool
last_cavity m t p a = corrected_cavity t m.used p (says_yes a t p)

-- 'cells made'
unfoldable pub cells_made : Mesh → Tables → Position → Answers → ℕ
cells_made m t p a = made_count t m.used p (last_cavity m t p a)

-- refusals 4 to 8 of a node, checked in number order; 0 where there is none. After tests 1 to 3, 7 never occurs:
-- `never_seven` (covering/proofs/NeverSeven).
unfoldable pub node_refusal : Mesh → Tables → ℕ → Position → Answers → ℕ
node_refusal m t w p a =
    cond (not (in_box m.x m.y m.z p)) 4
    (cond (any_below m.points (λ k. same_position (point t k) p)) 5
    (cond (eqb m.points (point_capacity t)) 6
    (cond (not (any_below m.used (holds t p))) 7
    (cond (ltb (cell_capacity t w) (m.cells + cells_made m t p a)) 8 0))))

-- 'too few is now 1 for answers': fewer than entries in use
unfoldable pub fewer_bytes : Answers → ℕ → Bool
fewer_bytes sphere n = false
fewer_bytes (handed bytes) n = ltb (length bytes) n

-- the first of two refusals; 0 is none
abbrev pub first_of : ℕ → ℕ → ℕ
first_of r k = cond (eqb r 0) k r

-- refusals 1 to 8
unfoldable pub insert_refusal : Mesh → Tables → ℕ → Position → Answers → ℕ
insert_refusal m t w p a = first_of (mesh_refusal m t w (fewer_bytes a m.used)) (node_refusal m t w p a)

-- 'point number, spot size before and after correction, cells made, and the least T over the spot before correction'
unfoldable pub report_of : Mesh → Tables → Position → Answers → Report
report_of m t p a =
    record {
      point = m.points;
      before = cavity_size m.used (first_cavity m t p a);
      after = cavity_size m.used (last_cavity m t p a);
      made = cells_made m t p a;
      least = least_t (report_t a t p) m.used (first_cavity m t p a);
    }

-- the record with p inserted
unfoldable pub inserted_mesh : Mesh → Tables → Position → Answers → Mesh
inserted_mesh m t p a =
    record {
      x = m.x;
      y = m.y;
      z = m.z;
      points = m.points + 1;
      cells = m.cells - cavity_size m.used (last_cavity m t p a) + cells_made m t p a;
      chain = chain_after (chain_of m t) t m.used p (last_cavity m t p a);
      used = used_after (chain_of m t) m.used (cells_made m t p a);
    }

-- and the tables: 'P gets the next point number.'
unfoldable pub inserted_tables : Mesh → Tables → Position → Answers → Tables
inserted_tables m t p a = star (chain_of m t) t m.used p m.points (last_cavity m t p a)

-- what a call answers, and the tables that it leaves
pub record Result (Answer : Type 0) : Type 0 where
  pub answer : Answer
  pub tables : Tables

-- with the refusal r: 'A refusal answers its number alone and leaves record, mesh tables and output unchanged'
unfoldable pub insert_unless : ℕ → Mesh → Tables → Position → Answers → Result Inserted
insert_unless r m t p a =
    cond (eqb r 0)
    record { answer = Accepted (inserted_mesh m t p a) (report_of m t p a); tables = inserted_tables m t p a }
    record { answer = Refused r; tables = t }

-- a node after tests 1 to 3
unfoldable pub insert_node : Mesh → Tables → ℕ → Position → Answers → Result Inserted
insert_node m t w p a = insert_unless (node_refusal m t w p a) m t p a

-- the call
unfoldable pub insert_call : Mesh → Tables → ℕ → Position → Answers → Result Inserted
insert_call m t w p a = insert_unless (insert_refusal m t w p a) m t p a

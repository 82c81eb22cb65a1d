-- What the inner functions of an insertion ask and leave.
use Rattle.std.specs.Prelude.{Ok, Err, ℕ, ◌+◌, ◌-◌, ◌≤◌, Bool, true, false, not, cond, ◌||◌, List, ◌≢◌, ◌≡◌, ltb, eqb, length, get_or}
use Rattle.std.specs.Prelude as Rust
use Rattle.refusal.specs.declared.Refusal.{Refusal}
use Rattle.refusal.specs.Refusal.{refusal_number, refused_by}
use Rattle.insphere.specs.Sphere.{zero_float}
use Rattle.arith.specs.Table.{any_below}
use Rattle.geometry.specs.declared.Position.{Position}
use Rattle.geometry.specs.Volume.{in_box, same_position}
use Rattle.mesh.specs.declared.Mesh.{Mesh}
use Rattle.mesh.specs.Tables.{Tables, point_capacity, cell_capacity, point}
use Rattle.mesh.specs.Check.{is_mesh}
use Rattle.cavity.specs.declared.Node.{Node}
use Rattle.cavity.specs.declared.Extent.{Extent}
use Rattle.cavity.specs.Answers.{Answers, sphere, answers_of}
use Rattle.cavity.specs.Inner.{inside, set_of, CavityFound}
use Rattle.cavity.specs.Inner.Growth.{Empty, Unstamped}
use Rattle.star.specs.Star.{made_count}
use Rattle.star.specs.Inner.{Ranked, Rising}
use Rattle.insertion.specs.declared.Report.{Report}
use Rattle.insertion.specs.declared.Insertion.{Insertion}
use Rattle.insertion.specs.declared.Replacement.{Replacement}
use Rattle.insertion.specs.Inserted.{Inserted, Accepted, as_inserted}
use Rattle.insertion.specs.Looked.{Looked}
use Rattle.insertion.specs.Insertion.{Result, node_refusal, report_of, inserted_mesh, inserted_tables, insert_unless}
use Rattle.insertion.specs.Look.{marks_of, look_refusal, LookResult, look_unless, begins_with, marked_refusal}

-- ---- the outcomes of tests

-- what tests 4 to 8 found: the refusal's number, 0 where there is none, the cavity's extent, and how many cells its star makes
pub record Found : Type 0 where
  pub refusal : ℕ
  pub extent : Extent
  pub made : ℕ

-- of a node that they let pass
abbrev pub found_of : Replacement → Found
found_of r = record { refusal = 0; extent = r.extent; made = r.made }

abbrev pub as_found : Rust.Result Replacement Refusal → Found
as_found (Ok r) = found_of r
as_found (Err e) =
    record { refusal = refusal_number e; extent = record { before = 0; after = 0; least = zero_float; holder = 0 }; made = 0 }

-- a node's answer, with its refusal's number beside it, 0 where there is none
pub record Attempt : Type 0 where
  pub refusal : ℕ
  pub inserted : Inserted

abbrev pub as_attempt : Rust.Result Insertion Refusal → Attempt
as_attempt r = record { refusal = refused_by r; inserted = as_inserted r }

-- ---- a node

-- what is lent to a node for its own use: states that are all 0, notes below its stamp, and room for the rest, which may hold anything
pub record Scratch (stamp : ℕ) (st li fa de ex nu : List ℕ) : Type 0 where
  pub empty : Empty st li
  pub codes : length fa ≡ 4096
  pub notes : Unstamped stamp de
  pub exposed : length ex ≡ 1024
  pub ranks : length nu ≡ 4096

-- one of the first np codes is 0: a point lies at the position
unfoldable pub some_zero : List ℕ → ℕ → Bool
some_zero codes np = any_below np (λ k. eqb (get_or codes k 0) 0)

-- a position in the box at which no point stands, and room for a point: tests 4 to 6 let it pass
pub record FreePlace (m : Mesh) (t : Tables) (p : Position) : Type 0 where
  pub box : in_box m.x m.y m.z p ≡ true
  pub free : any_below m.points (λ k. same_position (point t k) p) ≡ false
  pub next : eqb m.points (point_capacity t) ≡ false

-- the number r of tests 4 to 6, 0 where they let p pass
pub record PointTests (m : Mesh) (t : Tables) (p : Position) (r : ℕ) : Type 0 where
  pub refuses : r ≢ 0 → (w : ℕ) (a : Answers) → node_refusal m t w p a ≡ r
  pub passes : r ≡ 0 → FreePlace m t p

-- a node of a mesh that has passed tests 1 to 3
pub record NodeOf (m : Mesh) (t : Tables) (bytes : List ℕ) (d : Node) : Type 0 where
  pub mesh : is_mesh m t d.work ≡ true
  pub points_are : d.points ≡ m.points
  pub cells_are : d.cells ≡ m.cells
  pub used_are : d.used ≡ m.used
  pub answered : d.handed ≡ true → m.used ≤ length bytes

-- and tests 4 to 6
pub record Admitted (m : Mesh) (t : Tables) (bytes : List ℕ) (d : Node) : Type 0 where
  pub node : NodeOf m t bytes d
  pub place : FreePlace m t d.position

-- and tests 7 and 8: its cavity is found and listed by rising numbers, the new cells are ranked, and there is room for them
pub record Starable (m : Mesh) (t : Tables) (bytes : List ℕ) (d : Node) (st li fa nu : List ℕ) (r : Found) : Type 0 where
  pub admitted : Admitted m t bytes d
  pub found : CavityFound (answers_of d.handed bytes) t d.position d.used st li fa r.extent
  pub some : r.extent.before ≢ 0
  pub counted : r.made ≡ made_count t d.used d.position (set_of d.used st)
  pub rising : Rising d.used (set_of d.used st) li r.extent.after
  pub ranked : Ranked t d.used d.position (set_of d.used st) nu
  pub ranks_long : length nu ≡ 4096
  pub room : d.cells + r.made ≤ cell_capacity t d.work

-- test 8 of a node with the cavity s, of extent e
unfoldable pub star_found : Tables → Node → List Bool → Extent → Found
star_found t d s e =
    record {
      refusal = cond (ltb (cell_capacity t d.work) (d.cells + made_count t d.used d.position s)) 8 0;
      extent = e;
      made = made_count t d.used d.position s;
    }

-- what tests 4 to 8 answer
pub record Tested (m : Mesh) (t : Tables) (bytes : List ℕ) (d : Node) (st li fa de nu : List ℕ) (r : Found) : Type 0 where
  pub refusal_is : r.refusal ≡ node_refusal m t d.work d.position (answers_of d.handed bytes)
  pub starable : r.refusal ≡ 0 → Starable m t bytes d st li fa nu r
  pub notes : r.refusal ≡ 0 → Unstamped (m.points + 1) de

-- the report of a node with this cavity and star
unfoldable pub report_with : Mesh → Found → Report
report_with m r =
    record { point = m.points; before = r.extent.before; after = r.extent.after; made = r.made; least = r.extent.least }

-- the record and the report of a node that is accepted with them, with this chain and used length after
unfoldable pub accepted_with : Mesh → Found → ℕ → ℕ → Inserted
accepted_with m r chain used =
    Accepted
    record { x = m.x; y = m.y; z = m.z; points = m.points + 1; cells = m.cells - r.extent.after + r.made; chain = chain; used = used }
    (report_with m r)

-- the same for some answers
pub record SomeStarable (m : Mesh) (t : Tables) (d : Node) (st li fa nu : List ℕ) (r : Found) : Type 0 where
  pub bytes : List ℕ
  pub starable : Starable m t bytes d st li fa nu r

-- what a node that no test refuses answers and leaves
pub record Starred (m : Mesh) (t : Tables) (p : Position) (a : Answers) (r : Inserted) (t' : Tables) : Type 0 where
  pub answer : r ≡ Accepted (inserted_mesh m t p a) (report_of m t p a)
  pub tables : t' ≡ inserted_tables m t p a

-- ---- marks

-- the marks of n entries with the states st
abbrev pub state_marks : ℕ → List ℕ → List ℕ
state_marks n st = marks_of n (inside st)

-- no marks are asked for, or these are those of n entries with the states st
unfoldable pub marks_allow : Bool → ℕ → List ℕ → List ℕ → Bool
marks_allow asked n st marks = not asked || begins_with (state_marks n st) marks

-- refusals 4 to 8 and, where marks are asked for, 14
abbrev pub refusal_with : Bool → List ℕ → Mesh → Tables → ℕ → Position → Answers → ℕ
refusal_with false marks m t w p a = node_refusal m t w p a
refusal_with true marks m t w p a = marked_refusal (node_refusal m t w p a) m t p a marks

-- a node after tests 1 to 3, with marks where they are asked for
abbrev pub insert_node_with : Bool → List ℕ → Mesh → Tables → ℕ → Position → Answers → Result Inserted
insert_node_with asked marks m t w p a = insert_unless (refusal_with asked marks m t w p a) m t p a

-- what it answers and leaves
pub record AttemptLeaves (asked : Bool) (marks : List ℕ) (m : Mesh) (t : Tables) (w : ℕ) (p : Position) (a : Answers) (r : Attempt) (t' : Tables) : Type 0 where
  pub refusal : r.refusal ≡ refusal_with asked marks m t w p a
  pub answer : r.inserted ≡ (insert_node_with asked marks m t w p a).answer
  pub tables : t' ≡ (insert_node_with asked marks m t w p a).tables

-- a look after tests 1 to 3
abbrev pub look_node : Mesh → Tables → ℕ → Position → List ℕ → LookResult
look_node m t w p marks = look_unless (look_refusal (node_refusal m t w p sphere) m marks) m t p marks

-- what it answers and leaves
pub record NodeLooked (m : Mesh) (t : Tables) (w : ℕ) (p : Position) (marks : List ℕ) (r : Looked) (t' : Tables) (marks' : List ℕ) : Type 0 where
  pub answer : r ≡ (look_node m t w p marks).answer
  pub tables : t' ≡ (look_node m t w p marks).tables
  pub marks_left : marks' ≡ (look_node m t w p marks).marks

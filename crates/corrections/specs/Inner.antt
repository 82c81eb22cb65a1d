-- What the inner functions ask of a table of corrections, and leave.
use Rattle.std.specs.Prelude.{ℕ, ◌*◌, ◌≤◌, ◌<◌, Bool, true, false, not, cond, List, [], ◌≡◌, ltb, length, ℤ}
use Rattle.arith.specs.Table.{any_below}
use Rattle.geometry.specs.declared.Position.{Position}
use Rattle.geometry.specs.Volume.{InRange, in_box, same_position}
use Rattle.mesh.specs.declared.Mesh.{Mesh}
use Rattle.mesh.specs.Tables.{Tables, tables, point}
use Rattle.mesh.specs.Inner.{Solid}
use Rattle.locate.specs.Locate.{holds}
use Rattle.cavity.specs.Answers.{Answers, sphere}
use Rattle.insertion.specs.Inner.{Attempt}
use Rattle.insertion.specs.Inserted.{Inserted}
use Rattle.insertion.specs.Looked.{Looked}
use Rattle.insertion.specs.Listed.{Listed}
use Rattle.insertion.specs.Listed.{Ended, Stopped}
use Rattle.insertion.specs.Insertion.{node_refusal}
use Rattle.insertion.specs.Look.{LookResult, look_refusal, look_unless}
use Rattle.insertion.specs.List.{listed_node, listed_count}
use Rattle.insertion.specs.Inner.{refusal_with}
use Rattle.corrections.specs.Corrections.{out_of_range}
use Rattle.corrections.specs.Calls.{Left, with_range, left_unless, insert_from_with}

-- three numbers for each of np points, all in range
pub record Standing (np : ℕ) (cs : List ℤ) : Type 0 where
  pub long : 3 * np ≤ length cs
  pub range : out_of_range np cs ≡ false

-- cell c holds p, and its corners have numbers in range
pub record Readable (ps ks : List ℕ) (cs : List ℤ) (p : Position) (c : ℕ) : Type 0 where
  pub np : ℕ
  pub n : ℕ
  pub solid : Solid ps ks np n
  pub position : InRange p
  pub cell< : c < n
  pub held : holds (tables ps ks []) p c ≡ true
  pub standing : Standing np cs

-- ---- a node after tests 1 to 3

-- over a table with a number out of range, whatever the tests after 5 would say
unfoldable pub early_refusal : Mesh → Tables → Position → ℕ
early_refusal m t p =
    cond (not (in_box m.x m.y m.z p)) 4 (cond (any_below m.points (λ k. same_position (point t k) p)) 5 12)

-- with marks where they are asked for
abbrev pub node_with : Bool → List ℕ → Mesh → Tables → List ℤ → ℕ → Position → Answers → Left Inserted
node_with asked marks m t cs w p a = left_unless (with_range m.points cs (refusal_with asked marks m t w p a)) m t cs p a

-- what it answers and leaves
pub record AttemptKeeps (asked : Bool) (marks : List ℕ) (m : Mesh) (t : Tables) (cs : List ℤ) (w : ℕ) (p : Position) (a : Answers)
    (r : Attempt) (t' : Tables) (cs' : List ℤ) : Type 0 where
  pub refusal : r.refusal ≡ with_range m.points cs (refusal_with asked marks m t w p a)
  pub answer : r.inserted ≡ (node_with asked marks m t cs w p a).answer
  pub tables : t' ≡ (node_with asked marks m t cs w p a).tables
  pub corrections : cs' ≡ (node_with asked marks m t cs w p a).corrections

-- a look
abbrev pub look_node_with : Mesh → Tables → List ℤ → ℕ → Position → List ℕ → LookResult
look_node_with m t cs w p marks = look_unless (with_range m.points cs (look_refusal (node_refusal m t w p sphere) m marks)) m t p marks

pub record NodeLookedWith (m : Mesh) (t : Tables) (cs : List ℤ) (w : ℕ) (p : Position) (marks : List ℕ) (r : Looked) (t' : Tables) (marks' : List ℕ) : Type 0 where
  pub answer : r ≡ (look_node_with m t cs w p marks).answer
  pub tables : t' ≡ (look_node_with m t cs w p marks).tables
  pub marks_left : marks' ≡ (look_node_with m t cs w p marks).marks

-- a list
pub record NodesKeep (m : Mesh) (t : Tables) (cs : List ℤ) (w : ℕ) (ns : List ℕ) (r : Listed) (t' : Tables) (cs' : List ℤ) : Type 0 where
  pub answer : r ≡ (insert_from_with (listed_count ns) 0 m t cs w ns).answer
  pub tables : t' ≡ (insert_from_with (listed_count ns) 0 m t cs w ns).tables
  pub corrections : cs' ≡ (insert_from_with (listed_count ns) 0 m t cs w ns).corrections

-- what one answers over a table with a number out of range
unfoldable pub refused_nodes : Mesh → List ℕ → List ℕ → Listed
refused_nodes m ps ns = cond (ltb (length ns) 3) (Ended m 0) (Stopped m 0 (early_refusal m (tables ps [] []) (listed_node ns 0)))

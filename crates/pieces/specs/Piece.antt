-- A piece: insertions in the box 4, 4, 4, with the last one's answer and the tables that it leaves.
use Rattle.std.specs.Prelude.{ℕ, ◌*◌, ◌-◌, List, [], ◌∷◌, ◌++◌, pos, length, replicate, Float}
use Rattle.std.specs.Float.{binary64}
use Rattle.std.specs.Float.Ieee.{of_int}
use Rattle.geometry.specs.declared.Position.{Position}
use Rattle.mesh.specs.declared.Mesh.{Mesh}
use Rattle.mesh.specs.declared.Cell.{Cell}
use Rattle.mesh.specs.Tables.{Tables, tables, none}
use Rattle.mesh.specs.Start.{start_points}
use Rattle.cavity.specs.Answers.{Answers}
use Rattle.insertion.specs.Inserted.{Inserted}
use Rattle.insertion.specs.Insertion.{Result, insert_call}
use Rattle.calls.specs.Calls.{Build, start_build, Call, by_answers, mesh_after}

pub record Piece : Type 0 where
  -- cells that the lent tables and work areas have room for
  pub room : ℕ
  -- the calls before, then the insertion
  pub before : List Call
  pub node : Position
  pub answers : Answers
  -- expected: the answer, the nodes in the tables, and the entries in use
  pub answer : Inserted
  pub nodes : List Position
  pub entries : List Cell

-- corners, then neighbours, as the listing program prints them
abbrev pub cell : ℕ → ℕ → ℕ → ℕ → ℕ → ℕ → ℕ → ℕ → Cell
cell a b c d p q r s = record { corners = a ∷ b ∷ c ∷ d ∷ []; neighbours = p ∷ q ∷ r ∷ s ∷ [] }

-- a freed entry, with the next on the chain
abbrev pub freed : ℕ → Cell
freed next = cell none none none none next none none none

-- the record with so many points and cells, the chain's first number and the used length
abbrev pub counts : ℕ → ℕ → ℕ → ℕ → Mesh
counts points cells chain used = record { x = 4; y = 4; z = 4; points = points; cells = cells; chain = chain; used = used }

-- the 64-bit float n
abbrev pub float : ℕ → Float
float n = of_int binary64 (pos n)

-- a node in a mesh with n entries in use, with every answer yes and room for 18 cells
abbrev pub all_yes : ℕ → Position → Call
all_yes n p = by_answers 54 (replicate n 1) p

-- tables with room for 11 points and n cells, lent to the start with a 9 in every entry
abbrev pub lent : ℕ → Tables
lent n = tables (replicate 33 9) (replicate (4 * n) 9) (replicate (4 * n) 9)

-- the mesh that the insertion is called on
unfoldable pub reached : Piece → Build
reached p = mesh_after (start_build 4 4 4 (lent p.room) (3 * p.room)) p.before

-- what it answers and leaves
unfoldable pub given : Piece → Result Inserted
given p = insert_call (reached p).mesh (reached p).tables (3 * p.room) p.node p.answers

unfoldable pub concat_map : {A : Type 0} → (A → List ℕ) → List A → List ℕ
concat_map f [] = []
concat_map f (x ∷ xs) = f x ++ concat_map f xs

-- a table's numbers, and the 9s that nobody wrote over
unfoldable pub filled : Piece → List ℕ → List ℕ
filled p numbers = numbers ++ replicate (4 * (p.room - length p.entries)) 9

unfoldable pub expected : Piece → Result Inserted
expected p =
    record {
      answer = p.answer;
      tables =
          tables
          (start_points 4 4 4 ++ (concat_map (λ q. q.x ∷ q.y ∷ q.z ∷ []) p.nodes ++ replicate (3 * (3 - length p.nodes)) 9))
          (filled p (concat_map (λ c. c.corners) p.entries))
          (filled p (concat_map (λ c. c.neighbours) p.entries));
    }

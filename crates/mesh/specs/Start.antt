-- Starting a mesh in a box.
use Rattle.std.specs.Prelude.{ℕ, Bool, not, cond, ◌||◌, List, ◌∷◌, ◌++◌, [], ◌≡◌, ltb, eqb, length, drop, Result, Ok, Err}
use Rattle.refusal.specs.declared.Refusal.{Refusal}
use Rattle.refusal.specs.Refusal.{refusal_number}
use Rattle.mesh.specs.declared.Mesh.{Mesh}
use Rattle.mesh.specs.Tables.{Tables, point_capacity, cell_capacity, cleared, none}
use Rattle.mesh.specs.Check.{legal_box}

-- what a start answers: the record, or the refusal's number
pub data Started : Type 0 where
  Accepted : Mesh → Started
  Refused : ℕ → Started

abbrev pub as_started : Result Mesh Refusal → Started
as_started (Ok m) = Accepted m
as_started (Err e) = Refused (refusal_number e)

-- the first entries of old replaced by new
abbrev pub over : List ℕ → List ℕ → List ℕ
over new old = new ++ drop (length new) old

-- points 0 to 7
unfoldable pub start_points : ℕ → ℕ → ℕ → List ℕ
start_points X Y Z =
    0 ∷ 0 ∷ 0 ∷ X ∷ 0 ∷ 0 ∷ 0 ∷ Y ∷ 0 ∷ X ∷ Y ∷ 0 ∷ 0 ∷ 0 ∷ Z ∷ X ∷ 0 ∷ Z ∷ 0 ∷ Y ∷ Z ∷ X ∷ Y ∷ Z ∷ []

-- '(0,1,3,7), (0,3,2,7), (0,2,6,7), (0,6,4,7), (0,4,5,7), (0,5,1,7)'
unfoldable pub start_corners : List ℕ
start_corners =
    0 ∷ 1 ∷ 3 ∷ 7 ∷ 0 ∷ 3 ∷ 2 ∷ 7 ∷ 0 ∷ 2 ∷ 6 ∷ 7 ∷ 0 ∷ 6 ∷ 4 ∷ 7 ∷ 0 ∷ 4 ∷ 5 ∷ 7 ∷ 0 ∷ 5 ∷ 1 ∷ 7 ∷ []

-- 'Neighbours of cell k, with numbers taken round the six: none, k+1, k−1, none.'
unfoldable pub start_neighbours : List ℕ
start_neighbours =
    65535 ∷ 1 ∷ 5 ∷ 65535 ∷ 65535 ∷ 2 ∷ 0 ∷ 65535 ∷ 65535 ∷ 3 ∷ 1 ∷ 65535 ∷ 65535 ∷ 4 ∷ 2 ∷ 65535 ∷ 65535 ∷ 5 ∷ 3 ∷ 65535 ∷ 65535 ∷ 0 ∷ 4 ∷ 65535 ∷ []

-- 'Starting leaves table entries past these as they were.'
unfoldable pub started : ℕ → ℕ → ℕ → Tables → Tables
started X Y Z t =
    record {
      points = over (start_points X Y Z) t.points;
      corners = over start_corners t.corners;
      neighbours = over start_neighbours t.neighbours;
    }

-- 'A running table starts with an empty chain.'
abbrev pub started_mesh : ℕ → ℕ → ℕ → Mesh
started_mesh X Y Z = record { x = X; y = Y; z = Z; points = 8; cells = 6; chain = none; used = 6 }

-- refusal 1, 'short': 'point capacity below 8, cell capacity below 6'
unfoldable pub short : Tables → ℕ → Bool
short t w = ltb (point_capacity t) 8 || ltb (cell_capacity t w) 6

-- the refusal's number, or 0
unfoldable pub start_refusal : ℕ → ℕ → ℕ → Tables → ℕ → ℕ
start_refusal X Y Z t w = cond (short t w) 1 (cond (not (legal_box X Y Z)) 2 0)

unfoldable pub start_answer : ℕ → ℕ → ℕ → Tables → ℕ → Started
start_answer X Y Z t w =
    cond (eqb (start_refusal X Y Z t w) 0) (Accepted (started_mesh X Y Z)) (Refused (start_refusal X Y Z t w))

unfoldable pub start_tables : ℕ → ℕ → ℕ → Tables → ℕ → Tables
start_tables X Y Z t w = cond (eqb (start_refusal X Y Z t w) 0) (started X Y Z t) t

-- what a start answers and leaves in the tables t and the work area ws
pub record StartLeaves (X Y Z : ℕ) (t : Tables) (ws : List ℕ) (r : Started) (t' : Tables) (ws' : List ℕ) : Type 0 where
  pub answer : r ≡ start_answer X Y Z t (length ws)
  pub tables : t' ≡ start_tables X Y Z t (length ws)
  pub work : ws' ≡ cleared ws

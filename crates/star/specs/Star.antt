-- Document 01, 'One insertion', step 5: the new cells ('star') and their neighbours, whatever the numbers at which cells stand after; then
-- these numbers and the tables after, by document 02 §11.
use Rattle.std.specs.Prelude.{ℕ, zero, suc, ◌+◌, ◌*◌, ◌-◌, ◌/◌, ◌%◌, Bool, not, cond, ◌&&◌, List, [], ◌∷◌, ltb, eqb, length, get_or, drop}
use Rattle.arith.specs.Table.{tabulate, count_below, select_below, first_below}
use Rattle.geometry.specs.declared.Position.{Position}
use Rattle.mesh.specs.Tables.{Tables, none, cell_of, opposite, corner, across, mate, live}
use Rattle.cavity.specs.Cavity.{in_set, coplanar, visible}
use Rattle.star.specs.Turn.{out_face, turn}

-- 'turn round that edge through spot cells to the next outer face': from face f, round the edge that it shares with face j of its
-- cell. A turn passes no cell twice (`cell_once` in proofs/Turn), so as many steps as there are cells are enough.
unfoldable pub turn_face : Tables → ℕ → List Bool → ℕ → ℕ → ℕ
turn_face t n s f j = out_face (turn (corner t) (across t) (mate t) (in_set s) n record { cell = cell_of f; entry = opposite f; exit = j })

abbrev pub kept? : List Bool → ℕ → Bool
kept? s c = not (in_set s c)

-- 'cells made'
unfoldable pub made_count : Tables → ℕ → Position → List Bool → ℕ
made_count t n p s = count_below (4 * n) (visible t p s)

-- 'New cells come by old cell number, then face number.'
unfoldable pub made_faces : Tables → ℕ → Position → List Bool → List ℕ
made_faces t n p s = select_below (4 * n) (visible t p s)

-- where the cells stand after: a kept cell by its old number, a new one by its old face
pub record Numbers : Type 0 where
  pub kept : ℕ → ℕ
  pub made : ℕ → ℕ

-- 'across the old face, what lay there'; 'What lay across an old face names the new cell back there.'
unfoldable pub old_across : Numbers → Tables → List Bool → ℕ → ℕ
old_across N t s f =
    cond (eqb (across t f) none) none (cond (in_set s (across t f)) (N.made (mate t f)) (N.kept (across t f)))

-- 'and take its new cell, or none if that face is flat'
unfoldable pub star_across : Numbers → Tables → Position → ℕ → ℕ
star_across N t p g = cond (coplanar t p g) none (N.made g)

-- 'the old cell's corners with the corner opposite that face replaced by P'
unfoldable pub made_corner : Tables → ℕ → ℕ → ℕ → ℕ
made_corner t v f j = cond (eqb j (opposite f)) v (corner t (cell_of f) j)

unfoldable pub made_across : Numbers → Tables → ℕ → Position → List Bool → ℕ → ℕ → ℕ
made_across N t n p s f j = cond (eqb j (opposite f)) (old_across N t s f) (star_across N t p (turn_face t n s f j))

abbrev pub coordinate : Position → ℕ → ℕ
coordinate p zero = p.x
coordinate p (suc zero) = p.y
coordinate p (suc (suc k)) = p.z

-- 'P gets the next point number'
unfoldable pub new_points : Tables → Position → ℕ → List ℕ
new_points t p v =
    tabulate (length t.points) (λ q. cond (eqb (q / 3) v) (coordinate p (q % 3)) (get_or t.points q 0))

-- ---- numbers

-- 'New cells, in document 01's order, take the chain, then the end of the table': the number of new cell r, with the chain ch and n entries
-- in use
unfoldable pub slot : List ℕ → ℕ → ℕ → ℕ
slot ch n r = cond (ltb r (length ch)) (get_or ch r 0) (n + (r - length ch))

-- 'A cell outside the spot now keeps its number'
abbrev pub star_numbers : List ℕ → Tables → ℕ → Position → List Bool → Numbers
star_numbers ch t n p s = record { kept = λ c. c; made = λ f. slot ch n (count_below f (visible t p s)) }

-- the used length after m new cells
unfoldable pub used_after : List ℕ → ℕ → ℕ → ℕ
used_after ch n m = n + (m - length ch)

-- which of m new cells stands at number c; m where none does
unfoldable pub new_at : List ℕ → ℕ → ℕ → ℕ → ℕ
new_at ch n m c = first_below m (λ r. eqb (slot ch n r) c)

-- ---- the chain

-- the first number of a chain
abbrev pub head_of : List ℕ → ℕ
head_of [] = none
head_of (c ∷ l) = c

-- what is left of it after the new cells
abbrev pub chain_left : List ℕ → Tables → ℕ → Position → List Bool → List ℕ
chain_left ch t n p s = drop (made_count t n p s) ch

-- the highest number of s below c; `rest` where there is none
unfoldable pub highest_below : List Bool → ℕ → ℕ → ℕ
highest_below s rest zero = rest
highest_below s rest (suc c) = cond (in_set s c) c (highest_below s rest c)

-- 'the spot's own numbers join the chain afterwards one by one, rising, so the highest is used first': the next of each on it, and the first
abbrev pub next_freed : List ℕ → Tables → ℕ → Position → List Bool → ℕ → ℕ
next_freed ch t n p s c = highest_below s (head_of (chain_left ch t n p s)) c

unfoldable pub chain_after : List ℕ → Tables → ℕ → Position → List Bool → ℕ
chain_after ch t n p s = next_freed ch t n p s n

-- ---- the tables

-- Entry q of a table of four a cell: of a cell of the cavity s, of a new cell, or of any other entry.
abbrev pub entry : List ℕ → ℕ → List ℕ → List Bool → (ℕ → ℕ → ℕ) → (ℕ → ℕ → ℕ) → (ℕ → ℕ) → ℕ → ℕ
entry ch n faces s freed new old q =
    cond (in_set s (q / 4)) (freed (q / 4) (q % 4))
    (cond (ltb (new_at ch n (length faces) (q / 4)) (length faces))
    (new (get_or faces (new_at ch n (length faces) (q / 4)) 0) (q % 4))
    (old q))

-- 'a freed entry has four corners of 65,535'
unfoldable pub new_corners : List ℕ → Tables → ℕ → Position → ℕ → List Bool → List ℕ
new_corners ch t n p v s =
    tabulate (length t.corners) (entry ch n (made_faces t n p s) s (λ c i. none) (made_corner t v) (λ q. get_or t.corners q 0))

-- 'its first neighbour entry names the next, 65,535 at the end; its other three are 65,535'
abbrev pub freed_across : List ℕ → Tables → ℕ → Position → List Bool → ℕ → ℕ → ℕ
freed_across ch t n p s c i = cond (eqb i 0) (next_freed ch t n p s c) none

unfoldable pub new_neighbours : List ℕ → Tables → ℕ → Position → List Bool → List ℕ
new_neighbours ch t n p s =
    tabulate (length t.neighbours)
    (entry ch n (made_faces t n p s) s (freed_across ch t n p s) (made_across (star_numbers ch t n p s) t n p s)
    (λ q. cond (ltb (q / 4) n && live t (q / 4)) (old_across (star_numbers ch t n p s) t s q) (get_or t.neighbours q 0)))

-- the tables after p is inserted over the cavity s, as point number v, where the chain is ch and n entries are in use
unfoldable pub star : List ℕ → Tables → ℕ → Position → ℕ → List Bool → Tables
star ch t n p v s =
    record { points = new_points t p v; corners = new_corners ch t n p v s; neighbours = new_neighbours ch t n p s }

-- The test of a face by corner numbers alone, as the code makes it: true where the face passes the mesh check, if every cell's
-- volume is above 0 (`face_numbers_is` in proofs/Numbers).
use Rattle.std.specs.Prelude.{ℕ, ◌+◌, ◌*◌, ◌-◌, ◌%◌, Bool, ◌&&◌, cond, ◌||◌, List, leb, ltb, eqb, get_or}
use mir.Val.{bool_byte}
use Rattle.arith.specs.Table.{all_below}
use Rattle.geometry.specs.declared.Position.{Position}
use Rattle.mesh.specs.declared.Cell.{Cell}
use Rattle.mesh.specs.Tables.{Tables, none, point, corner, across, freed}
use Rattle.mesh.specs.Mesh.{Wall, low_x, low_y, low_z, high_x, high_y, high_z, along, level}
use Rattle.mesh.specs.Inner.{cell_at}

-- the three places of a cell other than i, rising
abbrev pub first : ℕ → ℕ
first i = cond (eqb i 0) 1 0

abbrev pub second : ℕ → ℕ
second i = cond (ltb i 2) 2 1

abbrev pub third : ℕ → ℕ
third i = cond (eqb i 3) 2 3

-- the place of v among four corner numbers; 8 where it is none of them
unfoldable pub place_in : List ℕ → ℕ → ℕ
place_in b v =
    cond (eqb (get_or b 0 0) v) 0 (cond (eqb (get_or b 1 0) v) 1 (cond (eqb (get_or b 2 0) v) 2 (cond (eqb (get_or b 3 0) v) 3 8)))

-- an odd order: k at place i, and p, q, r at the other places
unfoldable pub odd_order : ℕ → ℕ → ℕ → ℕ → ℕ → Bool
odd_order i k p q r = eqb ((i + k + bool_byte (ltb q p) + bool_byte (ltb r p) + bool_byte (ltb r q)) % 2) 1

-- a cell `far` has the corners p, q, r of face i of cell c, names c back there, and lies on the far side
unfoldable pub faces_back : ℕ → ℕ → ℕ → ℕ → ℕ → Cell → Bool
faces_back c i p q r far =
    let a = place_in far.corners p in
    let b = place_in far.corners q in
    let d = place_in far.corners r in
    leb 3 (a + b + d) && (leb (a + b + d) 6 &&
    (eqb (get_or far.neighbours (6 - (a + b + d)) 0) c && odd_order i (6 - (a + b + d)) a b d))

abbrev pub same_level : ℕ → ℕ → ℕ → ℕ → Bool
same_level l a b c = eqb c l && (eqb b l && eqb a l)

-- three positions on the wall w
abbrev pub all_on : ℕ → ℕ → ℕ → Wall → Position → Position → Position → Bool
all_on X Y Z w p q r = same_level (level X Y Z w) (along w p) (along w q) (along w r)

unfoldable pub on_one_wall : ℕ → ℕ → ℕ → Position → Position → Position → Bool
on_one_wall X Y Z p q r =
    all_on X Y Z low_x p q r || (all_on X Y Z low_y p q r || (all_on X Y Z low_z p q r ||
    (all_on X Y Z high_x p q r || (all_on X Y Z high_y p q r || all_on X Y Z high_z p q r))))

-- face i of cell c, with the corners p, q, r and the neighbour u
unfoldable pub face_test : ℕ → ℕ → ℕ → Tables → ℕ → ℕ → ℕ → ℕ → ℕ → ℕ → ℕ → Bool
face_test X Y Z t n c i p q r u =
    cond (eqb u none) (on_one_wall X Y Z (point t p) (point t q) (point t r))
    (ltb u n && faces_back c i p q r (cell_at t.corners t.neighbours u))

-- the same of the tables
unfoldable pub face_numbers : ℕ → ℕ → ℕ → Tables → ℕ → ℕ → ℕ → Bool
face_numbers X Y Z t n c i =
    face_test X Y Z t n c i (corner t c (first i)) (corner t c (second i)) (corner t c (third i)) (across t (4 * c + i))

-- entry c is freed, or all four of its faces pass
unfoldable pub faces_of : ℕ → ℕ → ℕ → Tables → ℕ → ℕ → Bool
faces_of X Y Z t n c = freed t c || all_below 4 (face_numbers X Y Z t n c)

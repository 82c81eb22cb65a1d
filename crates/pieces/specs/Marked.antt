-- Document 01's marked test pieces: a table of insertions, and a record of them all.
use Rattle.std.specs.Prelude.{ℕ, ◌+◌, Bool, true, false, not, ◌||◌, List, [], ◌∷◌, map, ◌≡◌, pos, replicate}
use Rattle.std.specs.Float.{fin}
use Rattle.arith.specs.Table.{tabulate, all_below, count_below, select_below, sum}
use Rattle.geometry.specs.declared.Position.{Position}
use Rattle.insphere.specs.declared.Sphere.{Sphere}
use Rattle.insphere.specs.declared.Sphere.TheVariants.{Inside}
use Rattle.geometry.specs.Volume.{position, squared_distance}
use Rattle.insphere.specs.Sphere.{sphere_answer}
use Rattle.mesh.specs.Tables.{Tables, none, corner_at, cell_volume, side, live}
use Rattle.cavity.specs.Answers.{sphere, handed, says_yes}
use Rattle.cavity.specs.Cavity.{in_set, base, coplanar, corners_good, cavity_of}
use Rattle.insertion.specs.Inserted.{Accepted, Refused}
use Rattle.calls.specs.Calls.{start_build, by_sphere}
use Rattle.pieces.specs.Piece.{Piece, cell, freed, counts, float, lent, reached, given, expected}

-- '(1,2,3)', 'Inserted: spot 6, made 12, 12 cells.', in tables with so much room
unfoldable pub inserted : ℕ → Piece
inserted room =
    record {
      room = room;
      before = [];
      node = position 1 2 3;
      answers = sphere;
      answer = Accepted (counts 9 12 5 18) record { point = 8; before = 6; after = 6; made = 12; least = float 640 };
      nodes = position 1 2 3 ∷ [];
      entries =
          freed none ∷
          freed 0 ∷
          freed 1 ∷
          freed 2 ∷
          freed 3 ∷
          freed 4 ∷
          cell 8 1 3 7 none 8 16 7 ∷
          cell 0 1 3 8 6 9 17 none ∷
          cell 8 3 2 7 none 10 6 9 ∷
          cell 0 3 2 8 8 11 7 none ∷
          cell 8 2 6 7 none 12 8 11 ∷
          cell 0 2 6 8 10 13 9 none ∷
          cell 8 6 4 7 none 14 10 13 ∷
          cell 0 6 4 8 12 15 11 none ∷
          cell 8 4 5 7 none 16 12 15 ∷
          cell 0 4 5 8 14 17 13 none ∷
          cell 8 5 1 7 none 6 14 17 ∷
          cell 0 5 1 8 16 7 15 none ∷ [];
    }

-- '(2,2,0): base 0 and 1; two flat faces; 10 cells.'
unfoldable pub on_wall : Piece
on_wall =
    record {
      room = 18;
      before = [];
      node = position 2 2 0;
      answers = sphere;
      answer = Accepted (counts 9 10 5 16) record { point = 8; before = 6; after = 6; made = 10; least = float 512 };
      nodes = position 2 2 0 ∷ [];
      entries =
          freed none ∷
          freed 0 ∷
          freed 1 ∷
          freed 2 ∷
          freed 3 ∷
          freed 4 ∷
          cell 8 1 3 7 none 7 14 none ∷
          cell 8 3 2 7 none 8 6 none ∷
          cell 8 2 6 7 none 10 7 9 ∷
          cell 0 2 6 8 8 11 none none ∷
          cell 8 6 4 7 none 12 8 11 ∷
          cell 0 6 4 8 10 13 9 none ∷
          cell 8 4 5 7 none 14 10 13 ∷
          cell 0 4 5 8 12 15 11 none ∷
          cell 8 5 1 7 none 6 12 15 ∷
          cell 0 5 1 8 14 none 13 none ∷ [];
    }

-- '(2,0,0): four flat faces; 8 cells.'
unfoldable pub on_edge : Piece
on_edge =
    record {
      room = 18;
      before = [];
      node = position 2 0 0;
      answers = sphere;
      answer = Accepted (counts 9 8 5 14) record { point = 8; before = 6; after = 6; made = 8; least = float 256 };
      nodes = position 2 0 0 ∷ [];
      entries =
          freed none ∷
          freed 0 ∷
          freed 1 ∷
          freed 2 ∷
          freed 3 ∷
          freed 4 ∷
          cell 8 1 3 7 none 7 13 none ∷
          cell 8 3 2 7 none 8 6 none ∷
          cell 8 2 6 7 none 10 7 9 ∷
          cell 0 2 6 8 8 11 none none ∷
          cell 8 6 4 7 none 12 8 11 ∷
          cell 0 6 4 8 10 none 9 none ∷
          cell 8 4 5 7 none 13 10 none ∷
          cell 8 5 1 7 none 6 12 none ∷ [];
    }

-- a node refused: the started box as it was
unfoldable pub refused : ℕ → Position → ℕ → Piece
refused room p e =
    record {
      room = room;
      before = [];
      node = p;
      answers = sphere;
      answer = Refused e;
      nodes = [];
      entries =
          cell 0 1 3 7 none 1 5 none ∷
          cell 0 3 2 7 none 2 0 none ∷
          cell 0 2 6 7 none 3 1 none ∷
          cell 0 6 4 7 none 4 2 none ∷
          cell 0 4 5 7 none 5 3 none ∷
          cell 0 5 1 7 none 0 4 none ∷ [];
    }

-- 'After (1,2,3), insert (2,2,2)', with every answer a and the cavity so large: 'made 6, 16 cells'
unfoldable pub second : ℕ → ℕ → Piece
second a size =
    record {
      room = 18;
      before = by_sphere 54 (position 1 2 3) ∷ [];
      node = position 2 2 2;
      answers = handed (replicate 18 a);
      answer = Accepted (counts 10 16 7 18) record { point = 9; before = size; after = 2; made = 6; least = float 0 };
      nodes = position 1 2 3 ∷ position 2 2 2 ∷ [];
      entries =
          cell 0 1 3 9 5 2 1 none ∷
          cell 0 1 9 8 3 2 17 0 ∷
          cell 0 9 3 8 4 9 1 0 ∷
          cell 8 1 9 7 5 4 16 1 ∷
          cell 8 9 3 7 5 8 3 2 ∷
          cell 9 1 3 7 none 4 3 0 ∷
          freed none ∷
          freed 6 ∷
          cell 8 3 2 7 none 10 4 9 ∷
          cell 0 3 2 8 8 11 2 none ∷
          cell 8 2 6 7 none 12 8 11 ∷
          cell 0 2 6 8 10 13 9 none ∷
          cell 8 6 4 7 none 14 10 13 ∷
          cell 0 6 4 8 12 15 11 none ∷
          cell 8 4 5 7 none 16 12 15 ∷
          cell 0 4 5 8 14 17 13 none ∷
          cell 8 5 1 7 none 3 14 17 ∷
          cell 0 5 1 8 16 1 15 none ∷ [];
    }

unfoldable pub marked : List Piece
marked =
    inserted 20 ∷ on_wall ∷ on_edge ∷
    -- '(4,4,4): refused 5. (5,0,0): refused 4.'
    refused 18 (position 4 4 4) 5 ∷ refused 18 (position 5 0 0) 4 ∷
    -- '(1,2,3) with capacity 17: refused 8; with 18: accepted.'
    refused 17 (position 1 2 3) 8 ∷ inserted 18 ∷
    -- 'With every answer no: the same table.'
    second 1 12 ∷ second 0 2 ∷ []

-- the started box with the side s
abbrev box : ℕ → Tables
box s = (start_build s s s (lent 18) 54).tables

-- the tables after (1,2,3)
abbrev next : Tables
next = (reached (second 1 12)).tables

abbrev members : ℕ → List Bool → List ℕ
members n s = select_below n (in_set s)

-- what the sphere test answers for cell c at p
abbrev answer_at : Tables → Position → ℕ → Sphere
answer_at t p c = sphere_answer (corner_at t c 0) (corner_at t c 1) (corner_at t c 2) (corner_at t c 3) p

-- every marked piece
pub record MarkedPieces : Type 0 where
  -- 'Started: six-fold volumes are 64 each, sum 384.'
  pub each_64 : tabulate 6 (cell_volume (box 4)) ≡ replicate 6 (pos 64)
  pub sum_384 : sum 6 (cell_volume (box 4)) ≡ pos 384
  -- '(1,2,3): base is cell 3 alone; there v are 16 each, L are 14, 6, 6, 14, T = 640, close, yes.' Document 02 §2: 'the piece that
  -- read close reads inside'
  pub base_inside : members 6 (base (box 4) 6 (position 1 2 3)) ≡ 3 ∷ []
  pub volumes_inside : tabulate 4 (λ k. side (box 4) (position 1 2 3) (12 + k)) ≡ replicate 4 (pos 16)
  pub distances_inside : tabulate 4 (λ k. squared_distance (corner_at (box 4) 3 k) (position 1 2 3)) ≡ pos 14 ∷ pos 6 ∷ pos 6 ∷ pos 14 ∷ []
  pub t_inside : answer_at (box 4) (position 1 2 3) 3 ≡ Inside (float 640)
  pub yes_inside : says_yes sphere (box 4) (position 1 2 3) 3 ≡ true
  -- '(2,2,0): base 0 and 1; two flat faces'
  pub base_on_wall : members 6 (base (box 4) 6 (position 2 2 0)) ≡ 0 ∷ 1 ∷ []
  pub flat_on_wall : count_below 24 (coplanar (box 4) (position 2 2 0)) ≡ 2
  -- '(2,0,0): four flat faces'
  pub flat_on_edge : count_below 24 (coplanar (box 4) (position 2 0 0)) ≡ 4
  -- 'After (1,2,3), insert (2,2,2) with every answer yes: all but the base of two have a lost corner'
  pub base_second : members 18 (base next 18 (position 2 2 2)) ≡ 6 ∷ 7 ∷ []
  pub lost_second :
      let cavity = cavity_of next 18 (position 2 2 2) (λ c. true) in
      all_below 18 (λ c. not (live next c) || (in_set (base next 18 (position 2 2 2)) c || not (corners_good next 18 (position 2 2 2) cavity c))) ≡ true
  -- 'Side 131,072 each, P at half: cell 0 gives T = 3 × 2^83, inside.'
  pub t_half : answer_at (box 131072) (position 65536 65536 65536) 0 ≡ Inside (fin false 3 (pos 83))
  -- and what the insertions of the table answer and leave
  pub insertions : map given marked ≡ map expected marked

-- For each wrong way to correct a cavity (pieces_wrong), a history on which it gives another one, with the right tables.
use Rattle.std.specs.Prelude.{List, [], ◌∷◌, map, ◌≡◌, replicate}
use Rattle.mesh.specs.Tables.{none}
use Rattle.cavity.specs.Answers.{sphere, handed}
use Rattle.insertion.specs.Inserted.{Accepted}
use Rattle.geometry.specs.Volume.{position}
use Rattle.pieces.specs.Piece.{Piece, cell, freed, counts, float, all_yes, given, expected}

unfoldable pub zero_visible_history : Piece
zero_visible_history =
    record {
      room = 18;
      before = all_yes 6 (position 1 0 0) ∷ all_yes 14 (position 2 4 0) ∷ [];
      node = position 2 0 0;
      answers = handed (replicate 17 1);
      answer = Accepted (counts 11 10 16 17) record { point = 10; before = 9; after = 1; made = 2; least = float 0 };
      nodes = position 1 0 0 ∷ position 2 4 0 ∷ position 2 0 0 ∷ [];
      entries =
          cell 9 4 5 7 none 15 3 14 ∷
          cell 0 6 4 9 3 2 4 none ∷
          cell 0 9 4 8 14 none none 1 ∷
          cell 9 6 4 7 none 0 none 1 ∷
          cell 0 2 6 9 none 1 none none ∷
          cell 9 1 3 7 none none 15 none ∷
          freed none ∷
          freed 6 ∷
          freed 7 ∷
          freed 8 ∷
          freed 9 ∷
          freed 10 ∷
          cell 8 5 10 9 13 none 14 none ∷
          cell 10 5 1 9 15 none 12 none ∷
          cell 8 4 5 9 0 12 2 none ∷
          cell 9 5 1 7 none 5 0 13 ∷
          freed 11 ∷ [];
    }

unfoldable pub visibility_only_history : Piece
visibility_only_history =
    record {
      room = 18;
      before = all_yes 6 (position 4 1 0) ∷ [];
      node = position 4 2 0;
      answers = handed (replicate 14 1);
      answer = Accepted (counts 10 9 6 14) record { point = 9; before = 8; after = 1; made = 2; least = float 0 };
      nodes = position 4 1 0 ∷ position 4 2 0 ∷ [];
      entries =
          freed none ∷
          freed 0 ∷
          freed 1 ∷
          freed 2 ∷
          cell 8 9 2 7 5 7 none none ∷
          cell 9 3 2 7 none 4 none none ∷
          freed 3 ∷
          cell 8 2 6 7 none 9 4 8 ∷
          cell 0 2 6 8 7 10 none none ∷
          cell 8 6 4 7 none 11 7 10 ∷
          cell 0 6 4 8 9 12 8 none ∷
          cell 8 4 5 7 none none 9 12 ∷
          cell 0 4 5 8 11 13 10 none ∷
          cell 0 5 1 8 none none 12 none ∷ [];
    }

unfoldable pub lost_corners_only_history : Piece
lost_corners_only_history =
    record {
      room = 18;
      before = all_yes 6 (position 1 0 0) ∷ all_yes 14 (position 4 1 0) ∷ [];
      node = position 2 0 0;
      answers = handed (replicate 17 1);
      answer = Accepted (counts 11 10 16 17) record { point = 10; before = 9; after = 1; made = 2; least = float 0 };
      nodes = position 1 0 0 ∷ position 4 1 0 ∷ position 2 0 0 ∷ [];
      entries =
          cell 0 6 4 9 2 1 3 none ∷
          cell 0 9 4 8 15 none none 0 ∷
          cell 9 6 4 7 none 14 4 0 ∷
          cell 0 2 6 9 4 0 none none ∷
          cell 9 2 6 7 none 2 5 3 ∷
          cell 9 3 2 7 none 4 none none ∷
          freed none ∷
          freed 6 ∷
          freed 7 ∷
          freed 8 ∷
          freed 9 ∷
          freed 10 ∷
          cell 8 5 10 9 13 none 15 none ∷
          cell 10 5 1 9 none none 12 none ∷
          cell 9 4 5 7 none none 2 15 ∷
          cell 8 4 5 9 14 12 1 none ∷
          freed 11 ∷ [];
    }

unfoldable pub coplanar_keeps_history : Piece
coplanar_keeps_history =
    record {
      room = 18;
      before = all_yes 6 (position 4 1 0) ∷ [];
      node = position 4 3 0;
      answers = handed (replicate 14 1);
      answer = Accepted (counts 10 9 6 14) record { point = 9; before = 8; after = 1; made = 2; least = float 0 };
      nodes = position 4 1 0 ∷ position 4 3 0 ∷ [];
      entries =
          freed none ∷
          freed 0 ∷
          freed 1 ∷
          freed 2 ∷
          cell 8 9 2 7 5 7 none none ∷
          cell 9 3 2 7 none 4 none none ∷
          freed 3 ∷
          cell 8 2 6 7 none 9 4 8 ∷
          cell 0 2 6 8 7 10 none none ∷
          cell 8 6 4 7 none 11 7 10 ∷
          cell 0 6 4 8 9 12 8 none ∷
          cell 8 4 5 7 none none 9 12 ∷
          cell 0 4 5 8 11 13 10 none ∷
          cell 0 5 1 8 none none 12 none ∷ [];
    }

unfoldable pub one_round_history : Piece
one_round_history =
    record {
      room = 18;
      before = all_yes 6 (position 1 0 0) ∷ all_yes 14 (position 4 1 0) ∷ [];
      node = position 2 0 0;
      answers = sphere;
      answer = Accepted (counts 11 10 16 17) record { point = 10; before = 6; after = 2; made = 3; least = float 16 };
      nodes = position 1 0 0 ∷ position 4 1 0 ∷ position 2 0 0 ∷ [];
      entries =
          cell 0 6 4 9 2 1 3 none ∷
          cell 0 9 4 8 12 none none 0 ∷
          cell 9 6 4 7 none 14 4 0 ∷
          cell 0 2 6 9 4 0 none none ∷
          cell 9 2 6 7 none 2 5 3 ∷
          cell 9 3 2 7 none 4 none none ∷
          freed none ∷
          freed 6 ∷
          freed 7 ∷
          freed 8 ∷
          freed 9 ∷
          cell 10 5 1 9 none none 13 none ∷
          cell 8 4 10 9 13 none 1 none ∷
          cell 10 4 5 9 14 11 12 none ∷
          cell 9 4 5 7 none none 2 13 ∷
          freed 10 ∷
          freed 15 ∷ [];
    }

unfoldable pub one_at_a_time_history : Piece
one_at_a_time_history =
    record {
      room = 18;
      before = all_yes 6 (position 4 2 0) ∷ [];
      node = position 4 1 0;
      answers = handed (replicate 14 1);
      answer = Accepted (counts 10 9 13 14) record { point = 9; before = 8; after = 1; made = 2; least = float 0 };
      nodes = position 4 2 0 ∷ position 4 1 0 ∷ [];
      entries =
          freed none ∷
          freed 0 ∷
          freed 1 ∷
          freed 2 ∷
          cell 0 5 1 9 none none 5 none ∷
          cell 0 5 9 8 none none 12 4 ∷
          cell 8 3 2 7 none 7 none none ∷
          cell 8 2 6 7 none 9 6 8 ∷
          cell 0 2 6 8 7 10 none none ∷
          cell 8 6 4 7 none 11 7 10 ∷
          cell 0 6 4 8 9 12 8 none ∷
          cell 8 4 5 7 none none 9 12 ∷
          cell 0 4 5 8 11 5 10 none ∷
          freed 3 ∷ [];
    }

unfoldable pub separating : List Piece
separating =
    zero_visible_history ∷ visibility_only_history ∷ lost_corners_only_history ∷
    coplanar_keeps_history ∷ one_round_history ∷ one_at_a_time_history ∷ []

-- what they leave
abbrev pub SeparatingPieces : Type 0
SeparatingPieces = map given separating ≡ map expected separating

-- Looks in the box 4, 4, 4: at a node of a started box, and at one whose base, cavity and corrected cavity all differ.
use Rattle.std.specs.Prelude.{ℕ, List, [], ◌∷◌, ◌≡◌, replicate}
use Rattle.arith.specs.Table.{select_below}
use Rattle.geometry.specs.declared.Position.{Position}
use Rattle.geometry.specs.Volume.{position}
use Rattle.cavity.specs.Answers.{sphere}
use Rattle.cavity.specs.Cavity.{in_set, base}
use Rattle.insertion.specs.declared.Report.{Report}
use Rattle.insertion.specs.Inserted.{Accepted, Refused}
use Rattle.insertion.specs.Looked.{Reported, Refused as LookRefused}
use Rattle.insertion.specs.Insertion.{first_cavity, last_cavity}
use Rattle.insertion.specs.Look.{LookResult, look_call, marked_call}
use Rattle.calls.specs.Calls.{Build, start_build, by_answers, mesh_after}
use Rattle.pieces.specs.Piece.{counts, float, lent}

unfoldable pub started : Build
started = start_build 4 4 4 (lent 18) 54

pub record StartedLook : Type 0 where
  -- all six cells would be replaced
  pub seen : look_call started.mesh started.tables 54 (position 1 2 3) (replicate 6 9) ≡
      record {
        answer = Reported record { point = 8; before = 6; after = 6; made = 12; least = float 640 };
        tables = started.tables;
        marks = 1 ∷ 1 ∷ 1 ∷ 1 ∷ 1 ∷ 1 ∷ [];
      }

-- (4, 1, 0) with every answer no, so that its base alone was replaced: entry 0 is freed
unfoldable pub before : Build
before = mesh_after started (by_answers 54 (replicate 6 0) (position 4 1 0) ∷ [])

unfoldable pub node : Position
node = position 4 2 0

unfoldable pub report : Report
report = record { point = 9; before = 6; after = 3; made = 5; least = float 96 }

-- a look with marks of three bytes more than entries are in use
unfoldable pub look : LookResult
look = look_call before.mesh before.tables 54 node (replicate 11 9)

pub record CorrectedLook : Type 0 where
  pub reached : before.mesh ≡ counts 9 7 0 8
  pub base_is : select_below 8 (in_set (base before.tables 8 node)) ≡ 6 ∷ []
  pub cavity_is : select_below 8 (in_set (first_cavity before.mesh before.tables node sphere)) ≡ 1 ∷ 2 ∷ 3 ∷ 4 ∷ 5 ∷ 6 ∷ []
  pub corrected_is : select_below 8 (in_set (last_cavity before.mesh before.tables node sphere)) ≡ 1 ∷ 2 ∷ 6 ∷ []
  pub seen : look.answer ≡ Reported report
  pub marks : look.marks ≡ 0 ∷ 1 ∷ 1 ∷ 0 ∷ 0 ∷ 0 ∷ 1 ∷ 0 ∷ 9 ∷ 9 ∷ 9 ∷ []
  -- a byte for each cell, but not for each entry
  pub too_short : look_call before.mesh before.tables 54 node (replicate 7 9) ≡
      record { answer = LookRefused 10; tables = before.tables; marks = replicate 7 9 }
  -- with room for 11 cells, of the 12 that it takes
  pub full : look_call before.mesh before.tables 33 node [] ≡ record { answer = LookRefused 8; tables = before.tables; marks = [] }

abbrev pub Answers14 : List ℕ → Type 0
Answers14 marks = marked_call before.mesh before.tables 54 node marks ≡ record { answer = Refused 14; tables = before.tables }

pub record MarkedNode : Type 0 where
  pub goes_in : (marked_call before.mesh before.tables 54 node look.marks).answer ≡ Accepted (counts 10 9 6 12) report
  pub no_more_bytes : (marked_call before.mesh before.tables 54 node (0 ∷ 1 ∷ 1 ∷ 0 ∷ 0 ∷ 0 ∷ 1 ∷ 0 ∷ [])).answer ≡ Accepted (counts 10 9 6 12) report
  -- the marks of wrong looks: before the correction, and of the base alone
  pub uncorrected : Answers14 (0 ∷ 1 ∷ 1 ∷ 1 ∷ 1 ∷ 1 ∷ 1 ∷ 0 ∷ [])
  pub base_alone : Answers14 (0 ∷ 0 ∷ 0 ∷ 0 ∷ 0 ∷ 0 ∷ 1 ∷ 0 ∷ [])
  pub two_for_one : Answers14 (0 ∷ 2 ∷ 1 ∷ 0 ∷ 0 ∷ 0 ∷ 1 ∷ 0 ∷ [])
  -- the freed entry marked
  pub freed_marked : Answers14 (1 ∷ 1 ∷ 1 ∷ 0 ∷ 0 ∷ 0 ∷ 1 ∷ 0 ∷ [])
  pub too_few : Answers14 (0 ∷ 1 ∷ 1 ∷ 0 ∷ 0 ∷ 0 ∷ 1 ∷ [])
  -- 8 comes first
  pub full : marked_call before.mesh before.tables 33 node [] ≡ record { answer = Refused 8; tables = before.tables }

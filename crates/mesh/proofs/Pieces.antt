-- By computation: document 01's pieces of a start.
use Prim.Native.Nat.{ℕ, ◌+◌, ◌*◌}
use mathlib.Core.List.{List, ◌∷◌, []}
use mathlib.Core.Path.{◌≡◌, refl}
use lib.ListN.{replicate}
use Rattle.arith.specs.Table.{fill, tabulate}
use Rattle.mesh.specs.Start.{Accepted, Refused}
use Rattle.mesh.specs.Tables.{Tables, point_capacity, cell_capacity, none, corner, across, tables}
use Rattle.mesh.specs.Start.{start_corners, start_neighbours, started, started_mesh, short, start_refusal, start_answer}

-- ---- sides

abbrev blank : Tables
blank = tables (replicate 24 0) (replicate 24 0) (replicate 24 0)

side_largest : start_answer 131072 131072 131072 blank 18 ≡ Accepted (started_mesh 131072 131072 131072)
unfolding start_answer start_refusal short point_capacity cell_capacity
side_largest = refl

side_too_large : (start_answer 131073 4 4 blank 18 ≡ Refused 2) × (start_answer 4 131073 4 blank 18 ≡ Refused 2) × (start_answer 4 4 131073 blank 18 ≡ Refused 2)
unfolding start_answer start_refusal short point_capacity cell_capacity
side_too_large = (refl, refl, refl)

-- ---- the listing's six lines: number, corners, neighbours

abbrev line : Tables → ℕ → List ℕ
line t c =
    c ∷ corner t c 0 ∷ corner t c 1 ∷ corner t c 2 ∷ corner t c 3 ∷
    across t (4 * c) ∷ across t (4 * c + 1) ∷ across t (4 * c + 2) ∷ across t (4 * c + 3) ∷ []

six_lines : tabulate 6 (line (started 4 4 4 blank)) ≡
    (0 ∷ 0 ∷ 1 ∷ 3 ∷ 7 ∷ none ∷ 1 ∷ 5 ∷ none ∷ []) ∷
    (1 ∷ 0 ∷ 3 ∷ 2 ∷ 7 ∷ none ∷ 2 ∷ 0 ∷ none ∷ []) ∷
    (2 ∷ 0 ∷ 2 ∷ 6 ∷ 7 ∷ none ∷ 3 ∷ 1 ∷ none ∷ []) ∷
    (3 ∷ 0 ∷ 6 ∷ 4 ∷ 7 ∷ none ∷ 4 ∷ 2 ∷ none ∷ []) ∷
    (4 ∷ 0 ∷ 4 ∷ 5 ∷ 7 ∷ none ∷ 5 ∷ 3 ∷ none ∷ []) ∷
    (5 ∷ 0 ∷ 5 ∷ 1 ∷ 7 ∷ none ∷ 0 ∷ 4 ∷ none ∷ []) ∷ []
unfolding tabulate fill corner across started start_corners start_neighbours
six_lines = refl

-- By computation, in the started box of side 4: which cells hold a place, and which have it strictly inside.
use mathlib.Core.Bool.{true, false}
use mathlib.Core.List.{[], ◌∷◌, ◌++◌}
use mathlib.Core.Path.{◌≡◌, refl}
use lib.ListN.{replicate}
use Rattle.arith.specs.Table.{fill, tabulate, all_below}
use Rattle.geometry.specs.Volume.{volume6, volume}
use Rattle.mesh.specs.Tables.{Tables, tables, none, point_in, corner, corner_at, side, freed, live}
use Rattle.mesh.specs.Start.{start_points, start_corners, start_neighbours}
use Rattle.locate.specs.Locate.{holds}
use Rattle.covering.specs.Place.{Place, tables_in_parts, holds_at, side_at, inside_at}

abbrev box : Tables
box = tables (start_points 4 4 4) start_corners start_neighbours

-- (3½, 2, ½) is strictly inside cell 0
within : let q : Place = record { x = 7; y = 4; z = 1; w = 2 } in
    (tabulate 6 (holds_at box q) ≡ true ∷ false ∷ false ∷ false ∷ false ∷ false ∷ []) ×
    (tabulate 6 (inside_at box q) ≡ true ∷ false ∷ false ∷ false ∷ false ∷ false ∷ [])
unfolding tabulate fill all_below start_points start_corners point_in corner freed live corner_at side volume volume6 holds tables_in_parts holds_at side_at inside_at
within = (refl, refl)

-- (2⅓, 2⅓, 1) lies on the face between cells 0 and 1
between : let q : Place = record { x = 7; y = 7; z = 3; w = 3 } in
    (tabulate 6 (holds_at box q) ≡ true ∷ true ∷ false ∷ false ∷ false ∷ false ∷ []) ×
    (tabulate 6 (inside_at box q) ≡ false ∷ false ∷ false ∷ false ∷ false ∷ false ∷ [])
unfolding tabulate fill all_below start_points start_corners point_in corner freed live corner_at side volume volume6 holds tables_in_parts holds_at side_at inside_at
between = (refl, refl)

-- the same with a freed entry, which holds nothing: its four sides are 0 everywhere
with_freed : let q : Place = record { x = 7; y = 7; z = 3; w = 3 } in
    tabulate 7 (holds_at (tables (start_points 4 4 4) (start_corners ++ replicate 4 none) (start_neighbours ++ replicate 4 none)) q) ≡
    true ∷ true ∷ false ∷ false ∷ false ∷ false ∷ false ∷ []
unfolding tabulate fill all_below start_points start_corners point_in corner freed live corner_at side volume volume6 holds tables_in_parts holds_at
with_freed = refl

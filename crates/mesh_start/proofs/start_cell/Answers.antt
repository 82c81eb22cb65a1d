use Rattle.std.proofs.Common.{◌≡◌, ℕ, ◌+◌, ◌%◌, ◌<◌, List, [], ◌∷◌, refl}
use lib.ListN.{get_or}
use Rattle.arith.proofs.Flags.{below_six}
use Rattle.mesh.specs.declared.Cell.{Cell}
use Rattle.mesh.specs.Start.{start_corners, start_neighbours}
use Rattle.mesh.specs.Inner.{four_at, cell_at}
use Rattle.mesh_start.proofs.start_cell.Goals as goal

abbrev rows : List (List ℕ)
rows = (0 ∷ 1 ∷ 3 ∷ 7 ∷ []) ∷ (0 ∷ 3 ∷ 2 ∷ 7 ∷ []) ∷ (0 ∷ 2 ∷ 6 ∷ 7 ∷ []) ∷ (0 ∷ 6 ∷ 4 ∷ 7 ∷ []) ∷ (0 ∷ 4 ∷ 5 ∷ 7 ∷ []) ∷ (0 ∷ 5 ∷ 1 ∷ 7 ∷ []) ∷ []

abbrev row : ℕ → Cell
row k = record { corners = get_or rows k []; neighbours = 65535 ∷ (k + 1) % 6 ∷ (k + 5) % 6 ∷ 65535 ∷ [] }

each : (k : ℕ) → k < 6 → row k ≡ cell_at start_corners start_neighbours k
unfolding cell_at four_at start_corners start_neighbours
each = below_six (λ k. row k ≡ cell_at start_corners start_neighbours k) refl refl refl refl refl refl

pub returns : goal.returns
returns c = each c.args.k c.requires

-- The four numbers of an entry are those that the listing names.
use Rattle.std.proofs.Common.{◌≡◌, ℕ, ◌+◌, ◌*◌, ◌≤◌, Bool, Some, None, List, [], length, ap, ◌∙◌, arith}
use native.Mathlib.Nat.{add-zero}
use Rattle.arith.proofs.Tables.{any_default}
use Rattle.mesh.specs.Tables.{none, tables, corner, across, freed}
use Rattle.mesh.specs.Inner.{four_at}
use Rattle.mesh.specs.Inner.Cells.{four_freed}
use Rattle.mesh.proofs.Live.{four_freed_lem}
use Rattle.lines.specs.Text.{concat_below}
use Rattle.lines.specs.Listing.{neighbour_word, corner_words, neighbour_words}
use Rattle.lines_cells.specs.Words.{word, four_words}

module _ (cs ns : List ℕ) (c : ℕ) {numbers : List ℕ} where
  pub corners_read : numbers ≡ four_at cs c → four_words None numbers ≡ corner_words (tables [] cs ns) c
  unfolding word four_words four_at corner_words corner concat_below
  corners_read e = ap (four_words None) e ∙ rw (add-zero (4 * c))

  pub neighbours_read : 4 * c + 4 ≤ length ns → numbers ≡ four_at ns c → four_words (Some none) numbers ≡ neighbour_words (tables [] cs ns) c
  unfolding word four_words four_at neighbour_words neighbour_word across concat_below
  neighbours_read h e =
      ap (four_words (Some none)) e ∙
      rw (
        add-zero (4 * c),
        any_default ns (4 * c) 0 none (omega arith),
        any_default ns (4 * c + 1) 0 none (omega arith),
        any_default ns (4 * c + 2) 0 none (omega arith),
        any_default ns (4 * c + 3) 0 none (omega arith),
      )

  -- what the test of the corners says of the entry
  pub freed_read : {r : Bool} → r ≡ four_freed numbers → numbers ≡ four_at cs c → r ≡ freed (tables [] cs ns) c
  freed_read d e = d ∙ (ap four_freed e ∙ four_freed_lem (tables [] cs ns) c)

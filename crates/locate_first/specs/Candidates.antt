-- The cell that comes first so far, where there is one.
use Rattle.std.specs.Prelude.{ℕ, List, Option, Some, None}
use Rattle.locate.specs.declared.Candidate.{Candidate}
use Rattle.locate.specs.Inner.{key_of, earlier}

-- cell c with the corners k where it comes before the candidate or there is none, else the candidate
unfoldable pub earlier_of : List ℕ → ℕ → Option Candidate → Candidate
earlier_of k c None = record { cell = c; key = key_of k }
earlier_of k c (Some b) = earlier k c b

-- The cells before place c-index have joined the chain.
use Rattle.std.proofs.Common.{Bool, List, ◌≡◌, ℕ}
use Rattle.star.specs.Inner.{Rising}
use Rattle.star.proofs.Freed.{last_freed, Joined}
use Rattle.star_free.proofs.free_cells.Given as goal

abbrev pub invariant-loop-c : goal.invariant-loop-c
invariant-loop-c l =
    (l.next ≡ last_freed l.list l.rest l.c-index)
    × ((n : ℕ) (s : List Bool) → Rising n s l.list l.size → Joined s l.list l.rest l.c-index l.fn.corners l.fn.neighbours l.corners l.neighbours)

-- The turn from where it stands, with the steps that are left, is the turn from the start.
use Rattle.std.proofs.Common.{◌≡◌, ◌-◌}
use Rattle.mesh.specs.Tables.{corner, across, mate}
use Rattle.cavity.specs.Cavity.{in_set}
use Rattle.cavity.specs.Inner.{set_of}
use Rattle.star.specs.Turn as steps
use Rattle.star.specs.Inner.{state_of, CavityIntact}
use Rattle.star.proofs.Cross.{Valid}
use Rattle.star_turn.proofs.turn.Given as goal

abbrev pub invariant-loop : goal.invariant-loop
invariant-loop l =
    Valid (in_set (set_of l.n l.state)) (state_of l.at)
    × ((b : CavityIntact l.n l.state l.corners l.neighbours) →
    steps.turn (corner b.was) (across b.was) (mate b.was) (in_set (set_of l.n l.state)) (l.n - l.counter) (state_of l.at) ≡
    steps.turn (corner b.was) (across b.was) (mate b.was) (in_set (set_of l.n l.state)) l.n (state_of l.fn.from))

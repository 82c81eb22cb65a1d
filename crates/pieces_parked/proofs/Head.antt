-- The parked head, by computation.
use mathlib.Core.Path.{refl}
use Rattle.locate.specs.Order.{insert_sorted, sorted, lex_before}
use Rattle.locate.specs.Locate.{sorted_corners, earlier_holder, first_holder, locate_refusal, locate_call}
use Rattle.pieces.proofs.Opened.{opened}
use Rattle.pieces_parked.specs.Head.{before, node, after, head, ParkedHead}

parked_head : ParkedHead
unfolding opened insert_sorted sorted lex_before sorted_corners earlier_holder first_holder locate_refusal locate_call before node after head
parked_head =
    record {
      held = refl;
      corners_16 = refl;
      corners_17 = refl;
      located = refl;
      outside = refl;
      located_again = refl;
      same_corners = refl;
      held_again = refl;
      new_cell = refl;
    }

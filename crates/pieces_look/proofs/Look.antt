-- Looks in small boxes, by computation.
use mathlib.Core.Path.{refl}
use Rattle.insertion.specs.Look.{cavity_marks, look_refusal, look_unless, look_call, begins_with, marked_refusal, marked_call}
use Rattle.pieces.proofs.Opened.{opened}
use Rattle.pieces_look.specs.Look.{started, StartedLook, before, node, report, look, CorrectedLook, MarkedNode}

started_look : StartedLook
unfolding opened cavity_marks look_refusal look_unless look_call started
started_look = record { seen = refl }

corrected_look : CorrectedLook
unfolding opened cavity_marks look_refusal look_unless look_call started before node report look
corrected_look =
    record {
      reached = refl;
      base_is = refl;
      cavity_is = refl;
      corrected_is = refl;
      seen = refl;
      marks = refl;
      too_short = refl;
      full = refl;
    }

marked_node : MarkedNode
unfolding opened cavity_marks look_refusal look_unless look_call begins_with marked_refusal marked_call started before node report look
marked_node =
    record {
      goes_in = refl;
      no_more_bytes = refl;
      uncorrected = refl;
      base_alone = refl;
      two_for_one = refl;
      freed_marked = refl;
      too_few = refl;
      full = refl;
    }

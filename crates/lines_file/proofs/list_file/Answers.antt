use Rattle.std.proofs.Common.{refl}
use Rattle.lines.proofs.Putting.{reads_as}
use Rattle.lines.proofs.Answering.{front_within, front_length, read_text_lem, read_refused_text}
use Rattle.lines_file.proofs.list_file.Goals as goal

pub slice_bounds-list_nodes-end : goal.slice_bounds-list_nodes-end
slice_bounds-list_nodes-end c = front_within c.in-Ok.ensures refl

pub slice_bounds-list_nodes-end-in-Ok : goal.slice_bounds-list_nodes-end-in-Ok
slice_bounds-list_nodes-end-in-Ok c = front_length c.in-Ok.ensures refl

pub returns-in-Ok : goal.returns-in-Ok
returns-in-Ok c = reads_as c.list_nodes.ensures (read_text_lem c.in-Ok.ensures refl _ _)

pub returns-in-Err : goal.returns-in-Err
returns-in-Err c = reads_as c.write_refused.ensures (read_refused_text c.in-Err.ensures _ _ refl)

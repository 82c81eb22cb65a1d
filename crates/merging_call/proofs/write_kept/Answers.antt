use Rattle.std.proofs.Common.{not, ap}
use Rattle.merging.specs.Merge.{with_count}
use Rattle.merging.specs.Inner.{positions_in}
use Rattle.merging.proofs.Answers.{box_passed, box_failed, outside, too_many, no_room, written}
use Rattle.merging_call.proofs.write_kept.Goals as goal

pub returns-then-not-points_in_box : goal.returns-then-not-points_in_box
returns-then-not-points_in_box c =
    let a = c.args in
    outside a.head (positions_in a.head.count a.nodes.now) a.out.now
    (box_failed a.head a.nodes.now c.points_in_box.ensures (ap not c.if-not-points_in_box.true))

pub returns-then-count-gt1016 : goal.returns-then-count-gt1016
returns-then-count-gt1016 c =
    let a = c.args in
    let inside = box_passed a.head a.nodes.now c.points_in_box.ensures (ap not c.if-not-points_in_box.false) in
    too_many a.head (positions_in a.head.count a.nodes.now) a.out.now inside c.keep_firsts-count.ensures.count c.if-count-gt1016.true

pub returns-then-out-count : goal.returns-then-out-count
returns-then-out-count c =
    let a = c.args in
    let inside = box_passed a.head a.nodes.now c.points_in_box.ensures (ap not c.if-not-points_in_box.false) in
    no_room a.head (positions_in a.head.count a.nodes.now) a.out.now inside c.keep_firsts-count.ensures.count c.if-count-gt1016.false c.if-out-count.true

pub returns : goal.returns
unfolding with_count
returns c =
    let a = c.args in
    let inside = box_passed a.head a.nodes.now c.points_in_box.ensures (ap not c.if-not-points_in_box.false) in
    let k = c.keep_firsts-count.ensures in
    let w = c.write_file.ensures in
    written a.head (positions_in a.head.count a.nodes.now) a.out.now inside k.count c.if-count-gt1016.false c.if-out-count.false k.front w.0 w.1

use Rattle.std.proofs.Common.{List, ℤ, pos, refl, replicate, arith}
use Rattle.std.proofs.Math.ListN.{length-replicate}
use Rattle.mesh.specs.Tables.{tables}
use Rattle.corrected_calls.proofs.Started.{long_enough, start_without, start_in_range, list_without}
use Rattle.lines.proofs.Putting.{reads_as}
use Rattle.lines.proofs.Answering.{from_start, accepted_text, start_refused_text, listed_entries, listed_text}
use Rattle.lines_box.proofs.list_nodes.Goals as goal

-- the corrections, as they are made
abbrev zeros : List ℤ
zeros = replicate 3072 (pos 0)

pub write_listed-requires : goal.write_listed-requires
write_listed-requires c =
    let a = c.args in
    let t = tables a.points.now a.corners.now a.neighbours.now in
    let k = long_enough t zeros (omega (arith, length-replicate 3072 (pos 0))) in
    let f = c.in-Ok.ensures in
    let S = start_without a.x a.y a.z t zeros a.work.now k f in
    let long = long_enough _ _ (omega (arith, c.start.auto.corrections, length-replicate 3072 (pos 0))) in
    let L = list_without _ _ _ _ a.nodes.now long (start_in_range a.x a.y a.z t zeros a.work.now k f refl) c.insert_list-answer.ensures in
    let l = listed_entries (from_start S refl) L in (l.0, l.1, c.requires)

pub returns-in-Ok : goal.returns-in-Ok
returns-in-Ok c =
    let a = c.args in
    let t = tables a.points.now a.corners.now a.neighbours.now in
    let k = long_enough t zeros (omega (arith, length-replicate 3072 (pos 0))) in
    let f = c.in-Ok.ensures in
    let S = start_without a.x a.y a.z t zeros a.work.now k f in
    let long = long_enough _ _ (omega (arith, c.start.auto.corrections, length-replicate 3072 (pos 0))) in
    let L = list_without _ _ _ _ a.nodes.now long (start_in_range a.x a.y a.z t zeros a.work.now k f refl) c.insert_list-answer.ensures in
    reads_as (reads_as c.write_listed.ensures (listed_text (from_start S refl) L)) (accepted_text S refl a.nodes.now)

pub returns-in-Err : goal.returns-in-Err
returns-in-Err c =
    let a = c.args in
    let t = tables a.points.now a.corners.now a.neighbours.now in
    let k = long_enough t zeros (omega (arith, length-replicate 3072 (pos 0))) in
    let S = start_without a.x a.y a.z t zeros a.work.now k c.in-Err.ensures in
    reads_as c.write_refused.ensures (start_refused_text S a.nodes.now refl)

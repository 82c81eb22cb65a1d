use Rattle.std.proofs.Common.{◌≡◌, ◌/◌, ℕ, length, refl, true≢false, sym, ◌∙◌, subst, arith}
use Rattle.std.proofs.Math.ListN.{length-replicate}
use Rattle.mesh.specs.Tables.{tables}
use Rattle.insertion.specs.Listed.{Ended}
use Rattle.insertion.proofs.Acceptance.{fresh}
use Rattle.corrections.specs.Inner.{NodesKeep}
use Rattle.corrections.proofs.Listing.{none_yet, place<, standing, one_more, scratch_next, stops_here, ends_here, node_read}
use Rattle.corrections_nodes.proofs.insert_nodes.Goals as goal

pub loop-i-init : goal.loop-i-init
loop-i-init c =
    let p = c.requires in
    record { inserting = none_yet _ _ _ _ _ p.0 p.1.range p.2; scratch = fresh _ _ _ p.0; slots_long = length-replicate {A = ℕ} 4096 0 }

pub attempt_node-requires : goal.attempt_node-requires
attempt_node-requires c =
    let v = c.loop-i.invariant in
    (v.inserting.mesh, (λ e. absurd (true≢false (sym e))), standing v.inserting, v.inserting.lent, v.scratch, v.slots_long)

pub loop-i-preserved : goal.loop-i-preserved
loop-i-preserved c =
    let v = c.loop-i.invariant in
    let a = c.attempt_node.auto in
    let e = c.in-Ok.ensures in
    let L = node_read c.point_at.ensures e.0 in
    record {
      inserting = one_more v.inserting L refl (omega (arith, c.loop-i-test.true)) a.points a.corners a.neighbours;
      scratch = scratch_next v.inserting L refl e.1;
      slots_long = a.slots ∙ v.slots_long;
    }

pub overflow_cast-result : goal.overflow_cast-result
overflow_cast-result c = omega (arith, place< c.loop-i.invariant.inserting)

pub returns-in-Err : goal.returns-in-Err
returns-in-Err c = stops_here c.loop-i.invariant.inserting (node_read c.point_at.ensures c.in-Err.ensures.0) (omega (arith, c.loop-i-test.true)) refl

pub overflow_cast-result-2 : goal.overflow_cast-result-2
overflow_cast-result-2 c = omega (arith, place< c.loop-i.invariant.inserting, c.loop-i-test.false)

pub returns : goal.returns
returns c =
    let l = c.loop-i in
    let a = c.args in
    let e : l.i ≡ length a.nodes.now / 3 = omega (arith, c.loop-i-test.false, l.auto.i-end) in
    subst (λ n. NodesKeep a.mesh (tables a.points.now a.corners.now a.neighbours.now) a.corrections.now a.work a.nodes.now (Ended l.now n) (tables l.points l.corners l.neighbours) l.corrections)
    e (ends_here l.invariant.inserting (omega arith))

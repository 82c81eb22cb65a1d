use Rattle.std.proofs.Common.{◌≡◌, ◌≤◌, ℕ, cond, ltb, false, length, take, sym, ap, ◌∙◌, subst, arith}
use lib.ListN.{length-take}
use Rattle.refusal.proofs.Numbers.{handed-on, number-positive}
use Rattle.mesh.specs.Tables.{tables}
use Rattle.mesh.specs.Start.{over}
use Rattle.mesh.proofs.Valid.{solid, in_range_lem, passed}
use Rattle.segment.specs.Call.{Count, Refused}
use Rattle.segment.proofs.Answers.{bare_cells, cells_few, work_room, as_lent, mesh_refused, first_outside, second_outside, listed}
use Rattle.segment_call.proofs.segment_cells.Goals as goal
use Rattle.segment_call.proofs.segment_cells.Goals.{then-not-in_box-via-then-not-in_box, then-not-in_box-via-else-not-in_box+then-not-in_box-2}

pub returns-in_err-test_mesh : goal.returns-in_err-test_mesh
returns-in_err-test_mesh c =
    let a = c.args in
    rw (handed-on _ c.from_residual.ensures.1)
    (mesh_refused a.mesh (tables a.points.now a.corners.now a.neighbours.now) a.work.now a.a a.b a.out.now c.clear.ensures
    c.in_err-test_mesh.ensures (λ z. absurd (omega (arith, number-positive c.in_err-test_mesh.field-0.0, z))))

pub returns-then-not-in_box : goal.returns-then-not-in_box
returns-then-not-in_box c =
    let a = c.args in
    let t = tables a.points.now a.corners.now a.neighbours.now in
    let z = sym (as_lent a.mesh t a.work.now a.a a.b a.out.now c.clear.ensures c.in_ok-test_mesh.ensures) in
    elim c.then-not-in_box.branch [
      | then-not-in_box-via-then-not-in_box w ↦ first_outside a.mesh t a.work.now a.a a.b a.out.now c.clear.ensures z (sym c.in_box.ensures ∙ w.if-not-in_box.true)
      | then-not-in_box-via-else-not-in_box+then-not-in_box-2 w ↦
          second_outside a.mesh t a.work.now a.a a.b a.out.now c.clear.ensures z
          (sym c.in_box.ensures ∙ w.if-not-in_box.false) (sym w.in_box-else-not-in_box.ensures ∙ w.if-not-in_box-2.true)
    ]

pub list_cells-count-requires : goal.list_cells-count-requires
list_cells-count-requires c =
    let a = c.args in
    let t = tables a.points.now a.corners.now a.neighbours.now in
    let p = passed _ _ _ false (sym (as_lent a.mesh t a.work.now a.a a.b a.out.now c.clear.ensures c.in_ok-test_mesh.ensures)) in (
      solid _ _ _ _ _ p,
      in_range_lem _ _ _ p (sym c.in_box.ensures ∙ c.if-not-in_box.false),
      in_range_lem _ _ _ p (sym c.in_box-else-not-in_box.ensures ∙ c.if-not-in_box-2.false),
      subst (λ n. a.mesh.used ≤ n) (sym c.clear.auto.s) (work_room _ _ _ p),
    )

pub put_cells-answer-requires : goal.put_cells-answer-requires
put_cells-answer-requires c =
    let a = c.args in
    let t = tables a.points.now a.corners.now a.neighbours.now in
    let p = passed _ _ _ false (sym (as_lent a.mesh t a.work.now a.a a.b a.out.now c.clear.ensures c.in_ok-test_mesh.ensures)) in
    let few : c.list_cells-count.result ≤ a.mesh.used = subst (λ n. n ≤ a.mesh.used) (sym c.list_cells-count.ensures.0) (cells_few _ _ a.a a.b) in
    omega (arith, length-take {A = ℕ}, few, (solid _ _ _ _ _ p).celled.cells_few)

pub returns : goal.returns
returns c =
    let a = c.args in
    let t = tables a.points.now a.corners.now a.neighbours.now in
    let z = sym (as_lent a.mesh t a.work.now a.a a.b a.out.now c.clear.ensures c.in_ok-test_mesh.ensures) in
    let count = c.list_cells-count.result in
    let front = take count c.list_cells-count.new.found in
    let few : count ≤ a.mesh.used = subst (λ n. n ≤ a.mesh.used) (sym c.list_cells-count.ensures.0) (cells_few _ _ a.a a.b) in
    let all : length front ≡ count = omega (arith, length-take {A = ℕ}, few, work_room _ _ _ (passed _ _ _ false z), c.list_cells-count.auto.found, c.clear.auto.s) in
    let e = bare_cells a.points.now a.corners.now a.neighbours.now a.mesh.used a.a a.b in
    listed a.mesh t a.work.now a.a a.b a.out.now c.clear.ensures z
    (sym c.in_box.ensures ∙ c.if-not-in_box.false) (sym c.in_box-else-not-in_box.ensures ∙ c.if-not-in_box-2.false)
    (c.list_cells-count.ensures.0 ∙ ap length e) (c.list_cells-count.ensures.1 ∙ ap (λ l. over l c.clear.new.s) e)
    (c.put_cells-answer.ensures.0 ∙ ap (λ n. cond (ltb (length a.out.now) n) (Refused 10) (Count n)) all)
    (c.put_cells-answer.ensures.1 ∙ ap (λ n. cond (ltb (length a.out.now) n) a.out.now (over front a.out.now)) all)
    c.list_cells-count.auto.found c.clear-2.ensures

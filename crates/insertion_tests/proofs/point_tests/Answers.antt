use Rattle.std.proofs.Common.{◌≡◌, ◌∙◌, sym, ap, arith, length}
use borrow.Author.Tests.{eq-eqb, ne_eqb}
use Rattle.mesh.specs.Tables.{point_capacity, tables}
use Rattle.locate.proofs.Codes.{side_codes_length}
use Rattle.insertion.proofs.Admission.{outside_box, point_taken, points_full_lem, free_place, taken_is}
use Rattle.insertion_tests.proofs.point_tests.Goals as goal

pub some_zero-requires : goal.some_zero-requires
some_zero-requires c = omega (arith, ap length c.requires.1 ∙ side_codes_length _ _ _, c.requires.0)

pub returns-then-not-in_box : goal.returns-then-not-in_box
returns-then-not-in_box c = λ cs ns. outside_box _ _ _ (sym c.in_box.ensures ∙ c.if-not-in_box.true)

pub returns-then-some_zero : goal.returns-then-some_zero
returns-then-some_zero c =
    λ cs ns. point_taken _ _ _ (sym c.in_box.ensures ∙ c.if-not-in_box.false)
    (sym (c.some_zero.ensures ∙ taken_is (tables c.args.points.now cs ns) c.args.mesh.points c.args.q c.requires.0 c.requires.1) ∙ c.if-some_zero.true)

pub returns-then-np-point_capacity : goal.returns-then-np-point_capacity
unfolding point_capacity
returns-then-np-point_capacity c =
    λ cs ns. points_full_lem _ _ _ (sym c.in_box.ensures ∙ c.if-not-in_box.false)
    (sym (c.some_zero.ensures ∙ taken_is (tables c.args.points.now cs ns) c.args.mesh.points c.args.q c.requires.0 c.requires.1) ∙ c.if-some_zero.false)
    (eq-eqb _ _ (c.if-np-point_capacity.true ∙ c.point_capacity.ensures))

pub returns-else-np-point_capacity : goal.returns-else-np-point_capacity
unfolding point_capacity
returns-else-np-point_capacity c =
    λ cs ns. free_place _ _ _ (sym c.in_box.ensures ∙ c.if-not-in_box.false)
    (sym (c.some_zero.ensures ∙ taken_is (tables c.args.points.now cs ns) c.args.mesh.points c.args.q c.requires.0 c.requires.1) ∙ c.if-some_zero.false)
    (ne_eqb _ _ (λ e. c.if-np-point_capacity.false (e ∙ sym c.point_capacity.ensures)))

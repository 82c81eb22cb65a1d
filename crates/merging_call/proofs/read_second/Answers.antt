use Rattle.std.proofs.Common.{List, ℕ, refl, ap, length, take, drop, length-take, length-drop, ◌*◌, ◌-◌, ◌≤◌, arith, sym, ◌∙◌}
use Rattle.refusal.proofs.Numbers.{handed-on}
use Rattle.nodefile.specs.declared.Header.{Header}
use Rattle.merging.specs.Merge.{with_count}
use Rattle.merging.proofs.Answers.{accepted_read, second_refused, second_sides, second_read}
use Rattle.merging_call.proofs.read_second.Goals as goal

-- room for the second file's nodes
part_long : (ns : List ℕ) (n : ℕ) → n ≤ 1016 → 6096 ≤ length ns → 3048 ≤ length (take (length ns - 3 * n) (drop (3 * n) ns))
part_long ns n h k = simp (length-take, length-drop) (omega arith)

pub returns-in_err-other : goal.returns-in_err-other
returns-in_err-other c =
    let long = part_long c.args.nodes.now c.args.head.count c.requires.0 c.requires.1 in
    rw (handed-on _ c.from_residual.ensures.1)
    (second_refused c.args.head c.args.second.now c.args.nodes.now long c.args.nodes.now c.in_err-other.ensures)

pub returns-then-not-same_sides : goal.returns-then-not-same_sides
returns-then-not-same_sides c =
    let long = part_long c.args.nodes.now c.args.head.count c.requires.0 c.requires.1 in
    second_sides c.args.head c.args.second.now c.args.nodes.now long c.in_ok-other.ensures c.args.nodes.now (sym c.same_sides.ensures ∙ c.if-not-same_sides.true)

pub overflow_add-result : goal.overflow_add-result
overflow_add-result c =
    let long = part_long c.args.nodes.now c.args.head.count c.requires.0 c.requires.1 in
    let q = accepted_read c.args.second.now _ long c.in_ok-other.ensures in
    omega (arith, q.few, ap (λ (h : Header). h.count) q.head)

pub returns : goal.returns
unfolding with_count
returns c =
    let long = part_long c.args.nodes.now c.args.head.count c.requires.0 c.requires.1 in
    second_read c.args.head c.args.second.now c.args.nodes.now long c.in_ok-other.ensures (sym c.same_sides.ensures ∙ c.if-not-same_sides.false) refl refl

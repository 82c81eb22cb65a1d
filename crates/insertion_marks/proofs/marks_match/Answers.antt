use Rattle.std.proofs.Common.{true, refl, arith}
use Rattle.insertion.specs.Inner.{marks_allow}
use Rattle.insertion.proofs.Looking.{matching_more, too_few_marks, mark_differs, marks_match}
use Rattle.insertion_marks.proofs.marks_match.Goals as goal

pub returns-then-marks-n : goal.returns-then-marks-n
unfolding marks_allow
returns-then-marks-n c = too_few_marks c.args.n c.args.state.now c.args.marks.now {asked = true} refl (omega arith)

pub returns-then-marks-c : goal.returns-then-marks-c
unfolding marks_allow
returns-then-marks-c c =
    let l = c.loop-c in
    mark_differs c.args.n c.args.state.now c.args.marks.now {asked = true} refl l.c (omega arith) (omega arith) l.invariant (λ e. omega (arith, e, c.if-marks-c.true, c.mark_of.ensures))

pub loop-c-preserved : goal.loop-c-preserved
loop-c-preserved c =
    let l = c.loop-c in
    matching_more c.args.n c.args.state.now c.args.marks.now l.c (omega arith) (omega arith) l.invariant (omega (arith, c.if-marks-c.false, c.mark_of.ensures))

pub returns : goal.returns
unfolding marks_allow
returns c =
    let l = c.loop-c in
    marks_match c.args.n c.args.state.now c.args.marks.now {asked = true} refl l.c (omega arith) l.invariant

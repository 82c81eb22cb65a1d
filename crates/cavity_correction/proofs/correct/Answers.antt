use Rattle.std.proofs.Common.{arith}
use Rattle.cavity.proofs.Removal.{no_round, next_round, rounds_end}
use Rattle.cavity_correction.proofs.correct.Goals as goal

pub loop-size-init : goal.loop-size-init
loop-size-init c = record { rounds = no_round (omega arith) c.requires.2 c.requires.3; marks = c.requires.4 }

pub round-kept-requires : goal.round-kept-requires
round-kept-requires c =
    let i = c.loop-size.invariant in
    (c.requires.0, c.requires.1, i.rounds.left, i.rounds.codes, i.marks)

pub returns-then-kept-size : goal.returns-then-kept-size
returns-then-kept-size c =
    let e = c.round-kept.ensures in
    let r = next_round c.loop-size.invariant.rounds e.0 e.1 e.3 in
    (r.left.list, r.codes, e.2, rounds_end r (omega arith), (r.ended (omega arith)).1)

pub loop-size-smaller : goal.loop-size-smaller
loop-size-smaller c = omega (arith, c.round-kept.ensures.0.fewer)

pub loop-size-preserved : goal.loop-size-preserved
loop-size-preserved c =
    let e = c.round-kept.ensures in
    let r = next_round c.loop-size.invariant.rounds e.0 e.1 e.3 in
    record {
      rounds = record { rounds = r.rounds; few = r.few; is = r.is; left = r.left; codes = r.codes; ended = λ h. absurd (omega (arith, h)) };
      marks = e.2;
    }

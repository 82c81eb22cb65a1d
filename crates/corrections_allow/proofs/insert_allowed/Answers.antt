use Rattle.std.proofs.Common.{refl, arith}
use Rattle.insertion.proofs.Acceptance.{states_long, accepted_leaves, marks_refused}
use Rattle.corrections.proofs.Leaving.{kept}
use Rattle.corrections_allow.proofs.insert_allowed.Goals as goal

pub marks_allow-requires : goal.marks_allow-requires
marks_allow-requires c = states_long c.requires.0.starable

pub returns-then-not-marks_allow : goal.returns-then-not-marks_allow
returns-then-not-marks_allow c = (
  λ bytes S. kept _ _ _ _ _ _ _ _ c.requires.1.range (marks_refused S _ _ c.marks_allow.ensures c.if-not-marks_allow.true) (λ z. absurd (omega arith)) (λ n. refl),
  λ z. absurd (omega arith),
)

pub returns : goal.returns
returns c =
    let p = c.requires in
    let G = c.insert_numbered.ensures in (
      λ bytes S.
          let N = G.0 bytes S in
          kept _ _ _ _ _ _ _ _ p.1.range (accepted_leaves S _ _ c.marks_allow.ensures c.if-not-marks_allow.false N.0) (λ z. N.1) (λ n. absurd (n refl)),
      λ z. G.1,
    )

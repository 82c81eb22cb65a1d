use Rattle.std.proofs.Common.{arith, below_more}
use Rattle.cavity.proofs.Gathering.{grew_none, grew_then, inside_stays}
use Rattle.cavity_growth.proofs.visit_all.Goals as goal

pub loop-d-init : goal.loop-d-init
loop-d-init c = record {
  reached = c.requires.1;
  grew = grew_none;
  visited = λ i l. absurd (omega arith);
  denied = c.requires.3;
}

pub visit-g-requires : goal.visit-g-requires
visit-g-requires c =
    let i = c.loop-d.invariant in
    (c.requires.0, i.reached, c.requires.2 c.loop-d.d-index (omega arith), i.denied)

pub loop-d-preserved : goal.loop-d-preserved
loop-d-preserved c =
    let i = c.loop-d.invariant in
    let v = c.visit-g.ensures in
    record {
      reached = v.0;
      grew = grew_then i.grew v.1;
      visited = below_more _ c.loop-d.d-index (λ k h. inside_stays _ _ _ _ (c.requires.2 k (omega arith)) v.1 (i.visited k h)) v.2;
      denied = v.3;
    }

pub returns : goal.returns
returns c =
    let i = c.loop-d.invariant in
    (i.reached, i.grew, (λ k h. i.visited k (omega arith)), i.denied)

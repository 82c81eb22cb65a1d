use Rattle.corrections.proofs.Attempt.{readable, entries<, written}
use Rattle.corrections_star.proofs.insert_numbered.Goals as goal

pub correction_in-correction-requires : goal.correction_in-correction-requires
correction_in-correction-requires c = let p = c.requires in readable p.0.starable _ p.1

pub put_correction-requires : goal.put_correction-requires
put_correction-requires c = let p = c.requires in entries< p.0.starable p.2

pub returns : goal.returns
returns c =
    let G = c.insert_found-insertion.ensures in
    (λ bytes S. (G.0 bytes S, written S _ c.correction_in-correction.ensures c.put_correction.ensures), G.1)

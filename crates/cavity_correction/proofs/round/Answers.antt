use Rattle.std.proofs.Common.{arith}
use Rattle.cavity.proofs.Rounds.{corners_listed, none_exposed_in, inspected_none, inspected}
use Rattle.cavity_correction.proofs.round.Goals as goal

pub hide_corners-requires : goal.hide_corners-requires
hide_corners-requires c =
    let p = c.requires in
    (corners_listed p.0 p.2.list (omega arith), p.4)

pub inspect_all-requires : goal.inspect_all-requires
inspect_all-requires c =
    let p = c.requires in
    (p.0, p.1, p.2.list, inspected_none _ _ _ _ _ _ p.3 (none_exposed_in _ _ _ _ _ c.hide_corners.ensures))

pub returns : goal.returns
returns c =
    let i = c.inspect_all.ensures in
    (c.prune.ensures, i.codes, i.marks, inspected c.requires.0 _ c.requires.2.list i)

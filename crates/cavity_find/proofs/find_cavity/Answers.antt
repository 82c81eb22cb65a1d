use Rattle.std.proofs.Common.{arith}
use Rattle.cavity.proofs.Gathering.{none_denied, denied_unstamped, unstamped_later}
use Rattle.cavity.proofs.Visiting.{scanned_reached}
use Rattle.cavity.proofs.Removal.{found_none, grown_correctable, found_cavity}
use Rattle.cavity_find.proofs.find_cavity.Goals as goal

pub returns-then-base-eq0 : goal.returns-then-base-eq0
returns-then-base-eq0 c =
    let p = c.requires in
    (found_none p.0.mesh _ p.0.position c.find_base-base.ensures _ _ p.4 c.if-base-eq0.true, unstamped_later p.3 (omega arith), p.5)

pub grow-grown-requires : goal.grow-grown-requires
grow-grown-requires c =
    let p = c.requires in
    (p.0, scanned_reached p.0.mesh _ p.0.position c.find_base-base.ensures, none_denied _ _ _ p.3)

pub correct-after-requires : goal.correct-after-requires
correct-after-requires c =
    let p = c.requires in
    let g = c.grow-grown.ensures in
    (p.0.mesh, p.0.position, grown_correctable p.0.mesh _ p.0.position c.find_base-base.ensures c.if-base-eq0.false g.0 g.1, p.4, p.5)

pub returns : goal.returns
returns c =
    let p = c.requires in
    let b = c.find_base-base.ensures in
    let g = c.grow-grown.ensures in
    let r = c.correct-after.ensures in
    (found_cavity p.0.mesh _ p.0.position b c.if-base-eq0.false g.0 g.1 r.0 r.1 r.3 r.4, denied_unstamped g.2 (omega arith), r.2)

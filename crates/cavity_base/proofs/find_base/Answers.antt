use Rattle.std.proofs.Common.{◌≡◌, sym, ap, ◌∙◌, length, arith}
use Rattle.locate.proofs.Codes.{side_codes_length, codes_there, may_hold_first, cell_at, may_not_hold}
use Rattle.mesh.proofs.Reading.{has_corners, solid}
use Rattle.cavity.proofs.Visiting.{scan_start, scan_past, scanned_same, scan_ends}
use Rattle.cavity_base.proofs.find_base.Goals as goal
use Rattle.cavity_base.proofs.find_base.Goals.{then-may_hold, else-may_hold}

pub loop-c-init : goal.loop-c-init
loop-c-init c = scan_start c.requires.0.mesh _ c.requires.0.position _ c.requires.2

pub four_at-requires : goal.four_at-requires
four_at-requires c = has_corners c.requires.0.mesh _ (omega arith)

pub may_hold-requires : goal.may_hold-requires
may_hold-requires c =
    let p = c.requires in
    codes_there _ _ _ _ (solid p.0.mesh) _ (omega arith) c.four_at.ensures c.args.codes.now (ap length p.1 ∙ side_codes_length _ _ _)

pub try_base-g-requires : goal.try_base-g-requires
try_base-g-requires c =
    let p = c.requires in
    let S = solid p.0.mesh in
    let first = may_hold_first _ _ _ _ S _ (omega arith) c.four_at.ensures _ (sym c.may_hold.ensures ∙ c.if-may_hold.true) in
    (p.0, cell_at _ _ _ _ S _ (omega arith) c.four_at.ensures _ _ first, c.loop-c.invariant)

-- an entry that cannot hold the node is passed over
pub loop-c-preserved : goal.loop-c-preserved
loop-c-preserved c =
    let p = c.requires in
    elim c.if-may_hold.branch [
      | then-may_hold w ↦ scanned_same w.state-is w.list-is w.g-is w.try_base-g.ensures
      | else-may_hold w ↦
          scanned_same w.state-is w.list-is w.g-is (scan_past p.0.mesh _ p.0.position c.loop-c.invariant
          (may_not_hold _ _ _ _ (solid p.0.mesh) _ (omega arith) c.four_at.ensures _ _ p.1 _ (sym c.may_hold.ensures ∙ w.if-may_hold.false)))
    ]

pub returns : goal.returns
returns c =
    let l = c.loop-c in
    let e : l.c ≡ c.args.node.used = omega arith in
    scan_ends e l.invariant

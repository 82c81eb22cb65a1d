use Rattle.std.proofs.Common.{◌≡◌, ◌≢◌, true, [], length, get_or, sym, ap, ◌∙◌, arith}
use Rattle.mesh.specs.Tables.{none, tables}
use Rattle.locate.proofs.Codes.{codes_there, may_hold_first, cell_at, cornered_at}
use Rattle.segment.specs.Call.{touches}
use Rattle.segment.specs.Inner.{touches_four}
use Rattle.segment.proofs.Codes.{line_length, range_length, line_out, range_out}
use Rattle.segment.proofs.Volumes.{touches_is}
use Rattle.segment.proofs.Answers.{listing_none, listing_count, listing_more, listing_as, listing_same, listing_ends}
use Rattle.segment_call.proofs.list_cells.Goals as goal
use Rattle.segment_call.proofs.list_cells.Goals.{then-may_hold+then-may_hold-2+then-cell_touches, else-may_hold, else-may_hold-via-then-may_hold+then-may_hold-2+else-cell_touches, else-may_hold-via-then-may_hold+else-may_hold-2, else-may_hold-via-else-may_hold}

pub loop-c-init : goal.loop-c-init
loop-c-init c = listing_none _ _ _ _

pub may_hold-requires : goal.may_hold-requires
may_hold-requires c =
    codes_there _ _ _ _ c.requires.0 _ (omega arith) c.four_at-k.ensures c.line_codes-line.result (ap length c.line_codes-line.ensures ∙ line_length _ _ _ _)

pub may_hold-requires-then-may_hold : goal.may_hold-requires-then-may_hold
may_hold-requires-then-may_hold c =
    codes_there _ _ _ _ c.requires.0 _ (omega arith) c.four_at-k.ensures c.range_codes-range.result (ap length c.range_codes-range.ensures ∙ range_length _ _ _ _)

pub cell_touches-requires : goal.cell_touches-requires
cell_touches-requires c =
    let d : get_or c.four_at-k.result 0 0 ≢ none = may_hold_first _ _ _ _ c.requires.0 _ (omega arith) c.four_at-k.ensures _ (sym c.may_hold.ensures ∙ c.if-may_hold.true) in
    (cornered_at _ _ _ _ c.requires.0 _ (omega arith) c.four_at-k.ensures d, c.requires.1, c.requires.2)

pub offset_bounds-found-count : goal.offset_bounds-found-count
offset_bounds-found-count c = record { fits = omega (arith, listing_count _ _ _ _ c.loop-c.invariant, c.requires.0.celled.cells_few) }

pub bounds-found-count : goal.bounds-found-count
bounds-found-count c = omega (arith, listing_count _ _ _ _ c.loop-c.invariant, c.requires.3)

pub overflow_add-count : goal.overflow_add-count
overflow_add-count c = record { fits = omega (arith, listing_count _ _ _ _ c.loop-c.invariant, c.requires.0.celled.cells_few) }

pub loop-c-preserved : goal.loop-c-preserved
loop-c-preserved c =
    let a = c.args in
    let S = c.requires.0 in
    let h = c.loop-c-test.true in
    let e = c.four_at-k.ensures in
    let L = c.loop-c.invariant in
    let is : c.may_hold.result ≡ true → touches_four a.points.now c.four_at-k.result a.a a.b ≡ touches (tables a.points.now a.corners.now []) a.a a.b c.loop-c.c =
    λ m. touches_is _ _ [] _ _ _ (cell_at _ _ _ _ S _ h e _ [] (may_hold_first _ _ _ _ S _ h e _ (sym c.may_hold.ensures ∙ m))).lives e in
    elim c.if-may_hold.branch [
      | then-may_hold+then-may_hold-2+then-cell_touches w ↦
          listing_as _ _ _ _ (listing_more _ _ _ _ L (sym (w.cell_touches.ensures ∙ is w.if-may_hold.true) ∙ w.if-cell_touches.true) (omega (arith, c.requires.3))) w.count-is w.found-is
      | else-may_hold w ↦
          listing_as _ _ _ _ (listing_same _ _ _ _ L (elim w.else-may_hold.branch [
            | else-may_hold-via-then-may_hold+then-may_hold-2+else-cell_touches w' ↦ sym (w'.cell_touches.ensures ∙ is w'.if-may_hold.true) ∙ w'.if-cell_touches.false
            | else-may_hold-via-then-may_hold+else-may_hold-2 w' ↦
                range_out _ _ [] _ _ S _ h a.a a.b e c.range_codes-range.ensures (sym w'.may_hold-then-may_hold.ensures ∙ w'.if-may_hold-2.false)
            | else-may_hold-via-else-may_hold w' ↦ line_out _ _ [] _ _ S _ h a.a a.b e c.line_codes-line.ensures (sym c.may_hold.ensures ∙ w'.if-may_hold.false)
          ])) w.count-is w.found-is
    ]

pub returns : goal.returns
returns c = listing_ends _ _ _ _ c.loop-c.invariant (omega arith)

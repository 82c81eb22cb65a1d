use Rattle.std.proofs.Common.{◌≢◌, ◌≡◌, ◌+◌, true, [], Some, option_map, rules, length, get_or, ap, sym, subst, ◌∙◌, arith}
use Rattle.mesh.specs.Tables.{none, tables}
use Rattle.locate.specs.Locate.{holds}
use Rattle.locate.specs.Inner.{holds_four}
use Rattle.locate.proofs.Codes.{side_codes_length, codes_there, may_hold_first, cell_at, cornered_at, may_not_hold, holds_is}
use Rattle.locate_first.proofs.Candidates.{FirstAfter, first_none, first_more, first_earlier, first_is}
use Rattle.locate_first.proofs.first_holder.Goals as goal
use Rattle.locate_first.proofs.first_holder.Goals.{then-may_hold+then-cell_holds, else-may_hold, else-may_hold-via-then-may_hold+else-cell_holds, else-may_hold-via-else-may_hold}

pub loop-c-init : goal.loop-c-init
loop-c-init c = first_none _ _ _

pub may_hold-requires : goal.may_hold-requires
may_hold-requires c =
    codes_there _ _ _ _ c.requires.0 _ (omega arith) c.four_at-k.ensures c.side_codes-codes.result (ap length c.side_codes-codes.ensures ∙ side_codes_length _ _ _)

pub cell_holds-requires : goal.cell_holds-requires
cell_holds-requires c =
    let d : get_or c.four_at-k.result 0 0 ≢ none = may_hold_first _ _ _ _ c.requires.0 _ (omega arith) c.four_at-k.ensures _ (sym c.may_hold.ensures ∙ c.if-may_hold.true) in
    (cornered_at _ _ _ _ c.requires.0 _ (omega arith) c.four_at-k.ensures d, c.requires.1)

pub loop-c-preserved : goal.loop-c-preserved
loop-c-preserved c =
    let t = tables c.args.points.now c.args.corners.now [] in
    let S = c.requires.0 in
    let h = c.loop-c-test.true in
    let e = c.four_at-k.ensures in
    let is : c.may_hold.result ≡ true → holds_four c.args.points.now c.four_at-k.result c.args.q ≡ holds t c.args.q c.loop-c.c =
    λ m. holds_is _ _ [] _ _ (cell_at _ _ _ _ S _ h e _ [] (may_hold_first _ _ _ _ S _ h e _ (sym c.may_hold.ensures ∙ m))).lives e in
    elim c.if-may_hold.branch [
      | then-may_hold+then-cell_holds w ↦
          subst (FirstAfter t c.args.q c.args.n (c.loop-c.c + 1)) (sym (w.first-is ∙ ap Some w.earlier.ensures))
          (first_earlier _ _ _ _ S _ h e _ _ c.loop-c.invariant (sym (w.cell_holds.ensures ∙ is w.if-may_hold.true) ∙ w.if-cell_holds.true))
      | else-may_hold w ↦
          elim w.else-may_hold.branch [
            | else-may_hold-via-then-may_hold+else-cell_holds w' ↦
                subst (FirstAfter t c.args.q c.args.n (c.loop-c.c + 1)) (sym w.first-is) (first_more _ _ _ c.loop-c.invariant (sym (w'.cell_holds.ensures ∙ is w'.if-may_hold.true) ∙ w'.if-cell_holds.false))
            | else-may_hold-via-else-may_hold w' ↦
                subst (FirstAfter t c.args.q c.args.n (c.loop-c.c + 1)) (sym w.first-is) (first_more _ _ _ c.loop-c.invariant
                (may_not_hold _ _ _ _ S _ h e _ _ c.side_codes-codes.ensures [] (sym c.may_hold.ensures ∙ w'.if-may_hold.false)))
          ]
    ]

pub returns-clause-first : goal.returns-clause-first
returns-clause-first c =
    let e : c.map.result ≡ option_map (λ b. b.cell) c.loop-c.first = search rules in
    rw e (first_is _ _ _ c.loop-c.first c.loop-c.invariant (omega arith))

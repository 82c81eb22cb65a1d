use Rattle.std.proofs.Common.{◌≡◌, ◌+◌, ◌-◌, true, sym, ap, ap₂, ◌∙◌, subst, arith}
use Rattle.std.proofs.lemmas.Bool.{not_from_false, not_from_true}
use Rattle.arith.proofs.Flags.{test_failed, test_passed}
use Rattle.mesh.specs.Tables.{corner, across, mate}
use Rattle.cavity.specs.Cavity.{in_set}
use Rattle.cavity.specs.Inner.{inside, set_of}
use Rattle.star.specs.Turn.{turn}
use Rattle.star.specs.Inner.{state_of}
use Rattle.star.proofs.Cross.{Valid}
use Rattle.star.proofs.Around.{standing_few, has_corners, has_neighbours, set_below, behind<, behind_below, crossed, crossed_valid, turn_on, turn_stays, turn_none}
use Rattle.star_turn.proofs.turn.Goals as goal

pub loop-init : goal.loop-init
loop-init c =
    let p = c.requires in
    (record { held = p.1; entry< = p.2; exit< = p.3; apart = p.4 }, λ b. ap (λ m. turn (corner b.was) (across b.was) (mate b.was) (in_set (set_of c.args.n c.args.state.now)) m (state_of c.args.from)) (omega arith))

pub behind-u-requires : goal.behind-u-requires
behind-u-requires c =
    let v = c.loop.invariant.0 in
    (has_neighbours c.requires.0 _ (set_below _ _ _ v.held), v.exit<)

pub is_inside-requires : goal.is_inside-requires
is_inside-requires c =
    let b = c.requires.0 in
    (b.states, λ d. omega (arith, standing_few b, behind< b _ c.loop.invariant.0 _ c.behind-u.ensures d))

pub returns-then-not-is_inside : goal.returns-then-not-is_inside
returns-then-not-is_inside c b =
    let l = c.loop in
    sym (turn_stays b _ l.invariant.0 _ c.behind-u.ensures (test_failed c.is_inside.ensures (not_from_false _ c.if-not-is_inside.true)) (c.args.n - l.counter)) ∙ l.invariant.1 b

-- the cell behind, entered as a number of the cavity
entered : (c : goal.After-from) → inside c.args.state.now c.from.result ≡ true
entered c = ap (inside c.args.state.now) c.from.ensures ∙ test_passed c.is_inside.ensures (not_from_true _ c.if-not-is_inside.false)

pub cross-at-requires : goal.cross-at-requires
cross-at-requires c =
    let b = c.requires.0 in
    let v = c.loop.invariant.0 in
    let u< = behind_below b _ v _ (c.from.ensures ∙ c.behind-u.ensures) (entered c) in
    (has_corners b _ u<, has_neighbours b _ u<, has_corners b _ (set_below _ _ _ v.held), v.entry<)

pub loop-preserved : goal.loop-preserved
loop-preserved c =
    let l = c.loop in
    let n = c.args.n in
    let u = c.from.result in
    let e = c.from.ensures ∙ c.behind-u.ensures in
    let i = ap (inside c.args.state.now) c.from.ensures ∙ test_passed c.is_inside.ensures (not_from_true _ c.if-not-is_inside.false) in
    let less : n - (l.counter + 1) ≡ n - l.counter - 1 = omega arith in (
      subst (Valid _) (sym (c.cross-at.ensures ∙ crossed c.requires.0 _ l.invariant.0 u e i)) (crossed_valid c.requires.0 _ l.invariant.0 u e i),
      λ b. ap₂ (turn _ _ _ _) less (c.cross-at.ensures ∙ crossed b _ l.invariant.0 u e i) ∙ (sym (turn_on b _ l.invariant.0 u e i (n - l.counter) (omega arith)) ∙ l.invariant.1 b),
    )

pub returns : goal.returns
returns c b = let l = c.loop in sym (turn_none _ _ _ _ (c.args.n - l.counter) _ (omega arith)) ∙ l.invariant.1 b

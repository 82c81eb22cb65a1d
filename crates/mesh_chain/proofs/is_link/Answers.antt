use Rattle.std.proofs.Common.{[], ◌∷◌, ◌≡◌, ℕ, ◌+◌, ◌*◌, Bool, true, false, ◌&&◌, List, get_or, take, drop, eqb, refl, sym, ap, ◌∙◌, arith}
use lib.Pointwise.{pointwise}
use Rattle.arith.specs.Table.{all_below}
use Rattle.arith.proofs.Tables.{any_default}
use Rattle.mesh.specs.Tables.{none, across, tables}
use Rattle.mesh.specs.Chain.{freed_entry}
use Rattle.mesh.specs.Inner.{four_at, HasCell}
use Rattle.mesh.specs.Inner.Cells.{four_freed}
use Rattle.mesh.proofs.Live.{four_freed_lem}
use Rattle.mesh_chain.proofs.is_link.Goals as goal

reversed : (a b c : Bool) → (a && (b && (c && true))) ≡ (c && (b && (a && true)))
reversed true true c = refl
reversed true false true = refl
reversed true false false = refl
reversed false true true = refl
reversed false true false = refl
reversed false false true = refl
reversed false false false = refl

-- the neighbour entries after the first, as they are compared
bare : (cs ns : List ℕ) (c : ℕ) → HasCell c ns →
    pointwise eqb (take 3 (drop 1 (four_at ns c))) (none ∷ none ∷ none ∷ []) ≡ all_below 3 (λ i. eqb (across (tables [] cs ns) (4 * c + (i + 1))) none)
unfolding four_at all_below across
bare cs ns c h =
    rw (
      any_default ns (4 * c + 1) 0 none (omega (arith, h.fits)),
      any_default ns (4 * c + 2) 0 none (omega (arith, h.fits)),
      any_default ns (4 * c + 3) 0 none (omega (arith, h.fits)),
    ) (reversed (eqb (get_or ns (4 * c + 1) none) none) (eqb (get_or ns (4 * c + 2) none) none) (eqb (get_or ns (4 * c + 3) none) none))

pub returns-then-is_freed : goal.returns-then-is_freed
unfolding freed_entry
returns-then-is_freed c =
    let a = c.args in
    let freed = c.is_freed.ensures ∙ (ap four_freed c.four_at.ensures ∙ four_freed_lem (tables [] a.corners.now a.neighbours.now) a.c) in
    rw (sym freed ∙ c.if-is_freed.true) (rw c.four_at-then-is_freed.ensures at c.eq.ensures ∙ bare _ _ _ c.requires.1)

pub returns-else-is_freed : goal.returns-else-is_freed
unfolding freed_entry
returns-else-is_freed c =
    let a = c.args in
    let freed = c.is_freed.ensures ∙ (ap four_freed c.four_at.ensures ∙ four_freed_lem (tables [] a.corners.now a.neighbours.now) a.c) in
    rw (sym freed ∙ c.if-is_freed.false) c.if-is_freed.false

use Rattle.std.proofs.Common.{◌+◌, ◌*◌, ◌<◌, set, sym, ap, ◌∙◌, subst, arith}
use borrow.Author.Tests.{eq-eqb, ne_eqb}
use Rattle.mesh.specs.Tables.{none, place_of}
use Rattle.star.specs.Inner.{entry_at, name_back}
use Rattle.star.proofs.Around.{place<}
use Rattle.star_cells.proofs.name_back.Goals as goal

small : (c : goal.After-place_of) → c.place_of.result < 4
small c = subst (λ k. k < 4) (sym c.place_of.ensures) (place< _ _ _)

pub overflow_add-at : goal.overflow_add-at
overflow_add-at c = record { fits = omega (arith, small c) }

pub offset_bounds-neighbours-at : goal.offset_bounds-neighbours-at
offset_bounds-neighbours-at c = record { fits = omega (arith, small c) }

pub bounds-neighbours-at : goal.bounds-neighbours-at
bounds-neighbours-at c = omega (arith, small c, c.requires.0 c.if-u-ne-NONE.true)

pub returns-then-u-ne-NONE : goal.returns-then-u-ne-NONE
unfolding name_back
returns-then-u-ne-NONE c =
    let a = c.args in
    rw (ne_eqb _ none c.if-u-ne-NONE.true)
    (ap (λ k. set a.neighbours.now (4 * c.from-far.result + k) a.slot) c.place_of.ensures ∙
    ap (λ u. set a.neighbours.now (4 * u + place_of (entry_at a.neighbours.now) u a.c) a.slot) c.from-far.ensures)

pub returns-else-u-ne-NONE : goal.returns-else-u-ne-NONE
unfolding name_back
returns-else-u-ne-NONE c = rw (eq-eqb _ none c.if-u-ne-NONE.false)

use Rattle.std.proofs.Common.{◌≡◌, ℕ, List, [], false, refl, sym, ap, ◌∙◌, arith}
use Rattle.refusal.specs.declared.Refusal.TheVariants.{Unheld}
use Rattle.refusal.proofs.Numbers.{handed-on, number-positive}
use Rattle.geometry.specs.declared.Position.{Position}
use Rattle.mesh.specs.declared.Mesh.{Mesh}
use Rattle.mesh.specs.Tables.{Tables, corner, corner_at, side, freed, live, tables}
use Rattle.mesh.specs.Refusal.{mesh_refusal}
use Rattle.mesh.proofs.Valid.{solid, in_range_lem, passed}
use Rattle.locate.specs.Locate.{holds, sorted_corners, earlier_holder, first_holder}
use Rattle.locate.proofs.Finding.{refused, outside, unheld, found}
use Rattle.locate_call.proofs.locate.Goals as goal

-- the work area is cleared before the mesh is tested
refusal_is : {r : ℕ} (m : Mesh) (t : Tables) {v w : ℕ} → r ≡ mesh_refusal m t v false → v ≡ w → r ≡ mesh_refusal m t w false
refusal_is m t h e = h ∙ ap (λ w. mesh_refusal m t w false) e

-- a cell is held by its corners alone
with_neighbours : (ps cs ns : List ℕ) (n : ℕ) (q : Position) → first_holder (tables ps cs []) n q ≡ first_holder (tables ps cs ns) n q
unfolding first_holder earlier_holder holds sorted_corners live freed side corner_at corner
with_neighbours ps cs ns n q = refl

pub returns-in_err-test_mesh : goal.returns-in_err-test_mesh
returns-in_err-test_mesh c = (
  rw (handed-on _ c.from_residual.ensures.1)
      (refused _ _ _ _ (refusal_is _ _ c.in_err-test_mesh.ensures c.clear.auto.s) (λ z. absurd (omega (arith, number-positive c.in_err-test_mesh.field-0.0, z)))),
  c.clear.ensures,
)

pub returns-then-not-in_box : goal.returns-then-not-in_box
returns-then-not-in_box c =
    (outside _ _ _ _ (sym (refusal_is _ _ c.in_ok-test_mesh.ensures c.clear.auto.s)) (sym c.in_box.ensures ∙ c.if-not-in_box.true), c.clear.ensures)

pub first_holder-first-requires : goal.first_holder-first-requires
first_holder-first-requires c =
    let p = passed _ _ _ false (sym (refusal_is _ _ c.in_ok-test_mesh.ensures c.clear.auto.s)) in
    (solid _ _ _ _ _ p, in_range_lem _ _ _ p (sym c.in_box.ensures ∙ c.if-not-in_box.false))

pub returns-in_err-cell : goal.returns-in_err-cell
returns-in_err-cell c =
    let o = c.in_err-cell.ensures in
    let first = rw o.ok_part at c.first_holder-first.ensures.first in
    let value = rw o.ok_part at o.value in
    let e : c.in_err-cell.field-0.0 ≡ Unheld = cc in (
      rw (handed-on _ c.from_residual-in_err-cell.ensures.1, e)
          (unheld _ _ _ _ (sym (refusal_is _ _ c.in_ok-test_mesh.ensures c.clear.auto.s)) (sym c.in_box.ensures ∙ c.if-not-in_box.false)
          (first ∙ with_neighbours _ _ c.args.neighbours.now _ _) refl),
      c.clear.ensures,
    )

pub returns : goal.returns
returns c =
    let o = c.in_ok-cell.ensures in
    let first = rw o.ok_part at c.first_holder-first.ensures.first in
    let below = rw o.ok_part at c.first_holder-first.ensures.below in (
      found _ _ _ _ (sym (refusal_is _ _ c.in_ok-test_mesh.ensures c.clear.auto.s)) (sym c.in_box.ensures ∙ c.if-not-in_box.false)
          (first ∙ with_neighbours _ _ c.args.neighbours.now _ _) (λ e. absurd (omega (arith, e, below))),
      c.clear.ensures,
    )

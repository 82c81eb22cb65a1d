use Rattle.std.proofs.Common.{refl, sym, ◌∙◌, arith}
use Rattle.star.specs.Inner.{starred, passed_by}
use Rattle.star.proofs.Around.{set_below, standing_few}
use Rattle.star.proofs.Slots.{facing, has_number, number_none, number_some, number_set, slot_corners, slot_neighbours, far_has, face_starred}
use Rattle.star_cells.proofs.star_face.Goals as goal

pub new_number-slot-requires : goal.new_number-slot-requires
new_number-slot-requires c = let p = c.requires in has_number p.0 _ _ p.1 p.2

pub new_cell-cell-requires : goal.new_cell-cell-requires
new_cell-cell-requires c =
    let p = c.requires in
    (p.0, number_some p.0 _ _ p.1 p.2 (λ e. c.if-slot.true (c.new_number-slot.ensures ∙ e)), p.3)

pub put_cell-requires : goal.put_cell-requires
put_cell-requires c =
    let p = c.requires in
    let b = p.0 in
    let F = number_some b _ _ p.1 p.2 (λ e. c.if-slot.true (c.new_number-slot.ensures ∙ e)) in
    let e = c.from.ensures ∙ (c.new_number-slot.ensures ∙ number_set b _ _ p.1 p.2 F.marks) in (
      slot_corners b _ _ F _ e,
      slot_neighbours b _ _ F _ e,
      omega (arith, set_below _ _ _ p.1, standing_few b.standing),
      p.2,
      far_has b _ _ F _ _ (c.new_cell-cell.ensures b),
    )

pub returns-then-slot : goal.returns-then-slot
returns-then-slot c b =
    let p = c.requires in
    let F = number_some b _ _ p.1 p.2 (λ e. c.if-slot.true (c.new_number-slot.ensures ∙ e)) in
    let e = c.from.ensures ∙ (c.new_number-slot.ensures ∙ number_set b _ _ p.1 p.2 F.marks) in
    let q = c.put_cell.ensures in
    starred (facing b _ _ F) (face_starred b _ _ F _ _ (c.new_cell-cell.ensures b) _ e q.0 q.1)

pub returns-else-slot : goal.returns-else-slot
returns-else-slot c b =
    let p = c.requires in
    passed_by (number_none b _ _ p.1 p.2 (sym c.new_number-slot.ensures ∙ c.if-slot.false)) refl refl

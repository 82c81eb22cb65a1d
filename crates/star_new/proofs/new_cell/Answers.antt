use Rattle.std.proofs.Common.{get_or, set, ap, ◌∙◌}
use Rattle.star.proofs.Around.{has_corners, set_below}
use Rattle.star.proofs.Slots.{new_corner}
use Rattle.star_new.proofs.new_cell.Goals as goal

pub four_at-replaced-requires : goal.four_at-replaced-requires
four_at-replaced-requires c =
    let p = c.requires in
    has_corners p.0.standing _ (set_below _ _ _ p.1.held)

pub returns : goal.returns
returns c b =
    let a = c.args in
    let p = c.requires in
    record {
      corners_are = λ j j<.
          ap (λ l. get_or (set l a.k a.np) j 0) c.four_at-replaced.ensures ∙ new_corner b a.np a.c a.k j p.1.held p.1.place< j<;
      neighbours_are = c.new_neighbours.ensures b;
    }

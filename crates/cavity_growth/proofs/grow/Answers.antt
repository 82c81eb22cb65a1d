use Rattle.std.proofs.Common.{arith}
use Rattle.mesh.proofs.Reading.{cells_few, has_neighbours}
use Rattle.cavity.proofs.Gathering.{size≤}
use Rattle.cavity.proofs.Visiting.{four_neighbours, closed_more, grown_cavity}
use Rattle.cavity_growth.proofs.grow.Goals as goal

pub loop-h-init : goal.loop-h-init
loop-h-init c = record {
  in_list = omega arith;
  reached = c.requires.1;
  visited = λ k l. absurd (omega arith);
  denied = c.requires.2;
}

pub offset_bounds-list-h : goal.offset_bounds-list-h
offset_bounds-list-h c =
    let L = c.loop-h.invariant.reached.growing.list in
    omega (arith, size≤ L, cells_few c.requires.0.mesh)

pub bounds-list-h : goal.bounds-list-h
bounds-list-h c =
    let L = c.loop-h.invariant.reached.growing.list in
    omega (arith, size≤ L, cells_few c.requires.0.mesh, L.entries)

pub four_at-requires : goal.four_at-requires
four_at-requires c =
    rw c.from-c.ensures (has_neighbours c.requires.0.mesh _ (c.loop-h.invariant.reached.growing.list.below c.loop-h.h (omega arith)))

pub visit_all-g-requires : goal.visit_all-g-requires
visit_all-g-requires c =
    let i = c.loop-h.invariant in
    (c.requires.0, i.reached, four_neighbours c.requires.0.mesh _ c.requires.0.position i.reached c.loop-h.h (omega arith) (rw c.from-c.ensures at c.four_at.ensures), i.denied)

pub loop-h-smaller : goal.loop-h-smaller
loop-h-smaller c = omega (arith, size≤ c.loop-h.invariant.reached.growing.list)

pub loop-h-preserved : goal.loop-h-preserved
loop-h-preserved c =
    let i = c.loop-h.invariant in
    let v = c.visit_all-g.ensures in
    record {
      in_list = omega (arith, v.1.size≤);
      reached = v.0;
      visited = closed_more c.requires.0.mesh _ c.requires.0.position i.reached c.loop-h.h (omega arith) (rw c.from-c.ensures at c.four_at.ensures) v.1 i.visited v.2;
      denied = v.3;
    }

pub returns : goal.returns
returns c =
    let i = c.loop-h.invariant in
    (i.reached, grown_cavity c.requires.0.mesh _ c.requires.0.position i.reached (λ k j h l. i.visited k (omega arith) j l), i.denied)

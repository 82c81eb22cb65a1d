use Rattle.std.proofs.Common.{ℕ, Bool, ◌&&◌, ◌-◌, ◌≡◌, ◌≢◌, ◌≤◌, ◌<◌, List, [], true, false, eqb, length, get_or, take, pos, refl, sym, ap, ◌∙◌, subst, arith}
use Rattle.std.proofs.lemmas.Bool.{eqb-true, eqb-false}
use Rattle.std.proofs.lemmas.List.{length-take-le, get_or-take}
use Rattle.std.proofs.lemmas.Bool.Decides.{nat_tests}
use lib.IntN.{+ℤ_idl}
use Rattle.arith.proofs.Tables.{all_cong}
use Rattle.arith.specs.Table.{fill, tabulate, any_below, all_below, count_below, sum}
use Rattle.mesh.specs.declared.Mesh.{Mesh}
use Rattle.mesh.specs.Tables.{Tables, cell_volume, freed, tables}
use Rattle.mesh.specs.Check.{used_ok, cell_ok}
use Rattle.mesh.specs.Inner.{four_at}
use Rattle.mesh.specs.Inner.Cells.{four_freed, marks, cells_pass, all_marked, volume_or_zero}
use Rattle.mesh.proofs.Live.{four_freed_lem}
use Rattle.mesh.proofs.Numbers.{four_corner}
use Rattle.mesh.proofs.Tally.{Tallied, cell_fails, cell_passes, corners_few, marks_length, freed_more, cell_more, entry_fails, over_fails, rest_fails, count_fails, all_fits}
use Rattle.mesh_cells.proofs.cells_pass.Goals as goal
use Rattle.mesh_cells.proofs.cells_pass.Goals.{in-Some, in-None}

module _ (ps cs : List ℕ) where
  abbrev t : Tables
  t = tables ps cs []

  -- an entry with a volume is a cell
  passed : (np c v : ℕ) {k : List ℕ} → k ≡ four_at cs c → (v ≢ 0) × (v ≡ volume_or_zero ps np k) → (cell_ok t np c ≡ true) × (cell_volume t c ≡ pos v)
  passed np c v e h = cell_passes ps cs np c v (h.1 ∙ ap (volume_or_zero ps np) e) h.0

  -- and its corners have marks
  few : (m : Mesh) {c left gone : ℕ} {marked k : List ℕ} → Tallied m t c left gone marked → k ≡ four_at cs c → m.points ≤ 1024 → cell_ok t m.points c ≡ true →
      (i : ℕ) → i < 4 → get_or k i 0 < length marked
  few m {c} {left} {gone} {marked} {k} T e h ok i l =
      subst (λ n. get_or k i 0 < n) (sym (ap length T.marks_are ∙ marks_length ps cs c))
      (subst (λ n. n < 1024) (sym (ap (λ k. get_or k i 0) e ∙ four_corner t c i l)) (corners_few ps cs m.points h c ok i l))

  entry_freed : (c : ℕ) {k : List ℕ} → k ≡ four_at cs c → four_freed k ≡ freed t c
  entry_freed c e = ap four_freed e ∙ four_freed_lem t c

pub loop-c-init : goal.loop-c-init
unfolding all_below sum count_below marks used_ok any_below tabulate fill
loop-c-init c = record {
  few = omega arith;
  tallied = record { each = refl; volumes = +ℤ_idl _ ∙ ap pos c.box_volume-left.ensures; counted = refl; marks_are = refl };
}

pub mark-requires : goal.mark-requires
mark-requires c =
    let a = c.args in
    let l = c.loop-c in
    let f = few a.points.now a.corners.now a.mesh l.invariant.tallied c.four_at-k.ensures c.requires.3.points_few (passed a.points.now a.corners.now a.mesh.points l.c c.in-Some.v c.four_at-k.ensures c.in-Some.ensures).0 in
    (f 0 (omega arith), f 1 (omega arith), f 2 (omega arith), f 3 (omega arith))

pub returns-in_default : goal.returns-in_default
returns-in_default c =
    let a = c.args in
    let l = c.loop-c in
    sym (over_fails a.points.now a.corners.now a.mesh l.invariant.tallied c.loop-c-test.true (passed a.points.now a.corners.now a.mesh.points l.c c.in-Some.v c.four_at-k.ensures c.in-Some.ensures).1 c.if-v-left.false)

pub returns-in_default-2 : goal.returns-in_default-2
returns-in_default-2 c =
    let a = c.args in
    let l = c.loop-c in
    sym (entry_fails a.points.now a.corners.now a.mesh l.c c.loop-c-test.true
    (sym (c.is_freed.ensures ∙ entry_freed a.points.now a.corners.now l.c c.four_at-k.ensures) ∙ c.if-is_freed.false)
    (cell_fails a.points.now a.corners.now a.mesh.points l.c _ refl (sym (ap (volume_or_zero a.points.now a.mesh.points) c.four_at-k.ensures) ∙ c.in-None.ensures)))

pub loop-c-preserved : goal.loop-c-preserved
loop-c-preserved c =
    let a = c.args in
    let l = c.loop-c in
    let T = l.invariant.tallied in
    elim c.match-positive_volume.branch [
      | in-Some w ↦
          let p = passed a.points.now a.corners.now a.mesh.points l.c w.in-Some.v c.four_at-k.ensures w.in-Some.ensures in
          record {
            few = omega (arith, l.invariant.few, w.freed-is);
            tallied = rw (w.left-is, w.freed-is, w.marked-is, w.mark.ensures, c.four_at-k.ensures)
                (cell_more a.points.now a.corners.now a.mesh c.requires.3.points_few T p.0 p.1 w.if-v-left.true);
          }
      | in-None w ↦
          record {
            few = omega (arith, l.invariant.few, w.freed-is);
            tallied = rw (w.left-is, w.freed-is, w.marked-is)
                (freed_more a.points.now a.corners.now a.mesh T (sym (w.is_freed.ensures ∙ entry_freed a.points.now a.corners.now l.c c.four_at-k.ensures) ∙ w.if-is_freed.true));
          }
    ]

-- ---- after the last entry

done : (m : Mesh) (ps cs : List ℕ) {c left gone : ℕ} {marked : List ℕ} → Tallied m (tables ps cs []) c left gone marked → c ≡ m.used →
    Tallied m (tables ps cs []) m.used left gone marked
done m ps cs {c} {left} {gone} {marked} T e = subst (λ k. Tallied m (tables ps cs []) k left gone marked) e T

-- the marks that the last test reads
taken : (marked : List ℕ) (n : ℕ) → n ≤ length marked → all_marked (take n marked) (length (take n marked)) ≡ all_marked marked n
taken marked n h =
    rw (length-take-le n marked h)
    (all_cong n (λ v. eqb (get_or (take n marked) v 0) 1) (λ v. eqb (get_or marked v 0) 1) (λ v l. ap (λ k. eqb k 1) (get_or-take n marked v 0 l)))

-- what is tested at the end
end : (m : Mesh) (ps cs : List ℕ) {c left gone : ℕ} {marked : List ℕ} → Tallied m (tables ps cs []) c left gone marked → c ≡ m.used → m.points ≤ 1024 →
    cells_pass m (tables ps cs []) ≡ (eqb left 0 && (eqb (m.used - gone) m.cells && all_marked (take m.points marked) (length (take m.points marked))))
end m ps cs {c} {left} {gone} {marked} T e small = go (eqb left 0) (eqb (m.used - gone) m.cells) refl refl
  where
    D : Tallied m (tables ps cs []) m.used left gone marked
    D = done m ps cs T e

    long : length marked ≡ 1024
    long = ap length D.marks_are ∙ marks_length ps cs m.used

    go : (a b : Bool) → eqb left 0 ≡ a → eqb (m.used - gone) m.cells ≡ b → cells_pass m (tables ps cs []) ≡ (a && (b && all_marked (take m.points marked) (length (take m.points marked))))
    go true true f g = sym (all_fits ps cs m D small (eqb-true left 0 f) (eqb-true (m.used - gone) m.cells g)) ∙ sym (taken marked m.points (omega (arith, long)))
    go true false f g = count_fails ps cs m D (eqb-false (m.used - gone) m.cells g)
    go false b f g = rest_fails ps cs m D (eqb-false left 0 f)

pub returns-then-mesh-freed : goal.returns-then-mesh-freed
returns-then-mesh-freed c =
    let a = c.args in
    let e = end a.mesh a.points.now a.corners.now c.loop-c.invariant.tallied (omega arith) c.requires.3.points_few in
    grind (arith, nat_tests)

pub returns-else-mesh-freed : goal.returns-else-mesh-freed
returns-else-mesh-freed c =
    let a = c.args in
    let e = end a.mesh a.points.now a.corners.now c.loop-c.invariant.tallied (omega arith) c.requires.3.points_few in
    grind (arith, nat_tests)

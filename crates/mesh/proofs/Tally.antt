-- One pass over the entries in use: volumes that add up, marks of the points that are corners, and how many entries are freed.
use Prim.Native.Nat.{ℕ, suc, ◌+◌, ◌*◌, ◌-◌, ◌≤◌, ◌<◌}
use mathlib.Core.Bool.{Bool, true, false, not, cond, and-true, ◌||◌}
use mathlib.Core.List.{List, []}
use mathlib.Core.Logic.{◌≢◌, ◌⊎◌, inl, inr}
use mathlib.Core.Path.{◌≡◌, refl, sym, ap, ◌∙◌, subst}
use native.Mathlib.Nat.{add-zero, sub-zero}
use native.Mathlib.Numerals.{add-one}
use native.Mathlib.Omega.{arith}
use borrow.Author.Tests.{eqb-true, eq-eqb, ne_eqb, ltb-true, not-true}
use lib.Dec.{ltb, eqb}
use lib.ListN.{length, get_or, set}
use lib.IntN.{ℤ, pos, negsuc, nat_abs, ◌+ℤ◌, +ℤ_idr}
use lib.Signed.{◌≤ℤ◌, ◌<ℤ◌}
use Rattle.arith.specs.Table.{tabulate, all_below, any_below, count_below, sum}
use Rattle.arith.proofs.Flags.{split, fails, and_left, and_right, and_intro, or_cases, or_left, or_right}
use Rattle.arith.proofs.Order.{arithℤ, parts_add, lt_z_true, ≡→≤, <→≤, <-irrefl, le_le_z}
use Rattle.arith.proofs.Sums.{sum_more, sum_rises}
use Rattle.arith.proofs.Counting.{count_yes, count_no}
use Rattle.arith.proofs.Tables.{tabulate_at, tabulate_length, tabulate_cong, set_tabulate, all_at, all_fails, all_more, all_cong}
use Rattle.mesh.specs.declared.Mesh.{Mesh}
use Rattle.mesh.specs.Tables.{Tables, corner, cell_volume, freed, live, tables}
use Rattle.mesh.specs.Check.{same_z, used_ok, cell_ok}
use Rattle.mesh.specs.Inner.{four_at}
use Rattle.mesh.specs.Inner.Cells.{numbers_below, four_ok, volume_or_zero, marks, with_marks, all_marked, entry_ok, cells_pass}
use Rattle.mesh.proofs.Live.{live_of, freed_corner, freed_volume}
use Rattle.mesh.proofs.Numbers.{four_corner, four_volume}
use Rattle.mesh.proofs.Checked.{same_is}
use Rattle.mesh.proofs.Valid.{cells_freed}

above_abs : (z : ℤ) → pos 0 <ℤ z → pos (nat_abs z) ≡ z
above_abs (pos n) h = refl
above_abs (negsuc n) h = absurd (omega (arithℤ, h))

fails_zero : (ps : List ℕ) (np : ℕ) (k : List ℕ) → four_ok ps np k ≡ false → volume_or_zero ps np k ≡ 0
unfolding volume_or_zero
fails_zero ps np k e = rw e

marked_test : (a b c d u : Bool) → ◌≡◌ {A = ℕ} (cond d 1 (cond c 1 (cond b 1 (cond a 1 (cond u 1 0))))) (cond ((d || (c || (b || (a || false)))) || u) 1 0)
marked_test a b c true u = refl
marked_test a b true false u = refl
marked_test a true false false u = refl
marked_test true false false false u = refl
marked_test false false false false u = refl

bit_test : (b : Bool) → eqb (cond b 1 0) 1 ≡ b
bit_test true = refl
bit_test false = refl

-- the first c entries pass: `left` of the box's volume is left, `gone` of them are freed
pub record Tallied (m : Mesh) (t : Tables) (c left gone : ℕ) (marked : List ℕ) : Type 0 where
  pub each : all_below c (entry_ok t m.points) ≡ true
  pub volumes : sum c (cell_volume t) +ℤ pos left ≡ pos (6 * m.x * m.y * m.z)
  pub counted : gone ≡ count_below c (freed t)
  pub marks_are : marked ≡ marks t c

module _ (ps cs : List ℕ) where
  abbrev t : Tables
  t = tables ps cs []

  left_more : (c v left total : ℕ) → sum c (cell_volume t) +ℤ pos left ≡ pos total → cell_volume t c ≡ pos v → v ≤ left →
      sum (c + 1) (cell_volume t) +ℤ pos (left - v) ≡ pos total
  left_more c v left total e g h =
      ap (λ z. z +ℤ pos (left - v)) (sum_more c (cell_volume t) ∙ ap (λ z. sum c (cell_volume t) +ℤ z) g) ∙
      (let a = parts_add (sum c (cell_volume t) +ℤ pos v) (pos (left - v)) in
      let b = parts_add (sum c (cell_volume t)) (pos v) in
      let d = parts_add (sum c (cell_volume t)) (pos left) in
      omega (arithℤ, e, a, b, d))

  -- ---- marks

  marks_more : (c : ℕ) → ((i : ℕ) → i < 4 → corner t c i < 1024) → with_marks (marks t c) (four_at cs c) ≡ marks t (c + 1)
  unfolding with_marks marks used_ok any_below
  marks_more c h =
      (λ i. set (set (set (set (marks t c) (four_corner t c 0 (omega arith) i) 1) (four_corner t c 1 (omega arith) i) 1) (four_corner t c 2 (omega arith) i) 1) (four_corner t c 3 (omega arith) i) 1) ∙
      (ap (λ l. set (set (set l (k 1) 1) (k 2) 1) (k 3) 1) (set_tabulate 1024 f (k 0) 1 (h 0 (omega arith))) ∙
      (ap (λ l. set (set l (k 2) 1) (k 3) 1) (set_tabulate 1024 (more 0 f) (k 1) 1 (h 1 (omega arith))) ∙
      (ap (λ l. set l (k 3) 1) (set_tabulate 1024 (more 1 (more 0 f)) (k 2) 1 (h 2 (omega arith))) ∙
      (set_tabulate 1024 (more 2 (more 1 (more 0 f))) (k 3) 1 (h 3 (omega arith)) ∙
      (ap (tabulate 1024) (λ i v. marked_test (eqb (k 0) v) (eqb (k 1) v) (eqb (k 2) v) (eqb (k 3) v) (used_ok t c v) i) ∙ rw add-one)))))
    where
      k : ℕ → ℕ
      k i = corner t c i

      more : ℕ → (ℕ → ℕ) → ℕ → ℕ
      more i f v = cond (eqb (k i) v) 1 (f v)

      f : ℕ → ℕ
      f v = cond (used_ok t c v) 1 0

  -- a freed entry has no point for a corner
  marks_kept : (c : ℕ) → live t c ≡ false → marks t (c + 1) ≡ marks t c
  unfolding marks used_ok any_below
  marks_kept c e =
      tabulate_cong 1024 (λ v. cond (used_ok t (c + 1) v) 1 0) (λ v. cond (used_ok t c v) 1 0)
      (λ v h. rw (add-one, off v h 0 (omega arith), off v h 1 (omega arith), off v h 2 (omega arith), off v h 3 (omega arith)))
    where
      off : (v : ℕ) → v < 1024 → (i : ℕ) → i < 4 → eqb (corner t c i) v ≡ false
      off v h i l = ne_eqb (corner t c i) v (λ q. absurd (omega (arith, q, freed_corner t c e i l)))

  pub marks_length : (n : ℕ) → length (marks t n) ≡ 1024
  unfolding marks
  marks_length n = tabulate_length 1024 (λ v. cond (used_ok t n v) 1 0)

  marked_is : (n v : ℕ) → v < 1024 → eqb (get_or (marks t n) v 0) 1 ≡ used_ok t n v
  unfolding marks
  marked_is n v h = ap (λ k. eqb k 1) (tabulate_at 1024 (λ v. cond (used_ok t n v) 1 0) v 0 h) ∙ bit_test (used_ok t n v)

  -- ---- what the pass finds

  module _ (np : ℕ) where
    four_ok_lem : (c : ℕ) → four_ok ps np (four_at cs c) ≡ cell_ok t np c
    unfolding four_ok numbers_below cell_ok corner four_at all_below
    four_ok_lem c = rw (four_volume ps cs c, add-zero (4 * c))

    positive : (c : ℕ) → cell_ok t np c ≡ true → pos 0 <ℤ cell_volume t c
    unfolding cell_ok
    positive c h = lt_z_true (pos 0) (cell_volume t c) (and_right (all_below 4 (λ i. ltb (corner t c i) np)) _ h)

    valued : (c : ℕ) → cell_ok t np c ≡ true → pos (volume_or_zero ps np (four_at cs c)) ≡ cell_volume t c
    unfolding volume_or_zero
    valued c h = rw (four_ok_lem c ∙ h, four_volume ps cs c) (above_abs (cell_volume t c) (positive c h))

    pub cell_fails : (c v : ℕ) → v ≡ volume_or_zero ps np (four_at cs c) → v ≡ 0 → cell_ok t np c ≡ false
    cell_fails c v e z =
        fails (cell_ok t np c) (λ h. <-irrefl (subst (λ k. pos 0 <ℤ k) (sym (valued c h) ∙ (ap pos (sym e) ∙ ap pos z)) (positive c h)))

    pub cell_passes : (c v : ℕ) → v ≡ volume_or_zero ps np (four_at cs c) → v ≢ 0 → (cell_ok t np c ≡ true) × (cell_volume t c ≡ pos v)
    cell_passes c v e d = go (split (cell_ok t np c))
      where
        go : (cell_ok t np c ≡ true) ⊎ (cell_ok t np c ≡ false) → (cell_ok t np c ≡ true) × (cell_volume t c ≡ pos v)
        go (inl h) = (h, sym (ap pos e ∙ valued c h))
        go (inr h) = absurd (d (e ∙ fails_zero ps np (four_at cs c) (four_ok_lem c ∙ h)))

    pub corners_few : np ≤ 1024 → (c : ℕ) → cell_ok t np c ≡ true → (i : ℕ) → i < 4 → corner t c i < 1024
    unfolding cell_ok
    corners_few h c e i l =
        let k = ltb-true (corner t c i) np (all_at 4 (λ i. ltb (corner t c i) np) (and_left (all_below 4 (λ i. ltb (corner t c i) np)) _ e) i l) in
        omega arith

  module _ (m : Mesh) where
    abbrev total : ℕ
    total = 6 * m.x * m.y * m.z

    abbrev passes : Bool
    passes = cells_pass m t

    -- ---- a step of the pass

    pub freed_more : {c left gone : ℕ} {marked : List ℕ} → Tallied m t c left gone marked → freed t c ≡ true → Tallied m t (c + 1) left (gone + 1) marked
    unfolding live
    freed_more {c} {left} {gone} T e =
        record {
          each = all_more c (entry_ok t m.points) T.each (or_left (freed t c) (cell_ok t m.points c) e);
          volumes = rw sub-zero at (left_more c 0 left total T.volumes (freed_volume t c (ap not e)) (omega arith));
          counted = rw (add-one gone, add-one c) (sym (count_yes c (freed t) e ∙ ap suc (sym T.counted)));
          marks_are = T.marks_are ∙ sym (marks_kept c (ap not e));
        }

    pub cell_more : m.points ≤ 1024 → {c v left gone : ℕ} {marked : List ℕ} → Tallied m t c left gone marked → cell_ok t m.points c ≡ true → cell_volume t c ≡ pos v → v ≤ left →
        Tallied m t (c + 1) (left - v) gone (with_marks marked (four_at cs c))
    unfolding live
    cell_more few {c} {v} {left} T e g h =
        let small = corners_few m.points few c e in
        let lives = live_of t c 0 (omega arith) (λ q. absurd (omega (arith, q, small 0 (omega arith)))) in
        record {
          each = all_more c (entry_ok t m.points) T.each (or_right (freed t c) (cell_ok t m.points c) e);
          volumes = left_more c v left total T.volumes g h;
          counted = rw add-one (T.counted ∙ sym (count_no c (freed t) (not-true (freed t c) lives)));
          marks_are = ap (λ l. with_marks l (four_at cs c)) T.marks_are ∙ marks_more c small;
        }

    -- ---- where the pass fails

    -- what cells_pass says, part by part
    record Passing : Type 0 where
      entries : all_below m.used (entry_ok t m.points) ≡ true
      volumes : sum m.used (cell_volume t) ≡ pos total
      counted : m.cells ≡ count_below m.used (live t)

    passing : passes ≡ true → Passing
    unfolding cells_pass
    passing e =
        let rest = and_right (all_below m.points (used_ok t m.used)) _ (and_right (all_below m.used (entry_ok t m.points)) _ e) in
        let sums : Bool = same_z (sum m.used (cell_volume t)) (pos total) in
        record {
          entries = and_left (all_below m.used (entry_ok t m.points)) _ e;
          volumes = same_is (and_left sums _ rest);
          counted = eqb-true m.cells (count_below m.used (live t)) (and_right sums _ rest);
        }

    nonneg : passes ≡ true → (c : ℕ) → c < m.used → pos 0 ≤ℤ cell_volume t c
    unfolding live
    nonneg e c l = go (or_cases (freed t c) (cell_ok t m.points c) (all_at m.used (entry_ok t m.points) (passing e).entries c l))
      where
        go : (freed t c ≡ true) ⊎ (cell_ok t m.points c ≡ true) → pos 0 ≤ℤ cell_volume t c
        go (inl q) = ≡→≤ (sym (freed_volume t c (ap not q)))
        go (inr q) = <→≤ (positive m.points c q)

    pub entry_fails : (c : ℕ) → c < m.used → freed t c ≡ false → cell_ok t m.points c ≡ false → passes ≡ false
    unfolding cells_pass
    entry_fails c h a b = rw (all_fails m.used (entry_ok t m.points) c h (rw (a, b)))

    pub over_fails : {c v left gone : ℕ} {marked : List ℕ} → Tallied m t c left gone marked → c < m.used → cell_volume t c ≡ pos v → left < v → passes ≡ false
    over_fails {c} {v} {left} T l g h = fails passes (λ k. too_much (passing k).volumes (sum_rises (c + 1) m.used (cell_volume t) (omega arith) (nonneg k)))
      where
        too_much : sum m.used (cell_volume t) ≡ pos total → sum (c + 1) (cell_volume t) ≤ℤ sum m.used (cell_volume t) → ⊥
        too_much s r =
            let w = sum_more c (cell_volume t) ∙ ap (λ z. sum c (cell_volume t) +ℤ z) g in
            let b = parts_add (sum c (cell_volume t)) (pos v) in
            let d = parts_add (sum c (cell_volume t)) (pos left) in
            omega (arithℤ, s, r, w, b, d, T.volumes)

    -- ---- at the end

    module _ {left gone : ℕ} {marked : List ℕ} (T : Tallied m t m.used left gone marked) where
      pub rest_fails : left ≢ 0 → passes ≡ false
      rest_fails d = fails passes (λ k. too_little (passing k).volumes)
        where
          too_little : sum m.used (cell_volume t) ≡ pos total → ⊥
          too_little s = let a = parts_add (sum m.used (cell_volume t)) (pos left) in d (omega (arithℤ, s, a, T.volumes))

      -- cells are the entries that are not freed
      cells_are : count_below m.used (live t) ≡ m.used - gone
      cells_are = omega (arith, cells_freed t m.used, T.counted)

      pub count_fails : m.used - gone ≢ m.cells → passes ≡ false
      count_fails d = fails passes (λ k. d (sym ((passing k).counted ∙ cells_are)))

      pub all_fits : m.points ≤ 1024 → left ≡ 0 → m.used - gone ≡ m.cells → all_marked marked m.points ≡ passes
      unfolding cells_pass
      all_fits few z e =
          ap (λ u. all_marked u m.points) T.marks_are ∙
          sym (rw (T.each, and_intro (le_le_z (≡→≤ is)) (le_le_z (≡→≤ (sym is))), eq-eqb m.cells (count_below m.used (live t)) (sym (cells_are ∙ e)), and-true)
          (all_cong m.points (used_ok t m.used) (λ v. eqb (get_or (marks t m.used) v 0) 1) (λ v l. sym (marked_is m.used v (omega arith)))))
        where
          is : sum m.used (cell_volume t) ≡ pos total
          is = sym (ap (λ k. sum m.used (cell_volume t) +ℤ pos k) z ∙ +ℤ_idr (sum m.used (cell_volume t))) ∙ T.volumes

-- The mesh check from the tests that the code makes one after the other.
use Prim.Native.Nat.{ℕ, zero, suc, ◌+◌, ◌*◌, ◌-◌, ◌≤◌, ◌<◌}
use mathlib.Core.Bool.{Bool, true, false, not, ◌&&◌, ◌||◌}
use mathlib.Core.Logic.{◌⊎◌, inl, inr}
use mathlib.Core.List.{List, []}
use mathlib.Core.Path.{◌≡◌, refl, sym, ap, ◌∙◌}
use native.Mathlib.Omega.{arith}
use borrow.Author.Tests.{ltb-true, not-true}
use lib.Dec.{eqb, ltb}
use lib.ListN.{length}
use lib.IntN.{pos}
use lib.Signed.{◌<ℤ◌}
use Rattle.arith.specs.Table.{all_below, count_below, sum}
use Rattle.arith.proofs.Flags.{split, clash, fails, bool_ext, and_left, and_right, and_intro, or_left, or_right, or_other}
use Rattle.arith.proofs.Order.{lt_z_true, le_le_z, ≡→≤}
use Rattle.arith.proofs.Tables.{all_at, all_intro}
use Rattle.geometry.specs.Volume.{in_box}
use Rattle.geometry.proofs.Ranges.{box_in}
use Rattle.mesh.specs.declared.Mesh.{Mesh}
use Rattle.mesh.specs.Tables.{Tables, point_capacity, cell_capacity, cell_of, opposite, point_in, corner, across, corner_at, cell_volume, freed, live, IsCell, tables}
use Rattle.mesh.specs.Chain.{freed_entry, chain_ok}
use Rattle.mesh.specs.Mesh.{LegalSide}
use Rattle.mesh.specs.Check.{same_z, counts_ok, box_ok, used_ok, cell_ok, face_ok, mesh_check, entries_ok, is_mesh}
use Rattle.mesh.specs.Inner.{Placed, Celled, Sound, CornersBelow}
use Rattle.mesh.specs.Inner.Faces.{face_numbers, faces_of}
use Rattle.mesh.specs.Inner.Cells.{entry_ok, cells_pass}
use Rattle.mesh.proofs.FaceNumbers.{face_eq, face_cell, opposite<}
use Rattle.mesh.proofs.Room.{room_of}
use Rattle.mesh.proofs.Numbers.{face_numbers_is}
use Rattle.mesh.proofs.Checked.{Counts, counts_of, Parts, parts_of, parts_yes, same_is}

-- the chain is read off corners and neighbours
chain_same : (ps cs ns : List ℕ) (n k h : ℕ) → chain_ok (tables [] cs ns) n k h ≡ chain_ok (tables ps cs ns) n k h
unfolding chain_ok freed_entry freed corner across
chain_same ps cs ns n zero h = refl
chain_same ps cs ns n (suc k) h =
    ap (λ b. ltb h n && (freed_entry (tables ps cs ns) h && b)) (chain_same ps cs ns n k (across (tables ps cs ns) (4 * h)))

module _ (m : Mesh) (ps cs ns : List ℕ) (w : ℕ) where
  abbrev t : Tables
  t = tables ps cs ns

  abbrev counts_pass : Bool
  counts_pass = counts_ok m.x m.y m.z (point_capacity t) (cell_capacity t w) m.points m.used

  abbrev inside_pass : Bool
  inside_pass = all_below m.points (λ k. in_box m.x m.y m.z (point_in ps k))

  abbrev cells_ok : Bool
  cells_ok = cells_pass m (tables ps cs [])

  abbrev chain_pass : Bool
  chain_pass = chain_ok (tables [] cs ns) m.used (m.used - m.cells) m.chain

  abbrev mesh_pass : Bool
  mesh_pass = mesh_check m.x m.y m.z (point_capacity t) (cell_capacity t w) m.points m.used t

  abbrev count_pass : Bool
  count_pass = eqb m.cells (count_below m.used (live t))

  parts : is_mesh m t w ≡ true → Parts m.x m.y m.z (point_capacity t) (cell_capacity t w) m.points m.used t
  unfolding is_mesh
  parts e = parts_of m.x m.y m.z (point_capacity t) (cell_capacity t w) m.points m.used t (and_left mesh_pass (entries_ok m t) e)

  entries : is_mesh m t w ≡ true → (count_pass && chain_ok t m.used (m.used - m.cells) m.chain) ≡ true
  unfolding is_mesh entries_ok
  entries e = and_right mesh_pass (entries_ok m t) e

  pub counts_fail : counts_pass ≡ false → is_mesh m t w ≡ false
  counts_fail e = fails (is_mesh m t w) (λ h. clash (parts h).counts e)

  pub box_fails : box_ok m.x m.y m.z (tables ps [] []) ≡ false → is_mesh m t w ≡ false
  unfolding box_ok
  box_fails e = fails (is_mesh m t w) (λ h. clash (parts h).box e)

  pub inside_fails : inside_pass ≡ false → is_mesh m t w ≡ false
  inside_fails e = fails (is_mesh m t w) (λ h. clash (parts h).inside e)

  pub cells_fail : cells_ok ≡ false → is_mesh m t w ≡ false
  unfolding cells_pass cell_ok used_ok cell_volume corner_at live freed corner
  cells_fail e =
      fails (is_mesh m t w) (λ h. clash
      (and_intro (parts h).cells (and_intro (parts h).used (and_intro (and_intro (le_le_z (≡→≤ (parts h).volumes)) (le_le_z (≡→≤ (sym (parts h).volumes)))) (and_left count_pass _ (entries h)))))
      e)

  pub chain_fails : chain_pass ≡ false → is_mesh m t w ≡ false
  chain_fails e = fails (is_mesh m t w) (λ h. clash (chain_same ps cs ns m.used (m.used - m.cells) m.chain ∙ and_right count_pass _ (entries h)) e)

  -- ---- what a test that passed gives the next

  counts : counts_pass ≡ true → Counts m.x m.y m.z (point_capacity t) (cell_capacity t w) m.points m.used
  counts = counts_of m.x m.y m.z (point_capacity t) (cell_capacity t w) m.points m.used

  pub sides : counts_pass ≡ true → LegalSide m.x × LegalSide m.y × LegalSide m.z
  sides e = ((counts e).side_x, (counts e).side_y, (counts e).side_z)

  pub points_room : counts_pass ≡ true → (m.points ≤ 1024) × (3 * m.points ≤ length ps)
  points_room e =
      let r = room_of t w in
      (omega (arith, r.points≤, (counts e).points≤), omega (arith, r.points_fit, (counts e).points≤))

  pub box_room : counts_pass ≡ true → 24 ≤ length ps
  box_room e = omega (arith, points_room e, (counts e).points≥)

  pub placed : counts_pass ≡ true → inside_pass ≡ true → Placed ps m.points
  placed e h =
      let k = counts e in
      record {
        points_few = (points_room e).0;
        points_fit = (points_room e).1;
        in_range = λ v l.
            let b = box_in {X = m.x} {Y = m.y} {Z = m.z} {p = point_in ps v} (all_at m.points (λ k. in_box m.x m.y m.z (point_in ps k)) h v l) in
            record { x≤ = omega (arith, b.x≤, k.side_x.high); y≤ = omega (arith, b.y≤, k.side_y.high); z≤ = omega (arith, b.z≤, k.side_z.high) };
      }

  pub celled : counts_pass ≡ true → Celled cs m.used × Celled ns m.used
  celled e =
      let r = room_of t w in
      let k = counts e in (
        record { cells_few = omega (arith, r.cells≤, k.cells≤); cells_fit = omega (arith, r.corners_fit, k.cells≤) },
        record { cells_few = omega (arith, r.cells≤, k.cells≤); cells_fit = omega (arith, r.neighbours_fit, k.cells≤) },
      )

  pub sound : counts_pass ≡ true → inside_pass ≡ true → Sound ps cs ns m.points m.used
  sound e h = record { placed = placed e h; corners = (celled e).0; neighbours = (celled e).1 }

  -- what the pass over the cells says, of the tables with neighbours
  record Passed : Type 0 where
    entries_ok : all_below m.used (entry_ok t m.points) ≡ true
    used : all_below m.points (used_ok t m.used) ≡ true
    volumes : sum m.used (cell_volume t) ≡ pos (6 * m.x * m.y * m.z)
    counted : count_pass ≡ true

  cells_passed : cells_ok ≡ true → Passed
  unfolding cells_pass cell_ok used_ok cell_volume corner_at live freed corner
  cells_passed e =
      let rest = and_right (all_below m.used (entry_ok t m.points)) _ e in
      let sums = and_right (all_below m.points (used_ok t m.used)) _ rest in
      let same : Bool = same_z (sum m.used (cell_volume t)) (pos (6 * m.x * m.y * m.z)) in
      record {
        entries_ok = and_left (all_below m.used (entry_ok t m.points)) _ e;
        used = and_left (all_below m.points (used_ok t m.used)) _ rest;
        volumes = same_is (and_left same _ sums);
        counted = and_right same _ sums;
      }

  each_cell : cells_ok ≡ true → (c : ℕ) → IsCell t m.used c → cell_ok t m.points c ≡ true
  unfolding live
  each_cell e c h = or_other (freed t c) (cell_ok t m.points c) (not-true (freed t c) h.lives) (all_at m.used (entry_ok t m.points) (cells_passed e).entries_ok c h.below)

  corner< : cells_ok ≡ true → (c i : ℕ) → IsCell t m.used c → i < 4 → corner t c i < m.points
  unfolding cell_ok
  corner< e c i h l = ltb-true (corner t c i) m.points (all_at 4 (λ i. ltb (corner t c i) m.points) (and_left (all_below 4 (λ i. ltb (corner t c i) m.points)) _ (each_cell e c h)) i l)

  pub corners_below : cells_ok ≡ true → CornersBelow cs m.points m.used
  unfolding live freed corner
  corners_below e c i h = corner< e c i record { below = h.below; lives = h.lives }

  positive : cells_ok ≡ true → (c : ℕ) → IsCell t m.used c → pos 0 <ℤ cell_volume t c
  unfolding cell_ok
  positive e c h = lt_z_true (pos 0) (cell_volume t c) (and_right (all_below 4 (λ i. ltb (corner t c i) m.points)) _ (each_cell e c h))

  -- ---- the faces decide

  abbrev faces : ℕ → Bool
  faces = faces_of m.x m.y m.z t m.used

  abbrev face_check : ℕ → Bool
  face_check f = freed t (cell_of f) || face_ok m.x m.y m.z t m.used f

  abbrev numbers : ℕ → ℕ → Bool
  numbers = face_numbers m.x m.y m.z t m.used

  faces_are : counts_pass ≡ true → cells_ok ≡ true → all_below m.used faces ≡ all_below (4 * m.used) face_check
  unfolding faces_of live
  faces_are e h =
      bool_ext (all_below m.used faces) (all_below (4 * m.used) face_check)
      (λ k. all_intro (4 * m.used) face_check (λ f l. go f l (all_at m.used faces k (cell_of f) (omega arith)) (split (freed t (cell_of f)))))
      (λ k. all_intro m.used faces (λ c l. back c l (all_at (4 * m.used) face_check k) (split (freed t c))))
    where
      is : (c i : ℕ) → c < m.used → freed t c ≡ false → i < 4 → numbers c i ≡ face_ok m.x m.y m.z t m.used (4 * c + i)
      is c i l d =
          face_numbers_is m.x m.y m.z t m.used (positive h) (λ c i k j. λ q. absurd (omega (arith, q, corner< h c i k j, (points_room e).0)))
          (celled e).1.cells_fit c i record { below = l; lives = ap not d }

      go : (f : ℕ) → f < 4 * m.used → faces (cell_of f) ≡ true → (freed t (cell_of f) ≡ true) ⊎ (freed t (cell_of f) ≡ false) → face_check f ≡ true
      go f l k (inl d) = or_left (freed t (cell_of f)) _ d
      go f l k (inr d) =
          or_right (freed t (cell_of f)) _
          (ap (face_ok m.x m.y m.z t m.used) (sym (face_eq f)) ∙ (sym (is (cell_of f) (opposite f) (omega arith) d (opposite< f)) ∙
          all_at 4 (numbers (cell_of f)) (or_other (freed t (cell_of f)) _ d k) (opposite f) (opposite< f)))

      back : (c : ℕ) → c < m.used → ((f : ℕ) → f < 4 * m.used → face_check f ≡ true) → (freed t c ≡ true) ⊎ (freed t c ≡ false) → faces c ≡ true
      back c l k (inl d) = or_left (freed t c) _ d
      back c l k (inr d) =
          or_right (freed t c) _ (all_intro 4 (numbers c) (λ i j.
          is c i l d j ∙ or_other (freed t (cell_of (4 * c + i))) _ (ap (freed t) (face_cell c i j) ∙ d) (k (4 * c + i) (omega arith))))

  pub faces_decide : counts_pass ≡ true → box_ok m.x m.y m.z (tables ps [] []) ≡ true → inside_pass ≡ true → cells_ok ≡ true → chain_pass ≡ true →
      all_below m.used faces ≡ is_mesh m t w
  unfolding box_ok is_mesh entries_ok
  faces_decide e b i h g =
      faces_are e h ∙ bool_ext (all_below (4 * m.used) face_check) (is_mesh m t w)
      (λ f. and_intro
      (parts_yes m.x m.y m.z (point_capacity t) (cell_capacity t w) m.points m.used t record {
        counts = e;
        box = b;
        inside = i;
        used = (cells_passed h).used;
        cells = (cells_passed h).entries_ok;
        faces = f;
        volumes = (cells_passed h).volumes;
      })
      (and_intro (cells_passed h).counted (sym (chain_same ps cs ns m.used (m.used - m.cells) m.chain) ∙ g)))
      (λ k. (parts k).faces)

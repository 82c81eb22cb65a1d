-- An accepted start: the same six cells in both layouts, whatever stood in the tables before.
use Prim.Native.Nat.{ℕ, ◌+◌, ◌*◌, ◌≤◌, ◌<◌}
use mathlib.Core.List.{List, []}
use mathlib.Core.Path.{◌≡◌, refl, sym, ap, ◌∙◌, subst}
use native.Mathlib.Decide.{ℕ_discrete}
use native.Mathlib.Omega.{arith}
use lib.ListN.{length, get_or, drop, length-append, length-drop, get_or-append}
use Rattle.mesh.specs.Tables.{Tables, cell_capacity, none, point, corner, across, IsCell}
use Rattle.mesh.specs.Mesh.{ValidMesh}
use Rattle.mesh.specs.Start.{over, start_points, start_corners, start_neighbours, started, started_mesh, short, start_refusal, start_tables}
use Rattle.mesh.specs.Inner.{SomeMesh}
use Rattle.mesh.proofs.Room.{room_of}
use Rattle.mesh.proofs.Live.{live_same, cell_same}
use Rattle.mesh.proofs.Faces.{across_cell}
use Rattle.mesh.proofs.FaceNumbers.{face_in}
use Rattle.mesh.proofs.FirstMesh.{start_live}
use Rattle.calls.specs.Calls.{start_build, mesh_after}
use Rattle.calls.proofs.Calls.{every_list_of_calls}
use Rattle.layouts.specs.Histories.{SameLengths}
use Rattle.layouts.specs.Same.{Next, no_cell, cells}
use Rattle.layouts.proofs.Alike.{Alike, by_corners_alone}
use Rattle.layouts.proofs.Nodes.{here, Both, same_points, same_cells}
use Rattle.layouts.proofs.Insertions.{SameBuilds}

-- cells at equal numbers
EqualNumbers : Tables → ℕ → ℕ → ℕ → Type 0
EqualNumbers t n c d = (c ≡ d) × IsCell t n c

-- tables with the same entries are alike
alike_entries : {np n : ℕ} {t t₁ : Tables} → SomeMesh t np n → ((c i : ℕ) → c < n → i < 4 → corner t c i ≡ corner t₁ c i) →
    ((c i : ℕ) → c < n → i < 4 → across t (4 * c + i) ≡ across t₁ (4 * c + i)) → ((k : ℕ) → k < np → point t k ≡ point t₁ k) →
    Alike (EqualNumbers t n) np t n t₁ n
unfolding EqualNumbers
alike_entries {n = n} {t = t} {t₁ = t₁} M corners neighbours points = record {
  there = λ c h. (c, (refl, h));
  back = λ d h. (d, (refl, record { below = h.below; lives = live_same t t₁ d d (λ i l. corners d i h.below l) ∙ h.lives }));
  left = λ c d r. r.1;
  right = λ c d r. subst (IsCell t₁ n) r.0 (cell_same (λ i l. corners c i r.1.below l) r.1);
  one = λ c d d' r r'. sym r.0 ∙ r'.0;
  one_back = λ c c' d r r'. r.0 ∙ sym r'.0;
  corners = λ c d r i h. corners c i r.1.below h ∙ ap (λ x. corner t₁ x i) r.0;
  neighbours = λ c d r i h. next c i h r.1 (neighbours c i r.1.below h ∙ ap (λ x. across t₁ (4 * x + i)) r.0) (ℕ_discrete (across t (4 * c + i)) none);
  points = points;
}
  where
    next : (c i : ℕ) → i < 4 → IsCell t n c → {v : ℕ} → across t (4 * c + i) ≡ v → Dec (across t (4 * c + i) ≡ none) → Next (EqualNumbers t n) (across t (4 * c + i)) v
    next c i h k same (yes e) = no_cell e (sym same ∙ e)
    next c i h k same (no e) = cells (same, across_cell M.mesh (room_of t M.w) (4 * c + i) (face_in c i h k) e)

over_long : (new old old₁ : List ℕ) → length old ≡ length old₁ → length (over new old) ≡ length (over new old₁)
over_long new old old₁ e =
    omega (arith, length-append new (drop (length new) old), length-append new (drop (length new) old₁), length-drop (length new) old, length-drop (length new) old₁)

over_at : (new old old₁ : List ℕ) (k e : ℕ) → k < length new → get_or (over new old) k e ≡ get_or (over new old₁) k e
over_at new old old₁ k e h = get_or-append new (drop (length new) old) e k h ∙ sym (get_or-append new (drop (length new) old₁) e k h)

start_valid : (X Y Z : ℕ) (t : Tables) (w : ℕ) → start_refusal X Y Z t w ≡ 0 → (v : ℕ) → 6 ≤ cell_capacity (started X Y Z t) v → ValidMesh (started_mesh X Y Z) (started X Y Z t) v
unfolding mesh_after start_build start_tables cell_capacity
start_valid X Y Z t w ok v h =
    let wide : 18 ≤ v = omega arith in
    rw ok at ((every_list_of_calls X Y Z t w ok []).mesh v wide wide)

module _ (X Y Z : ℕ) (t t₁ : Tables) (w : ℕ) (L : SameLengths t t₁) (ok : start_refusal X Y Z t w ≡ 0) where
  started_lengths : SameLengths (started X Y Z t) (started X Y Z t₁)
  unfolding started
  started_lengths = record {
    points = over_long (start_points X Y Z) t.points t₁.points L.points;
    corners = over_long start_corners t.corners t₁.corners L.corners;
    neighbours = over_long start_neighbours t.neighbours t₁.neighbours L.neighbours;
  }

  ok₁ : start_refusal X Y Z t₁ w ≡ 0
  unfolding start_refusal short
  ok₁ = rw (← same_points L, ← same_cells L w) ok

  start_both : Both (started_mesh X Y Z) (started X Y Z t) (started X Y Z t₁)
  start_both = record {
    lengths = started_lengths;
    valid = start_valid X Y Z t w ok;
    valid₁ = λ v h. start_valid X Y Z t₁ w ok₁ v (omega (arith, same_cells started_lengths v));
    full = start_live X Y Z t₁;
    alike =
        by_corners_alone (here (started_mesh X Y Z) (started X Y Z t)) (here (started_mesh X Y Z) (started X Y Z t₁)) record {
          mesh = mesh;
          mesh₁ = mesh₁;
          alike = alike_entries mesh (λ c i h l. unfold corner started start_corners in over_at start_corners t.corners t₁.corners (4 * c + i) 0 (omega arith))
              (λ c i h l. unfold across started start_neighbours in over_at start_neighbours t.neighbours t₁.neighbours (4 * c + i) none (omega arith))
              (λ k h. mesh.mesh.box_corners k h ∙ sym (mesh₁.mesh.box_corners k h));
        };
  }
    where
      room : (t : Tables) → 6 ≤ cell_capacity (started X Y Z t) 18
      room t = unfold cell_capacity started start_corners start_neighbours in
          omega (arith, length-append start_corners (drop (length start_corners) t.corners), length-append start_neighbours (drop (length start_neighbours) t.neighbours))

      some : (t : Tables) → start_refusal X Y Z t w ≡ 0 → SomeMesh (started X Y Z t) 8 6
      some t ok = record { X = X; Y = Y; Z = Z; w = 18; mesh = (start_valid X Y Z t w ok 18 (room t)).mesh }

      mesh : SomeMesh (started X Y Z t) 8 6
      mesh = some t ok

      mesh₁ : SomeMesh (started X Y Z t₁) 8 6
      mesh₁ = some t₁ ok₁

  pub start_same : SameBuilds (start_build X Y Z t w) (start_build X Y Z t₁ w)
  unfolding start_build start_tables
  start_same = rw (ok, ok₁) record { counts = refl; both = start_both }

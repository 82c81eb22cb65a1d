-- Condition 3: after every list of insertion calls from a started box, the tables are a mesh and hold the accepted nodes.
use Prim.Native.Nat.{ℕ, ◌*◌, ◌≤◌}
use mathlib.Core.Bool.{true, false, not, ◌&&◌}
use mathlib.Core.List.{List, [], ◌∷◌, ◌++◌, append-nil, append_assoc}
use mathlib.Core.Logic.{◌⊎◌, inl, inr}
use mathlib.Core.Path.{◌≡◌, refl, sym, ap, ap₂, ◌∙◌, subst}
use native.Mathlib.Decide.{ℕ_discrete}
use native.Mathlib.Omega.{arith}
use borrow.Author.Tests.{eqb-true, not-false}
use lib.Dec.{eqb}
use lib.ListN.{length, length-append, drop}
use Rattle.arith.specs.Table.{tabulate}
use Rattle.arith.proofs.Flags.{split, and_left, and_right}
use Rattle.geometry.specs.declared.Position.{Position}
use Rattle.mesh.specs.declared.Mesh.{Mesh}
use Rattle.mesh.specs.Start.{Accepted, Refused}
use Rattle.mesh.specs.Tables.{Tables, point_capacity, cell_capacity, none, point, across, IsFace}
use Rattle.mesh.specs.Mesh.{LegalSide, box_corner, IsMesh, ValidMesh}
use Rattle.mesh.specs.Check.{legal_side, legal_box}
use Rattle.mesh.specs.Start.{over, start_points, start_corners, start_neighbours, started, started_mesh, short, start_refusal, start_answer, start_tables, StartLeaves}
use Rattle.mesh.proofs.Checked.{side_of}
use Rattle.mesh.proofs.FirstMesh.{start_mesh}
use Rattle.mesh.proofs.Room.{room_of}
use Rattle.mesh.proofs.Faces.{across_cell}
use Rattle.mesh.proofs.Valid.{start_valid}
use Rattle.cavity.specs.Answers.{Answers}
use Rattle.insertion.specs.Insertion.{inserted_mesh}
use Rattle.calls.specs.Calls.{Build, start_build, Call, mesh_after, accepted_by, FaceStands, on_wall, shared, Claim}
use Rattle.insertion.proofs.Refusals.{NodeFits, test_to_zero, node_fits}
use Rattle.arith.proofs.Tables.{tabulate_cong}
use Rattle.insertion.proofs.Growing.{inserted_valid, inserted_points}
use Rattle.calls.proofs.EachNode.{built, KeptBy, calls_keep}

-- ---- capacities

-- a work length that takes nothing from the cell capacity
abbrev ample : ℕ
ample = 12288

ample_most : (t : Tables) (w : ℕ) → cell_capacity t w ≤ cell_capacity t ample
unfolding cell_capacity
ample_most t w = omega arith

-- three entries of work area a cell are enough
three_a_cell : (t : Tables) (w k : ℕ) → k ≤ cell_capacity t ample → 3 * k ≤ w → k ≤ cell_capacity t w
unfolding cell_capacity
three_a_cell t w k h l = omega arith

-- ---- what every call keeps

record Kept (X Y Z : ℕ) (b : Build) (ps : List Position) : Type 0 where
  side_x : b.mesh.x ≡ X
  side_y : b.mesh.y ≡ Y
  side_z : b.mesh.z ≡ Z
  mesh : ValidMesh b.mesh b.tables ample
  points : tabulate b.mesh.points (point b.tables) ≡ tabulate 8 (box_corner X Y Z) ++ ps

-- a node that any answers accept
node_kept : {X Y Z : ℕ} (a : Answers) → KeptBy (Kept X Y Z) a
unfolding inserted_mesh
node_kept {X} {Y} {Z} a m t w p ps M e K = record {
  side_x = K.side_x;
  side_y = K.side_y;
  side_z = K.side_z;
  mesh = inserted_valid m t ample w p a K.mesh fits (ample_most t w);
  points =
      inserted_points m t ample w p a K.mesh fits (ample_most t w) ∙
      (ap (λ l. l ++ (p ∷ [])) K.points ∙ append_assoc (tabulate 8 (box_corner X Y Z)) ps (p ∷ []));
}
  where
    fits : NodeFits m t w p a
    fits = node_fits m t w p a e

-- ---- the claim

-- the same tables under other capacities
recap : {X Y Z pc cc np n : ℕ} {t : Tables} → IsMesh X Y Z pc cc np n t → {cc' : ℕ} → 6 ≤ cc' → n ≤ cc' → IsMesh X Y Z pc cc' np n t
recap M h k = record {
  point_cap≥ = M.point_cap≥;
  cell_cap≥ = h;
  side_x = M.side_x;
  side_y = M.side_y;
  side_z = M.side_z;
  points≥ = M.points≥;
  points≤ = M.points≤;
  cells≥ = M.cells≥;
  cells≤ = k;
  box_corners = M.box_corners;
  inside = M.inside;
  used = M.used;
  corner< = M.corner<;
  across< = M.across<;
  positive = M.positive;
  walls = M.walls;
  mated = M.mated;
  volumes = M.volumes;
}

module _ {X Y Z : ℕ} (b : Build) (ps : List Position) (K : Kept X Y Z b ps) where
  M : IsMesh X Y Z (point_capacity b.tables) (cell_capacity b.tables ample) b.mesh.points b.mesh.used b.tables
  M = rw (K.side_x, K.side_y, K.side_z) at K.mesh.mesh

  face_stands : (f : ℕ) → IsFace b.tables b.mesh.used f → FaceStands X Y Z b.tables b.mesh.used f
  face_stands f h = go (ℕ_discrete (across b.tables f) none)
    where
      go : Dec (across b.tables f ≡ none) → FaceStands X Y Z b.tables b.mesh.used f
      go (yes e) = on_wall e (M.walls f h e)
      go (no d) = shared (across_cell M (room_of b.tables ample) f h d) (M.mated f h d).0 (M.mated f h d).1

  kept_claim : Claim X Y Z b ps
  kept_claim = record {
    positive = M.positive;
    faces = face_stands;
    volumes = M.volumes;
    points = K.points;
    used = M.used;
    side_x = K.side_x;
    side_y = K.side_y;
    side_z = K.side_z;
    mesh = λ w h k. record {
      mesh = recap K.mesh.mesh (three_a_cell b.tables w 6 M.cell_cap≥ (omega arith)) (three_a_cell b.tables w b.mesh.used M.cells≤ k);
      counted = K.mesh.counted;
      chained = K.mesh.chained;
    };
  }

-- ---- the start

over_length : (new old : List ℕ) → length new ≤ length (over new old)
over_length new old = omega (arith, length-append new (drop (length new) old))

module _ (X Y Z : ℕ) (t : Tables) where
  start_points≥ : 8 ≤ point_capacity (started X Y Z t)
  unfolding point_capacity started start_points
  start_points≥ = omega (arith, over_length (start_points X Y Z) t.points)

  start_cells≥ : 6 ≤ cell_capacity (started X Y Z t) ample
  unfolding cell_capacity started start_corners start_neighbours
  start_cells≥ = omega (arith, over_length start_corners t.corners, over_length start_neighbours t.neighbours)

  start_kept : LegalSide X → LegalSide Y → LegalSide Z → Kept X Y Z (built (started_mesh X Y Z) (started X Y Z t)) []
  start_kept hX hY hZ = record {
    side_x = refl;
    side_y = refl;
    side_z = refl;
    mesh = start_valid X Y Z t ample M;
    points = tabulate_cong 8 (point (started X Y Z t)) (box_corner X Y Z) M.box_corners ∙ sym (append-nil (tabulate 8 (box_corner X Y Z)));
  }
    where
      M : IsMesh X Y Z (point_capacity (started X Y Z t)) (cell_capacity (started X Y Z t) ample) 8 6 (started X Y Z t)
      M = start_mesh X Y Z t hX hY hZ (point_capacity (started X Y Z t)) (cell_capacity (started X Y Z t) ample) start_points≥ start_cells≥

  start_legal : (w : ℕ) → start_refusal X Y Z t w ≡ 0 → LegalSide X × LegalSide Y × LegalSide Z
  unfolding start_refusal
  start_legal w e =
      let box = not-false (legal_box X Y Z) (test_to_zero {b = not (legal_box X Y Z)} {k = 2} {r = 0} (omega arith) (test_to_zero {b = short t w} {k = 1} (omega arith) e).1).0 in
      let rest = and_right (legal_side X) (legal_side Y && legal_side Z) box in
      (side_of X (and_left (legal_side X) _ box), side_of Y (and_left (legal_side Y) _ rest), side_of Z (and_right (legal_side Y) _ rest))

-- CONDITION 3: from every accepted start, whatever the calls, their nodes, work areas and answers
pub every_list_of_calls : (X Y Z : ℕ) (t : Tables) (w : ℕ) → start_refusal X Y Z t w ≡ 0 → (cs : List Call) →
    let b = start_build X Y Z t w in Claim X Y Z (mesh_after b cs) (accepted_by b cs)
every_list_of_calls X Y Z t w e cs =
    kept_claim (mesh_after b cs) (accepted_by b cs) (calls_keep (Kept X Y Z) node_kept b cs [] start)
  where
    b : Build
    b = start_build X Y Z t w

    start : Kept X Y Z b []
    start =
        let h = start_legal X Y Z t w e in
        unfold start_build start_tables in rw e (start_kept X Y Z t h.0 h.1 h.2)

-- what the start's contract says of an answer with a record
start_accepted : (X Y Z : ℕ) (t t' : Tables) (ws ws' : List ℕ) (m : Mesh) → StartLeaves X Y Z t ws (Accepted m) t' ws' →
    (start_refusal X Y Z t (length ws) ≡ 0) × (start_build X Y Z t (length ws) ≡ built m t')
unfolding start_answer start_build
start_accepted X Y Z t t' ws ws' m L = go (split (eqb (start_refusal X Y Z t (length ws)) 0))
  where
    go : (eqb (start_refusal X Y Z t (length ws)) 0 ≡ true) ⊎ (eqb (start_refusal X Y Z t (length ws)) 0 ≡ false) →
        (start_refusal X Y Z t (length ws) ≡ 0) × (start_build X Y Z t (length ws) ≡ built m t')
    go (inl e) =
        let f : Accepted m ≡ Accepted (started_mesh X Y Z) = L.answer ∙ rw e in
        let h : started_mesh X Y Z ≡ m = cc in
        (eqb-true (start_refusal X Y Z t (length ws)) 0 e, ap₂ built h (sym L.tables))
    go (inr e) =
        let f : Accepted m ≡ Refused (start_refusal X Y Z t (length ws)) = L.answer ∙ rw e in
        let z : ◌≡◌ {A = ℕ} 0 1 = cc in absurd (omega arith)

-- the same in the words of the start's contract: its answer has a record, and t' are the tables that it leaves
pub every_list_after_a_start : (X Y Z : ℕ) (t t' : Tables) (ws ws' : List ℕ) (m : Mesh) → StartLeaves X Y Z t ws (Accepted m) t' ws' →
    (cs : List Call) → let b = built m t' in Claim X Y Z (mesh_after b cs) (accepted_by b cs)
every_list_after_a_start X Y Z t t' ws ws' m L cs =
    let h = start_accepted X Y Z t t' ws ws' m L in
    subst (λ b. Claim X Y Z (mesh_after b cs) (accepted_by b cs)) h.1 (every_list_of_calls X Y Z t (length ws) h.0 cs)

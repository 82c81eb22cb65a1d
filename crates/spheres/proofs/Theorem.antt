-- Document 02 §2, after every list of calls from an accepted start in which our own test lets every node in.
use Prim.Native.Nat.{ℕ, ◌+◌, ◌*◌}
use mathlib.Core.Bool.{true}
use mathlib.Core.List.{List, [], ◌∷◌, ◌++◌}
use mathlib.Core.Path.{◌≡◌, ap, ◌∙◌, subst}
use native.Mathlib.Omega.{arith}
use lib.ListN.{length, length-append}
use Rattle.geometry.specs.declared.Position.{Position}
use Rattle.mesh.specs.declared.Mesh.{Mesh}
use Rattle.mesh.specs.Tables.{Tables, point_capacity, cell_capacity, cell_of, opposite, mate}
use Rattle.mesh.specs.Mesh.{ValidMesh}
use Rattle.mesh.specs.Chain.{chain_of}
use Rattle.mesh.specs.Check.{is_mesh}
use Rattle.mesh.specs.Start.{start_refusal}
use Rattle.mesh.proofs.Room.{Room, room_of}
use Rattle.mesh.proofs.Valid.{valid_of, passed}
use Rattle.mesh.proofs.Faces.{mate<}
use Rattle.mesh.proofs.FaceNumbers.{opposite<}
use Rattle.cavity.specs.Answers.{sphere, handed}
use Rattle.insertion.specs.declared.Report.{Report}
use Rattle.insertion.specs.Inserted.{Accepted}
use Rattle.insertion.specs.Insertion.{first_cavity, last_cavity, cells_made, node_refusal, report_of, inserted_mesh, inserted_tables, insert_call}
use Rattle.insertion.proofs.Refusals.{NodeFits, node_fits, node_accepted, call_is_node, accepted_node_lem, accepted_call}
use Rattle.insertion.proofs.Growing.{fits}
use Rattle.calls.specs.Calls.{Build, start_build, Call, by_sphere, by_answers, by_marks, by_list, look, outcome, mesh_after}
use Rattle.calls.proofs.EachNode.{built, KeptBy, insert_keeps, marked_keeps, list_keeps, look_keeps}
use Rattle.calls.proofs.Calls.{every_list_of_calls}
use Rattle.spheres.specs.Exact.{Empty, ExactInsertion}
use Rattle.spheres.specs.Claim.{OwnCall, OwnCalls, EmptySpheres, EqualSizes}
use Rattle.spheres.proofs.Cavity.{corner_out}
use Rattle.spheres.proofs.Star.{exact_insertion}
use Rattle.spheres.proofs.Start.{eight_empty}

abbrev Clear : Build → Type 0
Clear b = Empty b.mesh.points b.mesh.used b.tables

-- a call with answers handed in that accepts no node changes nothing
none_accepted : (b : Build) (w : ℕ) (bytes : List ℕ) (p : Position) → Clear b → (outcome b (by_answers w bytes p)).accepted ≡ [] → Clear (outcome b (by_answers w bytes p)).after
unfolding outcome
none_accepted b w bytes p G =
    insert_keeps (λ c ps. ps ≡ [] → Clear c) (handed bytes) (λ m t w p ps e r K q. absurd (some ps p q)) b.mesh b.tables w p [] (λ q. G)
  where
    some : (ps : List Position) (p : Position) → ps ++ (p ∷ []) ≡ [] → ⊥
    some ps p q = let z : length (ps ++ (p ∷ [])) ≡ 0 = ap length q in omega (arith, length-append ps (p ∷ []))

-- ---- one node that our own test lets in

module _ (m : Mesh) (t : Tables) (w : ℕ) (p : Position) (e : is_mesh m t w ≡ true) (r : node_refusal m t w p sphere ≡ 0) (G : Clear (built m t)) where
  M : ValidMesh m t w
  M = valid_of m t w e

  N : NodeFits m t w p sphere
  N = node_fits m t w p sphere r

  inserted : ExactInsertion (chain_of m t) m.points m.used t p
  unfolding last_cavity
  inserted = exact_insertion M.mesh (room_of t w) G p N.box N.free (fits m t w w p sphere M N (omega arith))

  node_clear : Clear (built (inserted_mesh m t p sphere) (inserted_tables m t p sphere))
  unfolding inserted_mesh inserted_tables cells_made last_cavity
  node_clear = inserted.empty

  pub node_sizes : (report_of m t p sphere).before ≡ (report_of m t p sphere).after
  unfolding report_of first_cavity last_cavity
  node_sizes = inserted.same_size

-- ---- lists of calls

by_own_test : KeptBy (λ b ps. Clear b) sphere
by_own_test m t w p ps e r G = node_clear m t w p e r G

own_call : (b : Build) (c : Call) → OwnCall c (outcome b c).accepted → Clear b → Clear (outcome b c).after
unfolding OwnCall
own_call b (by_sphere w p) o G = unfold outcome in insert_keeps (λ b ps. Clear b) sphere by_own_test b.mesh b.tables w p [] G
own_call b (by_answers w bytes p) o G = none_accepted b w bytes p G o
own_call b (by_marks w marks p) o G = unfold outcome in marked_keeps (λ b ps. Clear b) by_own_test b.mesh b.tables w marks p [] G
own_call b (by_list w ns) o G = unfold outcome in list_keeps (λ b ps. Clear b) by_own_test b.mesh b.tables w ns [] G
own_call b (look w marks p) o G = unfold outcome in look_keeps (λ b ps. Clear b) b.mesh b.tables w marks p [] G

own_calls : (b : Build) (cs : List Call) → OwnCalls b cs → Clear b → Clear (mesh_after b cs)
unfolding OwnCalls mesh_after
own_calls b [] o G = G
own_calls b (c ∷ cs) o G = own_calls (outcome b c).after cs o.1 (own_call b c o.0 G)

module _ (X Y Z : ℕ) (t : Tables) (w : ℕ) (started : start_refusal X Y Z t w ≡ 0) (cs : List Call) (own : OwnCalls (start_build X Y Z t w) cs) where
  abbrev b : Build
  b = mesh_after (start_build X Y Z t w) cs

  -- three entries for each that is in use, whatever is in use
  abbrev room : Build → ℕ
  room c = 18 + 3 * c.mesh.used

  clear : Clear b
  unfolding mesh_after start_build
  clear =
      own_calls (start_build X Y Z t w) cs own
      (eight_empty ((every_list_of_calls X Y Z t w started []).mesh (room (start_build X Y Z t w)) (omega arith) (omega arith)).mesh)

  M' : ValidMesh b.mesh b.tables (room b)
  M' = (every_list_of_calls X Y Z t w started cs).mesh (room b) (omega arith) (omega arith)

  R : Room (point_capacity b.tables) (cell_capacity b.tables (room b)) b.tables
  R = room_of b.tables (room b)

  spheres_empty : EmptySpheres b
  spheres_empty = record {
    far_corners = λ f l real.
        corner_out M'.mesh R clear (cell_of (mate b.tables f)) (cell_of f) (opposite (mate b.tables f)) (mate< M'.mesh R f l real) l (opposite< (mate b.tables f));
    points = clear;
  }

  sizes_equal : EqualSizes b
  sizes_equal = record { reported = λ v p q. reported v p q }
    where
      reported : (v : ℕ) (p : Position) {m : Mesh} {r : Report} → Accepted m r ≡ (insert_call b.mesh b.tables v p sphere).answer → r.before ≡ r.after
      reported v p {m} {r} q =
          let z = accepted_call b.mesh b.tables v p sphere q in
          let s = q ∙ ap (λ l. l.answer) (call_is_node b.mesh b.tables v p sphere z) in
          let h = (accepted_node_lem b.mesh b.tables v p sphere s).0 in
          let f : Accepted m r ≡ Accepted (inserted_mesh b.mesh b.tables p sphere) (report_of b.mesh b.tables p sphere) =
          s ∙ ap (λ l. l.answer) (node_accepted b.mesh b.tables v p sphere h) in
          let k : report_of b.mesh b.tables p sphere ≡ r = cc in
          subst (λ x. x.before ≡ x.after) k (node_sizes b.mesh b.tables v p (passed b.mesh b.tables v _ z) h clear)

-- DOCUMENT 02 §2, whatever the nodes and the work areas, and whatever calls were refused in between. Nodes inserted by handed-in answers carry no such
-- statement: a list in which such a call accepts a node is none of `OwnCalls`.
pub own_spheres : (X Y Z : ℕ) (t : Tables) (w : ℕ) → start_refusal X Y Z t w ≡ 0 → (cs : List Call) → OwnCalls (start_build X Y Z t w) cs →
    EmptySpheres (mesh_after (start_build X Y Z t w) cs)
own_spheres X Y Z t w e cs o = spheres_empty X Y Z t w e cs o

-- and what is reported of whatever node our own test lets in next
pub own_reports : (X Y Z : ℕ) (t : Tables) (w : ℕ) → start_refusal X Y Z t w ≡ 0 → (cs : List Call) → OwnCalls (start_build X Y Z t w) cs →
    EqualSizes (mesh_after (start_build X Y Z t w) cs)
own_reports X Y Z t w e cs o = sizes_equal X Y Z t w e cs o

-- What a list of nodes leaves in a started box, in the words of the calls' contracts.
use Prim.Native.Nat.{ℕ, zero, suc, ◌+◌, ◌*◌, ◌/◌, ◌%◌, ◌≤◌, ◌<◌}
use mathlib.Core.List.{List, [], ◌∷◌, ◌++◌, append-nil}
use mathlib.Core.Path.{◌≡◌, refl, sym, ap, ◌∙◌}
use native.Mathlib.Omega.{arith}
use lib.ListN.{length, get_or, take, drop, length-append, length-take, length-drop}
use lib.Seq.{get_or-append-add, get_or-take, get_or-drop, ext_get_or}
use Rattle.arith.specs.Table.{tabulate}
use Rattle.arith.proofs.Tables.{tabulate_at, tabulate_length}
use Rattle.geometry.specs.declared.Position.{Position}
use Rattle.mesh.specs.declared.Mesh.{Mesh}
use Rattle.mesh.specs.Start.{Accepted}
use Rattle.mesh.specs.Tables.{Tables, point_capacity, point_in, point}
use Rattle.mesh.specs.Mesh.{box_corner, ValidMesh}
use Rattle.mesh.specs.Start.{StartLeaves}
use Rattle.insertion.specs.Listed.{Listed}
use Rattle.insertion.specs.List.{listed_node, listed_count, list_call, ListLeaves}
use Rattle.calls.specs.Calls.{Build, by_list, record_after_list, accepted_nodes, list_outcome, outcome, mesh_after, accepted_by, Claim}
use Rattle.calls.proofs.Calls.{every_list_after_a_start}

abbrev pub built : Mesh → Tables → Build
built m t = record { mesh = m; tables = t }

-- condition 3 after one list, whatever it answers
pub claim_after_list : {X Y Z : ℕ} {t t₁ t₂ : Tables} {ws ws₁ ws₂ ws₃ ns : List ℕ} {m : Mesh} {r : Listed} →
    StartLeaves X Y Z t ws (Accepted m) t₁ ws₁ → ListLeaves m t₁ ws₂ ns r t₂ ws₃ → Claim X Y Z (built (record_after_list m r) t₂) (accepted_nodes ns r)
unfolding mesh_after accepted_by outcome list_outcome
claim_after_list {X} {Y} {Z} {t} {t₁} {t₂} {ws} {ws₁} {ws₂} {ws₃} {ns} {m} {r} S L =
    let c = every_list_after_a_start X Y Z t t₁ ws ws₁ m S (by_list (length ws₂) ns ∷ []) in
    let d = rw (append-nil (accepted_nodes ns (list_call m t₁ (length ws₂) ns).answer)) at c in
    rw (L.answer, L.tables) d

module _ {X Y Z : ℕ} {m : Mesh} {t : Tables} {ps : List Position} (C : Claim X Y Z (built m t) ps) where
  -- the tables as a mesh, with a work area that is long enough for the entries in use
  pub claimed_mesh : ValidMesh m t (18 + 3 * m.used)
  claimed_mesh = C.mesh (18 + 3 * m.used) (omega arith) (omega arith)

  points_long : 3 * m.points ≤ length t.points
  unfolding point_capacity
  points_long = omega (arith, claimed_mesh.mesh.points≤)

  pub points_count : m.points ≡ 8 + length ps
  points_count =
      sym (tabulate_length m.points (point t)) ∙
      (ap length C.points ∙ (length-append (tabulate 8 (box_corner X Y Z)) ps ∙ ap (λ n. n + length ps) (tabulate_length 8 (box_corner X Y Z))))

  -- point 8 + j is the j-th accepted node
  node_at : (j : ℕ) (d : Position) → j < length ps → point t (8 + j) ≡ get_or ps j d
  node_at j d h =
      let e : length (tabulate 8 (box_corner X Y Z)) + j ≡ 8 + j = ap (λ n. n + j) (tabulate_length 8 (box_corner X Y Z)) in
      sym (tabulate_at m.points (point t) (8 + j) d (omega (arith, points_count))) ∙
      (ap (λ l. get_or l (8 + j) d) C.points ∙
      (ap (λ k. get_or (tabulate 8 (box_corner X Y Z) ++ ps) k d) (sym e) ∙ get_or-append-add (tabulate 8 (box_corner X Y Z)) ps j d))

-- after a list that ends, points 8 onward are its numbers, three a point
pub listed_points : {X Y Z : ℕ} {m : Mesh} {t : Tables} (ns : List ℕ) (n : ℕ) → length ns ≡ 3 * n →
    Claim X Y Z (built m t) (tabulate (listed_count ns) (listed_node ns)) → (m.points ≡ 8 + n) × (take (3 * n) (drop 24 t.points) ≡ ns)
unfolding point_in
listed_points {m = m} {t = t} ns n e C =
    (count, ext_get_or 0 (take (3 * n) (drop 24 t.points)) ns long (λ i l. at i (omega (arith, long)) ∙ sym (whole i)))
  where
    some : listed_count ns ≡ n
    some = omega arith

    count : m.points ≡ 8 + n
    count = points_count C ∙ ap (λ k. 8 + k) (tabulate_length (listed_count ns) (listed_node ns) ∙ some)

    long : length (take (3 * n) (drop 24 t.points)) ≡ length ns
    long = omega (arith, length-take (3 * n) (drop 24 t.points), length-drop 24 t.points, points_long C, count)

    node : (j : ℕ) → j < n → point t (8 + j) ≡ listed_node ns j
    node j h =
        let k : j < listed_count ns = omega (arith, some) in
        let l : j < length (tabulate (listed_count ns) (listed_node ns)) = omega (arith, tabulate_length (listed_count ns) (listed_node ns)) in
        node_at C j (listed_node ns 0) l ∙ tabulate_at (listed_count ns) (listed_node ns) j (listed_node ns 0) k

    whole : (i : ℕ) → get_or ns i 0 ≡ get_or ns (3 * (i / 3) + i % 3) 0
    whole i = let q : i ≡ 3 * (i / 3) + i % 3 = omega arith in ap (λ k. get_or ns k 0) q

    at : (i : ℕ) → i < 3 * n → get_or (take (3 * n) (drop 24 t.points)) i 0 ≡ get_or ns (3 * (i / 3) + i % 3) 0
    at i l = get_or-take (3 * n) (drop 24 t.points) i 0 l ∙ (get_or-drop 24 t.points i 0 ∙ go (i % 3) refl)
      where
        p : point t (8 + i / 3) ≡ listed_node ns (i / 3)
        p = node (i / 3) (omega arith)

        go : (r : ℕ) → i % 3 ≡ r → get_or t.points (24 + i) 0 ≡ get_or ns (3 * (i / 3) + r) 0
        go zero e =
            let a : 24 + i ≡ 3 * (8 + i / 3) = omega arith in
            let b : 3 * (i / 3) ≡ 3 * (i / 3) + 0 = omega arith in
            ap (λ k. get_or t.points k 0) a ∙ (ap (λ (q : Position). q.x) p ∙ ap (λ k. get_or ns k 0) b)
        go (suc zero) e =
            let a : 24 + i ≡ 3 * (8 + i / 3) + 1 = omega arith in
            ap (λ k. get_or t.points k 0) a ∙ ap (λ (q : Position). q.y) p
        go (suc (suc zero)) e =
            let a : 24 + i ≡ 3 * (8 + i / 3) + 2 = omega arith in
            ap (λ k. get_or t.points k 0) a ∙ ap (λ (q : Position). q.z) p
        go (suc (suc (suc r))) e = absurd (omega arith)

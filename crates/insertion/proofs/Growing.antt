-- What an accepted node leaves: the mesh again, and one point more.
use Prim.Native.Nat.{ℕ, ◌+◌, ◌-◌, ◌/◌, ◌≤◌, ◌<◌, min}
use mathlib.Core.Bool.{Bool, true}
use mathlib.Core.List.{List, ◌∷◌, ◌++◌, []}
use mathlib.Core.Path.{◌≡◌, sym, ap, ap₂, ◌∙◌, subst}
use native.Mathlib.Numerals.{add-one}
use native.Mathlib.Omega.{arith}
use Rattle.arith.specs.Table.{tabulate, count_below}
use Rattle.arith.proofs.Tables.{tabulate_length, tabulate_suc, tabulate_cong}
use Rattle.arith.proofs.Counting.{count_fewer}
use Rattle.geometry.specs.declared.Position.{Position}
use Rattle.mesh.specs.declared.Mesh.{Mesh}
use Rattle.mesh.specs.Tables.{Tables, point_capacity, cell_capacity, point, live}
use Rattle.mesh.specs.Mesh.{IsMesh, ValidMesh}
use Rattle.mesh.specs.Chain.{Chained, chain_from, chain_of}
use Rattle.mesh.specs.Check.{is_mesh}
use Rattle.mesh.proofs.Room.{room_of}
use Rattle.mesh.proofs.Chains.{chain_from_lem, cells_and_chain}
use Rattle.mesh.proofs.Valid.{valid_of, valid_yes}
use Rattle.cavity.specs.Answers.{Answers, says_yes}
use Rattle.cavity.specs.Cavity.{in_set, base, cavity_size}
use Rattle.cavity.specs.Inner.Star.{StarShaped}
use Rattle.cavity.proofs.Correction.{base_at, corrected_star_shaped}
use Rattle.star.specs.Star.{made_count, star_numbers, chain_left, new_points, new_corners, new_neighbours, star}
use Rattle.star.proofs.Numbered.{IsStar}
use Rattle.star.proofs.Star.{Fits, is_star}
use Rattle.star.proofs.Freeing.{falling}
use Rattle.star.proofs.Inserting.{Stored, room_is, valid_insertion}
use Rattle.insertion.specs.declared.Report.{Report}
use Rattle.insertion.specs.Inserted.{Accepted}
use Rattle.insertion.specs.Insertion.{last_cavity, cells_made, node_refusal, inserted_mesh, inserted_tables, insert_node}
use Rattle.insertion.proofs.Refusals.{NodeFits, node_fits, accepted_node_lem}

-- ---- capacities stay

module _ (m : Mesh) (t : Tables) (p : Position) (a : Answers) where
  pub same_point_capacity : point_capacity (inserted_tables m t p a) ≡ point_capacity t
  unfolding point_capacity inserted_tables star new_points
  same_point_capacity = rw tabulate_length

  pub same_cell_capacity : (w : ℕ) → cell_capacity (inserted_tables m t p a) w ≡ cell_capacity t w
  unfolding cell_capacity inserted_tables star new_corners new_neighbours
  same_cell_capacity w = ap₂ (λ a b. min (min (min (a / 4) (b / 4)) (w / 3)) 4096) (tabulate_length _ _) (tabulate_length _ _)

-- ---- the mesh with the node

-- v is the work length that the mesh is known for, w that of the call
module _ (m : Mesh) (t : Tables) (v w : ℕ) (p : Position) (a : Answers) (M : ValidMesh m t v) (N : NodeFits m t w p a) (h : cell_capacity t w ≤ cell_capacity t v) where
  abbrev s : List Bool
  s = last_cavity m t p a

  abbrev m' : Mesh
  m' = inserted_mesh m t p a

  abbrev t' : Tables
  t' = inserted_tables m t p a

  abbrev ch : List ℕ
  ch = chain_of m t

  stored : Stored m.x m.y m.z (point_capacity t) (cell_capacity t v) m.points m.cells m.used m.chain t ch
  stored = record { mesh = M.mesh; chained = M.chained; counted = sym M.counted }

  held : in_set (base t m.used p) N.holder.at ≡ true
  held = base_at t m.used p N.holder.at N.holder.below ∙ N.holder.passes

  next : m.points < point_capacity t
  next = omega (arith, M.mesh.points≤, N.next)

  room : m.cells + made_count t m.used p s ≤ cell_capacity t v
  unfolding cells_made
  room = omega (arith, N.cells, h)

  pub star_shaped : StarShaped t m.used p s
  unfolding last_cavity
  star_shaped = corrected_star_shaped M.mesh (room_of t v) p N.free (says_yes a t p) N.holder.at held

  pub fits : Fits (point_capacity t) (cell_capacity t v) m.points m.used t p s ch
  fits = record { spare = M.chained.spare; room = room_of t v; cells = star_shaped.cells; next = next; used≤ = (room_is stored (made_count t m.used p s)).0 room }

  -- the tables after are the star of the cavity, the kept cells at their own numbers
  pub inserted_star : IsStar (star_numbers ch t m.used p s) t m.used p m.points s t' m'.used
  unfolding inserted_tables inserted_mesh cells_made
  inserted_star = is_star fits

  after : Stored m.x m.y m.z (point_capacity t) (cell_capacity t v) (m.points + 1) (m.cells + made_count t m.used p s - cavity_size m.used s) m'.used m'.chain t'
      (falling s (chain_left ch t m.used p s) m.used)
  unfolding inserted_tables inserted_mesh cells_made last_cavity
  after = valid_insertion stored (room_of t v) p N.box N.free N.holder.at held (says_yes a t p) next room

  -- the cavity's cells are cells
  fewer : cavity_size m.used s ≤ m.cells
  unfolding cavity_size
  fewer = omega (arith, M.counted, (count_fewer m.used (live t) (in_set s) (λ c l e. (star_shaped.cells c e).lives)).0)

  counted : m'.cells ≡ count_below m'.used (live t')
  unfolding inserted_mesh cells_made
  counted = omega (arith, after.counted, fewer)

  chained : Chained t' m'.used m'.chain (chain_of m' t')
  unfolding chain_of
  chained =
      subst (Chained t' m'.used m'.chain)
      (sym (ap (λ k. chain_from t' k m'.chain) (omega (arith, cells_and_chain after.chained, counted)) ∙ chain_from_lem after.chained.path))
      after.chained

  mesh_after_lem : IsMesh m'.x m'.y m'.z (point_capacity t) (cell_capacity t v) m'.points m'.used t'
  unfolding inserted_mesh
  mesh_after_lem = after.mesh

  pub inserted_valid : ValidMesh (inserted_mesh m t p a) (inserted_tables m t p a) v
  inserted_valid = record { mesh = rw (same_point_capacity m t p a, same_cell_capacity m t p a v) mesh_after_lem; counted = counted; chained = chained }

  -- the points are the old ones, then the node
  pub inserted_points : tabulate (inserted_mesh m t p a).points (point (inserted_tables m t p a)) ≡ tabulate m.points (point t) ++ (p ∷ [])
  unfolding inserted_mesh
  inserted_points =
      ap (λ n. tabulate n (point t')) (add-one m.points) ∙
      (tabulate_suc m.points (point t') ∙
      ap₂ (λ l q. l ++ (q ∷ [])) (tabulate_cong m.points (point t') (point t) inserted_star.old_point) inserted_star.new_point)

-- after an accepted node the tables pass the mesh check with the same work area, so that a list need not check again
pub checks_again : (m : Mesh) (t : Tables) (w : ℕ) (p : Position) (a : Answers) → is_mesh m t w ≡ true → node_refusal m t w p a ≡ 0 →
    is_mesh (inserted_mesh m t p a) (inserted_tables m t p a) w ≡ true
checks_again m t w p a e r =
    valid_yes (inserted_mesh m t p a) (inserted_tables m t p a) w (inserted_valid m t w w p a (valid_of m t w e) (node_fits m t w p a r) (omega arith))

-- the same from the answer
pub accepted_checks : (m : Mesh) (t : Tables) (w : ℕ) (p : Position) (a : Answers) → is_mesh m t w ≡ true →
    {m' : Mesh} {r : Report} {t' : Tables} → Accepted m' r ≡ (insert_node m t w p a).answer → t' ≡ (insert_node m t w p a).tables →
    is_mesh m' t' w ≡ true
accepted_checks m t w p a e f g =
    let h = accepted_node_lem m t w p a f in
    ap₂ (λ m t. is_mesh m t w) h.1.0 (g ∙ h.1.1) ∙ checks_again m t w p a e h.0

pub one_point_more : (m : Mesh) (t : Tables) (w : ℕ) (p : Position) (a : Answers) {m' : Mesh} {r : Report} →
    Accepted m' r ≡ (insert_node m t w p a).answer → m'.points ≡ m.points + 1
unfolding inserted_mesh
one_point_more m t w p a f = ap (λ m. m.points) (accepted_node_lem m t w p a f).1.0

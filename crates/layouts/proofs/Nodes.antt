-- One node in both layouts: refused with the same number, or with the same report and alike after.
use Prim.Native.Nat.{ℕ, ◌+◌, ◌/◌, ◌≤◌, ◌<◌, min}
use mathlib.Core.Bool.{Bool, true, false}
use mathlib.Core.List.{List}
use mathlib.Core.Path.{◌≡◌, refl, sym, ap, ap₂, ◌∙◌, subst, subst₂}
use native.Mathlib.Omega.{arith}
use borrow.Author.Tests.{le-ltb}
use Rattle.arith.specs.Table.{any_below}
use Rattle.arith.proofs.Flags.{bool_ext, and_intro}
use Rattle.arith.proofs.Tables.{Found, any_found, any_intro, tabulate_length}
use Rattle.arith.proofs.Counting.{count_not}
use Rattle.geometry.specs.declared.Position.{Position}
use Rattle.geometry.specs.Volume.{same_position}
use Rattle.mesh.specs.declared.Mesh.{Mesh}
use Rattle.mesh.specs.Tables.{Tables, point_capacity, cell_capacity, point}
use Rattle.mesh.specs.Mesh.{IsMesh, ValidMesh}
use Rattle.mesh.specs.Chain.{chain_of}
use Rattle.mesh.specs.Start.{short}
use Rattle.mesh.specs.Refusal.{mesh_refusal}
use Rattle.mesh.proofs.Room.{room_of}
use Rattle.mesh.proofs.Checked.{side_yes}
use Rattle.mesh.proofs.Valid.{valid_yes}
use Rattle.locate.specs.Locate.{holds}
use Rattle.locate.proofs.Codes.{holder_cell}
use Rattle.cavity.specs.Cavity.{in_set, cavity_size}
use Rattle.cavity.specs.Answers.{Answers, says_yes, report_t}
use Rattle.star.specs.Star.{made_count, star_numbers, used_after, new_points, new_corners, new_neighbours, star}
use Rattle.star.proofs.Numbered.{IsStar}
use Rattle.star.proofs.NewMesh.{insertion}
use Rattle.star.proofs.Inserting.{Stored, room_is}
use Rattle.insertion.specs.Insertion.{first_cavity, last_cavity, cells_made, node_refusal, report_of, inserted_mesh, inserted_tables}
use Rattle.insertion.proofs.Refusals.{NodeFits, node_fits}
use Rattle.insertion.proofs.Growing.{same_cell_capacity, star_shaped, inserted_star, inserted_valid}
use Rattle.layouts.specs.Packed.{packed_record, packed_of, new_count, packed_numbers, packed_corners, packed_neighbours, packed_star, packed_mesh, packed_tables}
use Rattle.calls.specs.Calls.{Build}
use Rattle.layouts.specs.Histories.{SameCell, SameLengths}
use Rattle.layouts.specs.Same.{SameReport}
use Rattle.layouts.proofs.Packed.{PackedFits, new≤, packed_is_star, packed_full}
use Rattle.layouts.proofs.Shared.{Full, full_valid}
use Rattle.layouts.proofs.Alike.{Alike, AlikeMeshes, other_way, by_corners_alone}
use Rattle.layouts.proofs.Cavities.{Agree, any_cong, same_holds, cavity_agrees, corrected_agrees, same_made, agree_back}
use Rattle.layouts.proofs.Stars.{After, alike_after}
use Rattle.layouts.proofs.Reports.{Answered, same_size, Least, least_not_below, in_base, node_least}

-- ---- tests 1 to 3

-- they let a mesh pass
pub mesh_passes : (m : Mesh) (t : Tables) (w : ℕ) → ValidMesh m t w → mesh_refusal m t w false ≡ 0
unfolding mesh_refusal short
mesh_passes m t w v =
    rw (
      le-ltb (point_capacity t) 8 v.mesh.point_cap≥,
      le-ltb (cell_capacity t w) 6 v.mesh.cell_cap≥,
      and_intro (side_yes m.x v.mesh.side_x) (and_intro (side_yes m.y v.mesh.side_y) (side_yes m.z v.mesh.side_z)),
      valid_yes m t w v,
    )

-- ---- test 7

held_there : {R : ℕ → ℕ → Type 0} {np n n₁ : ℕ} {t t₁ : Tables} (T : AlikeMeshes R np t n t₁ n₁) (p : Position) → any_below n (holds t p) ≡ true → any_below n₁ (holds t₁ p) ≡ true
held_there {R} {n = n} {n₁ = n₁} {t = t} {t₁ = t₁} T p e = go (any_found n (holds t p) e)
  where
    go : Found n (holds t p) → any_below n₁ (holds t₁ p) ≡ true
    go q = by (T.alike.there q.at (holder_cell t p q.below q.passes))
      where
        by : (d : ℕ) × R q.at d → any_below n₁ (holds t₁ p) ≡ true
        by (d, r) = any_intro n₁ (holds t₁ p) d (T.alike.right q.at d r).below (sym (same_holds T p q.at d r) ∙ q.passes)

pub same_held : {R : ℕ → ℕ → Type 0} {np n n₁ : ℕ} {t t₁ : Tables} (T : AlikeMeshes R np t n t₁ n₁) (p : Position) → any_below n (holds t p) ≡ any_below n₁ (holds t₁ p)
same_held {n = n} {n₁ = n₁} {t = t} {t₁ = t₁} T p = bool_ext (any_below n (holds t p)) (any_below n₁ (holds t₁ p)) (held_there T p) (held_there (other_way T) p)

-- ---- both layouts

-- the two builds
abbrev pub here : Mesh → Tables → Build
here m t = record { mesh = m; tables = t }

abbrev pub Same : Mesh → Tables → Tables → ℕ → ℕ → Type 0
Same m t t₁ = SameCell (here m t) (here (packed_of m) t₁)

-- the same mesh in both, under every work area that leaves room for the entries in use
pub record Both (m : Mesh) (t t₁ : Tables) : Type 0 where
  pub lengths : SameLengths t t₁
  pub valid : (w : ℕ) → m.used ≤ cell_capacity t w → ValidMesh m t w
  pub valid₁ : (w : ℕ) → m.used ≤ cell_capacity t w → ValidMesh (packed_of m) t₁ w
  pub full : Full t₁ m.cells
  pub alike : Alike (Same m t t₁) m.points t m.used t₁ m.cells

module _ {t t₁ : Tables} (L : SameLengths t t₁) where
  pub same_points : point_capacity t ≡ point_capacity t₁
  unfolding point_capacity
  same_points = ap (λ k. min (k / 3) 1024) L.points

  pub same_cells : (w : ℕ) → cell_capacity t w ≡ cell_capacity t₁ w
  unfolding cell_capacity
  same_cells w = ap₂ (λ a b. min (min (min (a / 4) (b / 4)) (w / 3)) 4096) L.corners L.neighbours

-- an insertion leaves the lengths
module _ (m : Mesh) (t : Tables) (p : Position) (a : Answers) where
  inserted_lengths : SameLengths (inserted_tables m t p a) t
  unfolding inserted_tables star new_points new_corners new_neighbours
  inserted_lengths = record { points = tabulate_length _ _; corners = tabulate_length _ _; neighbours = tabulate_length _ _ }

  packed_lengths : SameLengths (packed_tables m t p a) t
  unfolding packed_tables packed_star new_points packed_corners packed_neighbours
  packed_lengths = record { points = tabulate_length _ _; corners = tabulate_length _ _; neighbours = tabulate_length _ _ }

module _ {m : Mesh} {t t₁ : Tables} (B : Both m t t₁) (w : ℕ) (h : m.used ≤ cell_capacity t w) where
  abbrev m₁ : Mesh
  m₁ = packed_of m

  pub meshes : AlikeMeshes (Same m t t₁) m.points t m.used t₁ m.cells
  meshes = record {
    mesh = record { X = m.x; Y = m.y; Z = m.z; w = w; mesh = (B.valid w h).mesh };
    mesh₁ = record { X = m.x; Y = m.y; Z = m.z; w = w; mesh = (B.valid₁ w h).mesh };
    alike = B.alike;
  }

  module _ {p : Position} {a a₁ : Answers} (W : Answered meshes p a a₁) where
    abbrev s : List Bool
    s = last_cavity m t p a

    abbrev s₁ : List Bool
    s₁ = last_cavity m₁ t₁ p a₁

    pub agree : Agree meshes (last_cavity m t p a) (last_cavity (packed_of m) t₁ p a₁)
    unfolding last_cavity
    agree = corrected_agrees meshes p (says_yes a t p) (says_yes a₁ t₁ p) W.says

    first_agree : Agree meshes (first_cavity m t p a) (first_cavity m₁ t₁ p a₁)
    unfolding first_cavity
    first_agree = cavity_agrees meshes p (says_yes a t p) (says_yes a₁ t₁ p) W.says

    made_same : cells_made m t p a ≡ cells_made m₁ t₁ p a₁
    unfolding cells_made made_count
    made_same = same_made meshes p agree

    -- THE LAW: the same refusal, 8 among them
    pub same_refusal : node_refusal m t w p a ≡ node_refusal (packed_of m) t₁ w p a₁
    unfolding node_refusal
    same_refusal = rw (taken, same_points B.lengths, same_held meshes p, same_cells B.lengths w, made_same)
      where
        taken : any_below m.points (λ k. same_position (point t k) p) ≡ any_below m.points (λ k. same_position (point t₁ k) p)
        taken = any_cong m.points (λ k. same_position (point t k) p) (λ k. same_position (point t₁ k) p) (λ k l. ap (λ q. same_position q p) (B.alike.points k l))

    -- ---- an accepted node

    module _ (ok : node_refusal m t w p a ≡ 0) where
      abbrev m' : Mesh
      m' = inserted_mesh m t p a

      abbrev t' : Tables
      t' = inserted_tables m t p a

      abbrev t₁' : Tables
      t₁' = packed_tables m₁ t₁ p a₁

      fits : NodeFits m t w p a
      fits = node_fits m t w p a ok

      fits₁ : NodeFits m₁ t₁ w p a₁
      fits₁ = node_fits m₁ t₁ w p a₁ (sym same_refusal ∙ ok)

      next₁ : m.points < point_capacity t₁
      next₁ = omega (arith, fits₁.next, (B.valid₁ w h).mesh.points≤)

      -- the packed tables have room under every work area that the new cells fit
      room₁ : (v : ℕ) → m.cells + cells_made m t p a ≤ cell_capacity t v → PackedFits (point_capacity t₁) (cell_capacity t₁ v) m.points m.cells t₁ p s₁
      unfolding cells_made
      room₁ v q = record {
        full = B.full;
        room = room_of t₁ v;
        next = next₁;
        cells = omega (arith, made_same, same_cells B.lengths v);
      }

      star₁ : IsStar (packed_numbers t₁ m.cells p s₁) t₁ m.cells p m.points s₁ t₁' (new_count t₁ m.cells p s₁)
      unfolding packed_tables
      star₁ = packed_is_star (room₁ w fits.cells)

      -- the cell count is that of §11's record
      count_is : new_count t₁ m.cells p s₁ ≡ m'.cells
      unfolding new_count inserted_mesh cells_made cavity_size
      count_is = omega (arith, count_not m.cells (in_set s₁), same_size meshes agree, made_same)

      pub same_record : packed_mesh (packed_of m) t₁ p a₁ ≡ packed_of (inserted_mesh m t p a)
      unfolding packed_mesh inserted_mesh
      same_record = ap (packed_record m.x m.y m.z (m.points + 1)) count_is

      stored : (v : ℕ) → m.used ≤ cell_capacity t v → Stored m.x m.y m.z (point_capacity t) (cell_capacity t v) m.points m.cells m.used m.chain t (chain_of m t)
      stored v k = let l = B.valid v k in record { mesh = l.mesh; chained = l.chained; counted = sym l.counted }

      -- ---- under every work area that leaves room for the entries in use after

      module _ (v : ℕ) (q : m'.used ≤ cell_capacity t' v) where
        used_is : m'.used ≡ used_after (chain_of m t) m.used (cells_made m t p a)
        unfolding inserted_mesh
        used_is = refl

        before : m.used ≤ cell_capacity t v
        unfolding used_after
        before = omega (arith, q, used_is, same_cell_capacity m t p a v)

        room_after : m.cells + cells_made m t p a ≤ cell_capacity t v
        room_after = (room_is (stored v before) (cells_made m t p a)).1 (omega (arith, q, used_is, same_cell_capacity m t p a v))

        valid_after : ValidMesh m' t' v
        valid_after =
            inserted_valid m t v v p a (B.valid v before)
            record { box = fits.box; free = fits.free; next = fits.next; holder = fits.holder; cells = room_after } (omega arith)

        -- every star of the corrected cavity is a mesh
        packed_mesh_lem : IsMesh m.x m.y m.z (point_capacity t₁) (cell_capacity t₁ v) (m.points + 1) (new_count t₁ m.cells p s₁) t₁'
        unfolding last_cavity
        packed_mesh_lem =
            (insertion (B.valid₁ v before).mesh (room_of t₁ v) p fits₁.box fits₁.free fits₁.holder.at (in_base m₁ t₁ w p a₁ fits₁) (says_yes a₁ t₁ p) next₁ star₁
            (omega (arith, new≤ t₁ m.cells p s₁, (room₁ v room_after).cells))).mesh

        packed_full_after : Full t₁' (new_count t₁ m.cells p s₁)
        unfolding packed_tables
        packed_full_after = packed_full (room₁ v room_after) (B.valid₁ v before).mesh.corner<

        valid₁_after : ValidMesh (packed_of m') t₁' v
        valid₁_after =
            let L = packed_lengths m₁ t₁ p a₁ in
            subst (λ r. ValidMesh r t₁' v) same_record
            (unfold packed_mesh in
            full_valid
            (subst₂ (λ pc cc. IsMesh m.x m.y m.z pc cc (m.points + 1) (new_count t₁ m.cells p s₁) t₁') (sym (same_points L)) (sym (same_cells L v)) packed_mesh_lem)
            packed_full_after)

      -- with the same work area there is room again
      pub covers_after : (inserted_mesh m t p a).used ≤ cell_capacity (inserted_tables m t p a) w
      unfolding inserted_mesh
      covers_after = omega (arith, same_cell_capacity m t p a w, (room_is (stored w h) (cells_made m t p a)).0 fits.cells)

      abbrev Joined : ℕ → ℕ → Type 0
      Joined = After (Same m t t₁) (star_numbers (chain_of m t) t m.used p s) (packed_numbers t₁ m.cells p s₁) t p s

      alike_again : Alike Joined m'.points t' m'.used t₁' m'.cells
      unfolding inserted_mesh
      alike_again =
          subst (λ k. Alike Joined (m.points + 1) t' m'.used t₁' k) count_is
          (alike_after meshes agree (star_shaped m t w w p a (B.valid w h) fits (omega arith)) (inserted_star m t w w p a (B.valid w h) fits (omega arith)) star₁)

      -- THE LAW: both go on as the same mesh
      pub both_after : Both (inserted_mesh m t p a) (inserted_tables m t p a) (packed_tables (packed_of m) t₁ p a₁)
      both_after = record {
        lengths =
            let L = inserted_lengths m t p a in
            let L₁ = packed_lengths m₁ t₁ p a₁ in
            record {
              points = L.points ∙ (B.lengths.points ∙ sym L₁.points);
              corners = L.corners ∙ (B.lengths.corners ∙ sym L₁.corners);
              neighbours = L.neighbours ∙ (B.lengths.neighbours ∙ sym L₁.neighbours);
            };
        valid = valid_after;
        valid₁ = valid₁_after;
        full = subst (Full t₁') count_is (packed_full_after w covers_after);
        alike =
            by_corners_alone (here m' t') (here (packed_of m') t₁') record {
              mesh = record { X = m'.x; Y = m'.y; Z = m'.z; w = w; mesh = (valid_after w covers_after).mesh };
              mesh₁ = record { X = m'.x; Y = m'.y; Z = m'.z; w = w; mesh = (valid₁_after w covers_after).mesh };
              alike = alike_again;
            };
      }

      -- ---- the report

      least : Least (report_t a t p) (first_cavity m t p a) (report_of m t p a).least
      least = node_least m t w p a (B.valid w h) fits

      least₁ : Least (report_t a₁ t₁ p) (first_cavity m₁ t₁ p a₁) (report_of m₁ t₁ p a₁).least
      least₁ = node_least m₁ t₁ w p a₁ (B.valid₁ w h) fits₁

      pub same_report : SameReport (report_of m t p a) (report_of (packed_of m) t₁ p a₁)
      same_report = record {
        point = unfold report_of in refl;
        before = unfold report_of in same_size meshes first_agree;
        after = unfold report_of in same_size meshes agree;
        made = unfold report_of in made_same;
        not_below = least_not_below meshes W first_agree least least₁;
        not_above =
            least_not_below (other_way meshes) record { says = λ d c r. sym (W.says c d r); values = λ d c r. sym (W.values c d r) } (agree_back meshes first_agree) least₁ least;
      }

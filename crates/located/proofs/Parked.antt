-- The parked head, and the numbers of cells: over one node, one insertion call, every list of calls.
use Prim.Native.Nat.{ℕ, ◌+◌, ◌≤◌, ◌<◌}
use mathlib.Core.Bool.{true, false, not}
use mathlib.Core.List.{List, []}
use mathlib.Core.Logic.{◌⊎◌, inl, inr}
use mathlib.Core.Path.{◌≡◌, refl, sym, ap, ◌∙◌, subst}
use native.Mathlib.Decide.{ℕ_discrete}
use native.Mathlib.Omega.{arith}
use borrow.Author.Tests.{le-ltb, not-true}
use Rattle.arith.proofs.Flags.{split}
use Rattle.geometry.specs.declared.Position.{Position}
use Rattle.geometry.specs.Volume.{in_box}
use Rattle.geometry.proofs.Ranges.{box_in}
use Rattle.mesh.specs.declared.Mesh.{Mesh}
use Rattle.mesh.specs.Tables.{Tables, point_capacity, cell_capacity, corner, live, IsCell}
use Rattle.mesh.specs.Mesh.{IsMesh, ValidMesh}
use Rattle.mesh.specs.Chain.{chain_of}
use Rattle.mesh.specs.Check.{is_mesh}
use Rattle.mesh.specs.Start.{short}
use Rattle.mesh.specs.Refusal.{mesh_refusal}
use Rattle.mesh.proofs.Room.{Room, room_of}
use Rattle.mesh.proofs.Live.{freed_of}
use Rattle.mesh.proofs.Checked.{side_yes}
use Rattle.mesh.proofs.Valid.{valid_of, passed}
use Rattle.locate.specs.Locate.{Cell, Refused as NotLocated}
use Rattle.locate.specs.Locate.{first_holder, locate_call}
use Rattle.locate.proofs.Codes.{holder_cell}
use Rattle.locate.proofs.First.{corners_cong, corners_below}
use Rattle.locate.proofs.Finding.{refused, outside}
use Rattle.cavity.specs.Answers.{Answers}
use Rattle.cavity.specs.Cavity.{in_set}
use Rattle.star.specs.Star.{kept?, star_numbers}
use Rattle.star.proofs.Numbered.{IsStar}
use Rattle.star.proofs.Star.{freed_corners}
use Rattle.insertion.specs.declared.Report.{Report}
use Rattle.insertion.specs.Inserted.{Accepted}
use Rattle.insertion.specs.Insertion.{last_cavity, node_refusal, fewer_bytes, inserted_mesh, inserted_tables, insert_node, insert_call}
use Rattle.insertion.proofs.Refusals.{node_fits, call_is_node, accepted_node_lem, accepted_call}
use Rattle.insertion.proofs.Growing.{fits, inserted_star, inserted_valid, checks_again}
use Rattle.calls.specs.Calls.{Build, Call, mesh_after}
use Rattle.calls.proofs.EachNode.{calls_keep}
use Rattle.located.specs.Claim.{Stands, KeepsNumber}
use Rattle.located.specs.Parked.{LocatedIn, OutsideCavity, StaysLocated, NumbersStay}
use Rattle.located.proofs.Theorem.{corners_once, holder_first, is_located}
use Rattle.located.proofs.Kept.{kept_number, holder_kept, old_number, standing_kept}

-- the mesh check says yes, with some work area
abbrev Checked : Mesh → Tables → Type 0
Checked m t = (w : ℕ) × (is_mesh m t w ≡ true)

-- tests 1 to 3 let pass what the mesh check says yes of
not_refused : (m : Mesh) (t : Tables) (w : ℕ) → is_mesh m t w ≡ true → mesh_refusal m t w false ≡ 0
unfolding mesh_refusal short
not_refused m t w e =
    let M = (valid_of m t w e).mesh in
    rw (le-ltb (point_capacity t) 8 M.point_cap≥, le-ltb (cell_capacity t w) 6 M.cell_cap≥, side_yes m.x M.side_x, side_yes m.y M.side_y, side_yes m.z M.side_z, e)

-- a call that answers a cell: the mesh check passed, the position is in the box, and the cell is the definition's
pub record Answered (m : Mesh) (t : Tables) (w : ℕ) (q : Position) (c : ℕ) : Type 0 where
  pub check : is_mesh m t w ≡ true
  pub box : in_box m.x m.y m.z q ≡ true
  pub cell : first_holder t m.used q ≡ c

pub answered : (m : Mesh) (t : Tables) (w : ℕ) (q : Position) (c : ℕ) → locate_call m t w q ≡ Cell c → Answered m t w q c
answered m t w q c f = go (ℕ_discrete (mesh_refusal m t w false) 0) (split (in_box m.x m.y m.z q))
  where
    never : {k : ℕ} {A : Type 0} → NotLocated k ≡ locate_call m t w q → A
    never {k} e = let g : NotLocated k ≡ Cell c = e ∙ f in let z : ◌≡◌ {A = ℕ} 0 1 = cc in absurd (omega arith)

    go : Dec (mesh_refusal m t w false ≡ 0) → (in_box m.x m.y m.z q ≡ true) ⊎ (in_box m.x m.y m.z q ≡ false) → Answered m t w q c
    go (no d) b = never (refused m t w q refl d)
    go (yes z) (inr b) = never (outside m t w q z b)
    go (yes z) (inl b) = record {
      check = passed m t w false z;
      box = b;
      cell = let g : Cell (first_holder t m.used q) ≡ Cell c = sym (is_located m t w q z b) ∙ f in cc;
    }

-- the definition's cell
module _ (m : Mesh) (t : Tables) (C : Checked m t) (q : Position) (b : in_box m.x m.y m.z q ≡ true) where
  located_cell : IsCell t m.used (first_holder t m.used q)
  located_cell = let f = holder_first (valid_of m t C.0 C.1).mesh (room_of t C.0) q (box_in b) in holder_cell t q f.cell< f.holding

  located_old : (i : ℕ) → i < 4 → corner t (first_holder t m.used q) i < m.points
  located_old i h = (valid_of m t C.0 C.1).mesh.corner< (first_holder t m.used q) i located_cell h

keeps_stands : {t t' : Tables} {c n' : ℕ} → KeepsNumber t c t' n' → Stands t c t' n'
keeps_stands {t} {t'} {c} K = record { cell = c; is_cell = K.is_cell; corners = corners_cong t' t c c K.corners }

-- one box; what has old corners stood before, under its number; and q, in the box, is located in its cell if that keeps its number
record Stays (q : Position) (m : Mesh) (t : Tables) (m' : Mesh) (t' : Tables) : Type 0 where
  box : in_box m'.x m'.y m'.z q ≡ in_box m.x m.y m.z q
  points≤ : m.points ≤ m'.points
  old_cells : (d : ℕ) → IsCell t' m'.used d → ((i : ℕ) → i < 4 → corner t' d i < m.points) → KeepsNumber t' d t m.used
  located : in_box m.x m.y m.z q ≡ true → KeepsNumber t (first_holder t m.used q) t' m'.used → first_holder t' m'.used q ≡ first_holder t m.used q

module _ (q : Position) where
  same : (m : Mesh) (t : Tables) → Stays q m t m t
  same m t = record { box = refl; points≤ = omega arith; old_cells = λ d d< old. record { is_cell = d<; corners = λ i h. refl }; located = λ b K. refl }

  then : {m m' m'' : Mesh} {t t' t'' : Tables} → Checked m t → Stays q m t m' t' → Stays q m' t' m'' t'' → Stays q m t m'' t''
  then {m} {m'} {m''} {t} {t'} {t''} C s s' = record {
    box = s'.box ∙ s.box;
    points≤ = omega (arith, s.points≤, s'.points≤);
    old_cells = stood;
    located = again;
  }
    where
      middle : (d : ℕ) → IsCell t'' m''.used d → ((i : ℕ) → i < 4 → corner t'' d i < m.points) → KeepsNumber t'' d t' m'.used
      middle d d< old = s'.old_cells d d< (λ i h. omega (arith, old i h, s.points≤))

      stood : (d : ℕ) → IsCell t'' m''.used d → ((i : ℕ) → i < 4 → corner t'' d i < m.points) → KeepsNumber t'' d t m.used
      stood d d< old =
          let r = middle d d< old in
          let k = s.old_cells d r.is_cell (λ i h. omega (arith, r.corners i h, old i h)) in
          record { is_cell = k.is_cell; corners = λ i h. k.corners i h ∙ r.corners i h }

      again : in_box m.x m.y m.z q ≡ true → KeepsNumber t (first_holder t m.used q) t'' m''.used → first_holder t'' m''.used q ≡ first_holder t m.used q
      again b K =
          let c = first_holder t m.used q in
          let r = middle c K.is_cell (λ i h. omega (arith, K.corners i h, located_old m t C q b i h)) in
          let e = s.located b record { is_cell = r.is_cell; corners = λ i h. r.corners i h ∙ K.corners i h } in
          s'.located (s.box ∙ b) (subst (λ d. KeepsNumber t' d t'' m''.used) (sym e) record { is_cell = K.is_cell; corners = λ i h. sym (r.corners i h) }) ∙ e

  -- a cell that stands has its number
  standing_number : {m m' : Mesh} {t t' : Tables} → Checked m t → Stays q m t m' t' → (c : ℕ) → IsCell t m.used c → Stands t c t' m'.used → KeepsNumber t c t' m'.used
  standing_number {m} {m'} {t} {t'} (w, e) s c c< S =
      let M = (valid_of m t w e).mesh in
      let d = S.cell in
      let k = s.old_cells d S.is_cell (corners_below t' t d c S.corners m.points (λ j h. M.corner< c j c< h)) in
      let same : d ≡ c = corners_once M (room_of t w) d c k.is_cell c< (corners_cong t t' d d k.corners ∙ S.corners) in
      subst (λ x. KeepsNumber t x t' m'.used) same record { is_cell = S.is_cell; corners = λ i h. sym (k.corners i h) }

-- ---- an accepted node

module _ (m : Mesh) (t : Tables) (w : ℕ) (p : Position) (a : Answers) (e : is_mesh m t w ≡ true) (z : node_refusal m t w p a ≡ 0) where
  abbrev m' : Mesh
  m' = inserted_mesh m t p a

  abbrev t' : Tables
  t' = inserted_tables m t p a

  M : ValidMesh m t w
  M = valid_of m t w e

  abbrev R : Room (point_capacity t) (cell_capacity t w) t
  R = room_of t w

  M' : IsMesh m.x m.y m.z (point_capacity t') (cell_capacity t' w) (m.points + 1) m'.used t'
  unfolding inserted_mesh
  M' = (inserted_valid m t w w p a M (node_fits m t w p a z) (omega arith)).mesh

  abbrev R' : Room (point_capacity t') (cell_capacity t' w) t'
  R' = room_of t' w

  F : IsStar (star_numbers (chain_of m t) t m.used p (last_cavity m t p a)) t m.used p m.points (last_cavity m t p a) t' m'.used
  F = inserted_star m t w w p a M (node_fits m t w p a z) (omega arith)

  -- 'A cell outside the spot now keeps its number', and just these cells stand after it
  pub outside_keeps : (c : ℕ) → IsCell t m.used c → OutsideCavity m t p a c → KeepsNumber t c t' m'.used
  outside_keeps c c< out = kept_number M.mesh R M' R' F c c< (ap not out)

  pub stands_outside : (c : ℕ) → IsCell t m.used c → Stands t c t' m'.used → OutsideCavity m t p a c
  stands_outside c c< S = not-true (in_set (last_cavity m t p a) c) (standing_kept M.mesh R M' R' F c c< S)

  -- the numbers of the others are freed
  pub inside_freed : (c : ℕ) → in_set (last_cavity m t p a) c ≡ true → live t' c ≡ false
  unfolding inserted_tables
  inside_freed c e = freed_of t' c (λ i h. freed_corners (fits m t w w p a M (node_fits m t w p a z) (omega arith)) c i e h)

  module _ (q : Position) where
    again : in_box m.x m.y m.z q ≡ true → kept? (last_cavity m t p a) (first_holder t m.used q) ≡ true → first_holder t' m'.used q ≡ first_holder t m.used q
    again b = holder_kept M.mesh R M' R' F q (box_in b)

    node_stays : Stays q m t m' t'
    unfolding inserted_mesh
    node_stays = record {
      box = refl;
      points≤ = omega arith;
      old_cells = old_number M.mesh R M' R' F;
      located = λ b K. again b (standing_kept M.mesh R M' R' F (first_holder t m.used q) (located_cell m t (w, e) q b) (keeps_stands K));
    }

    -- located outside the corrected cavity
    node_located : (v c : ℕ) → locate_call m t v q ≡ Cell c → OutsideCavity m t p a c → LocatedIn t c m' t' w q
    node_located v c f out =
        let l = answered m t v q c f in
        let k : kept? (last_cavity m t p a) (first_holder t m.used q) ≡ true = ap (kept? (last_cavity m t p a)) l.cell ∙ ap not out in
        let b : in_box m'.x m'.y m'.z q ≡ true = unfold inserted_mesh in l.box in
        record {
          located = is_located m' t' w q (not_refused m' t' w (checks_again m t w p a e z)) b ∙ ap Cell (again l.box k ∙ l.cell);
          corners = (outside_keeps c (subst (IsCell t m.used) l.cell (located_cell m t (w, e) q l.box)) out).corners;
        }

-- THE PARKED HEAD, over an accepted node after tests 1 to 3: of a list, too. The later call has the insertion's work area
pub parked_node : (m : Mesh) (t : Tables) (w : ℕ) (p : Position) (a : Answers) {m' : Mesh} {r : Report} → is_mesh m t w ≡ true →
    Accepted m' r ≡ (insert_node m t w p a).answer → (q : Position) (v c : ℕ) → locate_call m t v q ≡ Cell c → OutsideCavity m t p a c →
    LocatedIn t c m' (insert_node m t w p a).tables w q
parked_node m t w p a {m'} e f q v c l out =
    let n = accepted_node_lem m t w p a f in
    subst (λ x. LocatedIn t c m' x w q) (sym n.1.1) (subst (λ x. LocatedIn t c x (inserted_tables m t p a) w q) (sym n.1.0) (node_located m t w p a e n.0 q v c l out))

-- over an accepted insertion by the sphere test or by answers handed in
pub parked_once : (m : Mesh) (t : Tables) (w : ℕ) (p : Position) (a : Answers) {m' : Mesh} {r : Report} →
    Accepted m' r ≡ (insert_call m t w p a).answer → (q : Position) (v c : ℕ) → locate_call m t v q ≡ Cell c → OutsideCavity m t p a c →
    LocatedIn t c m' (insert_call m t w p a).tables w q
parked_once m t w p a {m'} f q v c l out =
    let z = accepted_call m t w p a f in
    let s = call_is_node m t w p a z in
    subst (λ x. LocatedIn t c m' x.tables w q) (sym s)
    (parked_node m t w p a (passed m t w (fewer_bytes a m.used) z) (f ∙ ap (λ l. l.answer) s) q v c l out)

all_calls : (q : Position) (b : Build) (cs : List Call) → Checked b.mesh b.tables → Stays q b.mesh b.tables (mesh_after b cs).mesh (mesh_after b cs).tables
all_calls q b cs C =
    calls_keep (λ b' ps. Stays q b.mesh b.tables b'.mesh b'.tables)
    (λ a m t w p ps e z s. then q C s (node_stays m t w p a e z q)) b cs [] (same q b.mesh b.tables)

-- over every list of calls: a cell that stands has its number
pub numbers_stay : (b : Build) (cs : List Call) → NumbersStay b cs
numbers_stay b cs w c e = standing_number any (w, e) (all_calls any b cs (w, e)) c
  where
    any : Position
    any = record { x = 0; y = 0; z = 0 }

-- and while its cell stands, a position is located in it
pub parked : (b : Build) (cs : List Call) (q : Position) → StaysLocated b cs q
parked b cs q w w' c f S z =
    let l = answered b.mesh b.tables w q c f in
    let s = all_calls q b cs (w, l.check) in
    let b' = mesh_after b cs in
    let c< = subst (IsCell b.tables b.mesh.used) l.cell (located_cell b.mesh b.tables (w, l.check) q l.box) in
    let K = standing_number q (w, l.check) s c c< S in
    record {
      located =
          is_located b'.mesh b'.tables w' q z (s.box ∙ l.box) ∙
          ap Cell (s.located l.box (subst (λ d. KeepsNumber b.tables d b'.tables b'.mesh.used) (sym l.cell) K) ∙ l.cell);
      corners = K.corners;
    }

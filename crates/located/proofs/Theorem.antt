-- Exactly one cell comes first of those that hold a position: no two cells have the same corners. So it is told by corners alone.
use Prim.Native.Nat.{ℕ, ◌<◌}
use mathlib.Core.Bool.{true, false}
use mathlib.Core.Logic.{◌≢◌, ◌⊎◌, inl, inr}
use mathlib.Core.Path.{◌≡◌, refl, sym, ap, ap₂, ◌∙◌, subst}
use native.Mathlib.Decide.{ℕ_discrete}
use native.Mathlib.Omega.{arith}
use lib.IntN.{pos}
use lib.Signed.{◌<ℤ◌, ◌≤ℤ◌}
use Rattle.arith.proofs.Flags.{split, clash, bool_ext}
use Rattle.geometry.specs.declared.Position.{Position}
use Rattle.geometry.specs.Volume.{InBox, in_box, volume, replaced}
use Rattle.geometry.proofs.Ranges.{box_in}
use Rattle.mesh.specs.declared.Mesh.{Mesh}
use Rattle.mesh.specs.Tables.{Tables, point, corner, corner_at, cell_volume, live, IsCell}
use Rattle.mesh.specs.Mesh.{IsMesh, ValidMesh}
use Rattle.mesh.specs.Refusal.{mesh_refusal}
use Rattle.mesh.proofs.Room.{Room, room_of}
use Rattle.mesh.proofs.Valid.{valid_of, passed}
use Rattle.mesh.proofs.Held.{Holds, own_corner, weighted_nonneg}
use Rattle.locate.specs.Locate.{Cell}
use Rattle.locate.specs.Order.{lex_before}
use Rattle.locate.specs.Locate.{holds, sorted_corners, first_holder, locate_call}
use Rattle.locate.proofs.Codes.{holder_cell}
use Rattle.locate.proofs.Order.{before_irrefl, before_trans, before_same}
use Rattle.locate.proofs.First.{corners_length, corners_same, holder_is_first}
use Rattle.locate.proofs.Finding.{outside, found}
use Rattle.cavity.proofs.Tests.{holds_of, holds_yes}
use Rattle.covering.proofs.Theorem.{covering, some_holds}
use Rattle.covering.proofs.Holders.{corners_tell_cells}
use Rattle.located.specs.Claim.{ComesFirst, OneCell, Stands, SameCells, SameAnswer, same_refusal, same_cell}

module _ {X Y Z pc cc np n : ℕ} {t : Tables} (M : IsMesh X Y Z pc cc np n t) (R : Room pc cc t) where
  -- no two cells have the same corners
  pub corners_once : (c d : ℕ) → IsCell t n c → IsCell t n d → sorted_corners t c ≡ sorted_corners t d → c ≡ d
  corners_once c d lc ld e = corners_tell_cells M R c d lc ld (corners_same t t c d e)

  -- so a cell that no other comes before comes before all others
  pub first_where_none_before : (p : Position) (c : ℕ) → c < n → holds t p c ≡ true →
      ((d : ℕ) → d < n → holds t p d ≡ true → lex_before (sorted_corners t d) (sorted_corners t c) ≡ false) → ComesFirst t n p c
  first_where_none_before p c l h none = record { cell< = l; holding = h; before_others = λ d ld ne hd. go d ld ne hd (split (lex_before (sorted_corners t c) (sorted_corners t d))) }
    where
      go : (d : ℕ) → d < n → d ≢ c → holds t p d ≡ true →
          (lex_before (sorted_corners t c) (sorted_corners t d) ≡ true) ⊎ (lex_before (sorted_corners t c) (sorted_corners t d) ≡ false) →
          lex_before (sorted_corners t c) (sorted_corners t d) ≡ true
      go d ld ne hd (inl e) = e
      go d ld ne hd (inr e) =
          absurd (ne (corners_once d c (holder_cell t p ld hd) (holder_cell t p l h)
          (before_same (sorted_corners t d) (sorted_corners t c) (corners_length t d ∙ sym (corners_length t c)) (none d ld hd) e)))

  -- the definition's cell does
  pub holder_first : (p : Position) → InBox X Y Z p → ComesFirst t n p (first_holder t n p)
  holder_first p box =
      let h = some_holds (covering M R) p box in
      let l = holder_is_first t p n h.0 h.1 h.2 in
      first_where_none_before p (first_holder t n p) l.cell< l.holding l.first

-- and no two cells do, in any tables
pub first_once : {t : Tables} {n : ℕ} {p : Position} (c d : ℕ) → ComesFirst t n p c → ComesFirst t n p d → d ≡ c
first_once {t} c d f g = go (ℕ_discrete d c)
  where
    go : Dec (d ≡ c) → d ≡ c
    go (yes e) = e
    go (no ne) =
        clash (before_trans (sorted_corners t c) (sorted_corners t d) (sorted_corners t c) (f.before_others d g.cell< ne g.holding)
        (g.before_others c f.cell< (λ e. ne (sym e)) f.holding)) (before_irrefl (sorted_corners t c))

is_valid : (m : Mesh) (t : Tables) (w : ℕ) → mesh_refusal m t w false ≡ 0 → ValidMesh m t w
is_valid m t w z = valid_of m t w (passed m t w false z)

pub is_located : (m : Mesh) (t : Tables) (w : ℕ) (p : Position) → mesh_refusal m t w false ≡ 0 → in_box m.x m.y m.z p ≡ true →
    locate_call m t w p ≡ Cell (first_holder t m.used p)
is_located m t w p z b =
    let l = (holder_first (is_valid m t w z).mesh (room_of t w) p (box_in b)).cell< in
    sym (found m t w p z b refl (λ e. omega (arith, l, e)))

-- ONE CELL FOR A POSITION: a call that tests 1 to 4 let pass answers the one cell that comes first
pub one_cell : (m : Mesh) (t : Tables) (w : ℕ) (p : Position) → mesh_refusal m t w false ≡ 0 → in_box m.x m.y m.z p ≡ true → OneCell m t w p
one_cell m t w p z b =
    let f = holder_first (is_valid m t w z).mesh (room_of t w) p (box_in b) in
    record {
      cell = first_holder t m.used p;
      located = is_located m t w p z b;
      first = f;
      only = λ d g. first_once (first_holder t m.used p) d f g;
    }

-- ---- the same cells in another order

-- a cell whose corners are those of one that holds p holds it
held_by_corners : (t t' : Tables) (p : Position) (c d : ℕ) → live t' d ≡ true → pos 0 <ℤ cell_volume t c → pos 0 <ℤ cell_volume t' d →
    ((i : ℕ) → i < 4 → (j : ℕ) × (j < 4) × (corner_at t' d j ≡ corner_at t c i)) → holds t p c ≡ true → holds t' p d ≡ true
held_by_corners t t' p c d a v v' same h = holds_yes t' p d a (unfold Holds in λ l hl.
    weighted_nonneg (corner_at t c) (corner_at t' d) p l hl (unfold cell_volume in v) (unfold Holds in holds_of t p c h) (λ i hi. inr (at l hl (corner_at t c i) (same i hi))))
  where
    at : (l : ℕ) → l < 4 → (q : Position) → (j : ℕ) × (j < 4) × (corner_at t' d j ≡ q) → pos 0 ≤ℤ volume (replaced (corner_at t' d) l q)
    at l hl q (j, hj, e) =
        subst (λ q. pos 0 ≤ℤ volume (replaced (corner_at t' d) l q)) e (own_corner (corner_at t' d) l j hl hj (unfold cell_volume in v'))

module _ {X Y Z pc cc np n X' Y' Z' pc' cc' np' n' : ℕ} {t t' : Tables} (M : IsMesh X Y Z pc cc np n t) (R : Room pc cc t)
    (M' : IsMesh X' Y' Z' pc' cc' np' n' t') (R' : Room pc' cc' t') (points : (v : ℕ) → v < np → point t' v ≡ point t v)
    (there : (c : ℕ) → IsCell t n c → Stands t c t' n') (back : (d : ℕ) → IsCell t' n' d → Stands t' d t n) where
  module _ (c d : ℕ) (lc : IsCell t n c) (ld : IsCell t' n' d) (e : sorted_corners t' d ≡ sorted_corners t c) where
    placed_there : (i : ℕ) → i < 4 → (j : ℕ) × (j < 4) × (corner_at t' d j ≡ corner_at t c i)
    unfolding corner_at
    placed_there i h = go (corners_same t t' c d (sym e) i h)
      where
        go : (j : ℕ) × (j < 4) × (corner t' d j ≡ corner t c i) → (j : ℕ) × (j < 4) × (point t' (corner t' d j) ≡ point t (corner t c i))
        go (j, hj, q) = (j, hj, ap (point t') q ∙ points (corner t c i) (M.corner< c i lc h))

    placed_back : (i : ℕ) → i < 4 → (j : ℕ) × (j < 4) × (corner_at t c j ≡ corner_at t' d i)
    unfolding corner_at
    placed_back i h = go (corners_same t' t d c e i h)
      where
        go : (j : ℕ) × (j < 4) × (corner t c j ≡ corner t' d i) → (j : ℕ) × (j < 4) × (point t (corner t c j) ≡ point t' (corner t' d i))
        go (j, hj, q) = (j, hj, sym (points (corner t c j) (M.corner< c j lc hj)) ∙ ap (point t') q)

    same_holds : (p : Position) → holds t p c ≡ holds t' p d
    same_holds p =
        bool_ext (holds t p c) (holds t' p d) (held_by_corners t t' p c d ld.lives (M.positive c lc) (M'.positive d ld) placed_there)
        (held_by_corners t' t p d c lc.lives (M'.positive d ld) (M.positive c lc) placed_back)

  same_first : (p : Position) (c d : ℕ) → IsCell t' n' d → sorted_corners t' d ≡ sorted_corners t c → ComesFirst t n p c → ComesFirst t' n' p d
  same_first p c d ld e f = record {
    cell< = ld.below;
    holding = sym (same_holds c d (holder_cell t p f.cell< f.holding) ld e p) ∙ f.holding;
    before_others = λ k k< ne h.
        let lk : IsCell t' n' k = holder_cell t' p k< h in
        let b = back k lk in
        let q = b.corners in
        ap₂ lex_before e (sym q) ∙
        f.before_others b.cell b.is_cell.below (λ a. ne (corners_once M' R' k d lk ld (sym q ∙ (ap (sorted_corners t) a ∙ sym e))))
        (same_holds b.cell k b.is_cell lk (sym q) p ∙ h);
  }

  same_holder : (p : Position) → InBox X Y Z p → InBox X' Y' Z' p → sorted_corners t' (first_holder t' n' p) ≡ sorted_corners t (first_holder t n p)
  same_holder p box box' =
      let f = holder_first M R p box in
      let d = there (first_holder t n p) (holder_cell t p f.cell< f.holding) in
      ap (sorted_corners t')
      (first_once d.cell (first_holder t' n' p) (same_first p (first_holder t n p) d.cell d.is_cell d.corners f) (holder_first M' R' p box')) ∙ d.corners

-- answers of two calls that tests 1 to 3 let pass, in boxes with the same sides
same_answer : (m m' : Mesh) (t t' : Tables) (w w' : ℕ) (p : Position) → mesh_refusal m t w false ≡ 0 → mesh_refusal m' t' w' false ≡ 0 →
    in_box m.x m.y m.z p ≡ in_box m'.x m'.y m'.z p →
    (in_box m.x m.y m.z p ≡ true → sorted_corners t' (first_holder t' m'.used p) ≡ sorted_corners t (first_holder t m.used p)) →
    SameAnswer t t' (locate_call m t w p) (locate_call m' t' w' p)
same_answer m m' t t' w w' p z z' e same = go (split (in_box m.x m.y m.z p))
  where
    go : (in_box m.x m.y m.z p ≡ true) ⊎ (in_box m.x m.y m.z p ≡ false) → SameAnswer t t' (locate_call m t w p) (locate_call m' t' w' p)
    go (inl b) = rw (is_located m t w p z b, is_located m' t' w' p z' (sym e ∙ b)) (same_cell (first_holder t m.used p) (first_holder t' m'.used p) (same b))
    go (inr b) = rw (← outside m t w p z b, ← outside m' t' w' p z' (sym e ∙ b)) (same_refusal 4)

-- A PROPERTY OF THE CELLS AND NOT OF THEIR NUMBERS: the box is that of the first eight points
pub same_located : (m m' : Mesh) (t t' : Tables) (w w' : ℕ) → mesh_refusal m t w false ≡ 0 → mesh_refusal m' t' w' false ≡ 0 → SameCells m t m' t' →
    (p : Position) → SameAnswer t t' (locate_call m t w p) (locate_call m' t' w' p)
same_located m m' t t' w w' z z' S p =
    same_answer m m' t t' w w' p z z' (ap (λ q. in_box q.x q.y q.z p) corner_7)
    (λ b. same_holder (is_valid m t w z).mesh (room_of t w) (is_valid m' t' w' z').mesh (room_of t' w') S.points S.there S.back p (box_in b) (box_in (sym (ap (λ q. in_box q.x q.y q.z p) corner_7) ∙ b)))
  where
    far : (m : Mesh) → Position
    far m = record { x = m.x; y = m.y; z = m.z }

    corner_7 : far m ≡ far m'
    corner_7 =
        sym ((is_valid m t w z).mesh.box_corners 7 (omega arith)) ∙
        (sym (S.points 7 (omega (arith, (is_valid m t w z).mesh.points≥))) ∙ (is_valid m' t' w' z').mesh.box_corners 7 (omega arith))

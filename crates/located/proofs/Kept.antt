-- A position whose located cell is outside the corrected cavity is located in that cell after the insertion, though new cells may hold it too. With the
-- value 1 at the new point and 0 at all others, the kept cell gives the position the value 0; so a new cell that holds it has it on the old face; so the
-- old cell of that face held it and did not come before; and with a corner replaced by the greatest number it does not come before either.
use Prim.Native.Nat.{ℕ, ◌+◌, ◌*◌, ◌≤◌, ◌<◌}
use mathlib.Core.Bool.{Bool, true, false, ◌&&◌}
use mathlib.Core.List.{List}
use mathlib.Core.Logic.{◌⊎◌, inl, inr}
use mathlib.Core.Path.{◌≡◌, refl, sym, ap, ap₂, ◌∙◌, subst}
use native.Mathlib.Omega.{arith}
use native.Mathlib.Decide.{ℕ_discrete}
use lib.IntN.{pos, ◌*ℤ◌, *ℤ_comm, zero-*ℤ}
use lib.Signed.{◌≤ℤ◌, le_z}
use Rattle.arith.proofs.Flags.{clash, fails}
use Rattle.arith.proofs.Order.{cancel_zero}
use Rattle.arith.proofs.Tables.{all_cong}
use Rattle.geometry.specs.declared.Position.{Position}
use Rattle.geometry.specs.Volume.{InBox, volume, replaced}
use Rattle.geometry.proofs.Places.{replaced_cong, replaced_other}
use Rattle.geometry.proofs.Algebra.{volume_cong}
use Rattle.mesh.specs.Tables.{Tables, cell_of, opposite, corner, corner_at, cell_volume, side, live, IsCell, IsFace}
use Rattle.mesh.specs.Mesh.{IsMesh}
use Rattle.mesh.proofs.Room.{Room}
use Rattle.mesh.proofs.Live.{live_of, live_same}
use Rattle.mesh.proofs.FaceNumbers.{opposite<}
use Rattle.mesh.proofs.Held.{Holds, side_at_lem, own_corner, weighted_nonneg}
use Rattle.locate.specs.Order.{lex_before}
use Rattle.locate.specs.Locate.{holds, sorted_corners, first_holder}
use Rattle.locate.proofs.Codes.{holder_cell}
use Rattle.locate.proofs.Order.{AtMost, before_at_most}
use Rattle.locate.proofs.First.{IsFirst, corners_cong, corners_mono, corners_below, holder_is_first}
use Rattle.cavity.specs.Cavity.{visible}
use Rattle.cavity.proofs.Tests.{holds_of, holds_yes}
use Rattle.star.specs.Star.{kept?}
use Rattle.star.proofs.Numbered.{IsStar, Origin, from_kept, from_made, made_apex, made_other, kept_position, made_position}
use Rattle.covering.specs.Place.{whole}
use Rattle.covering.proofs.Linear.{form, form_whole, HoldsForm}
use Rattle.covering.proofs.Parts.{holds_whole, whole_in_box, holds_form}
use Rattle.covering.proofs.Shared.{form_weighted, same_value}
use Rattle.covering.proofs.Holders.{only_at, value_none, value_one}
use Rattle.located.specs.Claim.{ComesFirst, Stands, KeepsNumber}
use Rattle.located.proofs.Theorem.{corners_once, first_where_none_before, holder_first, first_once}

-- a cell that holds q, by the forms
by_forms : (t : Tables) (q : Position) (c : ℕ) → live t c ≡ true → holds t q c ≡ true → HoldsForm t (whole q) c
by_forms t q c a h = (holds_form t (whole q) (omega arith) c a).0 (holds_whole t q c ∙ h)

-- t' are the tables t with p put in over the cavity s; the kept cells stand at their own numbers
module _ {X Y Z pc cc pc' cc' np n n' : ℕ} {t t' : Tables} (M : IsMesh X Y Z pc cc np n t) (R : Room pc cc t) (M' : IsMesh X Y Z pc' cc' (np + 1) n' t') (R' : Room pc' cc' t')
    {made : ℕ → ℕ} {p : Position} {s : List Bool} (F : IsStar record { kept = λ c. c; made = made } t n p np s t' n') where
  -- ---- kept cells

  module _ (c : ℕ) (c< : IsCell t n c) (k : kept? s c ≡ true) where
    kept_live : live t' c ≡ live t c
    kept_live = live_same t' t c c (F.kept_corner c c< k)

    pub kept_cell : IsCell t' n' c
    kept_cell = record { below = F.kept< c c< k; lives = kept_live ∙ c<.lives }

    kept_side : (q : Position) (i : ℕ) → i < 4 → side t' q (4 * c + i) ≡ side t q (4 * c + i)
    kept_side q i h =
        side_at_lem t' q c i h ∙
        (volume_cong (replaced (corner_at t' c) i q) (replaced (corner_at t c) i q)
        (replaced_cong (corner_at t' c) (corner_at t c) i q q (kept_position F M.corner< c c< k) refl) ∙ sym (side_at_lem t q c i h))

    kept_holds : (q : Position) → holds t' q c ≡ holds t q c
    unfolding holds
    kept_holds q =
        ap₂ ◌&&◌ kept_live (all_cong 4 (λ i. le_z (pos 0) (side t' q (4 * c + i))) (λ i. le_z (pos 0) (side t q (4 * c + i))) (λ i h. ap (le_z (pos 0)) (kept_side q i h)))

    kept_corners : sorted_corners t' c ≡ sorted_corners t c
    kept_corners = corners_cong t' t c c (F.kept_corner c c< k)

    pub kept_number : KeepsNumber t c t' n'
    kept_number = record { is_cell = kept_cell; corners = F.kept_corner c c< k }

  -- ---- a new cell over the face f, where a kept cell c holds q

  module _ (f : ℕ) (f< : IsFace t n f) (v : visible t p s f ≡ true) where
    abbrev e : ℕ
    e = made f

    abbrev d : ℕ
    d = cell_of f

    made_cell : IsCell t' n' e
    made_cell = record {
      below = F.made< f f< v;
      lives = live_of t' e (opposite f) (opposite< f) (omega (arith, made_apex F f f< v (opposite f) (opposite< f) refl, M'.points≤, R'.points≤));
    }

    -- one corner of the face's old cell is replaced by the greatest number
    made_corners : AtMost (sorted_corners t d) (sorted_corners t' e)
    made_corners = corners_mono t t' d e (λ i h. go i h (ℕ_discrete i (opposite f)))
      where
        go : (i : ℕ) → i < 4 → Dec (i ≡ opposite f) → corner t d i ≤ corner t' e i
        go i h (yes q) = omega (arith, M.corner< d i f< h, made_apex F f f< v i h q)
        go i h (no q) = omega (arith, made_other F f f< v i h q)

    module _ (q : Position) (inside : InBox X Y Z q) (c : ℕ) (c< : IsCell t n c) (k : kept? s c ≡ true) (held_c : holds t q c ≡ true) (held_e : holds t' q e ≡ true) where
      -- q has no part of the new point
      on_face : form t' (whole q) (4 * e + opposite f) ≡ pos 0
      on_face =
          cancel_zero {a = cell_volume t' c} (form t' (whole q) (4 * e + opposite f)) (M'.positive c (kept_cell c c< k))
          (*ℤ_comm (cell_volume t' c) (form t' (whole q) (4 * e + opposite f)) ∙
          (ap (λ z. z *ℤ cell_volume t' c) (sym has_new) ∙
          (same_value M' R' (whole q) (whole_in_box inside) (only_at np) e c made_cell (kept_cell c c< k)
          (by_forms t' q e made_cell.lives held_e) (by_forms t' q c (kept_cell c c< k).lives (kept_holds c c< k q ∙ held_c)) ∙
          (ap (λ z. z *ℤ cell_volume t' e) has_none ∙ zero-*ℤ (cell_volume t' e)))))
        where
          has_new : form_weighted t' (whole q) (only_at np) e ≡ form t' (whole q) (4 * e + opposite f)
          has_new =
              value_one t' (whole q) np e (opposite f) (opposite< f) (made_apex F f f< v (opposite f) (opposite< f) refl)
              (λ i h a b. let l : corner t d i < np = M.corner< d i f< h in omega (arith, made_other F f f< v i h a, b))

          has_none : form_weighted t' (whole q) (only_at np) c ≡ pos 0
          has_none = value_none t' (whole q) np c (λ i h b. let l : corner t c i < np = M.corner< c i c< h in omega (arith, F.kept_corner c c< k i h, b))

      -- so the old cell of the face held it
      old_holds_lem : holds t q d ≡ true
      old_holds_lem = holds_yes t q d f<.lives (unfold Holds in λ l hl.
          weighted_nonneg (corner_at t' e) (corner_at t d) q l hl (unfold cell_volume in M'.positive e made_cell) (unfold Holds in holds_of t' q e held_e)
          (λ i h. go l hl i h (ℕ_discrete i (opposite f))))
        where
          go : (l : ℕ) → l < 4 → (i : ℕ) → i < 4 → Dec (i ≡ opposite f) → (volume (replaced (corner_at t' e) i q) ≡ pos 0) ⊎ (pos 0 ≤ℤ volume (replaced (corner_at t d) l (corner_at t' e i)))
          go l hl i h (yes a) =
              inl (sym (side_at_lem t' q e i h) ∙ (sym (form_whole t' q (4 * e + i)) ∙ (ap (λ x. form t' (whole q) (4 * e + x)) a ∙ on_face)))
          go l hl i h (no a) =
              inr (subst (λ x. pos 0 ≤ℤ volume (replaced (corner_at t d) l x)) (sym (made_position F M.corner< f f< v i h ∙ replaced_other (corner_at t d) (opposite f) p i a))
              (own_corner (corner_at t d) l i hl h (unfold cell_volume in M.positive d f<)))

  -- the cell that comes first does so again
  first_kept : (q : Position) → InBox X Y Z q → (c : ℕ) → IsFirst t q n c → kept? s c ≡ true → ComesFirst t' n' q c
  first_kept q inside c l k =
      first_where_none_before M' R' q c (kept_cell c c< k).below (kept_holds c c< k q ∙ l.holding)
      (λ e e< h. ap (lex_before (sorted_corners t' e)) (kept_corners c c< k) ∙ go e h (F.only e (holder_cell t' q e< h)))
    where
      c< : IsCell t n c
      c< = holder_cell t q l.cell< l.holding

      go : (e : ℕ) → holds t' q e ≡ true → Origin record { kept = λ c. c; made = made } t n p s e → lex_before (sorted_corners t' e) (sorted_corners t c) ≡ false
      go e h (from_kept d d< kd a) =
          ap (λ x. lex_before x (sorted_corners t c)) (ap (sorted_corners t') a ∙ kept_corners d d< kd) ∙
          l.first d d<.below (sym (kept_holds d d< kd q) ∙ (ap (holds t' q) (sym a) ∙ h))
      go e h (from_made g g< v a) =
          fails (lex_before (sorted_corners t' e) (sorted_corners t c)) (λ b. clash (before_at_most (made_corners g g< v) (sorted_corners t c) (ap (λ x. lex_before (sorted_corners t' x) (sorted_corners t c)) (sym a) ∙ b))
          (l.first (cell_of g) g<.below (old_holds_lem g g< v q inside c c< k l.holding (ap (holds t' q) (sym a) ∙ h))))

  -- under the same number
  pub holder_kept : (q : Position) → InBox X Y Z q → kept? s (first_holder t n q) ≡ true → first_holder t' n' q ≡ first_holder t n q
  holder_kept q inside k =
      let f = holder_first M R q inside in
      let l = holder_is_first t q n (first_holder t n q) f.cell< f.holding in
      first_once (first_holder t n q) (first_holder t' n' q) (first_kept q inside (first_holder t n q) l k) (holder_first M' R' q inside)

  -- ---- cells whose corners are old points

  -- they are kept cells: a new one has the new point
  old_cell : (d : ℕ) → IsCell t' n' d → ((i : ℕ) → i < 4 → corner t' d i < np) → IsCell t n d × (kept? s d ≡ true)
  old_cell d d< old = go (F.only d d<)
    where
      go : Origin record { kept = λ c. c; made = made } t n p s d → IsCell t n d × (kept? s d ≡ true)
      go (from_kept k k< e a) = (subst (IsCell t n) (sym a) k<, subst (λ x. kept? s x ≡ true) (sym a) e)
      go (from_made f f< v a) =
          let l = old (opposite f) (opposite< f) in
          absurd (omega (arith, l, ap (λ c. corner t' c (opposite f)) a, made_apex F f f< v (opposite f) (opposite< f) refl))

  pub old_number : (d : ℕ) → IsCell t' n' d → ((i : ℕ) → i < 4 → corner t' d i < np) → KeepsNumber t' d t n
  old_number d d< old = let r = old_cell d d< old in record { is_cell = r.0; corners = λ i h. sym (F.kept_corner d r.0 r.1 i h) }

  -- so a cell that stands was kept
  pub standing_kept : (c : ℕ) → IsCell t n c → Stands t c t' n' → kept? s c ≡ true
  standing_kept c c< S =
      let d = S.cell in
      let r = old_cell d S.is_cell (corners_below t' t d c S.corners np (λ j h. M.corner< c j c< h)) in
      subst (λ x. kept? s x ≡ true) (corners_once M R d c r.0 c< (sym (kept_corners d r.0 r.1) ∙ S.corners)) r.1

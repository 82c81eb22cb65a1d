-- The faces of a cell of the cavity, and the points that are exposed.
use Prim.Native.Nat.{ℕ, zero, suc, ◌+◌, ◌*◌, ◌≤◌, ◌<◌}
use mathlib.Core.Bool.{Bool, true, false, not, cond, ◌&&◌, ◌||◌, not-not}
use mathlib.Core.List.{List, ◌∷◌, []}
use mathlib.Core.Logic.{◌≢◌, ◌⊎◌, inl, inr}
use mathlib.Core.Path.{◌≡◌, refl, sym, ap, ◌∙◌, subst}
use native.Mathlib.Omega.{arith}
use native.Mathlib.Decide.{ℕ_discrete}
use lib.Dec.{eqb, ltb}
use lib.ListN.{length, get_or, set, length-set}
use lib.Seq.{get_or-set_same, get_or-set_other}
use lib.IntN.{ℤ, pos}
use lib.Signed.{lt_z, le_z}
use borrow.Author.Tests.{eq-eqb, ne_eqb, lt-ltb, le-ltb}
use mir.Val.{bool_byte}
use Rattle.arith.specs.Table.{tabulate, fill, all_below}
use Rattle.arith.proofs.Flags.{fails}
use Rattle.arith.proofs.Order.{le_z_not}
use Rattle.arith.proofs.Tables.{tabulate_at}
use Rattle.geometry.specs.declared.Position.{Position}
use Rattle.geometry.specs.declared.Volumes.{Volumes}
use Rattle.geometry.specs.Volume.{InRange, volume, replaced}
use Rattle.geometry.specs.Inner.{volumes_at}
use Rattle.mesh.specs.declared.Cell.{Cell}
use Rattle.mesh.specs.Tables.{Tables, none, cell_of, point_in, across, side, tables, IsCell, IsFace}
use Rattle.mesh.specs.Inner.{cell_at, positions_of, SomeMesh}
use Rattle.mesh.specs.Inner.Faces.{first, second, third}
use Rattle.mesh.proofs.Numbers.{others, byte≤}
use Rattle.mesh.proofs.FaceNumbers.{face_cell, face_in}
use Rattle.mesh.proofs.Reading.{loaded_corners, loaded_cornered, entry_across}
use Rattle.locate.specs.Inner.{volume_at}
use Rattle.locate.proofs.Codes.{measured, side_of_four}
use Rattle.cavity.specs.Cavity.{in_set, outer, coplanar, visible, faces_good}
use Rattle.cavity.specs.Inner.{inside, set_of, hidden, four_bits, faces_code}
use Rattle.cavity.specs.Inner.Correction.{wall_kind, face_kind, face_kinds, kinds_code, with_face, with_faces, is_exposed}
use Rattle.cavity.proofs.Visiting.{set_at, in_set_lem}

-- ---- the kinds of a cell's faces

module _ {ps cs ns : List ℕ} {np n : ℕ} (M : SomeMesh (tables ps cs ns) np n) {q : Position} (r : InRange q) {c : ℕ} (c< : IsCell (tables ps cs ns) n c)
    {cell : Cell} (e : cell ≡ cell_at cs ns c) where
  abbrev t : Tables
  t = tables ps cs ns

  pub kinds_are : (st : List ℕ) {v : Volumes} → v ≡ volumes_at (positions_of ps cell.corners) q →
      {k₀ k₁ k₂ k₃ : ℕ} → k₀ ≡ face_kind st (get_or cell.neighbours 0 0) (volume_at v 0) → k₁ ≡ face_kind st (get_or cell.neighbours 1 0) (volume_at v 1) →
      k₂ ≡ face_kind st (get_or cell.neighbours 2 0) (volume_at v 2) → k₃ ≡ face_kind st (get_or cell.neighbours 3 0) (volume_at v 3) →
      ◌≡◌ {A = List ℕ} (k₀ ∷ k₁ ∷ k₂ ∷ k₃ ∷ []) (face_kinds t q st c)
  unfolding face_kinds tabulate fill
  kinds_are st {v} ev a b d f =
      λ i. (a ∙ at 0 (omega arith)) i ∷ (b ∙ at 1 (omega arith)) i ∷ (d ∙ at 2 (omega arith)) i ∷ (f ∙ at 3 (omega arith)) i ∷ []
    where
      side_is : (i : ℕ) → i < 4 → volume_at v i ≡ side t q (4 * c + i)
      side_is i l =
          measured ps cell.corners q ev (loaded_cornered M c< e) r i l ∙
          (ap (λ k. volume (replaced (λ j. point_in ps (get_or k j 0)) i q)) (loaded_corners cs ns c e) ∙ side_of_four ps cs ns c i q l)

      at : (i : ℕ) → i < 4 → face_kind st (get_or cell.neighbours i 0) (volume_at v i) ≡ face_kind st (across t (4 * c + i)) (side t q (4 * c + i))
      at i l = λ x. face_kind st (entry_across M c< e i l x) (side_is i l x)

kind≤ : (st : List ℕ) (u : ℕ) (v : ℤ) → face_kind st u v ≤ 16
unfolding face_kind wall_kind
kind≤ st u v = go (eqb u none) (inside st u) (lt_z (pos 0) v) (lt_z v (pos 0))
  where
    go : (n i a b : Bool) → cond n (cond a 1 (cond b 16 0)) (cond i 0 (cond a 1 16)) ≤ 16
    go true i true b = omega arith
    go true i false true = omega arith
    go true i false false = omega arith
    go false true a b = omega arith
    go false false true b = omega arith
    go false false false b = omega arith

pub kinds≤ : (t : Tables) (p : Position) (st : List ℕ) (c : ℕ) {k : List ℕ} → k ≡ face_kinds t p st c → (i : ℕ) → i < 4 → get_or k i 0 ≤ 16
unfolding face_kinds
kinds≤ t p st c e i l =
    subst (λ x. x ≤ 16)
    (sym (ap (λ k. get_or k i 0) e ∙ tabulate_at 4 (λ k. face_kind st (across t (4 * c + k)) (side t p (4 * c + k))) i 0 l))
    (kind≤ st (across t (4 * c + i)) (side t p (4 * c + i)))

-- ---- kinds as tests

not_swap : {a b : Bool} → b ≡ not a → a ≡ not b
not_swap {a} {b} e = sym (ap not e ∙ not-not a)

-- a face on a wall, with p above or below its plane
wall_kind_lem : (a b : Bool) → cond a 1 (cond b 16 0) ≡ bool_byte a + 16 * bool_byte (not ((not a && not b) || a))
wall_kind_lem true b = omega arith
wall_kind_lem false true = refl
wall_kind_lem false false = refl

-- a face with a cell across it, inside or not
inner_kind : (x a : Bool) → cond x 0 (cond a 1 16) ≡ bool_byte (not x && a) + 16 * bool_byte (not x && not (not x && a))
inner_kind true a = refl
inner_kind false true = refl
inner_kind false false = refl

is_one : (v h : Bool) → (v && h) ≡ false → eqb (bool_byte v + 16 * bool_byte h) 1 ≡ v
is_one true true e = sym e
is_one true false e = refl
is_one false true e = refl
is_one false false e = refl

-- no hidden bit: the code is below 16
none_hidden : (low : ℕ) → low ≤ 15 → (a b c d : Bool) → ltb (low + 16 * four_bits a b c d) 16 ≡ (not d && (not c && (not b && (not a && true))))
none_hidden low h false false false false = lt-ltb (low + 16 * 0) 16 (omega arith)
none_hidden low h a b c true = le-ltb (low + 16 * four_bits a b c true) 16 (omega arith)
none_hidden low h a b true false = le-ltb (low + 16 * four_bits a b true false) 16 (omega arith)
none_hidden low h a true false false = le-ltb (low + 16 * four_bits a true false false) 16 (omega arith)
none_hidden low h true false false false = le-ltb (low + 16 * four_bits true false false false) 16 (omega arith)

four_bits≤ : (a b c d : Bool) → four_bits a b c d ≤ 15
four_bits≤ a b c d = omega (arith, byte≤ a, byte≤ b, byte≤ c, byte≤ d)

-- a cell of code below 16 has no hidden face
pub code_good : (t : Tables) (p : Position) (s : List Bool) (c : ℕ) → ltb (faces_code t p s c) 16 ≡ faces_good t p s c
unfolding faces_code faces_good all_below hidden
code_good t p s c =
    none_hidden _ (four_bits≤ (visible t p s (4 * c + 0)) (visible t p s (4 * c + 1)) (visible t p s (4 * c + 2)) (visible t p s (4 * c + 3)))
    (hidden t p s (4 * c + 0)) (hidden t p s (4 * c + 1)) (hidden t p s (4 * c + 2)) (hidden t p s (4 * c + 3)) ∙
    (λ i. good 3 i && (good 2 i && (good 1 i && (good 0 i && true))))
  where
    and_not : (a b : Bool) → not (a && not b) ≡ (not a || b)
    and_not true true = refl
    and_not true false = refl
    and_not false b = refl

    good : (k : ℕ) → not (hidden t p s (4 * c + k)) ≡ (not (outer (across t) (in_set s) (4 * c + k)) || (coplanar t p (4 * c + k) || visible t p s (4 * c + k)))
    good k = and_not (outer (across t) (in_set s) (4 * c + k)) (coplanar t p (4 * c + k) || visible t p s (4 * c + k))

module _ (t : Tables) (n : ℕ) (n≤ : n ≤ 4096) (p : Position) (st : List ℕ) (links : (f : ℕ) → IsFace t n f → across t f ≢ none → across t f < n)
    (c : ℕ) (c< : IsCell t n c) (in? : inside st c ≡ true) where
  abbrev s : List Bool
  s = set_of n st

  own : (k : ℕ) → k < 4 → in_set s (cell_of (4 * c + k)) ≡ true
  own k h = ap (in_set s) (face_cell c k h) ∙ (set_at n st c c<.below ∙ in?)

  no_cell : in_set s none ≡ false
  no_cell = fails (in_set s none) (λ e. far (in_set_lem n st none e).0)
    where
      far : none < n → ⊥
      far h = omega (arith, n≤)

  kind_is : (k : ℕ) → k < 4 → get_or (face_kinds t p st c) k 0 ≡ bool_byte (visible t p s (4 * c + k)) + 16 * bool_byte (hidden t p s (4 * c + k))
  unfolding face_kinds face_kind wall_kind visible hidden outer coplanar
  kind_is k h = tabulate_at 4 (λ k. face_kind st (across t (4 * c + k)) (side t p (4 * c + k))) k 0 h ∙ go (ℕ_discrete u none)
    where
      u : ℕ
      u = across t (4 * c + k)

      a : Bool
      a = lt_z (pos 0) (side t p (4 * c + k))

      b : Bool
      b = lt_z (side t p (4 * c + k)) (pos 0)

      low : le_z (side t p (4 * c + k)) (pos 0) ≡ not a
      low = not_swap (le_z_not (side t p (4 * c + k)) (pos 0))

      high : le_z (pos 0) (side t p (4 * c + k)) ≡ not b
      high = not_swap (le_z_not (pos 0) (side t p (4 * c + k)))

      go : Dec (u ≡ none) → face_kind st u (side t p (4 * c + k)) ≡ bool_byte (visible t p s (4 * c + k)) + 16 * bool_byte (hidden t p s (4 * c + k))
      go (yes e) = rw (own k h, e, no_cell, low, high) (wall_kind_lem a b)
      go (no d) = rw (own k h, ne_eqb u none d, set_at n st u (links (4 * c + k) (face_in c k h c<) d)) (inner_kind (inside st u) a)

  pub kind_visible : (k : ℕ) → k < 4 → eqb (get_or (face_kinds t p st c) k 0) 1 ≡ visible t p s (4 * c + k)
  unfolding hidden
  kind_visible k h =
      ap (λ x. eqb x 1) (kind_is k h) ∙
      is_one (visible t p s (4 * c + k)) (hidden t p s (4 * c + k)) (apart (outer (across t) (in_set s) (4 * c + k)) (coplanar t p (4 * c + k)) (visible t p s (4 * c + k)))
    where
      apart : (o x v : Bool) → (v && (o && not (x || v))) ≡ false
      apart o x false = refl
      apart false x true = refl
      apart true true true = refl
      apart true false true = refl

  pub code_is : kinds_code (face_kinds t p st c) ≡ faces_code t p s c
  unfolding kinds_code faces_code
  code_is = omega (arith, kind_is 0 (omega arith), kind_is 1 (omega arith), kind_is 2 (omega arith), kind_is 3 (omega arith))

-- ---- the points that are exposed

exposed_new : (exposed : List ℕ) (a x : ℕ) → a < length exposed → x ≡ a → is_exposed (set exposed a 1) x ≡ true
exposed_new exposed a x h e = ap (is_exposed (set exposed a 1)) e ∙ ap (ltb 0) (get_or-set_same exposed a 1 0 h)

exposed_keeps : (exposed : List ℕ) (a x : ℕ) → a < length exposed → is_exposed exposed x ≡ true → is_exposed (set exposed a 1) x ≡ true
exposed_keeps exposed a x h e = go (ℕ_discrete x a)
  where
    go : Dec (x ≡ a) → is_exposed (set exposed a 1) x ≡ true
    go (yes q) = exposed_new exposed a x h q
    go (no d) = ap (ltb 0) (get_or-set_other exposed a x 1 0 d) ∙ e

exposed_cases : (exposed : List ℕ) (a x : ℕ) → is_exposed (set exposed a 1) x ≡ true → (x ≡ a) ⊎ (is_exposed exposed x ≡ true)
exposed_cases exposed a x e = go (ℕ_discrete x a)
  where
    go : Dec (x ≡ a) → (x ≡ a) ⊎ (is_exposed exposed x ≡ true)
    go (yes q) = inl q
    go (no d) = inr (sym (ap (ltb 0) (get_or-set_other exposed a x 1 0 d)) ∙ e)

-- x is one of three points
abbrev OneOf : ℕ → ℕ → ℕ → ℕ → Type 0
OneOf a b c x = (x ≡ a) ⊎ ((x ≡ b) ⊎ (x ≡ c))

module _ (exposed : List ℕ) (kind a b c : ℕ) (ha : a < length exposed) (hb : b < length exposed) (hc : c < length exposed) (x : ℕ) where
  s₁ : List ℕ
  s₁ = set exposed a 1

  s₂ : List ℕ
  s₂ = set (set exposed a 1) b 1

  h₁ : b < length (set exposed a 1)
  h₁ = subst (λ m. b < m) (sym (length-set exposed a 1)) hb

  h₂ : c < length (set (set exposed a 1) b 1)
  h₂ = subst (λ m. c < m) (sym (length-set (set exposed a 1) b 1 ∙ length-set exposed a 1)) hc

  face_keeps : is_exposed exposed x ≡ true → is_exposed (with_face exposed kind a b c) x ≡ true
  unfolding with_face
  face_keeps e = go (eqb kind 1)
    where
      go : (k : Bool) → is_exposed (cond k (set (set (set exposed a 1) b 1) c 1) exposed) x ≡ true
      go true = exposed_keeps (set (set exposed a 1) b 1) c x h₂ (exposed_keeps (set exposed a 1) b x h₁ (exposed_keeps exposed a x ha e))
      go false = e

  face_adds : kind ≡ 1 → OneOf a b c x → is_exposed (with_face exposed kind a b c) x ≡ true
  unfolding with_face
  face_adds k (inl e) = rw (eq-eqb kind 1 k) (exposed_keeps (set (set exposed a 1) b 1) c x h₂ (exposed_keeps (set exposed a 1) b x h₁ (exposed_new exposed a x ha e)))
  face_adds k (inr (inl e)) = rw (eq-eqb kind 1 k) (exposed_keeps (set (set exposed a 1) b 1) c x h₂ (exposed_new (set exposed a 1) b x h₁ e))
  face_adds k (inr (inr e)) = rw (eq-eqb kind 1 k) (exposed_new (set (set exposed a 1) b 1) c x h₂ e)

  face_cases : is_exposed (with_face exposed kind a b c) x ≡ true → (is_exposed exposed x ≡ true) ⊎ ((kind ≡ 1) × OneOf a b c x)
  unfolding with_face
  face_cases e = go (ℕ_discrete kind 1)
    where
      go : Dec (kind ≡ 1) → (is_exposed exposed x ≡ true) ⊎ ((kind ≡ 1) × OneOf a b c x)
      go (no d) = inl (sym (ap (λ k. is_exposed (cond k (set (set (set exposed a 1) b 1) c 1) exposed) x) (ne_eqb kind 1 d)) ∙ e)
      go (yes k) = third (exposed_cases (set (set exposed a 1) b 1) c x (sym (ap (λ k. is_exposed (cond k (set (set (set exposed a 1) b 1) c 1) exposed) x) (eq-eqb kind 1 k)) ∙ e))
        where
          first : (x ≡ a) ⊎ (is_exposed exposed x ≡ true) → (is_exposed exposed x ≡ true) ⊎ ((kind ≡ 1) × OneOf a b c x)
          first (inl q) = inr (k, inl q)
          first (inr q) = inl q

          second : (x ≡ b) ⊎ (is_exposed (set exposed a 1) x ≡ true) → (is_exposed exposed x ≡ true) ⊎ ((kind ≡ 1) × OneOf a b c x)
          second (inl q) = inr (k, inr (inl q))
          second (inr q) = first (exposed_cases exposed a x q)

          third : (x ≡ c) ⊎ (is_exposed (set (set exposed a 1) b 1) x ≡ true) → (is_exposed exposed x ≡ true) ⊎ ((kind ≡ 1) × OneOf a b c x)
          third (inl q) = inr (k, inr (inr q))
          third (inr q) = second (exposed_cases (set exposed a 1) b x q)

-- x is a corner of a visible face of the cell with the kinds k and the corners v
pub record ExposedBy (k v : List ℕ) (x : ℕ) : Type 0 where
  pub face : ℕ
  pub face< : face < 4
  pub visible? : get_or k face 0 ≡ 1
  pub place : ℕ
  pub place< : place < 4
  pub off : place ≢ face
  pub is : get_or v place 0 ≡ x

-- the first m faces of a cell
module _ (exposed k v : List ℕ) (below : (j : ℕ) → j < 4 → get_or v j 0 < length exposed) (x : ℕ) where
  pub faces_length : (m : ℕ) → m ≤ 4 → length (with_faces m exposed k v) ≡ length exposed
  unfolding with_faces with_face
  faces_length zero h = refl
  faces_length (suc i) h = by (eqb (get_or k i 0) 1) ∙ faces_length i (omega arith)
    where
      w : List ℕ
      w = with_faces i exposed k v

      by : (b : Bool) → length (cond b (set (set (set w (get_or v (first i) 0) 1) (get_or v (second i) 0) 1) (get_or v (third i) 0) 1) w) ≡ length w
      by true = length-set (set (set w (get_or v (first i) 0) 1) (get_or v (second i) 0) 1) (get_or v (third i) 0) 1 ∙
          (length-set (set w (get_or v (first i) 0) 1) (get_or v (second i) 0) 1 ∙ length-set w (get_or v (first i) 0) 1)
      by false = refl

  within : (i : ℕ) → i < 4 → (j : ℕ) → j < 4 → get_or v j 0 < length (with_faces i exposed k v)
  within i h j l = omega (arith, below j l, faces_length i (omega arith))

  pub exposed_still : (m : ℕ) → m ≤ 4 → is_exposed exposed x ≡ true → is_exposed (with_faces m exposed k v) x ≡ true
  unfolding with_faces
  exposed_still zero h e = e
  exposed_still (suc i) h e =
      let o = others i (omega arith) in
      face_keeps (with_faces i exposed k v) (get_or k i 0) (get_or v (first i) 0) (get_or v (second i) 0) (get_or v (third i) 0)
      (within i (omega arith) (first i) o.first<) (within i (omega arith) (second i) o.second<) (within i (omega arith) (third i) o.third<) x
      (exposed_still i (omega arith) e)

  -- the three places that are not i, in order
  one_of : (i : ℕ) → i < 4 → (j : ℕ) → j < 4 → j ≢ i → get_or v j 0 ≡ x → OneOf (get_or v (first i) 0) (get_or v (second i) 0) (get_or v (third i) 0) x
  one_of i h j l d e = go ((others i h).all j l d)
    where
      go : (j ≡ first i) ⊎ ((j ≡ second i) ⊎ (j ≡ third i)) → OneOf (get_or v (first i) 0) (get_or v (second i) 0) (get_or v (third i) 0) x
      go (inl q) = inl (sym e ∙ ap (λ j. get_or v j 0) q)
      go (inr (inl q)) = inr (inl (sym e ∙ ap (λ j. get_or v j 0) q))
      go (inr (inr q)) = inr (inr (sym e ∙ ap (λ j. get_or v j 0) q))

  pub exposed_by : (m : ℕ) → m ≤ 4 → (S : ExposedBy k v x) → S.face < m → is_exposed (with_faces m exposed k v) x ≡ true
  unfolding with_faces
  exposed_by zero h S l = absurd (omega arith)
  exposed_by (suc i) h S l = go (ℕ_discrete S.face i) (λ m. exposed_by i (omega arith) S m)
    where
      i< : i < 4
      i< = omega arith

      go : Dec (S.face ≡ i) → (S.face < i → is_exposed (with_faces i exposed k v) x ≡ true) →
          is_exposed (with_face (with_faces i exposed k v) (get_or k i 0) (get_or v (first i) 0) (get_or v (second i) 0) (get_or v (third i) 0)) x ≡ true
      go (yes e) earlier =
          let o = others i i< in
          face_adds (with_faces i exposed k v) (get_or k i 0) (get_or v (first i) 0) (get_or v (second i) 0) (get_or v (third i) 0)
          (within i i< (first i) o.first<) (within i i< (second i) o.second<) (within i i< (third i) o.third<) x
          (ap (λ f. get_or k f 0) (sym e) ∙ S.visible?) (one_of i i< S.place S.place< (λ q. S.off (q ∙ sym e)) S.is)
      go (no d) earlier =
          let o = others i i< in
          face_keeps (with_faces i exposed k v) (get_or k i 0) (get_or v (first i) 0) (get_or v (second i) 0) (get_or v (third i) 0)
          (within i i< (first i) o.first<) (within i i< (second i) o.second<) (within i i< (third i) o.third<) x
          (earlier (omega arith))

  pub exposed_from_lem : (m : ℕ) → m ≤ 4 → is_exposed (with_faces m exposed k v) x ≡ true → (is_exposed exposed x ≡ true) ⊎ ExposedBy k v x
  unfolding with_faces
  exposed_from_lem zero h e = inl e
  exposed_from_lem (suc i) h e =
      let o = others i i< in
      go (face_cases (with_faces i exposed k v) (get_or k i 0) (get_or v (first i) 0) (get_or v (second i) 0) (get_or v (third i) 0)
      (within i i< (first i) o.first<) (within i i< (second i) o.second<) (within i i< (third i) o.third<) x e) (exposed_from_lem i (omega arith))
    where
      i< : i < 4
      i< = omega arith

      shown : (j : ℕ) → j < 4 → j ≢ i → get_or k i 0 ≡ 1 → x ≡ get_or v j 0 → ExposedBy k v x
      shown j l d y q = record { face = i; face< = i<; visible? = y; place = j; place< = l; off = d; is = sym q }

      go : (is_exposed (with_faces i exposed k v) x ≡ true) ⊎ ((get_or k i 0 ≡ 1) × OneOf (get_or v (first i) 0) (get_or v (second i) 0) (get_or v (third i) 0) x) →
          (is_exposed (with_faces i exposed k v) x ≡ true → (is_exposed exposed x ≡ true) ⊎ ExposedBy k v x) → (is_exposed exposed x ≡ true) ⊎ ExposedBy k v x
      go (inl q) earlier = earlier q
      go (inr q) earlier = inr (by q.1)
        where
          by : OneOf (get_or v (first i) 0) (get_or v (second i) 0) (get_or v (third i) 0) x → ExposedBy k v x
          by (inl r) = shown (first i) (others i i<).first< (others i i<).first_off q.0 r
          by (inr (inl r)) = shown (second i) (others i i<).second< (others i i<).second_off q.0 r
          by (inr (inr r)) = shown (third i) (others i i<).third< (others i i<).third_off q.0 r

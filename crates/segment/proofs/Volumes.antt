-- The test by the volumes that the code works out: each step of it, and that it is the test of the cell.
use Prim.Native.Nat.{ℕ, ◌+◌, ◌*◌, ◌^◌, ◌≤◌, ◌<◌}
use mathlib.Core.Bool.{Bool, true, false, not, ◌&&◌, ◌||◌, and-true}
use mathlib.Core.List.{List}
use mathlib.Core.Path.{◌≡◌, refl, sym, ap, ap₂, ◌∙◌, subst}
use native.Mathlib.Omega.{arith}
use lib.Dec.{T, leb}
use lib.IntN.{ℤ, pos, negsuc, nat_abs, ◌-ℤ◌, ◌*ℤ◌}
use lib.ListN.{get_or}
use lib.Signed.{◌<ℤ◌, ◌≤ℤ◌, le_z, lt_z, non_neg}
use mir.Syntax.{w64}
use mir.Val.{Fits, SFits}
use Rattle.arith.specs.Table.{all_below}
use Rattle.arith.proofs.Flags.{and_intro, below_four, test_failed, test_passed}
use Rattle.arith.proofs.Machine.{back, back_64, negated_fits, size_negated, negated_casts, itself_casts}
use Rattle.arith.proofs.Order.{arithℤ, lt_lt_z, le_le_z, le_z_not, lt_z_true, le_z_true, lt_z_no_le_z}
use Rattle.arith.proofs.Tables.{all_cong, all_intro, all_fails}
use Rattle.geometry.specs.declared.Position.{Position}
use Rattle.geometry.specs.declared.Volumes.{Volumes}
use Rattle.geometry.specs.Volume.{InRange, volume, replaced}
use Rattle.geometry.specs.Inner.{volumes_at}
use Rattle.geometry.proofs.Bounds.{volume_within}
use Rattle.mesh.specs.Tables.{point_in, side, live, tables}
use Rattle.mesh.specs.Inner.{four_at, positions_of, Cornered}
use Rattle.locate.specs.Inner.{volume_at}
use Rattle.locate.proofs.Codes.{measured, side_of_four}
use Rattle.segment.specs.Call.{below, enters, in_order, meets, touches}
use Rattle.segment.specs.Inner.{volumes_meet, touches_four}

pub meets_cong : (m : ℕ) (a b c d : ℕ → ℤ) → ((k : ℕ) → k < m → a k ≡ c k) → ((k : ℕ) → k < m → b k ≡ d k) → meets m a b ≡ meets m c d
unfolding meets
meets_cong m a b c d p q =
    all_cong m (λ k. not (below (a k) && below (b k)) && all_below m (λ l. in_order (a k) (b k) (a l) (b l))) (λ k. not (below (c k) && below (d k)) && all_below m (λ l. in_order (c k) (d k) (c l) (d l)))
    (λ k h. ap₂ (λ x y. x && y) (ap₂ (λ x y. not (below x && below y)) (p k h) (q k h))
    (all_cong m (λ l. in_order (a k) (b k) (a l) (b l)) (λ l. in_order (c k) (d k) (c l) (d l)) (λ l g. λ ι. in_order (p k h ι) (q k h ι) (p l g ι) (q l g ι))))

module _ (ps k : List ℕ) (a b : Position) (C : Cornered ps k) (A : InRange a) (B : InRange b) where
  pub volumes_meet_is : {v w : Volumes} → v ≡ volumes_at (positions_of ps k) a → w ≡ volumes_at (positions_of ps k) b → volumes_meet v w ≡ touches_four ps k a b
  unfolding volumes_meet touches_four
  volumes_meet_is {v} {w} e f = meets_cong 4 (volume_at v) (volume_at w) (λ i. volume (replaced (λ j. point_in ps (get_or k j 0)) i a)) (λ i. volume (replaced (λ j. point_in ps (get_or k j 0)) i b)) (measured ps k a e C A) (measured ps k b f C B)

-- a volume is at most 2^52
pub volume≤ : (ps k : List ℕ) (q : Position) → Cornered ps k → InRange q → {v : Volumes} → v ≡ volumes_at (positions_of ps k) q → (i : ℕ) → i < 4 → nat_abs (volume_at v i) ≤ 2 ^ 52
unfolding volume
volume≤ ps k q C Q {v} e =
    let s : ℕ → Position = λ i. point_in ps (get_or k i 0) in
    let h₀ = C.in_range 0 (omega arith) in
    let h₁ = C.in_range 1 (omega arith) in
    let h₂ = C.in_range 2 (omega arith) in
    let h₃ = C.in_range 3 (omega arith) in
    below_four (λ i. nat_abs (volume_at v i) ≤ 2 ^ 52)
    (subst (λ z. nat_abs z ≤ 2 ^ 52) (sym (measured ps k q e C Q 0 (omega arith))) (volume_within q (s 1) (s 2) (s 3) Q h₁ h₂ h₃))
    (subst (λ z. nat_abs z ≤ 2 ^ 52) (sym (measured ps k q e C Q 1 (omega arith))) (volume_within (s 0) q (s 2) (s 3) h₀ Q h₂ h₃))
    (subst (λ z. nat_abs z ≤ 2 ^ 52) (sym (measured ps k q e C Q 2 (omega arith))) (volume_within (s 0) (s 1) q (s 3) h₀ h₁ Q h₃))
    (subst (λ z. nat_abs z ≤ 2 ^ 52) (sym (measured ps k q e C Q 3 (omega arith))) (volume_within (s 0) (s 1) (s 2) q h₀ h₁ h₂ Q))

pub touches_is : (ps cs ns : List ℕ) (c : ℕ) (a b : Position) → live (tables ps cs ns) c ≡ true → {k : List ℕ} → k ≡ four_at cs c → touches_four ps k a b ≡ touches (tables ps cs ns) a b c
unfolding touches_four touches
touches_is ps cs ns c a b l e =
    ap (λ k. touches_four ps k a b) e ∙
    (meets_cong 4 (λ i. volume (replaced (λ j. point_in ps (get_or (four_at cs c) j 0)) i a)) (λ i. volume (replaced (λ j. point_in ps (get_or (four_at cs c) j 0)) i b))
    (λ i. side (tables ps cs ns) a (4 * c + i)) (λ i. side (tables ps cs ns) b (4 * c + i))
    (λ i h. side_of_four ps cs ns c i a h) (λ i h. side_of_four ps cs ns c i b h) ∙
    sym (ap (λ x. x && meets 4 (λ i. side (tables ps cs ns) a (4 * c + i)) (λ i. side (tables ps cs ns) b (4 * c + i))) l))

-- ---- two forms, with their values as the code reads them back

module _ (a b c d : ℤ) where
  -- where (a, b) enters and (c, d) leaves, the products are those of the sizes
  sizes : a <ℤ pos 0 → pos 0 ≤ℤ b → pos 0 ≤ℤ c → d <ℤ pos 0 → leb (nat_abs a * nat_abs d) (nat_abs c * nat_abs b) ≡ in_order a b c d
  unfolding in_order
  sizes e f g h =
      products a b c d e f g h ∙ sym (rw (lt_lt_z e, le_z_not (pos 0) b, le_le_z f, lt_lt_z h, le_z_not (pos 0) c, le_le_z g))
    where
      products : (a b c d : ℤ) → a <ℤ pos 0 → pos 0 ≤ℤ b → pos 0 ≤ℤ c → d <ℤ pos 0 → leb (nat_abs a * nat_abs d) (nat_abs c * nat_abs b) ≡ le_z (a *ℤ d) (c *ℤ b)
      products (negsuc x) (pos y) (pos z) (negsuc w) e f g h = refl
      products (pos x) b c d e f g h = absurd (omega (arithℤ, e))
      products (negsuc x) (negsuc y) c d e f g h = absurd (omega (arithℤ, f))
      products (negsuc x) (pos y) (negsuc z) d e f g h = absurd (omega (arithℤ, g))
      products (negsuc x) (pos y) (pos z) (pos w) e f g h = absurd (omega (arithℤ, h))

  not_entering : enters a b ≡ false → true ≡ in_order a b c d
  unfolding in_order
  not_entering e = sym (rw e)

  not_leaving : enters d c ≡ false → true ≡ in_order a b c d
  unfolding in_order
  not_leaving e = sym (rw e (off (enters a b)))
    where
      off : (x : Bool) → (not (x && false) || le_z (a *ℤ d) (c *ℤ b)) ≡ true
      off true = refl
      off false = refl

above_off : (z : ℤ) → le_z (pos 0) z ≡ true → below z ≡ false
above_off z e = le_z_not (pos 0) z ∙ ap not e

enters_off : (a b : ℤ) → below a ≡ false → enters a b ≡ false
enters_off a b e = rw e

ends_off : (a b : ℤ) → below b ≡ true → enters a b ≡ false
ends_off a b e = rw e (off (below a))
  where
    off : (x : Bool) → (x && false) ≡ false
    off true = refl
    off false = refl

-- a volume read back is itself
module _ (z : ℤ) (h : nat_abs z ≤ 2 ^ 52) where
  word : nat_abs z < 2 ^ 63
  word = omega arith

  pub itself : back w64 z ≡ z
  itself = back_64 z word

  not_below : le_z (pos 0) (back w64 z) ≡ true → below z ≡ false
  not_below e = above_off z (ap (le_z (pos 0)) (sym itself) ∙ e)

  pub is_below : le_z (pos 0) (back w64 z) ≡ false → lt_z (back w64 z) (pos 0) ≡ true
  is_below e = le_z_not (pos 0) (back w64 z) ∙ ap not e

  pub opposite_fits : SFits w64 (pos 0 -ℤ back w64 z)
  opposite_fits = negated_fits z word

  pub opposite_casts : le_z (pos 0) (back w64 z) ≡ false → T (non_neg (back w64 (pos 0 -ℤ back w64 z))) × Fits w64 (nat_abs (back w64 (pos 0 -ℤ back w64 z)))
  opposite_casts e = negated_casts z word (is_below e)

  pub opposite≤ : nat_abs (back w64 (pos 0 -ℤ back w64 z)) ≤ 2 ^ 52
  opposite≤ = subst (λ n. n ≤ 2 ^ 52) (sym (size_negated z word)) h

  pub casts : lt_z (back w64 z) (pos 0) ≡ false → T (non_neg (back w64 z)) × Fits w64 (nat_abs (back w64 z))
  casts = itself_casts z word

  pub itself≤ : nat_abs (back w64 z) ≤ 2 ^ 52
  itself≤ = subst (λ y. nat_abs y ≤ 2 ^ 52) (sym itself) h

module _ (a b c d : ℤ) (H : (nat_abs a ≤ 2 ^ 52) × (nat_abs b ≤ 2 ^ 52) × (nat_abs c ≤ 2 ^ 52) × (nat_abs d ≤ 2 ^ 52)) where
  pub leaves_above : le_z (pos 0) (back w64 d) ≡ true → true ≡ in_order a b c d
  leaves_above e = not_leaving a b c d (enters_off d c (not_below d H.3 e))

  pub leaves_below : lt_z (back w64 c) (pos 0) ≡ true → true ≡ in_order a b c d
  leaves_below e = not_leaving a b c d (ends_off d c (ap below (sym (itself c H.2)) ∙ e))

  pub enters_above : le_z (pos 0) (back w64 a) ≡ true → true ≡ in_order a b c d
  enters_above e = not_entering a b c d (enters_off a b (not_below a H.0 e))

  pub enters_below : lt_z (back w64 b) (pos 0) ≡ true → true ≡ in_order a b c d
  enters_below e = not_entering a b c d (ends_off a b (ap below (sym (itself b H.1)) ∙ e))

  pub compared : le_z (pos 0) (back w64 a) ≡ false → lt_z (back w64 b) (pos 0) ≡ false → lt_z (back w64 c) (pos 0) ≡ false → le_z (pos 0) (back w64 d) ≡ false →
      leb (nat_abs (back w64 (pos 0 -ℤ back w64 a)) * nat_abs (back w64 (pos 0 -ℤ back w64 d))) (nat_abs (back w64 c) * nat_abs (back w64 b)) ≡ in_order a b c d
  compared e f g h =
      (λ i. leb (size_negated a (word a H.0) i * size_negated d (word d H.3) i) (nat_abs (itself c H.2 i) * nat_abs (itself b H.1 i))) ∙
      sizes a b c d (low a H.0 e) (high b H.1 f) (high c H.2 g) (low d H.3 h)
    where
      low : (z : ℤ) → nat_abs z ≤ 2 ^ 52 → le_z (pos 0) (back w64 z) ≡ false → z <ℤ pos 0
      low z k e = lt_z_true z (pos 0) (ap below (sym (itself z k)) ∙ is_below z k e)

      high : (z : ℤ) → nat_abs z ≤ 2 ^ 52 → lt_z (back w64 z) (pos 0) ≡ false → pos 0 ≤ℤ z
      high z k e = le_z_true (pos 0) z (lt_z_no_le_z (pos 0) z (ap below (sym (itself z k)) ∙ e))

-- ---- four tests, from the last to the first

module _ (f : ℕ → Bool) where
  pub one_fails : (k : ℕ) → k < 4 → {r : Bool} → r ≡ f k → not r ≡ true → false ≡ all_below 4 f
  one_fails k h e g = sym (all_fails 4 f k h (test_failed e g))

  pub first_decides : f 3 ≡ true → f 2 ≡ true → f 1 ≡ true → {r : Bool} → r ≡ f 0 → r ≡ all_below 4 f
  unfolding all_below
  first_decides a b c e = e ∙ sym (rw (a, b, c, and-true))

-- ---- one face against the four

module _ (p q : ℤ) (hp : nat_abs p ≤ 2 ^ 52) (hq : nat_abs q ≤ 2 ^ 52) (a b : Volumes) where
  abbrev orders : ℕ → Bool
  orders l = in_order p q (volume_at a l) (volume_at b l)

  abbrev face : Bool
  face = not (below p && below q) && all_below 4 orders

  pub face_above : le_z (pos 0) (back w64 p) ≡ true → true ≡ face
  face_above e = sym (and_intro (ap (λ x. not (x && below q)) (not_below p hp e)) (all_intro 4 orders (λ l h. sym (not_entering p q (volume_at a l) (volume_at b l) (enters_off p q (not_below p hp e))))))

  pub face_beyond : le_z (pos 0) (back w64 p) ≡ false → lt_z (back w64 q) (pos 0) ≡ true → false ≡ face
  face_beyond e f = sym (ap (λ x. not x && all_below 4 orders) (and_intro (ap below (sym (itself p hp)) ∙ is_below p hp e) (ap below (sym (itself q hq)) ∙ f)))

  module _ (e : lt_z (back w64 q) (pos 0) ≡ false) where
    rest : face ≡ all_below 4 orders
    rest = ap (λ x. not x && all_below 4 orders) (off (below p) (ap below (sym (itself q hq)) ∙ e))
      where
        off : (x : Bool) {y : Bool} → y ≡ false → (x && y) ≡ false
        off true h = h
        off false h = refl

    module _ (l : ℕ) {r : Bool} (is : r ≡ in_order (back w64 p) (back w64 q) (volume_at a l) (volume_at b l)) where
      pub order_is : r ≡ orders l
      order_is = is ∙ (λ i. in_order (itself p hp i) (itself q hq i) (volume_at a l) (volume_at b l))

      pub face_fails : l < 4 → not r ≡ true → false ≡ face
      face_fails h g = one_fails orders l h order_is g ∙ sym rest

    pub face_last : {r₃ r₂ r₁ r₀ : Bool} →
        r₃ ≡ in_order (back w64 p) (back w64 q) (volume_at a 3) (volume_at b 3) → not r₃ ≡ false →
        r₂ ≡ in_order (back w64 p) (back w64 q) (volume_at a 2) (volume_at b 2) → not r₂ ≡ false →
        r₁ ≡ in_order (back w64 p) (back w64 q) (volume_at a 1) (volume_at b 1) → not r₁ ≡ false →
        r₀ ≡ in_order (back w64 p) (back w64 q) (volume_at a 0) (volume_at b 0) → r₀ ≡ face
    face_last e₃ n₃ e₂ n₂ e₁ n₁ e₀ =
        first_decides orders (test_passed (order_is 3 e₃) n₃) (test_passed (order_is 2 e₂) n₂) (test_passed (order_is 1 e₁) n₁) (order_is 0 e₀) ∙ sym rest

-- ---- the four faces

module _ (a b : Volumes) where
  abbrev face_at : ℕ → Bool
  face_at k = not (below (volume_at a k) && below (volume_at b k)) && all_below 4 (λ l. in_order (volume_at a k) (volume_at b k) (volume_at a l) (volume_at b l))

  pub meet_fails : (k : ℕ) → k < 4 → {r : Bool} → r ≡ face_at k → not r ≡ true → false ≡ volumes_meet a b
  unfolding volumes_meet meets
  meet_fails = one_fails face_at

  pub meet_last : {r₃ r₂ r₁ r₀ : Bool} → r₃ ≡ face_at 3 → not r₃ ≡ false → r₂ ≡ face_at 2 → not r₂ ≡ false → r₁ ≡ face_at 1 → not r₁ ≡ false → r₀ ≡ face_at 0 → r₀ ≡ volumes_meet a b
  unfolding volumes_meet meets
  meet_last e₃ n₃ e₂ n₂ e₁ n₁ e₀ = first_decides face_at (test_passed e₃ n₃) (test_passed e₂ n₂) (test_passed e₁ n₁) e₀

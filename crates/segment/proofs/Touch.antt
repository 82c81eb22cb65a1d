-- Document 02 §4: the test of a cell's sides at the two ends is right.
use Prim.Native.Nat.{ℕ, ◌+◌, ◌*◌, ◌-◌, ◌≤◌}
use mathlib.Core.Bool.{true}
use mathlib.Core.List.{[], ◌∷◌}
use mathlib.Core.Logic.{◌↔◌}
use mathlib.Core.Path.{◌≡◌, sym, ap, ap₂, ◌∙◌, subst}
use native.Mathlib.Omega.{arith}
use lib.IntN.{ℤ, pos, ◌+ℤ◌, ◌*ℤ◌}
use lib.Signed.{◌≤ℤ◌}
use Rattle.arith.proofs.Flags.{and_left, and_right, and_intro, bool_ext}
use Rattle.arith.proofs.Order.{arithℤ, cancel_nonneg}
use Rattle.arith.proofs.Ring.{var, ◌⊕◌, ◌⊗◌, ring}
use Rattle.geometry.specs.declared.Position.{Position}
use Rattle.mesh.specs.Tables.{Tables, side, live}
use Rattle.locate.specs.Locate.{holds}
use Rattle.covering.specs.Place.{whole, holds_at}
use Rattle.covering.proofs.Linear.{mix, form, form_mix, form_whole}
use Rattle.covering.proofs.Parts.{holder_at, holds_form, holds_whole}
use Rattle.segment.specs.Segment.{on_way, Touched}
use Rattle.segment.specs.Call.{meets, touches}
use Rattle.segment.proofs.Meets.{Common, meets_is}

pub on_way_lem : (a b : Position) (n d : ℕ) → n ≤ d → on_way a b n d ≡ mix (d - n) (whole a) n (whole b)
on_way_lem a b n d h = ap (λ w. record { x = (d - n) * a.x + n * b.x; y = (d - n) * a.y + n * b.y; z = (d - n) * a.z + n * b.z; w = w }) (ends d n h)
  where
    ends : (d n : ℕ) → n ≤ d → d ≡ (d - n) * 1 + n * 1
    ends d n h = omega arith

form_on_way : (t : Tables) (a b : Position) (n d f : ℕ) → n ≤ d → form t (on_way a b n d) f ≡ pos (d - n) *ℤ side t a f +ℤ pos n *ℤ side t b f
form_on_way t a b n d f h =
    ap (λ q. form t q f) (on_way_lem a b n d h) ∙ (form_mix t (d - n) (whole a) n (whole b) f ∙
    ap₂ (λ x y. pos (d - n) *ℤ x +ℤ pos n *ℤ y) (form_whole t a f) (form_whole t b f))

pub touched_live : (t : Tables) (a b : Position) (c : ℕ) → Touched t a b c → live t c ≡ true
touched_live t a b c T = (holder_at t (on_way a b T.n T.d) {n = c + 1} {c = c} (omega arith) T.held).lives

module _ (t : Tables) (a b : Position) (c : ℕ) where
  abbrev sides_a : ℕ → ℤ
  sides_a k = side t a (4 * c + k)

  abbrev sides_b : ℕ → ℤ
  sides_b k = side t b (4 * c + k)

  -- THE TEST IS RIGHT, both ways, of any tables
  pub touch_is : (touches t a b c ≡ true) ↔ Touched t a b c
  unfolding touches
  touch_is = (
    (λ e. there (and_left (live t c) (meets 4 sides_a sides_b) e) ((meets_is 4 sides_a sides_b).0 (and_right (live t c) (meets 4 sides_a sides_b) e))),
    (λ T. and_intro (touched_live t a b c T) ((meets_is 4 sides_a sides_b).1 (back T))),
  )
    where
      there : live t c ≡ true → Common 4 sides_a sides_b → Touched t a b c
      there l C = record {
        n = C.n;
        d = C.d;
        within = C.within;
        some = C.some;
        held = (holds_form t (on_way a b C.n C.d) C.some c l).1 (λ k h. subst (λ z. pos 0 ≤ℤ z) (sym (form_on_way t a b C.n C.d (4 * c + k) C.within)) (C.above k h));
      }

      back : Touched t a b c → Common 4 sides_a sides_b
      back T = record {
        n = T.n;
        d = T.d;
        within = T.within;
        some = T.some;
        above = λ k h. subst (λ z. pos 0 ≤ℤ z) (form_on_way t a b T.n T.d (4 * c + k) T.within) ((holds_form t (on_way a b T.n T.d) T.some c (touched_live t a b c T)).0 T.held k h);
      }

-- from b to a
touched_back : (t : Tables) (a b : Position) (c : ℕ) → Touched t a b c → Touched t b a c
touched_back t a b c T = record { n = T.d - T.n; d = T.d; within = omega arith; some = T.some; held = ap (λ q. holds_at t q c) (turned T.n T.d T.within) ∙ T.held }
  where
    swap : (n d x y : ℕ) → n ≤ d → (d - (d - n)) * y + (d - n) * x ≡ (d - n) * x + n * y
    swap n d x y h = ap (λ m. m * y + (d - n) * x) (off n d h) ∙ turn (n * y) ((d - n) * x)
      where
        off : (n d : ℕ) → n ≤ d → d - (d - n) ≡ n
        off n d h = omega arith

        turn : (u v : ℕ) → u + v ≡ v + u
        turn u v = omega arith

    turned : (n d : ℕ) → n ≤ d → on_way b a (d - n) d ≡ on_way a b n d
    turned n d h = λ ι. record { x = swap n d a.x b.x h ι; y = swap n d a.y b.y h ι; z = swap n d a.z b.z h ι; w = d }

pub touches_back : (t : Tables) (a b : Position) (c : ℕ) → touches t a b c ≡ touches t b a c
touches_back t a b c =
    bool_ext (touches t a b c) (touches t b a c)
    (λ e. (touch_is t b a c).1 (touched_back t a b c ((touch_is t a b c).0 e))) (λ e. (touch_is t a b c).1 (touched_back t b a c ((touch_is t b a c).0 e)))

-- a cell that holds an end is on the segment
pub touches_end : (t : Tables) (a b : Position) (c : ℕ) → holds t a c ≡ true → touches t a b c ≡ true
touches_end t a b c e =
    (touch_is t a b c).1 record { n = 0; d = 1; within = omega arith; some = omega arith; held = ap (λ q. holds_at t q c) (start a b) ∙ (holds_whole t a c ∙ e) }
  where
    start : (a b : Position) → on_way a b 0 1 ≡ whole a
    start a b = λ ι. record { x = same a.x b.x ι; y = same a.y b.y ι; z = same a.z b.z ι; w = 1 }
      where
        same : (x y : ℕ) → (1 - 0) * x + 0 * y ≡ x
        same x y = omega arith

-- 'If A and B are the same, it is the cells that hold A.'
pub touches_same : (t : Tables) (a : Position) (c : ℕ) → touches t a a c ≡ holds t a c
touches_same t a c = bool_ext (touches t a a c) (holds t a c) (λ e. there ((touch_is t a a c).0 e)) (touches_end t a a c)
  where
    there : Touched t a a c → holds t a c ≡ true
    there T = sym (holds_whole t a c) ∙ (holds_form t (whole a) (omega arith) c l).1 (λ k h.
        subst (λ z. pos 0 ≤ℤ z) (sym (form_whole t a (4 * c + k)))
        (cancel_nonneg {a = pos (T.d - T.n + T.n)} (side t a (4 * c + k)) (omega (arithℤ, T.some))
        (subst (λ z. pos 0 ≤ℤ z)
        (form_on_way t a a T.n T.d (4 * c + k) T.within ∙ ring (var 0 ⊗ var 2 ⊕ var 1 ⊗ var 2) ((var 0 ⊕ var 1) ⊗ var 2) tt (pos (T.d - T.n) ∷ pos T.n ∷ side t a (4 * c + k) ∷ []))
        ((holds_form t (on_way a a T.n T.d) T.some c l).0 T.held k h))))
      where
        l : live t c ≡ true
        l = touched_live t a a c T

-- Codes of points as seen from a segment: a cell whose corners share a bit lies on one side of a plane that no place of the segment lies strictly on.
use Prim.Native.Nat.{ℕ, zero, suc, ◌+◌, ◌*◌, ◌-◌, ◌≤◌, ◌<◌, min, max}
use mathlib.Core.Bool.{Bool, true, false, ◌&&◌}
use mathlib.Core.List.{List, [], ◌∷◌}
use mathlib.Core.Logic.{◌≢◌, ◌⊎◌, inl, inr}
use mathlib.Core.Path.{◌≡◌, sym, ap, ◌∙◌, subst}
use native.Mathlib.Omega.{arith}
use borrow.Author.Tests.{ltb-true}
use lib.Bits.{bit_and}
use lib.Dec.{ltb}
use lib.IntN.{ℤ, pos, neg_ℤ, ◌+ℤ◌, ◌-ℤ◌, ◌*ℤ◌}
use lib.ListN.{length, get_or}
use lib.Signed.{◌<ℤ◌, ◌≤ℤ◌, lt_z}
use Rattle.arith.specs.Table.{sum}
use Rattle.arith.proofs.Flags.{fails, and_left, and_right, below_six}
use Rattle.arith.proofs.Order.{arithℤ, parts_sub, ≡→≤, <-irrefl, <→≤, ≤-<-trans, sub_pos, neg_pos, +-nonpos, *-nonpos-r, *-mono-≤-l, *-pos, lt_z_true}
use Rattle.arith.proofs.Ring.{Expr, eval, var, con, ◌⊕◌, ◌⊖◌, ◌⊗◌, neg, ring}
use Rattle.arith.proofs.Sums.{sum_cong, sum_mono}
use Rattle.geometry.specs.declared.Position.{Position}
use Rattle.geometry.specs.declared.Vector.{Vector}
use Rattle.geometry.specs.Inner.{between, cross_product}
use Rattle.mesh.specs.Tables.{Tables, none, point_in, corner, corner_at, cell_volume, live, tables}
use Rattle.mesh.specs.Inner.{four_at, Solid, volume_of_four}
use Rattle.mesh.proofs.Numbers.{four_corner, four_volume}
use Rattle.locate.specs.Inner.{side_code, codes_below, shared_bits, may_hold}
use Rattle.locate.proofs.Codes.{Bits, Shared, six_bits, beyond, code_bits, and_bits, shared_bit, codes_length, ruled_out, coded_at, positive_at}
use Rattle.covering.specs.Place.{Place, whole}
use Rattle.covering.proofs.Linear as linear
use Rattle.covering.proofs.Linear.{lin, lin_mix, form, form_at, volume_at_lem, placed, HoldsForm}
use Rattle.covering.proofs.Parts.{holds_form}
use Rattle.segment.specs.Segment.{on_way, Touched}
use Rattle.segment.specs.Call.{touches}
use Rattle.segment.specs.Inner.{range_codes, sign_code, line_code, line_codes}
use Rattle.segment.proofs.Touch.{on_way_lem, touched_live, touch_is}

-- ---- a plane between a cell and a segment

-- the linear form f = (a, b, c, d) at a position
abbrev At : ℤ → ℤ → ℤ → ℤ → Position → ℤ
At a b c d p = lin a b c d (whole p)

module _ (t : Tables) (p q : Position) (c : ℕ) (volume> : pos 0 <ℤ cell_volume t c) where
  pub separated : (e f g h : ℤ) → ((k : ℕ) → k < 4 → pos 0 <ℤ At e f g h (corner_at t c k)) → At e f g h p ≤ℤ pos 0 → At e f g h q ≤ℤ pos 0 → Touched t p q c → ⊥
  separated e f g h each hp hq T = <-irrefl (≤-<-trans not_above above)
    where
      w : Place
      w = on_way p q T.n T.d

      held : HoldsForm t w c
      held = (holds_form t w T.some c (touched_live t p q c T)).0 T.held

      -- what the corners' values give at w, for any form
      given : (e f g h : ℤ) → sum 4 (λ k. form t w (4 * c + k) *ℤ lin e f g h (placed t c k)) ≡ cell_volume t c *ℤ lin e f g h w
      given e f g h =
          sum_cong 4 (λ k. form t w (4 * c + k) *ℤ lin e f g h (placed t c k)) (λ k. linear.row_volume (linear.replaced_row (placed t c) k w) *ℤ lin e f g h (placed t c k))
          (λ k l. ap (λ z. z *ℤ lin e f g h (placed t c k)) (form_at t w c k l)) ∙
          (linear.between e f g h (placed t c) w ∙ ap (λ z. z *ℤ lin e f g h w) (volume_at_lem t c))

      one : ℤ
      one = sum 4 (λ k. form t w (4 * c + k) *ℤ lin (pos 0) (pos 0) (pos 0) (pos 1) (placed t c k))

      above : pos 0 <ℤ one
      above = subst (λ z. pos 0 <ℤ z) (sym (given (pos 0) (pos 0) (pos 0) (pos 1))) (*-pos volume> (unit T.d T.some))
        where
          unit : (d : ℕ) → 1 ≤ d → pos 0 <ℤ lin (pos 0) (pos 0) (pos 0) (pos 1) record { x = w.x; y = w.y; z = w.z; w = d }
          unit d h = subst (λ z. pos 0 <ℤ z) (sym (ring (con (pos 0) ⊗ var 0 ⊕ con (pos 0) ⊗ var 1 ⊕ con (pos 0) ⊗ var 2 ⊕ con (pos 1) ⊗ var 3) (var 3) tt (pos w.x ∷ pos w.y ∷ pos w.z ∷ pos d ∷ []))) (omega (arithℤ, h))

      low : lin e f g h w ≤ℤ pos 0
      low = subst (λ z. z ≤ℤ pos 0) (sym (ap (lin e f g h) (on_way_lem p q T.n T.d T.within) ∙ lin_mix e f g h (T.d - T.n) (whole p) T.n (whole q)))
          (+-nonpos (*-nonpos-r {a = pos (T.d - T.n)} (omega arithℤ) hp) (*-nonpos-r {a = pos T.n} (omega arithℤ) hq))

      step : (k : ℕ) → k < 4 → lin (pos 0) (pos 0) (pos 0) (pos 1) (placed t c k) ≤ℤ lin e f g h (placed t c k)
      step k l = subst (λ z. z ≤ℤ lin e f g h (placed t c k)) (sym (ring (con (pos 0) ⊗ var 0 ⊕ con (pos 0) ⊗ var 1 ⊕ con (pos 0) ⊗ var 2 ⊕ con (pos 1) ⊗ con (pos 1)) (con (pos 1)) tt (pos (placed t c k).x ∷ pos (placed t c k).y ∷ pos (placed t c k).z ∷ []))) (omega (arithℤ, each k l))

      not_above : one ≤ℤ pos 0
      not_above =
          trans (sum_mono 4 (λ k. form t w (4 * c + k) *ℤ lin (pos 0) (pos 0) (pos 0) (pos 1) (placed t c k)) (λ k. form t w (4 * c + k) *ℤ lin e f g h (placed t c k)) (λ k l. *-mono-≤-l (held k l) (step k l)))
          (subst (λ z. z ≤ℤ pos 0) (sym (given e f g h)) (*-nonpos-r (<→≤ volume>) low))
        where
          trans : {x y z : ℤ} → x ≤ℤ y → y ≤ℤ z → x ≤ℤ z
          trans h k = omega (arithℤ, h, k)

low : (x y : ℕ) → x ≤ y → (pos x -ℤ pos y) ≤ℤ pos 0
low x y h = omega (arithℤ, parts_sub (pos x) (pos y))

-- ---- beyond both ends on one side of an axis

-- a coordinate as a linear form
record Axis : Type 0 where
  e : ℤ
  f : ℤ
  g : ℤ
  along : Position → ℕ
  up : (p : Position) (m : ℕ) → At e f g (neg_ℤ (pos m)) p ≡ pos (along p) -ℤ pos m
  down : (p : Position) (m : ℕ) → At (neg_ℤ e) (neg_ℤ f) (neg_ℤ g) (pos m) p ≡ pos m -ℤ pos (along p)

axis : (e f g : ℤ) (along : Position → ℕ) → ((p : Position) → e *ℤ pos p.x +ℤ f *ℤ pos p.y +ℤ g *ℤ pos p.z ≡ pos (along p)) → Axis
axis e f g along is = record {
  e = e;
  f = f;
  g = g;
  along = along;
  up = λ p m. ring (upₑ ⊕ neg (var 6) ⊗ con (pos 1)) (upₑ ⊖ var 6) tt (values p m) ∙ ap (λ z. z -ℤ pos m) (is p);
  down = λ p m. ring (neg (var 0) ⊗ var 3 ⊕ neg (var 1) ⊗ var 4 ⊕ neg (var 2) ⊗ var 5 ⊕ var 6 ⊗ con (pos 1)) (var 6 ⊖ upₑ) tt (values p m) ∙ ap (λ z. pos m -ℤ z) (is p);
}
  where
    upₑ : Expr
    upₑ = var 0 ⊗ var 3 ⊕ var 1 ⊗ var 4 ⊕ var 2 ⊗ var 5

    values : Position → ℕ → List ℤ
    values p m = e ∷ f ∷ g ∷ pos p.x ∷ pos p.y ∷ pos p.z ∷ pos m ∷ []

coordinates : Position → List ℤ
coordinates p = pos p.x ∷ pos p.y ∷ pos p.z ∷ []

combined : Expr → Expr → Expr → Expr
combined e f g = e ⊗ var 0 ⊕ f ⊗ var 1 ⊕ g ⊗ var 2

axis_x : Axis
unfolding combined coordinates
axis_x = axis (pos 1) (pos 0) (pos 0) (λ p. p.x) (λ p. ring (combined (con (pos 1)) (con (pos 0)) (con (pos 0))) (var 0) tt (coordinates p))

axis_y : Axis
unfolding combined coordinates
axis_y = axis (pos 0) (pos 1) (pos 0) (λ p. p.y) (λ p. ring (combined (con (pos 0)) (con (pos 1)) (con (pos 0))) (var 1) tt (coordinates p))

axis_z : Axis
unfolding combined coordinates
axis_z = axis (pos 0) (pos 0) (pos 1) (λ p. p.z) (λ p. ring (combined (con (pos 0)) (con (pos 0)) (con (pos 1))) (var 2) tt (coordinates p))

module _ (t : Tables) (a b : Position) (c : ℕ) (volume> : pos 0 <ℤ cell_volume t c) where
  abbrev s : ℕ → Position
  s = corner_at t c

  none_under : (A : Axis) → ((k : ℕ) → k < 4 → (A.along (s k) < A.along a) × (A.along (s k) < A.along b)) → Touched t a b c → ⊥
  none_under A each =
      separated t a b c volume> (neg_ℤ A.e) (neg_ℤ A.f) (neg_ℤ A.g) (pos m)
      (λ k l. subst (λ z. pos 0 <ℤ z) (sym (A.down (s k) m)) ((sub_pos {a = pos (A.along (s k))} {b = pos m}).0 (omega (arithℤ, (each k l).0, (each k l).1)))) (end a (omega arith)) (end b (omega arith))
    where
      m : ℕ
      m = min (A.along a) (A.along b)

      end : (p : Position) → m ≤ A.along p → At (neg_ℤ A.e) (neg_ℤ A.f) (neg_ℤ A.g) (pos m) p ≤ℤ pos 0
      end p h = subst (λ z. z ≤ℤ pos 0) (sym (A.down p m)) (low m (A.along p) h)

  none_over : (A : Axis) → ((k : ℕ) → k < 4 → (A.along a < A.along (s k)) × (A.along b < A.along (s k))) → Touched t a b c → ⊥
  none_over A each =
      separated t a b c volume> A.e A.f A.g (neg_ℤ (pos m))
      (λ k l. subst (λ z. pos 0 <ℤ z) (sym (A.up (s k) m)) ((sub_pos {a = pos m} {b = pos (A.along (s k))}).0 (omega (arithℤ, (each k l).0, (each k l).1)))) (end a (omega arith)) (end b (omega arith))
    where
      m : ℕ
      m = max (A.along a) (A.along b)

      end : (p : Position) → A.along p ≤ m → At A.e A.f A.g (neg_ℤ (pos m)) p ≤ℤ pos 0
      end p h = subst (λ z. z ≤ℤ pos 0) (sym (A.up p m)) (low (A.along p) m h)

  none_beyond : (j : ℕ) → j < 6 → ((k : ℕ) → k < 4 → (beyond j (s k) a && beyond j (s k) b) ≡ true) → Touched t a b c → ⊥
  unfolding beyond axis axis_x axis_y axis_z
  none_beyond =
      below_six (λ j. ((k : ℕ) → k < 4 → (beyond j (s k) a && beyond j (s k) b) ≡ true) → Touched t a b c → ⊥)
      (λ e. none_under axis_x (λ k l. both (e k l)))
      (λ e. none_over axis_x (λ k l. both (e k l)))
      (λ e. none_under axis_y (λ k l. both (e k l)))
      (λ e. none_over axis_y (λ k l. both (e k l)))
      (λ e. none_under axis_z (λ k l. both (e k l)))
      (λ e. none_over axis_z (λ k l. both (e k l)))
    where
      both : {u v x y : ℕ} → (ltb u v && ltb x y) ≡ true → (u < v) × (x < y)
      both {u} {v} {x} {y} e = (ltb-true u v (and_left (ltb u v) (ltb x y) e), ltb-true x y (and_right (ltb u v) (ltb x y) e))

-- ---- on one side of the line in a plane of two axes

-- a component of (b − a) × (p − a) as a linear form; it is 0 at both ends
record Plane (a b : Position) (component : Position → ℤ) : Type 0 where
  e : ℤ
  f : ℤ
  g : ℤ
  h : ℤ
  is : (p : Position) → At e f g h p ≡ component p
  at_a : component a ≡ pos 0
  at_b : component b ≡ pos 0

-- a, b and p are variables 0 to 2, 3 to 5, 6 to 8
abbrev uₑ : ℕ → Expr
uₑ i = var (3 + i) ⊖ var i

abbrev vₑ : ℕ → Expr
vₑ i = var (6 + i) ⊖ var i

abbrev minorₑ : (ℕ → Expr) → ℕ → ℕ → Expr
minorₑ v i j = uₑ i ⊗ v j ⊖ uₑ j ⊗ v i

-- its constant
abbrev constₑ : ℕ → ℕ → Expr
constₑ i j = uₑ j ⊗ var i ⊖ uₑ i ⊗ var j

module _ (a b : Position) where
  abbrev turn : Position → Vector
  turn p = cross_product (between a b) (between a p)

  abbrev values : Position → List ℤ
  values p = pos a.x ∷ pos a.y ∷ pos a.z ∷ pos b.x ∷ pos b.y ∷ pos b.z ∷ pos p.x ∷ pos p.y ∷ pos p.z ∷ []

  plane_x : Plane a b (λ p. (turn p).x)
  unfolding cross_product between
  plane_x = record {
    e = pos 0;
    f = neg_ℤ (eval (values a) (uₑ 2));
    g = eval (values a) (uₑ 1);
    h = eval (values a) (constₑ 1 2);
    is = λ p. ring (con (pos 0) ⊗ var 6 ⊕ neg (uₑ 2) ⊗ var 7 ⊕ uₑ 1 ⊗ var 8 ⊕ constₑ 1 2 ⊗ con (pos 1)) (minorₑ vₑ 1 2) tt (values p);
    at_a = ring (minorₑ (λ i. var i ⊖ var i) 1 2) (con (pos 0)) tt (values a);
    at_b = ring (minorₑ uₑ 1 2) (con (pos 0)) tt (values b);
  }

  plane_y : Plane a b (λ p. (turn p).y)
  unfolding cross_product between
  plane_y = record {
    e = eval (values a) (uₑ 2);
    f = pos 0;
    g = neg_ℤ (eval (values a) (uₑ 0));
    h = eval (values a) (constₑ 2 0);
    is = λ p. ring (uₑ 2 ⊗ var 6 ⊕ con (pos 0) ⊗ var 7 ⊕ neg (uₑ 0) ⊗ var 8 ⊕ constₑ 2 0 ⊗ con (pos 1)) (minorₑ vₑ 2 0) tt (values p);
    at_a = ring (minorₑ (λ i. var i ⊖ var i) 2 0) (con (pos 0)) tt (values a);
    at_b = ring (minorₑ uₑ 2 0) (con (pos 0)) tt (values b);
  }

  plane_z : Plane a b (λ p. (turn p).z)
  unfolding cross_product between
  plane_z = record {
    e = neg_ℤ (eval (values a) (uₑ 1));
    f = eval (values a) (uₑ 0);
    g = pos 0;
    h = eval (values a) (constₑ 0 1);
    is = λ p. ring (neg (uₑ 1) ⊗ var 6 ⊕ uₑ 0 ⊗ var 7 ⊕ con (pos 0) ⊗ var 8 ⊕ constₑ 0 1 ⊗ con (pos 1)) (minorₑ vₑ 0 1) tt (values p);
    at_a = ring (minorₑ (λ i. var i ⊖ var i) 0 1) (con (pos 0)) tt (values a);
    at_b = ring (minorₑ uₑ 0 1) (con (pos 0)) tt (values b);
  }

  -- bit j of a line code
  aside : ℕ → Position → Bool
  aside zero p = lt_z (turn p).x (pos 0)
  aside (suc zero) p = lt_z (pos 0) (turn p).x
  aside (suc (suc zero)) p = lt_z (turn p).y (pos 0)
  aside (suc (suc (suc zero))) p = lt_z (pos 0) (turn p).y
  aside (suc (suc (suc (suc zero)))) p = lt_z (turn p).z (pos 0)
  aside (suc (suc (suc (suc (suc j))))) p = lt_z (pos 0) (turn p).z

  line_bits : (p : Position) → Bits (line_code a (between a b) p) (λ j. aside j p)
  unfolding line_code sign_code aside
  line_bits p = six_bits (λ j. aside j p)

  module _ (t : Tables) (c : ℕ) (volume> : pos 0 <ℤ cell_volume t c) where
    none_above : {component : Position → ℤ} → Plane a b component → ((k : ℕ) → k < 4 → pos 0 <ℤ component (corner_at t c k)) → Touched t a b c → ⊥
    none_above P each =
        separated t a b c volume> P.e P.f P.g P.h
        (λ k l. subst (λ z. pos 0 <ℤ z) (sym (P.is (corner_at t c k))) (each k l)) (≡→≤ (P.is a ∙ P.at_a)) (≡→≤ (P.is b ∙ P.at_b))

    none_below : {component : Position → ℤ} → Plane a b component → ((k : ℕ) → k < 4 → component (corner_at t c k) <ℤ pos 0) → Touched t a b c → ⊥
    none_below {component} P each = none_above opposed (λ k l. neg_pos (each k l))
      where
        opposed : Plane a b (λ p. neg_ℤ (component p))
        opposed = record {
          e = neg_ℤ P.e;
          f = neg_ℤ P.f;
          g = neg_ℤ P.g;
          h = neg_ℤ P.h;
          is = λ p. ring (neg (var 0) ⊗ var 4 ⊕ neg (var 1) ⊗ var 5 ⊕ neg (var 2) ⊗ var 6 ⊕ neg (var 3) ⊗ con (pos 1)) (neg (var 0 ⊗ var 4 ⊕ var 1 ⊗ var 5 ⊕ var 2 ⊗ var 6 ⊕ var 3 ⊗ con (pos 1))) tt
              (P.e ∷ P.f ∷ P.g ∷ P.h ∷ pos p.x ∷ pos p.y ∷ pos p.z ∷ []) ∙ ap neg_ℤ (P.is p);
          at_a = ap neg_ℤ P.at_a;
          at_b = ap neg_ℤ P.at_b;
        }

    none_aside : (j : ℕ) → j < 6 → ((k : ℕ) → k < 4 → aside j (corner_at t c k) ≡ true) → Touched t a b c → ⊥
    unfolding aside
    none_aside =
        below_six (λ j. ((k : ℕ) → k < 4 → aside j (corner_at t c k) ≡ true) → Touched t a b c → ⊥)
        (λ e. none_below plane_x (λ k l. lt_z_true _ (pos 0) (e k l)))
        (λ e. none_above plane_x (λ k l. lt_z_true (pos 0) _ (e k l)))
        (λ e. none_below plane_y (λ k l. lt_z_true _ (pos 0) (e k l)))
        (λ e. none_above plane_y (λ k l. lt_z_true (pos 0) _ (e k l)))
        (λ e. none_below plane_z (λ k l. lt_z_true _ (pos 0) (e k l)))
        (λ e. none_above plane_z (λ k l. lt_z_true (pos 0) _ (e k l)))

-- ---- an entry that the codes rule out

pub range_length : (ps : List ℕ) (np : ℕ) (a b : Position) → length (range_codes ps np a b) ≡ 1024
unfolding range_codes
range_length ps np a b = codes_length np _

pub line_length : (ps : List ℕ) (np : ℕ) (a b : Position) → length (line_codes ps np a b) ≡ 1024
unfolding line_codes
line_length ps np a b = codes_length np _

module _ (ps cs ns : List ℕ) (np n : ℕ) (S : Solid ps cs np n) (c : ℕ) (c< : c < n) (a b : Position) {k : List ℕ} (ek : k ≡ four_at cs c) where
  abbrev t : Tables
  t = tables ps cs ns

  at_corner : (i : ℕ) → i < 4 → point_in ps (get_or k i 0) ≡ corner_at t c i
  unfolding corner_at
  at_corner i h = ap (λ k. point_in ps (get_or k i 0)) ek ∙ ap (point_in ps) (four_corner t c i h)

  positive : get_or k 0 0 ≢ none → pos 0 <ℤ cell_volume t c
  unfolding cell_volume corner_at corner
  positive d = subst (λ z. pos 0 <ℤ z) (ap (volume_of_four ps) ek ∙ four_volume ps cs c) (positive_at ps cs np n S c c< ek d)

  untouched : live t c ≡ false → touches t a b c ≡ false
  unfolding touches
  untouched l = rw l

  module _ (f : Position → ℕ) (b? : ℕ → Position → Bool) (bits : (p : Position) → Bits (f p) (λ j. b? j p))
      (none_shared : pos 0 <ℤ cell_volume t c → (j : ℕ) → j < 6 → ((i : ℕ) → i < 4 → b? j (corner_at t c i) ≡ true) → Touched t a b c → ⊥) where
    coded_out : {codes : List ℕ} → codes ≡ codes_below np (λ v. f (point_in ps v)) → may_hold codes k ≡ false → touches t a b c ≡ false
    coded_out {codes} ec e = go (ruled_out ps cs np n S c c< ek codes ns e)
      where
        go : (live t c ≡ false) ⊎ ((get_or k 0 0 ≢ none) × (shared_bits codes k ≢ 0)) → touches t a b c ≡ false
        go (inl l) = untouched l
        go (inr (d, x)) = fails (touches t a b c) (λ y. none_shared (positive d) r.bit r.bit< (λ i h. subst (λ p. b? r.bit p ≡ true) (at_corner i h) (r.all i h)) ((touch_is t a b c).0 y))
          where
            r : Shared (λ i j. b? j (point_in ps (get_or k i 0)))
            r = shared_bit codes k (λ i j. b? j (point_in ps (get_or k i 0)))
                (λ i h. subst (λ m. Bits m (λ j. b? j (point_in ps (get_or k i 0)))) (sym (coded_at ps cs np n S c c< ek codes (λ v. f (point_in ps v)) ec d i h)) (bits (point_in ps (get_or k i 0)))) x

  pub range_out : {codes : List ℕ} → codes ≡ range_codes ps np a b → may_hold codes k ≡ false → touches t a b c ≡ false
  unfolding range_codes
  range_out = coded_out (λ p. bit_and (side_code p a) (side_code p b)) (λ j p. beyond j p a && beyond j p b) (λ p. and_bits (code_bits p a) (code_bits p b)) (none_beyond t a b c)

  pub line_out : {codes : List ℕ} → codes ≡ line_codes ps np a b → may_hold codes k ≡ false → touches t a b c ≡ false
  unfolding line_codes
  line_out = coded_out (line_code a (between a b)) (aside a b) (line_bits a b) (none_aside a b t c)

-- The tests as they are made: of two forms by sizes, of a face against the four, of four faces.
use Rattle.std.specs.Prelude.{ℕ, ◌*◌, true, false, Bool, not, ◌&&◌, ◌||◌, ◌≡◌, leb, ℤ, pos, nat_abs}
use mathlib.Core.Path.{refl, sym, ap, ◌∙◌}
use lib.IntN.{negsuc, ◌*ℤ◌}
use lib.Signed.{le_z, lt_z}
use native.Mathlib.Omega.{arith}
use borrow.Author.Tests.{le-leb}
use Rattle.arith.proofs.Flags.{clash}
use Rattle.arith.proofs.Order.{le_z_not}
use Rattle.arith.specs.Table.{all_below}
use Rattle.geometry.specs.declared.Volumes.{Volumes}
use Rattle.locate.specs.Inner.{volume_at}
use Rattle.segment.specs.Call.{below, in_order, meets}
use Rattle.segment.specs.Inner.{volumes_meet}

products : (a b c d : ℤ) → le_z (pos 0) a ≡ false → le_z (pos 0) b ≡ true → le_z (pos 0) c ≡ true → le_z (pos 0) d ≡ false →
    le_z (a *ℤ d) (c *ℤ b) ≡ leb (nat_abs a * nat_abs d) (nat_abs c * nat_abs b)
products (negsuc x) (pos y) (pos z) (negsuc w) e f g h = refl
products (pos x) b c d e f g h = clash (le-leb 0 x (omega arith)) e
products (negsuc x) (negsuc y) c d e f g h = clash f refl
products (negsuc x) (pos y) (negsuc z) d e f g h = clash g refl
products (negsuc x) (pos y) (pos z) (pos w) e f g h = clash (le-leb 0 w (omega arith)) h

chosen : (A B C D : Bool) {P Q : Bool} → (A ≡ false → B ≡ true → C ≡ true → D ≡ false → P ≡ Q) →
    (not ((not A && not (not B)) && (not D && not (not C))) || P) ≡ (D || (not C || (A || (not B || Q))))
chosen true B true true p = refl
chosen true B true false p = refl
chosen true B false true p = refl
chosen true B false false p = refl
chosen false true true true p = refl
chosen false true true false p = p refl refl refl refl
chosen false true false true p = refl
chosen false true false false p = refl
chosen false false true true p = refl
chosen false false true false p = refl
chosen false false false true p = refl
chosen false false false false p = refl

-- where the first form enters and the second leaves, the products are those of the sizes
pub in_order_tests : (a b c d : ℤ) →
    in_order a b c d ≡ (le_z (pos 0) d || (lt_z c (pos 0) || (le_z (pos 0) a || (lt_z b (pos 0) || leb (nat_abs a * nat_abs d) (nat_abs c * nat_abs b)))))
unfolding in_order
in_order_tests a b c d =
    rw (le_z_not (pos 0) a, le_z_not (pos 0) b, le_z_not (pos 0) c, le_z_not (pos 0) d)
    (chosen (le_z (pos 0) a) (le_z (pos 0) b) (le_z (pos 0) c) (le_z (pos 0) d) (products a b c d))

-- ---- four tests, from the last to the first

all_four : (f : ℕ → Bool) → all_below 4 f ≡ (((f 3 && f 2) && f 1) && f 0)
unfolding all_below
all_four f = regroup (f 3) (f 2) (f 1) (f 0)
  where
    regroup : (x y z w : Bool) → (x && (y && (z && (w && true)))) ≡ (((x && y) && z) && w)
    regroup true true true true = refl
    regroup true true true false = refl
    regroup true true false w = refl
    regroup true false z w = refl
    regroup false y z w = refl

pub face_tests : (p q : ℤ) (f : ℕ → Bool) → le_z (pos 0) p ≡ false →
    (not (below p && below q) && all_below 4 f) ≡ ((((le_z (pos 0) q && f 3) && f 2) && f 1) && f 0)
face_tests p q f e = rw (le_z_not (pos 0) p, le_z_not (pos 0) q, e, all_four f) (go (le_z (pos 0) q))
  where
    go : (x : Bool) → (not (not x) && (((f 3 && f 2) && f 1) && f 0)) ≡ ((((x && f 3) && f 2) && f 1) && f 0)
    go true = refl
    go false = refl

abbrev pub face_at : Volumes → Volumes → ℕ → Bool
face_at a b k = not (below (volume_at a k) && below (volume_at b k)) && all_below 4 (λ l. in_order (volume_at a k) (volume_at b k) (volume_at a l) (volume_at b l))

pub volumes_tests : (a b : Volumes) → volumes_meet a b ≡ (((face_at a b 3 && face_at a b 2) && face_at a b 1) && face_at a b 0)
unfolding volumes_meet meets
volumes_tests a b = all_four (face_at a b)

-- ---- one test of a chain

pub both : {r s x y : Bool} → r ≡ true → r ≡ x → s ≡ y → s ≡ (x && y)
both {r} {s} {x} {y} t e h = h ∙ ap (λ b. b && y) (sym t ∙ e)

pub stopped : {r x : Bool} (y : Bool) → r ≡ false → r ≡ x → r ≡ (x && y)
stopped y t e = t ∙ ap (λ b. b && y) (sym t ∙ e)

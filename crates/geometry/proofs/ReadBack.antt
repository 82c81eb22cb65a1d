-- Volumes and squared distances as the code reads them back.
use Prim.Native.Nat.{◌*◌, ◌≤◌, ◌^◌}
use mathlib.Core.Path.{◌≡◌, sym, ◌∙◌, subst}
use native.Mathlib.Nat.{le_trans}
use lib.Dec.{lit≤}
use lib.IntN.{ℤ, nat_abs}
use mir.Syntax.{w64}
use Rattle.arith.proofs.Machine.{back}
use Rattle.geometry.specs.declared.Position.{Position}
use Rattle.geometry.specs.Volume.{InRange, volume6, squared_distance}
use Rattle.geometry.proofs.Bounds.{volume_within, distance_within}
use Rattle.geometry.proofs.Products.{kept}

-- x is v, and small enough to become a float without loss
pub record Held (x v : ℤ) : Type 0 where
  pub is : back w64 x ≡ v
  pub small : nat_abs (back w64 x) ≤ 2 ^ 53

held : {x v : ℤ} → x ≡ v → nat_abs v ≤ 2 ^ 53 → Held x v
held {x} {v} e h =
    let q : back w64 x ≡ v = kept x (subst (λ z. nat_abs z ≤ 3 * 2 ^ 52) (sym e) (le_trans h (lit≤ tt))) ∙ e in
    record { is = q; small = subst (λ z. nat_abs z ≤ 2 ^ 53) (sym q) h }

pub held_volume : {x : ℤ} (a b c d : Position) → x ≡ volume6 a b c d → InRange a → InRange b → InRange c → InRange d → Held x (volume6 a b c d)
held_volume a b c d e ha hb hc hd = held e (le_trans (volume_within a b c d ha hb hc hd) (lit≤ tt))

pub held_distance : {x : ℤ} (a p : Position) → x ≡ squared_distance a p → InRange a → InRange p → Held x (squared_distance a p)
held_distance a p e ha hp = held e (le_trans (distance_within a p ha hp) (lit≤ tt))

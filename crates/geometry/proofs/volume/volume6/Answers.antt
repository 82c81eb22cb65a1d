use mathlib.Core.Path.{◌≡◌, ◌∙◌, sym, subst}
use Prim.Native.Nat.{◌≤◌, ◌^◌}
use lib.IntN.{ℤ, nat_abs}
use mir.Syntax.{w32, w64}
use mir.Val.{SFits, to_z, of_z}
use mir.Facts.{to_z-of_z}
use Rattle.arith.proofs.Machine.{back}
use Rattle.geometry.specs.declared.Position.{Position}
use Rattle.geometry.specs.Volume.{volume_of_numbers}
use Rattle.geometry.specs.Inner.{position_of}
use Rattle.geometry.proofs.Ranges.{flag_is, numbers_within}
use Rattle.geometry.proofs.volume.volume6.Goals as goal

abbrev read : ℤ → ℤ
read z = to_z w32 (of_z w32 z)

given : {x y z : ℤ} {r : Position} → r ≡ position_of (read x) (read y) (read z) → SFits w32 x → SFits w32 y → SFits w32 z → r ≡ position_of x y z
given e f g h = e ∙ (λ i. position_of (to_z-of_z f i) (to_z-of_z g i) (to_z-of_z h i))

pub returns : goal.returns
returns c = record { value = value; within = λ e. subst (λ z. nat_abs z ≤ 2 ^ 52) (sym value) (numbers_within _ _ _ _ _ _ _ _ _ _ _ _ e) }
  where
    value : let a = c.args in back w64 c.volume_or_flag.result ≡ volume_of_numbers a.ax a.ay a.az a.bx a.by a.bz a.cx a.cy a.cz a.dx a.dy a.dz
    value =
        let f = c.ranges in
        to_z-of_z {w = w64} (record { sfits = c.volume_or_flag.type_inv }) ∙ (c.volume_or_flag.ensures ∙ (rw (
          given c.position.ensures f.ax f.ay f.az,
          given c.position-2.ensures f.bx f.by f.bz,
          given c.position-3.ensures f.cx f.cy f.cz,
          given c.position-4.ensures f.dx f.dy f.dz,
        ) (flag_is _ _ _ _ _ _ _ _ _ _ _ _)))

-- A point put into a point table.
use Prim.Native.Nat.{ℕ, ◌+◌, ◌*◌, ◌≤◌}
use mathlib.Core.List.{List}
use mathlib.Core.Logic.{◌≢◌}
use mathlib.Core.Path.{◌≡◌, ◌∙◌}
use native.Mathlib.Omega.{arith}
use lib.ListN.{length, get_or, set, length-set}
use lib.Seq.{get_or-set_same, get_or-set_other}
use Rattle.geometry.specs.declared.Position.{Position}
use Rattle.mesh.specs.Tables.{point_in}
use Rattle.mesh.specs.Inner.{with_point}

module _ (ps : List ℕ) (k : ℕ) (p : Position) where
  one : List ℕ
  one = set ps (3 * k) p.x

  two : List ℕ
  two = set one (3 * k + 1) p.y

  pub put_length : length (with_point ps k p) ≡ length ps
  unfolding with_point
  put_length = simp length-set

  -- an entry that is none of the point's three
  pub put_else : (i : ℕ) → i ≢ 3 * k → i ≢ 3 * k + 1 → i ≢ 3 * k + 2 → get_or (with_point ps k p) i 0 ≡ get_or ps i 0
  unfolding with_point one two
  put_else i a b c =
      get_or-set_other two (3 * k + 2) i p.z 0 c ∙ (get_or-set_other one (3 * k + 1) i p.y 0 b ∙ get_or-set_other ps (3 * k) i p.x 0 a)

  pub put_other : (j : ℕ) → j ≢ k → point_in (with_point ps k p) j ≡ point_in ps j
  unfolding point_in
  put_other j d =
      let x = put_else (3 * j) (omega arith) (omega arith) (omega arith) in
      let y = put_else (3 * j + 1) (omega arith) (omega arith) (omega arith) in
      let z = put_else (3 * j + 2) (omega arith) (omega arith) (omega arith) in
      λ i. record { x = x i; y = y i; z = z i }

  pub put_same : 3 * k + 3 ≤ length ps → point_in (with_point ps k p) k ≡ p
  unfolding point_in with_point one two
  put_same h =
      let x : get_or (with_point ps k p) (3 * k) 0 ≡ p.x =
      get_or-set_other two (3 * k + 2) (3 * k) p.z 0 (omega arith) ∙
      (get_or-set_other one (3 * k + 1) (3 * k) p.y 0 (omega arith) ∙ get_or-set_same ps (3 * k) p.x 0 (omega arith)) in
      let y : get_or (with_point ps k p) (3 * k + 1) 0 ≡ p.y =
      get_or-set_other two (3 * k + 2) (3 * k + 1) p.z 0 (omega arith) ∙ get_or-set_same one (3 * k + 1) p.y 0 (simp length-set (omega arith)) in
      let z : get_or (with_point ps k p) (3 * k + 2) 0 ≡ p.z = get_or-set_same two (3 * k + 2) p.z 0 (simp length-set (omega arith)) in
      λ i. record { x = x i; y = y i; z = z i }

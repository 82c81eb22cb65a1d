use Rattle.std.proofs.Common.{◌≡◌, ℕ, ◌≤◌, ◌+◌, ◌*◌, ℤ, pos, sym, ap, ◌∙◌, subst, arith}
use native.Mathlib.Nat.{le_trans}
use lib.Dec.{lit≤}
use lib.Signed.{lt_z}
use Rattle.geometry.specs.Inner.{cross_product}
use Rattle.geometry.proofs.Products.{difference_bounded, product_bounded, kept}
use Rattle.mesh.proofs.Numbers.{byte≤}
use Rattle.segment.specs.Inner.{sign_code, line_code}
use Rattle.segment_codes.proofs.line_code.Goals as goal

small : {n : ℕ} (v : ℤ) → n ≡ sign_code v → n ≤ 3
unfolding sign_code
small v e = subst (λ n. n ≤ 3) (sym e) (omega (arith, byte≤ (lt_z v (pos 0)), byte≤ (lt_z (pos 0) v)))

pub cross-w-requires : goal.cross-w-requires
cross-w-requires c = let h = c.requires in (h.1, difference_bounded c.difference.ensures h.0 h.2)

pub overflow_mul-result : goal.overflow_mul-result
overflow_mul-result c = record { fits = omega (arith, small _ c.sign_code-2.ensures) }

pub overflow_add-result : goal.overflow_add-result
overflow_add-result c = record { fits = omega (arith, small _ c.sign_code.ensures, small _ c.sign_code-2.ensures) }

pub overflow_mul-result-2 : goal.overflow_mul-result-2
overflow_mul-result-2 c = record { fits = omega (arith, small _ c.sign_code-3.ensures) }

pub overflow_add-result-2 : goal.overflow_add-result-2
overflow_add-result-2 c = record { fits = omega (arith, small _ c.sign_code.ensures, small _ c.sign_code-2.ensures, small _ c.sign_code-3.ensures) }

pub returns : goal.returns
unfolding line_code
returns c =
    let h = c.requires in
    let g = c.difference.ensures in
    let e = c.cross-w.ensures in
    let r = c.cross-w.result in
    let z = product_bounded e h.1 (difference_bounded g h.0 h.2) in
    (λ i. c.sign_code.ensures i + 4 * c.sign_code-2.ensures i + 16 * c.sign_code-3.ensures i) ∙
    ((λ i. sign_code (kept r.x (le_trans z.x≤ (lit≤ tt)) i) + 4 * sign_code (kept r.y (le_trans z.y≤ (lit≤ tt)) i) + 16 * sign_code (kept r.z (le_trans z.z≤ (lit≤ tt)) i)) ∙
    ap (λ w. sign_code w.x + 4 * sign_code w.y + 16 * sign_code w.z) (e ∙ ap (cross_product _) g))

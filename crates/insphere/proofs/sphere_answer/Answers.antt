use mathlib.Core.Path.{◌≡◌, sym, ap, ◌∙◌, subst}
use lib.IntN.{pos}
use lib.Signed.{lt_z}
use Rattle.geometry.specs.declared.Position.{Position}
use Rattle.geometry.specs.declared.Tetrahedron.{Tetrahedron}
use Rattle.insphere.specs.declared.Sphere.TheVariants.{Inside, Outside}
use Rattle.insphere.specs.declared.Terms.{Terms}
use Rattle.insphere.specs.Sphere.{sphere_sum, sphere_t, sphere_answer}
use Rattle.insphere.specs.Inner.{TermsInRange, terms_at, exact_sum, float_sum}
use Rattle.insphere.proofs.Promises.{terms_in, exact_at, float_at}
use Rattle.insphere.proofs.sphere_answer.Goals as goal

-- the terms' sums are those of the corners
module _ (t : Tetrahedron) (p : Position) {x : Terms} (e : x ≡ terms_at t p) where
  sum_is : float_sum x ≡ sphere_t t.a t.b t.c t.d p
  sum_is = ap float_sum e ∙ float_at t p

  inside_is : lt_z (pos 0) (exact_sum x) ≡ lt_z (pos 0) (sphere_sum t.a t.b t.c t.d p)
  inside_is = ap (lt_z (pos 0)) (ap exact_sum e ∙ exact_at t p)

pub float_sum-sum-requires : goal.float_sum-sum-requires
float_sum-sum-requires c = subst TermsInRange (sym c.terms_at-x.ensures) (terms_in c.requires.0 c.requires.1)

pub is_inside-requires : goal.is_inside-requires
is_inside-requires c = (subst TermsInRange (sym c.terms_at-x.ensures) (terms_in c.requires.0 c.requires.1), c.float_sum-sum.ensures)

pub returns-then-is_inside : goal.returns-then-is_inside
unfolding sphere_answer
returns-then-is_inside c =
    let e = c.terms_at-x.ensures in
    rw (sym (c.is_inside.ensures ∙ inside_is _ _ e) ∙ c.if-is_inside.true) (ap Inside (c.float_sum-sum.ensures ∙ sum_is _ _ e))

pub returns-else-is_inside : goal.returns-else-is_inside
unfolding sphere_answer
returns-else-is_inside c =
    let e = c.terms_at-x.ensures in
    rw (sym (c.is_inside.ensures ∙ inside_is _ _ e) ∙ c.if-is_inside.false) (ap Outside (c.float_sum-sum.ensures ∙ sum_is _ _ e))

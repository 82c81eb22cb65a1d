use mathlib.Core.Path.{◌≡◌, ap, sym, ◌∙◌}
use mathlib.Core.Bool.{true}
use lib.Ieee.{of_bits, neg, lt}
use Rattle.insphere.specs.Inner.{float_sum, limit, low_limit}
use Rattle.insphere.proofs.Promises.{sum_positive, sum_negative}
use Rattle.insphere.proofs.is_inside.Goals as goal

-- a float constant is its bit pattern, which computes to the limit

pub returns-then-t : goal.returns-then-t
unfolding of_bits
returns-then-t c =
    let above : lt limit (float_sum c.args.x) ≡ true = ap (lt limit) (sym c.requires.1) ∙ c.if-t.true in
    sym (sum_positive c.requires.0 above)

pub returns-then-t-2 : goal.returns-then-t-2
unfolding of_bits neg
returns-then-t-2 c =
    let below : lt (float_sum c.args.x) low_limit ≡ true = ap (λ t. lt t low_limit) (sym c.requires.1) ∙ c.if-t-2.true in
    sym (sum_negative c.requires.0 below)

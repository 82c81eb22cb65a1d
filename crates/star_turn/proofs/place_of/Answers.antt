use Rattle.std.proofs.Common.{ℕ, ◌≡◌, ◌+◌, ◌-◌, ◌*◌, ◌≤◌, Bool, true, false, not, List, [], ◌∷◌, length, get_or, take, drop, cond, eqb, ltb, Some, None, refl, ap, ap₂, ◌∙◌, arith, rules, tests}
use Rattle.std.specs.List.{position_or_len}
use Rattle.std.specs.Option.{unwrap_or}
use Rattle.std.proofs.lemmas.List.{drop_more}
use Rattle.std.proofs.lemmas.Iterator.{YieldsList-from_slice}
use Rattle.std.proofs.lemmas.Iterator.Search.{position_from_yields_List}
use Rattle.mesh.specs.Tables.{place_of}
use Rattle.star_turn.proofs.place_of.Goals as goal

-- three entries from place k on
three : (l : List ℕ) (k m : ℕ) → k + 3 ≤ length l → m ≡ 3 → take m (drop k l) ≡ get_or l (k + 0) 0 ∷ get_or l (k + 1) 0 ∷ get_or l (k + 2) 0 ∷ []
three l k m h e =
    ap₂ take e
    (drop_more l k 0 (omega arith) ∙
    ap₂ ◌∷◌ (ap (λ j. get_or l j 0) (omega arith))
    (drop_more l (k + 1) 0 (omega arith) ∙
    ap (λ z. get_or l (k + 1) 0 ∷ z)
    (drop_more l (k + 1 + 1) 0 (omega arith) ∙
    ap (λ j. get_or l j 0 ∷ drop (k + 1 + 1 + 1) l) (omega arith))))

-- the first of three that is v
first : (a b c v : ℕ) → let l = a ∷ b ∷ c ∷ [] in let at = position_or_len (λ x. eqb x v) l in
    unwrap_or (cond (ltb at (length l)) (Some at) None) 3 ≡ cond (eqb a v) 0 (cond (eqb b v) 1 (cond (eqb c v) 2 3))
first a b c v = by (eqb a v) (eqb b v) (eqb c v)
  where
    by : (x y z : Bool) → let at = cond (not x) (1 + cond (not y) (1 + cond (not z) 1 0) 0) 0 in unwrap_or (cond (ltb at 3) (Some at) None) 3 ≡ cond x 0 (cond y 1 (cond z 2 3))
    by true y z = refl
    by false true z = refl
    by false false true = refl
    by false false false = refl

pub returns : goal.returns
unfolding place_of
returns c =
    let t = c.args.table.now in
    let k = 4 * c.args.c in
    let v = c.args.v in
    let e = c.iter.ensures.rest ∙ three t k (k + 3 - k) (omega arith) (omega arith) in
    let found = position_from_yields_List (λ x. eqb x v) _ _ c.position.result c.position.ensures.ran (YieldsList-from_slice _ e) (λ x b q k. search (rules, tests)) in
    c.unwrap_or.ensures ∙ (ap (λ r. unwrap_or r 3) found ∙ first (get_or t (k + 0) 0) (get_or t (k + 1) 0) (get_or t (k + 2) 0) v)

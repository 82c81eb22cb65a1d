use Rattle.std.proofs.Common.{ℕ, List, [], ◌∷◌, length, take, set, fold, ◌≡◌, refl, ap, ◌∙◌, rules, arith}
use Rattle.mesh.specs.Inner.Cells.{with_marks}
use Rattle.mesh_cells.proofs.mark.Goals as goal

four_writes : (marked k : List ℕ) → length k ≡ 4 → fold (λ m v. set m v 1) marked (take 4 k) ≡ with_marks marked k
unfolding with_marks
four_writes marked (a ∷ (b ∷ (c ∷ (d ∷ [])))) h = refl
four_writes marked [] h = absurd (omega arith)
four_writes marked (a ∷ []) h = absurd (omega arith)
four_writes marked (a ∷ (b ∷ [])) h = absurd (omega arith)
four_writes marked (a ∷ (b ∷ (c ∷ []))) h = absurd (omega arith)
four_writes marked (a ∷ (b ∷ (c ∷ (d ∷ (e ∷ xs))))) h = absurd (omega arith)

pub returns : goal.returns
returns c =
    let l = c.loop-v in
    let k = c.args.k in
    let four : length k ≡ 4 = search rules in
    let all : l.v-index ≡ 4 = omega arith in
    l.invariant ∙ (ap (λ n. fold (λ m v. set m v 1) c.args.marked.now (take n k)) all ∙ four_writes c.args.marked.now k four)

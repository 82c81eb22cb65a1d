-- Sums over the faces of the cells of a set: faces inside it cancel with their mates.
use Prim.Native.Nat.{ℕ, ◌*◌}
use mathlib.Core.Bool.{Bool, true, false, not, ◌&&◌, cond}
use mathlib.Core.Logic.{◌≢◌}
use mathlib.Core.Path.{◌≡◌, refl, sym, ap, ◌∙◌}
use native.Mathlib.Omega.{arith}
use lib.IntN.{ℤ, pos, neg_ℤ, ◌+ℤ◌, +ℤ_idl, +ℤ_idr}
use Rattle.arith.specs.Table.{sum}
use Rattle.arith.proofs.Flags.{and_left, and_right}
use Rattle.arith.proofs.Sums.{sum_cong, sum_add, Paired, sum_paired}
use Rattle.mesh.specs.Tables.{none, cell_of, opposite}
use Rattle.mesh.proofs.Glued.{Glued}

-- ---- over the faces of the cells of a set

module _ {n : ℕ} {cell : ℕ → Type 0} {corner : ℕ → ℕ → ℕ} {across mate : ℕ → ℕ} (G : Glued n cell corner across mate)
    {S : ℕ → Bool} (inside : (c : ℕ) → S c ≡ true → cell c)
    (v : ℕ → ℤ) (opposite : (f : ℕ) → cell (cell_of f) → across f ≢ none → v (mate f) ≡ neg_ℤ (v f)) where
  abbrev inner : ℕ → Bool
  inner f = S (cell_of f) && S (across f)

  inner_real : (f : ℕ) → inner f ≡ true → across f ≢ none
  inner_real f e = omega (arith, G.below (across f) (inside (across f) (and_right (S (cell_of f)) (S (across f)) e)), G.few)

  inner_cell : (f : ℕ) → inner f ≡ true → cell (cell_of f)
  inner_cell f e = inside (cell_of f) (and_left (S (cell_of f)) (S (across f)) e)

  faces_paired : Paired (4 * n) mate inner v
  faces_paired = record {
    mate< = λ f l e.
        omega (arith, G.mate_cell f (inner_cell f e) (inner_real f e), G.below (across f) (inside (across f) (and_right (S (cell_of f)) (S (across f)) e)));
    mate_in = λ f l e.
        rw (G.mate_cell f (inner_cell f e) (inner_real f e), G.mate_across f (inner_cell f e) (inner_real f e), and_left (S (cell_of f)) (S (across f)) e, and_right (S (cell_of f)) (S (across f)) e);
    mate_mate = λ f l e. G.mate_mate f (inner_cell f e) (inner_real f e);
    mate_neg = λ f l e. opposite f (inner_cell f e) (inner_real f e);
  }

  pub sum_inner : sum (4 * n) (λ f. cond (S (cell_of f) && S (across f)) (v f) (pos 0)) ≡ pos 0
  sum_inner = sum_paired (4 * n) mate inner v faces_paired

  -- what the cells of the set sum to, their outer faces sum to
  pub sum_outer : sum (4 * n) (λ f. cond (S (cell_of f)) (v f) (pos 0)) ≡ sum (4 * n) (λ f. cond (S (cell_of f) && not (S (across f))) (v f) (pos 0))
  sum_outer =
      sum_cong (4 * n) (λ f. cond (S (cell_of f)) (v f) (pos 0))
      (λ f. cond (S (cell_of f) && S (across f)) (v f) (pos 0) +ℤ cond (S (cell_of f) && not (S (across f))) (v f) (pos 0))
      (λ f l. parts (S (cell_of f)) (S (across f)) (v f)) ∙
      (sum_add (4 * n) (λ f. cond (S (cell_of f) && S (across f)) (v f) (pos 0)) (λ f. cond (S (cell_of f) && not (S (across f))) (v f) (pos 0)) ∙
      (ap (λ x. x +ℤ sum (4 * n) (λ f. cond (S (cell_of f) && not (S (across f))) (v f) (pos 0))) sum_inner ∙ +ℤ_idl _))
    where
      parts : (a b : Bool) (x : ℤ) → cond a x (pos 0) ≡ cond (a && b) x (pos 0) +ℤ cond (a && not b) x (pos 0)
      parts true true x = sym (+ℤ_idr x)
      parts true false x = sym (+ℤ_idl x)
      parts false b x = refl

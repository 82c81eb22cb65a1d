-- Freeing the cavity's entries, one after the other along a rising list.
use Prim.Native.Nat.{ℕ, zero, suc, ◌+◌, ◌*◌, ◌-◌, ◌≤◌, ◌<◌}
use mathlib.Core.Bool.{Bool}
use mathlib.Core.List.{List, [], ◌∷◌}
use mathlib.Core.Logic.{◌≢◌}
use mathlib.Core.Path.{◌≡◌, refl, sym, ap, ◌∙◌, subst}
use native.Mathlib.Omega.{arith}
use native.Mathlib.Decide.{ℕ_discrete}
use native.Mathlib.Numerals.{add-one}
use lib.ListN.{length, get_or}
use Rattle.arith.proofs.Flags.{clash, below_four}
use Rattle.mesh.specs.Tables.{none, cell_of}
use Rattle.mesh.specs.Inner.{with_four, HasCell}
use Rattle.mesh.proofs.FaceNumbers.{face_cell}
use Rattle.cavity.specs.Cavity.{in_set}
use Rattle.star.specs.Star.{highest_below}
use Rattle.star.specs.Inner.{entry_at, CavityReplaced, freed_link, Rising}
use Rattle.star.proofs.Fours.{four_same, four_other, length_four}
use Rattle.star.proofs.Rising.{link_first, link_next, link_head, link_empty}

-- the first k listed cells are freed
pub record FreedTo (li : List ℕ) (gone : ℕ → ℕ → ℕ) (k : ℕ) (l l' : List ℕ) : Type 0 where
  pub long : length l' ≡ length l
  pub freed : (j i : ℕ) → j < k → i < 4 → entry_at l' (get_or li j 0) i ≡ gone (get_or li j 0) i
  pub else : (q : ℕ) → ((j : ℕ) → j < k → get_or li j 0 ≢ cell_of q) → get_or l' q 0 ≡ get_or l q 0

pub free_none : (li : List ℕ) (gone : ℕ → ℕ → ℕ) (l : List ℕ) → FreedTo li gone 0 l l
free_none li gone l = record { long = refl; freed = λ j i h. absurd (omega arith); else = λ q h. refl }

module _ {n : ℕ} {s : List Bool} {li : List ℕ} {size : ℕ} (L : Rising n s li size) {gone : ℕ → ℕ → ℕ} {l : List ℕ} where
  -- one more
  pub free_more : {k : ℕ} {l' l'' : List ℕ} (v : List ℕ) → FreedTo li gone k l l' → k < size → 4 * get_or li k 0 + 4 ≤ length l → l'' ≡ with_four l' (get_or li k 0) v →
      ((i : ℕ) → i < 4 → get_or v i 0 ≡ gone (get_or li k 0) i) → FreedTo li gone (k + 1) l l''
  free_more {k} {l'} {l''} v F k< fits e is = record {
    long = ap length e ∙ (length_four l' c v ∙ F.long);
    freed = λ j i h. freed j i h (ℕ_discrete j k);
    else = λ q h. ap (λ x. get_or x q 0) e ∙ (four_other l' c v q (λ x. h k (omega arith) (sym x)) ∙ F.else q (λ j m. h j (omega arith)));
  }
    where
      c : ℕ
      c = get_or li k 0

      freed : (j i : ℕ) → j < k + 1 → Dec (j ≡ k) → i < 4 → entry_at l'' (get_or li j 0) i ≡ gone (get_or li j 0) i
      freed j i h (yes q) m =
          subst (λ x. entry_at l'' (get_or li x 0) i ≡ gone (get_or li x 0) i) (sym q)
          (ap (λ x. entry_at x c i) e ∙ (four_same l' c v (omega (arith, F.long)) i m ∙ is i m))
      freed j i h (no d) m =
          ap (λ x. entry_at x (get_or li j 0) i) e ∙
          (four_other l' c v (4 * get_or li j 0 + i) (λ x. absurd (omega (arith, sym (face_cell (get_or li j 0) i m) ∙ x, L.rises j k (omega arith) k<))) ∙ F.freed j i (omega arith) m)

  -- all
  pub free_all : {l' : List ℕ} → FreedTo li gone size l l' → CavityReplaced s gone l l'
  free_all {l'} F = record {
    long = F.long;
    freed = λ c i e h. at c i h (L.all c e);
    else = λ q e. F.else q (λ j h x. clash (ap (in_set s) (sym x) ∙ L.held j h) e);
  }
    where
      at : (c i : ℕ) → i < 4 → (k : ℕ) × (k < size) × (get_or li k 0 ≡ c) → entry_at l' c i ≡ gone c i
      at c i h (k, l, x) = subst (λ y. entry_at l' y i ≡ gone y i) x (F.freed k i l h)

-- ---- the cavity joins the chain

-- the chain's first number after the first k listed cells are freed
unfoldable pub last_freed : List ℕ → ℕ → ℕ → ℕ
last_freed li rest zero = rest
last_freed li rest (suc k) = get_or li k 0

pub last_none : (li : List ℕ) (rest : ℕ) {k : ℕ} → k ≡ 0 → rest ≡ last_freed li rest k
unfolding last_freed
last_none li rest e = ap (last_freed li rest) (sym e)

pub last_more : (li : List ℕ) (rest k : ℕ) {k' : ℕ} → k' ≡ k + 1 → get_or li k 0 ≡ last_freed li rest k'
unfolding last_freed
last_more li rest k e = ap (last_freed li rest) (sym (e ∙ add-one k))

-- the first k listed cells have joined it
pub record Joined (s : List Bool) (li : List ℕ) (rest k : ℕ) (cs ns cs' ns' : List ℕ) : Type 0 where
  pub corners : FreedTo li (λ c i. none) k cs cs'
  pub neighbours : FreedTo li (freed_link s rest) k ns ns'

pub joined_none : (s : List Bool) (li : List ℕ) (rest : ℕ) {k : ℕ} (cs ns : List ℕ) → k ≡ 0 → Joined s li rest k cs ns cs ns
joined_none s li rest cs ns e =
    subst (λ k. Joined s li rest k cs ns cs ns) (sym e) record { corners = free_none li (λ c i. none) cs; neighbours = free_none li (freed_link s rest) ns }

module _ {n : ℕ} {s : List Bool} {li : List ℕ} {size : ℕ} (L : Rising n s li size) (rest : ℕ) where
  -- each names the one before it
  link_at : (k : ℕ) → k < size → highest_below s rest (get_or li k 0) ≡ last_freed li rest k
  unfolding last_freed
  link_at zero h = link_first L rest h
  link_at (suc k) h = link_next L rest k h

  link_end : highest_below s rest n ≡ last_freed li rest size
  unfolding last_freed
  link_end = go size refl
    where
      go : (m : ℕ) → size ≡ m → highest_below s rest n ≡ last_freed li rest m
      go zero e = link_empty L rest e
      go (suc k) e = let q : size - 1 ≡ k = omega arith in link_head L rest (omega arith) ∙ ap (λ j. get_or li j 0) q

  pub joined_more : {k k' : ℕ} {cs ns cs' ns' cs'' ns'' : List ℕ} (next : ℕ) → Joined s li rest k cs ns cs' ns' → k < size → k' ≡ k + 1 →
      HasCell (get_or li k 0) cs → HasCell (get_or li k 0) ns → next ≡ last_freed li rest k →
      cs'' ≡ with_four cs' (get_or li k 0) (none ∷ none ∷ none ∷ none ∷ []) → ns'' ≡ with_four ns' (get_or li k 0) (next ∷ none ∷ none ∷ none ∷ []) →
      Joined s li rest k' cs ns cs'' ns''
  joined_more {k} {cs = cs} {ns = ns} {cs'' = cs''} {ns'' = ns''} next J h q a b e x y = subst (λ k. Joined s li rest k cs ns cs'' ns'') (sym q) record {
    corners = free_more L (none ∷ none ∷ none ∷ none ∷ []) J.corners h a.fits x (below_four (λ i. get_or (none ∷ none ∷ none ∷ none ∷ []) i 0 ≡ none) refl refl refl refl);
    neighbours = free_more L (next ∷ none ∷ none ∷ none ∷ []) J.neighbours h b.fits y
        (below_four (λ i. get_or (next ∷ none ∷ none ∷ none ∷ []) i 0 ≡ freed_link s rest (get_or li k 0) i) (e ∙ sym (link_at k h)) refl refl refl);
  }

  -- all of them have
  pub joined_all : {k next : ℕ} {cs ns cs' ns' : List ℕ} → Joined s li rest k cs ns cs' ns' → k ≡ size → next ≡ last_freed li rest k →
      CavityReplaced s (λ c i. none) cs cs' × CavityReplaced s (freed_link s rest) ns ns' × (next ≡ highest_below s rest n)
  joined_all {cs = cs} {ns = ns} {cs' = cs'} {ns' = ns'} J e q =
      let all = subst (λ k. Joined s li rest k cs ns cs' ns') e J in
      (free_all L all.corners, free_all L all.neighbours, q ∙ (ap (last_freed li rest) e ∙ sym link_end))

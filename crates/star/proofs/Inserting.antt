-- Request §11's layout as a whole: an insertion keeps the mesh, the chain and the cell count right; test 8 says that chain and end of table suffice.
use Prim.Native.Nat.{ℕ, zero, suc, ◌+◌, ◌-◌, ◌≤◌, ◌<◌, max}
use mathlib.Core.Bool.{Bool, true, false, cond}
use mathlib.Core.List.{List, ◌∷◌}
use mathlib.Core.Logic.{◌≢◌, ◌⊎◌, inl, inr, ◌↔◌}
use mathlib.Core.Path.{◌≡◌}
use native.Mathlib.Omega.{arith}
use lib.ListN.{length, length-drop}
use Rattle.arith.specs.Table.{count_below}
use Rattle.arith.proofs.Flags.{split}
use Rattle.geometry.specs.declared.Position.{Position}
use Rattle.geometry.specs.Volume.{InBox}
use Rattle.mesh.specs.Tables.{Tables, point, live}
use Rattle.mesh.specs.Mesh.{IsMesh}
use Rattle.mesh.specs.Chain.{Chained}
use Rattle.mesh.proofs.Room.{Room}
use Rattle.mesh.proofs.Chains.{cells_and_chain}
use Rattle.cavity.specs.Cavity.{in_set, base, corrected_cavity, cavity_size}
use Rattle.cavity.specs.Inner.Star.{StarShaped}
use Rattle.cavity.proofs.Correction.{corrected_star_shaped}
use Rattle.star.specs.Star.{made_count, used_after, chain_after, chain_left, star}
use Rattle.star.proofs.NewMesh.{insertion}
use Rattle.star.proofs.Star.{Fits, is_star}
use Rattle.star.proofs.Freeing.{falling, chained_after}

-- a mesh with its chain and its cell count
pub record Stored (X Y Z pc cc np cells n h : ℕ) (t : Tables) (ch : List ℕ) : Type 0 where
  pub mesh : IsMesh X Y Z pc cc np n t
  pub chained : Chained t n h ch
  pub counted : count_below n (live t) ≡ cells

module _ {X Y Z pc cc np cells n h : ℕ} {t : Tables} {ch : List ℕ} (S : Stored X Y Z pc cc np cells n h t ch) where
  -- test 8 is not moved: old count and new cells exceed the capacity just where chain and end of table do not suffice
  pub room_is : (m : ℕ) → (cells + m ≤ cc) ↔ (used_after ch n m ≤ cc)
  unfolding used_after
  room_is m = ((λ r. omega (arith, S.mesh.cells≤, S.counted, cells_and_chain S.chained)), (λ r. omega (arith, S.counted, cells_and_chain S.chained)))

  -- 'the greater of what it was and cell count plus new cells'
  pub used_is : (m : ℕ) → used_after ch n m ≡ max n (cells + m)
  unfolding used_after
  used_is m = omega (arith, S.counted, cells_and_chain S.chained)

falling_length : (s : List Bool) (rest : List ℕ) (c : ℕ) → length (falling s rest c) ≡ count_below c (in_set s) + length rest
unfolding falling count_below
falling_length s rest zero = omega arith
falling_length s rest (suc c) = go (split (in_set s c)) (falling_length s rest c)
  where
    go : (in_set s c ≡ true) ⊎ (in_set s c ≡ false) → length (falling s rest c) ≡ count_below c (in_set s) + length rest →
        length (cond (in_set s c) (c ∷ falling s rest c) (falling s rest c)) ≡ cond (in_set s c) 1 0 + count_below c (in_set s) + length rest
    go (inl e) ih = rw e (omega arith)
    go (inr e) ih = rw e (omega arith)

-- THE THEOREM of the layout
pub valid_insertion : {X Y Z pc cc np cells n h : ℕ} {t : Tables} {ch : List ℕ} → Stored X Y Z pc cc np cells n h t ch → Room pc cc t →
    (p : Position) → InBox X Y Z p → ((k : ℕ) → k < np → p ≢ point t k) → (c : ℕ) → in_set (base t n p) c ≡ true → (yes? : ℕ → Bool) → np < pc →
    cells + made_count t n p (corrected_cavity t n p yes?) ≤ cc →
    Stored X Y Z pc cc (np + 1) (cells + made_count t n p (corrected_cavity t n p yes?) - cavity_size n (corrected_cavity t n p yes?))
    (used_after ch n (made_count t n p (corrected_cavity t n p yes?))) (chain_after ch t n p (corrected_cavity t n p yes?))
    (star ch t n p np (corrected_cavity t n p yes?)) (falling (corrected_cavity t n p yes?) (chain_left ch t n p (corrected_cavity t n p yes?)) n)
unfolding cavity_size
valid_insertion {pc = pc} {cc = cc} {np = np} {cells = cells} {n = n} {h = h} {t = t} {ch = ch} S R p box free c held yes? next room = record {
  mesh = (insertion S.mesh R p box free c held yes? next (is_star fits) fits.used≤).mesh;
  chained = after;
  counted = total;
}
  where
    s : List Bool
    s = corrected_cavity t n p yes?

    m : ℕ
    m = made_count t n p s

    like : StarShaped t n p s
    like = corrected_star_shaped S.mesh R p free yes? c held

    fits : Fits pc cc np n t p s ch
    fits = record { spare = S.chained.spare; room = R; cells = like.cells; next = next; used≤ = (room_is S m).0 room }

    after : Chained (star ch t n p np s) (used_after ch n m) (chain_after ch t n p s) (falling s (chain_left ch t n p s) n)
    after = chained_after fits S.chained

    total : count_below (used_after ch n m) (live (star ch t n p np s)) ≡ cells + m - count_below n (in_set s)
    total = unfold used_after in
        omega (arith, cells_and_chain after, falling_length s (chain_left ch t n p s) n, length-drop m ch, S.counted, cells_and_chain S.chained)

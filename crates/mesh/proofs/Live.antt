-- Live and freed entries: an entry with a corner below 65,535 is live, and a freed entry has the volume 0.
use Prim.Native.Nat.{ℕ, ◌*◌, ◌<◌}
use mathlib.Core.Bool.{true, false, not}
use mathlib.Core.Logic.{◌≢◌}
use mathlib.Core.Path.{◌≡◌, sym, ap, ◌∙◌}
use native.Mathlib.Nat.{add-zero}
use native.Mathlib.Omega.{arith}
use borrow.Author.Tests.{eqb-true, ne_eqb, eq-eqb, not-false}
use lib.Dec.{eqb}
use lib.IntN.{pos}
use Rattle.arith.specs.Table.{all_below}
use Rattle.arith.proofs.Tables.{all_at, all_fails, all_intro, all_cong}
use Rattle.geometry.proofs.Algebra.{volume_zero}
use Rattle.mesh.specs.Tables.{Tables, none, point, corner, corner_at, cell_volume, freed, live, IsCell}
use Rattle.mesh.specs.Inner.{four_at}
use Rattle.mesh.specs.Inner.Cells.{four_freed}

module _ (t : Tables) (c : ℕ) where
  pub live_of : (i : ℕ) → i < 4 → corner t c i ≢ none → live t c ≡ true
  unfolding live freed
  live_of i h d = ap not (all_fails 4 (λ i. eqb (corner t c i) none) i h (ne_eqb (corner t c i) none d))

  pub freed_of : ((i : ℕ) → i < 4 → corner t c i ≡ none) → live t c ≡ false
  unfolding live freed
  freed_of h = ap not (all_intro 4 (λ i. eqb (corner t c i) none) (λ i l. eq-eqb (corner t c i) none (h i l)))

  pub freed_corner : live t c ≡ false → (i : ℕ) → i < 4 → corner t c i ≡ none
  unfolding live freed
  freed_corner e i h = eqb-true (corner t c i) none (all_at 4 (λ i. eqb (corner t c i) none) (not-false (freed t c) e) i h)

  -- as the code reads it off four entries
  pub four_freed_lem : four_freed (four_at t.corners c) ≡ freed t c
  unfolding four_freed freed corner four_at all_below
  four_freed_lem = rw (add-zero (4 * c))

  pub freed_volume : live t c ≡ false → cell_volume t c ≡ pos 0
  unfolding cell_volume corner_at
  freed_volume e =
      volume_zero (corner_at t c) 0 1 (omega arith) (omega arith) (omega arith)
      (ap (point t) (freed_corner e 0 (omega arith) ∙ sym (freed_corner e 1 (omega arith))))

-- the same corners, so live alike
pub live_same : (t t₁ : Tables) (c d : ℕ) → ((i : ℕ) → i < 4 → corner t c i ≡ corner t₁ d i) → live t c ≡ live t₁ d
unfolding live freed
live_same t t₁ c d h = ap not (all_cong 4 (λ i. eqb (corner t c i) none) (λ i. eqb (corner t₁ d i) none) (λ i l. ap (λ v. eqb v none) (h i l)))

pub cell_same : {t t₁ : Tables} {n c : ℕ} → ((i : ℕ) → i < 4 → corner t c i ≡ corner t₁ c i) → IsCell t n c → IsCell t₁ n c
cell_same {t} {t₁} {n} {c} h k = record { below = k.below; lives = sym (live_same t t₁ c c h) ∙ k.lives }

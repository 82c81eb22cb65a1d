-- Bytes of the one layout have bytes of the other that follow them: each cell finds the cell with its corners.
use Prim.Native.Nat.{ℕ, ◌≤◌, ◌<◌}
use mathlib.Core.Bool.{Bool, true, cond, ◌&&◌}
use mathlib.Core.List.{List}
use mathlib.Core.Path.{◌≡◌, sym, ap, ◌∙◌}
use native.Mathlib.Omega.{arith}
use borrow.Author.Tests.{eqb-true, eq-eqb, not-true}
use lib.Dec.{eqb}
use lib.ListN.{length, get_or}
use Rattle.arith.specs.Table.{tabulate, all_below, first_below}
use Rattle.arith.proofs.Flags.{and_left, and_right, and_intro}
use Rattle.arith.proofs.Tables.{all_at, all_intro, first_least, tabulate_at, tabulate_length}
use Rattle.mesh.specs.Tables.{Tables, corner, freed, live, IsCell}
use Rattle.calls.specs.Calls.{Build}
use Rattle.layouts.specs.Histories.{SameCell, FollowCells, ZeroWhereFreed}
use Rattle.layouts.proofs.Alike.{Alike}
use Rattle.layouts.proofs.Reports.{first_passes}

module _ (t t₁ : Tables) where
  same_corners : ℕ → ℕ → Bool
  same_corners c d = live t c && all_below 4 (λ i. eqb (corner t c i) (corner t₁ d i))

  -- the cell of t, with n entries in use, with the corners of cell d of t₁
  cell_like : ℕ → ℕ → ℕ
  cell_like n d = first_below n (λ c. same_corners c d)

  module _ (n c d : ℕ) (h : IsCell t n c) (e : (i : ℕ) → i < 4 → corner t c i ≡ corner t₁ d i) where
    here : same_corners c d ≡ true
    unfolding same_corners
    here = and_intro h.lives (all_intro 4 (λ i. eqb (corner t c i) (corner t₁ d i)) (λ i l. eq-eqb (corner t c i) (corner t₁ d i) (e i l)))

    passes : same_corners (cell_like n d) d ≡ true
    unfolding cell_like
    passes = first_passes n (λ c. same_corners c d) c h.below here

    like_cell : IsCell t n (cell_like n d)
    unfolding same_corners cell_like
    like_cell = record {
      below = omega (arith, h.below, first_least n (λ c. same_corners c d) c h.below here);
      lives = and_left (live t (cell_like n d)) (all_below 4 (λ i. eqb (corner t (cell_like n d) i) (corner t₁ d i))) passes;
    }

    like_corners : (i : ℕ) → i < 4 → corner t (cell_like n d) i ≡ corner t₁ d i
    unfolding same_corners
    like_corners i l =
        eqb-true (corner t (cell_like n d) i) (corner t₁ d i)
        (all_at 4 (λ i. eqb (corner t (cell_like n d) i) (corner t₁ d i)) (and_right (live t (cell_like n d)) (all_below 4 (λ i. eqb (corner t (cell_like n d) i) (corner t₁ d i))) passes) i l)

module _ {a b : Build} {np : ℕ} (A : Alike (SameCell a b) np a.tables a.mesh.used b.tables b.mesh.cells) where
  abbrev t : Tables
  t = a.tables

  abbrev t₁ : Tables
  t₁ = b.tables

  abbrev n : ℕ
  n = a.mesh.used

  abbrev n₁ : ℕ
  n₁ = b.mesh.cells

  like_there : (c d : ℕ) → SameCell a b c d → cell_like t t₁ n d ≡ c
  like_there c d x =
      A.one_back (cell_like t t₁ n d) c d record { cell = like_cell t t₁ n c d x.cell x.corners; cell₁ = x.cell₁; corners = like_corners t t₁ n c d x.cell x.corners } x

  like_back : (c d : ℕ) → SameCell a b c d → cell_like t₁ t n₁ c ≡ d
  like_back c d x =
      A.one c (cell_like t₁ t n₁ c) d record { cell = x.cell; cell₁ = like_cell t₁ t n₁ d c x.cell₁ turned; corners = λ i l. sym (like_corners t₁ t n₁ d c x.cell₁ turned i l) } x
    where
      turned : (i : ℕ) → i < 4 → corner t₁ d i ≡ corner t c i
      turned i l = sym (x.corners i l)

  pub bytes_there : (bytes : List ℕ) → a.mesh.used ≤ length bytes → (bytes₁ : List ℕ) × FollowCells a b bytes bytes₁
  bytes_there bytes long = (
    tabulate n₁ byte,
    record {
      enough = record { long = long; long₁ = omega (arith, tabulate_length n₁ byte) };
      same = λ c d x. sym (tabulate_at n₁ byte d 0 x.cell₁.below ∙ ap (λ k. get_or bytes k 0) (like_there c d x));
    },
  )
    where
      byte : ℕ → ℕ
      byte d = get_or bytes (cell_like t t₁ n d) 0

  pub bytes_back : (bytes₁ : List ℕ) → b.mesh.cells ≤ length bytes₁ → (bytes : List ℕ) × FollowCells a b bytes bytes₁ × ZeroWhereFreed a bytes
  unfolding live
  bytes_back bytes₁ long₁ = (
    tabulate n byte,
    record {
      enough = record { long = omega (arith, tabulate_length n byte); long₁ = long₁ };
      same = λ c d x. tabulate_at n byte c 0 x.cell.below ∙ rw (not-true (freed t c) x.cell.lives) (ap (λ k. get_or bytes₁ k 0) (like_back c d x));
    },
    (λ c h off. tabulate_at n byte c 0 h ∙ rw off),
  )
    where
      byte : ℕ → ℕ
      byte c = cond (freed t c) 0 (get_or bytes₁ (cell_like t₁ t n₁ c) 0)

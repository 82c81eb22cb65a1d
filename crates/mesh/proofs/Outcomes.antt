-- What a start answers and leaves, from its parts.
use Prim.Native.Nat.{ℕ, ◌≤◌, ◌/◌, min}
use native.Mathlib.Omega.{arith}
use mathlib.Core.Bool.{true, false}
use mathlib.Core.List.{List}
use mathlib.Core.Logic.{◌⊎◌, inl, inr}
use mathlib.Core.Path.{◌≡◌, refl, ◌∙◌}
use borrow.Author.Tests.{ne_eqb, eq-eqb, ltb-false}
use lib.Dec.{ltb}
use lib.ListN.{length, length-replicate}
use Rattle.arith.proofs.Flags.{split}
use Rattle.mesh.specs.Start.{Accepted, Refused}
use Rattle.mesh.specs.Tables.{point_capacity, cell_capacity, cleared, tables}
use Rattle.mesh.specs.Start.{over, short, start_refusal, start_answer, start_tables, started, started_mesh, start_points, start_corners, start_neighbours, StartLeaves}
use Rattle.mesh.specs.Inner.{short_lengths, start_refusal_of}

pub short_is : (ps cs ns : List ℕ) (w : ℕ) → short_lengths (length ps) (length cs) (length ns) w ≡ short (tables ps cs ns) w
unfolding short short_lengths point_capacity cell_capacity
short_is ps cs ns w = refl

-- by the lengths of the slices, with the work area's read after it was cleared
refusal_of : (X Y Z : ℕ) (ps cs ns ws : List ℕ) {w : List ℕ} → w ≡ cleared ws →
    start_refusal_of X Y Z (length ps) (length cs) (length ns) (length w) ≡ start_refusal X Y Z (tables ps cs ns) (length ws)
unfolding start_refusal_of start_refusal short short_lengths point_capacity cell_capacity
refusal_of X Y Z ps cs ns ws e = rw (e, length-replicate)

pub start_refused : (X Y Z : ℕ) (ps cs ns ws : List ℕ) {n : ℕ} {w : List ℕ} →
    n ≡ start_refusal_of X Y Z (length ps) (length cs) (length ns) (length w) → (n ≡ 0 → ⊥) → w ≡ cleared ws →
    StartLeaves X Y Z (tables ps cs ns) ws (Refused n) (tables ps cs ns) w
unfolding start_answer start_tables
start_refused X Y Z ps cs ns ws {n} e h k =
    let s : n ≡ start_refusal X Y Z (tables ps cs ns) (length ws) = e ∙ refusal_of X Y Z ps cs ns ws k in
    record { answer = rw (← s, ne_eqb n 0 h); tables = rw (← s, ne_eqb n 0 h); work = k }

pub start_accepted : (X Y Z : ℕ) (ps cs ns ws : List ℕ) {n : ℕ} {w p c m : List ℕ} →
    n ≡ start_refusal_of X Y Z (length ps) (length cs) (length ns) (length w) → n ≡ 0 → w ≡ cleared ws →
    p ≡ over (start_points X Y Z) ps → c ≡ over start_corners cs → m ≡ over start_neighbours ns →
    StartLeaves X Y Z (tables ps cs ns) ws (Accepted (started_mesh X Y Z)) (tables p c m) w
unfolding start_answer start_tables started
start_accepted X Y Z ps cs ns ws {n} e h k pe ce me =
    let s : n ≡ start_refusal X Y Z (tables ps cs ns) (length ws) = e ∙ refusal_of X Y Z ps cs ns ws k in
    record { answer = rw (← s, eq-eqb n 0 h); tables = rw (← s, eq-eqb n 0 h, pe, ce, me); work = k }

-- an accepted start has room for what it writes
pub start_fits : (X Y Z a b c w : ℕ) → start_refusal_of X Y Z a b c w ≡ 0 → (24 ≤ a) × ((24 ≤ b) × (24 ≤ c))
unfolding start_refusal_of short_lengths
start_fits X Y Z a b c w e = go (split (ltb (min (a / 3) 1024) 8)) (split (ltb (min (min (min (b / 4) (c / 4)) (w / 3)) 4096) 6))
  where
    one : {A : Type 0} → ◌≡◌ {A = ℕ} 1 0 → A
    one q = absurd (omega arith)

    go : (ltb (min (a / 3) 1024) 8 ≡ true) ⊎ (ltb (min (a / 3) 1024) 8 ≡ false) →
        (ltb (min (min (min (b / 4) (c / 4)) (w / 3)) 4096) 6 ≡ true) ⊎ (ltb (min (min (min (b / 4) (c / 4)) (w / 3)) 4096) 6 ≡ false) →
        (24 ≤ a) × ((24 ≤ b) × (24 ≤ c))
    go (inl p) q = one (rw p at e)
    go (inr p) (inl q) = one (rw (p, q) at e)
    go (inr p) (inr q) =
        let h = ltb-false (min (a / 3) 1024) 8 p in
        let k = ltb-false (min (min (min (b / 4) (c / 4)) (w / 3)) 4096) 6 q in
        (omega arith, (omega arith, omega arith))

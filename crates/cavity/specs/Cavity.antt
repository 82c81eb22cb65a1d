-- Document 01, 'One insertion', steps 1 to 4: base, cavity ('spot'), outer faces, correction.
use Rattle.std.specs.Prelude.{ℕ, ◌+◌, ◌*◌, Bool, false, not, ◌&&◌, ◌||◌, List, eqb, get_or, pos}
use Rattle.std.specs.Int.Signed.{lt_z}
use Rattle.arith.specs.Table.{tabulate, any_below, all_below, count_below, iterate}
use Rattle.geometry.specs.declared.Position.{Position}
use Rattle.mesh.specs.Tables.{Tables, none, cell_of, corner, across, side, face_has, live}
use Rattle.mesh.specs.Check.{same_z}
use Rattle.locate.specs.Locate.{holds}

-- a set of cells is a list of flags
abbrev pub in_set : List Bool → ℕ → Bool
in_set s c = get_or s c false

-- 'Base: every cell that holds P.'
unfoldable pub base : Tables → ℕ → Position → List Bool
base t n p = tabulate n (holds t p)

-- 'each neighbour of a spot cell whose answer is yes': one round of growing. Said from the neighbour's end: in a mesh c names a cell of the
-- set across a face just where that cell names c (`either_way` in proofs/Growth). 'a freed entry's answer is ignored' (document 02 §11).
unfoldable pub grown : Tables → ℕ → (ℕ → Bool) → List Bool → List Bool
grown t n yes? s = tabulate n (λ c. in_set s c || ((live t c && yes? c) && any_below 4 (λ k. in_set s (across t (4 * c + k)))))

-- 'Spot: the base, and again and again each neighbour': n rounds reach the end (`cavity_fixed` in proofs/Growth)
unfoldable pub cavity : Tables → ℕ → (ℕ → Bool) → List Bool → List Bool
cavity t n yes? b = iterate n (grown t n yes?) b

-- 'A face of a spot cell is outer if it has no neighbour or its neighbour is not in the spot.'
unfoldable pub outer : (ℕ → ℕ) → (ℕ → Bool) → ℕ → Bool
outer across S f = S (cell_of f) && not (S (across f))

-- 'An outer face is flat if it has no neighbour and P lies in its plane'
unfoldable pub coplanar : Tables → Position → ℕ → Bool
coplanar t p f = eqb (across t f) none && same_z (side t p f) (pos 0)

-- 'it is seen if P lies strictly on its cell's side'
unfoldable pub visible : Tables → Position → List Bool → ℕ → Bool
visible t p s f = outer (across t) (in_set s) f && lt_z (pos 0) (side t p f)

-- no 'outer face neither flat nor seen'
unfoldable pub faces_good : Tables → Position → List Bool → ℕ → Bool
faces_good t p s c =
    all_below 4 (λ k. not (outer (across t) (in_set s) (4 * c + k)) || (coplanar t p (4 * c + k) || visible t p s (4 * c + k)))

-- no 'corner that is on no seen outer face of the whole spot'
unfoldable pub corners_good : Tables → ℕ → Position → List Bool → ℕ → Bool
corners_good t n p s c = all_below 4 (λ k. any_below (4 * n) (λ f. visible t p s f && face_has t f (corner t c k)))

-- 'mark each spot cell outside the base that has' one or the other
unfoldable pub marked : Tables → ℕ → Position → List Bool → List Bool → ℕ → Bool
marked t n p b s c = in_set s c && (not (in_set b c) && not (faces_good t p s c && corners_good t n p s c))

-- 'Remove all marked cells together.'
unfoldable pub pruned : Tables → ℕ → Position → List Bool → List Bool → List Bool
pruned t n p b s = tabulate n (λ c. in_set s c && not (marked t n p b s c))

-- 'Stop when none is marked.': n rounds reach the end (`corrected_fixed` in proofs/Correction)
unfoldable pub corrected : Tables → ℕ → Position → List Bool → List Bool → List Bool
corrected t n p b s = iterate n (pruned t n p b) s

-- the cavity of p before correction, with the answers yes?
unfoldable pub cavity_of : Tables → ℕ → Position → (ℕ → Bool) → List Bool
cavity_of t n p yes? = cavity t n yes? (base t n p)

-- and after it
unfoldable pub corrected_cavity : Tables → ℕ → Position → (ℕ → Bool) → List Bool
corrected_cavity t n p yes? = corrected t n p (base t n p) (cavity_of t n p yes?)

-- 'spot size'
unfoldable pub cavity_size : ℕ → List Bool → ℕ
cavity_size n s = count_below n (in_set s)

-- What the functions of the correction keep.
use Rattle.std.specs.Prelude.{ℕ, zero, suc, ◌+◌, ◌*◌, ◌≤◌, ◌<◌, Bool, true, ◌&&◌, ◌||◌, cond, List, ◌≡◌, ltb, eqb, length, get_or, set, ℤ, pos}
use Rattle.std.specs.Int.Signed.{lt_z}
use Rattle.arith.specs.Table.{tabulate, any_below, all_below}
use Rattle.geometry.specs.declared.Position.{Position}
use Rattle.mesh.specs.Tables.{Tables, none, corner, across, side, face_has}
use Rattle.mesh.specs.Inner.{HasCell, four_at}
use Rattle.mesh.specs.Inner.Faces.{first, second, third}
use Rattle.cavity.specs.Cavity.{in_set, base, visible, pruned}
use Rattle.cavity.specs.Inner.{inside, set_of, Enumerated, faces_code}

-- a listed cavity with the base b in it, its cells of state 2
pub record Correctable (t : Tables) (n : ℕ) (b : List Bool) (st li : List ℕ) (size : ℕ) : Type 0 where
  pub list : Enumerated t n st li size
  pub states : (c : ℕ) → c < n → inside st c ≡ true → get_or st c 0 ≡ cond (in_set b c) 2 1
  pub based : (c : ℕ) → c < n → in_set b c ≡ true → inside st c ≡ true

-- of a face on a wall with p at the volume v from it: 1 visible, 16 hidden, 0 coplanar
unfoldable pub wall_kind : ℤ → ℕ
wall_kind v = cond (lt_z (pos 0) v) 1 (cond (lt_z v (pos 0)) 16 0)

-- of a face of a cell inside, with u across it
unfoldable pub face_kind : List ℕ → ℕ → ℤ → ℕ
face_kind st u v = cond (eqb u none) (wall_kind v) (cond (inside st u) 0 (cond (lt_z (pos 0) v) 1 16))

-- the kinds of the four faces of cell c
unfoldable pub face_kinds : Tables → Position → List ℕ → ℕ → List ℕ
face_kinds t p st c = tabulate 4 (λ k. face_kind st (across t (4 * c + k)) (side t p (4 * c + k)))

-- four kinds as one number
unfoldable pub kinds_code : List ℕ → ℕ
kinds_code k = get_or k 0 0 + 2 * get_or k 1 0 + 4 * get_or k 2 0 + 8 * get_or k 3 0

-- three points marked as exposed, if the kind of their face is 1
unfoldable pub with_face : List ℕ → ℕ → ℕ → ℕ → ℕ → List ℕ
with_face exposed kind a b c = cond (eqb kind 1) (set (set (set exposed a 1) b 1) c 1) exposed

-- the same for the first m faces of a cell with the kinds k and the corners v
unfoldable pub with_faces : ℕ → List ℕ → List ℕ → List ℕ → List ℕ
with_faces zero exposed k v = exposed
with_faces (suc i) exposed k v = with_face (with_faces i exposed k v) (get_or k i 0) (get_or v (first i) 0) (get_or v (second i) 0) (get_or v (third i) 0)

-- the point v is on a visible face of one of the first h listed cells
unfoldable pub exposed_in : Tables → Position → List Bool → List ℕ → ℕ → ℕ → Bool
exposed_in t p s li h v = any_below h (λ i. any_below 4 (λ k. visible t p s (4 * get_or li i 0 + k) && face_has t (4 * get_or li i 0 + k) v))

-- none of the corners of the first h listed cells is marked as exposed
pub record NoneExposed (t : Tables) (li : List ℕ) (h : ℕ) (exposed : List ℕ) : Type 0 where
  pub long : length exposed ≡ 1024
  pub zero : (k j : ℕ) → k < h → j < 4 → get_or exposed (corner t (get_or li k 0) j) 0 ≡ 0

-- the first h listed cells are in the corner table cs, and their corners among 1,024 points
pub record CornersListed (cs li : List ℕ) (h : ℕ) : Type 0 where
  pub entries : h ≤ length li
  pub cells : (k : ℕ) → k < h → HasCell (get_or li k 0) cs
  pub few : (k j : ℕ) → k < h → j < 4 → get_or (four_at cs (get_or li k 0)) j 0 < 1024

-- four points no longer marked
unfoldable pub without_corners : List ℕ → List ℕ → List ℕ
without_corners exposed k = set (set (set (set exposed (get_or k 0 0) 0) (get_or k 1 0) 0) (get_or k 2 0) 0) (get_or k 3 0) 0

-- the point v is marked as exposed
abbrev pub is_exposed : List ℕ → ℕ → Bool
is_exposed exposed v = ltb 0 (get_or exposed v 0)

-- the codes after the first h listed cells, and which corners of all `size` of them are exposed
pub record InspectedTo (t : Tables) (n : ℕ) (p : Position) (st li : List ℕ) (size h : ℕ) (fa exposed : List ℕ) : Type 0 where
  pub codes : length fa ≡ 4096
  pub marks : length exposed ≡ 1024
  pub coded : (k : ℕ) → k < h → get_or fa (get_or li k 0) 0 ≡ faces_code t p (set_of n st) (get_or li k 0)
  pub exposed_is : (k j : ℕ) → k < size → j < 4 → is_exposed exposed (corner t (get_or li k 0) j) ≡ exposed_in t p (set_of n st) li h (corner t (get_or li k 0) j)

-- the four points k are exposed
unfoldable pub all_exposed : List ℕ → List ℕ → Bool
all_exposed exposed k = all_below 4 (λ i. is_exposed exposed (get_or k i 0))

-- the cell c with the corners k is in the base, or all its faces and corners are good
unfoldable pub cell_stays : List ℕ → List ℕ → List ℕ → List ℕ → ℕ → Bool
cell_stays st fa exposed k c = eqb (get_or st c 0) 2 || (ltb (get_or fa c 0) 16 && all_exposed exposed k)

-- cell c is kept, as the next of the list, or removed
pub record KeptOrRemoved (stay : Bool) (c : ℕ) (st li : List ℕ) (kept : ℕ) (st' li' : List ℕ) (kept' : ℕ) : Type 0 where
  pub count : kept' ≡ cond stay (kept + 1) kept
  pub list : li' ≡ cond stay (set li kept c) li
  pub state : st' ≡ cond stay st (set st c 0)

-- what a round leaves of the cavity with the states st and the given size; where it removes nothing the states are as they were
pub record Round (t : Tables) (n : ℕ) (p : Position) (st : List ℕ) (size : ℕ) (st' li' : List ℕ) (kept : ℕ) : Type 0 where
  pub left : Correctable t n (base t n p) st' li' kept
  pub set : set_of n st' ≡ pruned t n p (base t n p) (set_of n st)
  pub fewer : kept ≤ size
  pub same : kept ≡ size → st' ≡ st

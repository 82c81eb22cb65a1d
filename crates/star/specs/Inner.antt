-- What the inner functions of the star write: the tables with some faces starred, at any numbers; then the cavity freed.
use Rattle.std.specs.Prelude.{ℕ, ◌+◌, ◌*◌, ◌≤◌, ◌<◌, Bool, true, false, cond, List, ◌≢◌, ◌≡◌, eqb, length, get_or, set}
use Rattle.arith.specs.Table.{count_below}
use Rattle.geometry.specs.declared.Position.{Position}
use Rattle.mesh.specs.declared.Cell.{Cell}
use Rattle.mesh.specs.Tables.{Tables, point_capacity, cell_capacity, none, cell_of, corner, across, mate, place_of, IsCell, IsFace}
use Rattle.mesh.specs.Mesh.{bit}
use Rattle.mesh.specs.Chain.{Spare, Chained}
use Rattle.mesh.specs.Inner.{with_four, SomeMesh}
use Rattle.cavity.specs.Cavity.{in_set, visible}
use Rattle.cavity.specs.Inner.Star.{StarShaped}
use Rattle.cavity.specs.Inner.{set_of, Enumerated, Inspected}
use Rattle.star.specs.declared.Circulator.{Circulator}
use Rattle.star.specs.Turn.{State}
use Rattle.star.specs.Star.{Numbers, made_count, made_corner, made_across, slot, star_numbers, used_after, head_of, chain_left, highest_below}

-- entry i of cell c in a table of four a cell
abbrev pub entry_at : List ℕ → ℕ → ℕ → ℕ
entry_at xs c i = get_or xs (4 * c + i) 0

-- the new cell of face f
pub record NewCell (N : Numbers) (t : Tables) (n : ℕ) (p : Position) (v : ℕ) (s : List Bool) (f : ℕ) (cell : Cell) : Type 0 where
  pub corners_are : (j : ℕ) → j < 4 → get_or cell.corners j 0 ≡ made_corner t v f j
  pub neighbours_are : (j : ℕ) → j < 4 → get_or cell.neighbours j 0 ≡ made_across N t n p s f j

-- cell u names d where it named c
unfoldable pub name_back : List ℕ → ℕ → ℕ → ℕ → List ℕ
name_back ns u c d = cond (eqb u none) ns (set ns (4 * u + place_of (entry_at ns) u c) d)

-- face f is starred: its new cell stands at its number, and what lies across f names it back
pub record FaceStarred (N : Numbers) (t : Tables) (n : ℕ) (p : Position) (v : ℕ) (s : List Bool) (f : ℕ) (cs ns cs' ns' : List ℕ) : Type 0 where
  pub cell : Cell
  pub new : NewCell N t n p v s f cell
  pub corners : cs' ≡ with_four cs (N.made f) cell.corners
  pub neighbours : ns' ≡ name_back (with_four ns (N.made f) cell.neighbours) (across t f) (cell_of f) (N.made f)

-- the numbers of new cells: each one time, no cell's, and within the tables
pub record Places (N : Numbers) (t : Tables) (n : ℕ) (p : Position) (s : List Bool) (cc : ℕ) : Type 0 where
  pub cells : (c : ℕ) → in_set s c ≡ true → IsCell t n c
  pub one : (f g : ℕ) → visible t p s f ≡ true → visible t p s g ≡ true → N.made f ≡ N.made g → f ≡ g
  pub off : (c f : ℕ) → IsCell t n c → visible t p s f ≡ true → N.made f ≢ c
  pub below : (f : ℕ) → visible t p s f ≡ true → N.made f < cc

-- no new cell stands at number c
abbrev pub Untaken : Numbers → Tables → Position → List Bool → ℕ → Type 0
Untaken N t p s c = (f : ℕ) → visible t p s f ≡ true → N.made f ≢ c

-- The tables t with the faces in D starred.
pub record Starred (N : Numbers) (t : Tables) (n : ℕ) (p : Position) (v : ℕ) (s : List Bool) (D : ℕ → Bool) (cs ns : List ℕ) : Type 0 where
  pub corners_long : length cs ≡ length t.corners
  pub neighbours_long : length ns ≡ length t.neighbours
  pub corners_else : (q : ℕ) → Untaken N t p s (cell_of q) → get_or cs q 0 ≡ get_or t.corners q 0
  pub corners_new : (f j : ℕ) → D f ≡ true → j < 4 → entry_at cs (N.made f) j ≡ made_corner t v f j
  pub named : (q : ℕ) → IsFace t n q → across t q ≢ none → D (mate t q) ≡ true → get_or ns q 0 ≡ N.made (mate t q)
  pub unnamed : (q : ℕ) → IsFace t n q → (across t q ≢ none → D (mate t q) ≡ false) → get_or ns q 0 ≡ across t q
  pub neighbours_new : (f j : ℕ) → D f ≡ true → j < 4 → entry_at ns (N.made f) j ≡ made_across N t n p s f j
  pub neighbours_else : (q : ℕ) → Untaken N t p s (cell_of q) → (IsFace t n q → ⊥) → get_or ns q 0 ≡ get_or t.neighbours q 0

-- the cavity's entries replaced
pub record CavityReplaced (s : List Bool) (gone : ℕ → ℕ → ℕ) (l l' : List ℕ) : Type 0 where
  pub long : length l' ≡ length l
  pub freed : (c i : ℕ) → in_set s c ≡ true → i < 4 → entry_at l' c i ≡ gone c i
  pub else : (q : ℕ) → in_set s (cell_of q) ≡ false → get_or l' q 0 ≡ get_or l q 0

-- what a freed cell of s has across its faces; `rest` is the first number on what the new cells leave of the chain
abbrev pub freed_link : List Bool → ℕ → ℕ → ℕ → ℕ
freed_link s rest c i = cond (eqb i 0) (highest_below s rest c) none

-- ---- numbers

-- the first entries of li are the cells of s, rising
pub record Rising (n : ℕ) (s : List Bool) (li : List ℕ) (size : ℕ) : Type 0 where
  pub below : (k : ℕ) → k < size → get_or li k 0 < n
  pub held : (k : ℕ) → k < size → in_set s (get_or li k 0) ≡ true
  pub rises : (j k : ℕ) → j < k → k < size → get_or li j 0 < get_or li k 0
  pub all : (c : ℕ) → in_set s c ≡ true → (k : ℕ) × (k < size) × (get_or li k 0 ≡ c)

-- face k is visible, by its cell's code
abbrev pub bit_set : ℕ → ℕ → Bool
bit_set code k = eqb (bit code k) 1

-- the rank of a cavity cell's first new cell
abbrev pub Ranked : Tables → ℕ → Position → List Bool → List ℕ → Type 0
Ranked t n p s nu = (c : ℕ) → in_set s c ≡ true → get_or nu c 0 ≡ count_below (4 * c) (visible t p s)

-- the numbers of m new cells, in their order
abbrev pub Slotted : List ℕ → ℕ → ℕ → List ℕ → Type 0
Slotted ch n m sl = (r : ℕ) → r < m → get_or sl r 0 ≡ slot ch n r

-- the chain from h of tables with the neighbours ns and n entries in use; it and the end of the table have room for m new cells
pub record Supply (ns : List ℕ) (n h m : ℕ) : Type 0 where
  pub t : Tables
  pub neighbours_are : t.neighbours ≡ ns
  pub neighbours_long : 4 * n ≤ length ns
  pub ch : List ℕ
  pub chained : Chained t n h ch
  pub room : used_after ch n m ≤ 4096

-- ---- turning

abbrev pub state_of : Circulator → State
state_of r = record { cell = r.cell; entry = r.entry; exit = r.exit }

-- The mesh `was`, of which the lists cs and ns still have the cells of the cavity.
pub record CavityIntact (n : ℕ) (st cs ns : List ℕ) : Type 0 where
  pub was : Tables
  pub np : ℕ
  pub mesh : SomeMesh was np n
  pub states : length st ≡ 4096
  pub cells : (c : ℕ) → in_set (set_of n st) c ≡ true → IsCell was n c
  pub corners_long : length cs ≡ length was.corners
  pub neighbours_long : length ns ≡ length was.neighbours
  pub corners_same : (c i : ℕ) → in_set (set_of n st) c ≡ true → i < 4 → entry_at cs c i ≡ corner was c i
  pub neighbours_same : (c i : ℕ) → in_set (set_of n st) c ≡ true → i < 4 → entry_at ns c i ≡ across was (4 * c + i)

-- the number of a face's new cell, by its cell's code, its rank and the slots; none where the face is not visible
unfoldable pub number_at : List ℕ → List ℕ → List ℕ → ℕ → ℕ → ℕ
number_at fa nu sl c k = cond (bit_set (get_or fa c 0) k) (get_or sl (get_or nu c 0 + count_below k (bit_set (get_or fa c 0))) 0) none

-- the lists have what tells the number of the new cell of face k of cell c
pub record HasNumber (fa nu sl : List ℕ) (c k : ℕ) : Type 0 where
  pub code : c < length fa
  pub rank : c < length nu
  pub place< : k < 4
  pub slot : bit_set (get_or fa c 0) k ≡ true → get_or nu c 0 + count_below k (bit_set (get_or fa c 0)) < length sl

-- the cavity of p is inspected, its cells are ranked, the slots are known, and there is room for the new ones
pub record Prepared (t : Tables) (np n : ℕ) (p : Position) (ch st fa nu sl : List ℕ) (point_cap cell_cap : ℕ) : Type 0 where
  pub like : StarShaped t n p (set_of n st)
  pub codes : length fa ≡ 4096
  pub ranks : length nu ≡ 4096
  pub slots : length sl ≡ 4096
  pub inspected : Inspected t n p (set_of n st) st fa
  pub ranked : Ranked t n p (set_of n st) nu
  pub slotted : Slotted ch n (made_count t n p (set_of n st)) sl
  pub spare : Spare t n ch
  pub next : np < point_cap
  pub room : used_after ch n (made_count t n p (set_of n st)) ≤ cell_cap

-- the same of the mesh `was`, while the star is built
pub record StarInProgress (n : ℕ) (st fa nu sl cs ns : List ℕ) : Type 0 where
  pub standing : CavityIntact n st cs ns
  pub p : Position
  pub ch : List ℕ
  pub ready : Prepared standing.was standing.np n p ch st fa nu sl (point_capacity standing.was) (cell_capacity standing.was standing.mesh.w)

-- where its cells stand after
abbrev pub numbers_of : {n : ℕ} {st fa nu sl cs ns : List ℕ} → StarInProgress n st fa nu sl cs ns → Numbers
numbers_of {n} {st} b = star_numbers b.ch b.standing.was n b.p (set_of n st)

-- face k of the cavity's cell c is visible
pub record VisibleFace (n : ℕ) (st fa : List ℕ) (c k : ℕ) : Type 0 where
  pub held : in_set (set_of n st) c ≡ true
  pub place< : k < 4
  pub marks : bit_set (get_or fa c 0) k ≡ true

pub data FaceDone (N : Numbers) (t : Tables) (n : ℕ) (p : Position) (v : ℕ) (s : List Bool) (f : ℕ) (cs ns cs' ns' : List ℕ) : Type 0 where
  starred : visible t p s f ≡ true → FaceStarred N t n p v s f cs ns cs' ns' → FaceDone N t n p v s f cs ns cs' ns'
  passed_by : visible t p s f ≡ false → cs' ≡ cs → ns' ≡ ns → FaceDone N t n p v s f cs ns cs' ns'

-- all that is asked of a cavity that is to be starred
pub record Starring (t : Tables) (np n : ℕ) (p : Position) (st li : List ℕ) (size : ℕ) (fa nu sl : List ℕ) : Type 0 where
  pub mesh : SomeMesh t np n
  pub ch : List ℕ
  pub ready : Prepared t np n p ch st fa nu sl (point_capacity t) (cell_capacity t mesh.w)
  pub listed : Enumerated t n st li size

-- the tables with every visible face starred
abbrev pub AllStarred : {t : Tables} {np n : ℕ} {p : Position} {st li : List ℕ} {size : ℕ} {fa nu sl : List ℕ} → Starring t np n p st li size fa nu sl → List ℕ → List ℕ → Type 0
AllStarred {t} {np} {n} {p} {st} b = Starred (star_numbers b.ch t n p (set_of n st)) t n p np (set_of n st) (visible t p (set_of n st))

-- all that is asked of a cavity that is to be replaced: its list rises, and `rest` is the first number on what the new cells leave of the
-- chain
pub record Replacing (t : Tables) (np n : ℕ) (p : Position) (st li : List ℕ) (size : ℕ) (fa nu sl : List ℕ) (rest : ℕ) : Type 0 where
  pub starring : Starring t np n p st li size fa nu sl
  pub rising : Rising n (set_of n st) li size
  pub left : rest ≡ head_of (chain_left starring.ch t n p (set_of n st))

-- What the inner functions keep of a cavity: a state for each cell, a list of the cavity's cells, and a code for the faces of each. Below:
-- the growth, the correction, and what the star asks of a cavity.
pub mod Growth
pub mod Correction
pub mod Star
use Rattle.std.specs.Prelude.{ℕ, ◌+◌, ◌*◌, ◌≤◌, ◌<◌, Bool, true, not, ◌&&◌, ◌||◌, List, ◌≢◌, ◌≡◌, ltb, eqb, length, get_or}
use mir.Val.{bool_byte}
use Rattle.arith.specs.Table.{tabulate, count_below, any_below}
use Rattle.geometry.specs.declared.Position.{Position}
use Rattle.geometry.specs.Volume.{InRange}
use Rattle.mesh.specs.Tables.{Tables, across, live}
use Rattle.mesh.specs.Inner.{SomeMesh}
use Rattle.locate.specs.Locate.{holds}
use Rattle.cavity.specs.declared.Node.{Node}
use Rattle.cavity.specs.declared.Extent.{Extent}
use Rattle.cavity.specs.Answers.{Answers, says_yes, report_t, least_t}
use Rattle.cavity.specs.Cavity.{in_set, cavity_of, corrected_cavity, cavity_size, outer, coplanar, visible}

-- a mesh, a position, and enough answers where they are handed in
pub record Answerable (t : Tables) (bytes : List ℕ) (d : Node) : Type 0 where
  pub mesh : SomeMesh t d.points d.used
  pub position : InRange d.position
  pub answered : d.handed ≡ true → d.used ≤ length bytes

-- a cell's state: 0 outside the cavity, 1 in it, 2 in the base too
abbrev pub inside : List ℕ → ℕ → Bool
inside st c = ltb 0 (get_or st c 0)

-- the set among n entries that the states st give
unfoldable pub set_of : ℕ → List ℕ → List Bool
set_of n st = tabulate n (inside st)

-- the first entries of li are the cells inside, each one time; they are cells of t
pub record Enumerated (t : Tables) (n : ℕ) (st li : List ℕ) (size : ℕ) : Type 0 where
  pub states : length st ≡ 4096
  pub entries : length li ≡ 4096
  pub counted : count_below n (inside st) ≡ size
  pub below : (k : ℕ) → k < size → get_or li k 0 < n
  pub listed : (k : ℕ) → k < size → inside st (get_or li k 0) ≡ true
  pub apart : (i k : ℕ) → i < k → k < size → get_or li i 0 ≢ get_or li k 0
  pub alive : (c : ℕ) → c < n → inside st c ≡ true → live t c ≡ true
  pub all : (c : ℕ) → inside st c ≡ true → (k : ℕ) × (k < size) × (get_or li k 0 ≡ c)

-- the same in some tables
pub record Listed (st li : List ℕ) (size : ℕ) : Type 0 where
  pub t : Tables
  pub n : ℕ
  pub few : n ≤ 4096
  pub list : Enumerated t n st li size

-- ---- faces

-- face f is outer, and neither visible nor coplanar
unfoldable pub hidden : Tables → Position → List Bool → ℕ → Bool
hidden t p s f = outer (across t) (in_set s) f && not (coplanar t p f || visible t p s f)

-- four tests, the first the lowest bit
abbrev pub four_bits : Bool → Bool → Bool → Bool → ℕ
four_bits a b c d = bool_byte a + 2 * bool_byte b + 4 * bool_byte c + 8 * bool_byte d

-- bit k where face k of cell c is visible, and 16 times that where it is hidden
unfoldable pub faces_code : Tables → Position → List Bool → ℕ → ℕ
faces_code t p s c =
    four_bits (visible t p s (4 * c + 0)) (visible t p s (4 * c + 1)) (visible t p s (4 * c + 2)) (visible t p s (4 * c + 3))
    + 16 * four_bits (hidden t p s (4 * c + 0)) (hidden t p s (4 * c + 1)) (hidden t p s (4 * c + 2)) (hidden t p s (4 * c + 3))

-- the codes fa of the cells in s
abbrev pub Inspected : Tables → ℕ → Position → List Bool → List ℕ → List ℕ → Type 0
Inspected t n p s st fa = (c : ℕ) → c < n → inside st c ≡ true → get_or fa c 0 ≡ faces_code t p s c

-- ---- all of it

-- what was found of the cavity at p: its corrected set, listed and with its faces' codes, its sizes and least T; or, where no cell holds p, no
-- size and no state
pub record CavityFound (a : Answers) (t : Tables) (p : Position) (n : ℕ) (st li fa : List ℕ) (r : Extent) : Type 0 where
  pub states : length st ≡ 4096
  pub entries : length li ≡ 4096
  pub codes : length fa ≡ 4096
  pub held : any_below n (holds t p) ≡ not (eqb r.before 0)
  pub empty : r.before ≡ 0 → (k : ℕ) → get_or st k 0 ≡ 0
  pub list : r.before ≢ 0 → Enumerated t n st li r.after
  pub set : r.before ≢ 0 → set_of n st ≡ corrected_cavity t n p (says_yes a t p)
  pub coded : r.before ≢ 0 → Inspected t n p (set_of n st) st fa
  pub before_is : r.before ≢ 0 → r.before ≡ cavity_size n (cavity_of t n p (says_yes a t p))
  pub after_is : r.before ≢ 0 → r.after ≡ cavity_size n (corrected_cavity t n p (says_yes a t p))
  pub holder< : r.before ≢ 0 → r.holder < n
  pub holder_holds : r.before ≢ 0 → holds t p r.holder ≡ true
  pub least_is : r.before ≢ 0 → r.least ≡ least_t (report_t a t p) n (cavity_of t n p (says_yes a t p))

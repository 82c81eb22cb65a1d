-- What the functions of the base scan and the growth keep.
use Rattle.std.specs.Prelude.{ℕ, ◌+◌, ◌<◌, ◌≤◌, Bool, true, false, not, ◌&&◌, ◌||◌, cond, List, ◌≢◌, ◌≡◌, ltb, eqb, length, get_or, Float}
use Rattle.std.specs.Float.Ieee.{lt}
use Rattle.geometry.specs.declared.Position.{Position}
use Rattle.mesh.specs.Tables.{Tables, none, IsCell}
use Rattle.locate.specs.Locate.{holds}
use Rattle.cavity.specs.declared.Answer.{Answer}
use Rattle.cavity.specs.declared.Gathered.{Gathered}
use Rattle.cavity.specs.Answers.{Answers, says_yes, report_t}
use Rattle.cavity.specs.Cavity.{in_set, base, cavity_of}
use Rattle.cavity.specs.Inner.{inside, Enumerated}

unfoldable pub answer_for : Answers → Tables → Position → ℕ → Answer
answer_for a t p c = record { yes = says_yes a t p c; t = report_t a t p c }

-- one cell more, of the value x; of equal ones the lowest number counts, so that the order in which cells are found does not
unfoldable pub with_cell : Gathered → ℕ → Float → Gathered
with_cell g c x =
    cond (eqb g.size 0 || (lt x g.least || (not (lt g.least x) && ltb c g.at)))
    record { size = g.size + 1; least = x; at = c }
    record { size = g.size + 1; least = g.least; at = g.at }

-- g has the least of the values T over the cells inside, and the first cell that has it
pub record Lowest (T : ℕ → Float) (n : ℕ) (st : List ℕ) (g : Gathered) : Type 0 where
  pub at< : g.at < n
  pub at_inside : inside st g.at ≡ true
  pub is : g.least ≡ T g.at
  pub none_below : (c : ℕ) → c < n → inside st c ≡ true → lt (T c) (T g.at) ≡ false
  pub first : (c : ℕ) → c < g.at → inside st c ≡ true → lt (T g.at) (T c) ≡ true

-- the cells inside are listed, those of the base b have state 2, and their least T is known
pub record Growing (t : Tables) (T : ℕ → Float) (n : ℕ) (b : List Bool) (st li : List ℕ) (g : Gathered) : Type 0 where
  pub list : Enumerated t n st li g.size
  pub states : (c : ℕ) → c < n → inside st c ≡ true → get_or st c 0 ≡ cond (in_set b c) 2 1
  pub lowest : 0 < g.size → Lowest T n st g

-- just the base's cells below c are inside
pub record Scanned (a : Answers) (t : Tables) (p : Position) (n c : ℕ) (st li : List ℕ) (g : Gathered) : Type 0 where
  pub growing : Growing t (report_t a t p) n (base t n p) st li g
  pub exactly : (k : ℕ) → k < n → inside st k ≡ (ltb k c && holds t p k)

-- the base is inside, and with it only cells of the cavity at p
pub record Reached (a : Answers) (t : Tables) (p : Position) (n : ℕ) (st li : List ℕ) (g : Gathered) : Type 0 where
  pub growing : Growing t (report_t a t p) n (base t n p) st li g
  pub based : (c : ℕ) → c < n → in_set (base t n p) c ≡ true → inside st c ≡ true
  pub sound : (c : ℕ) → c < n → inside st c ≡ true → in_set (cavity_of t n p (says_yes a t p)) c ≡ true

-- more cells, none of them lost or listed elsewhere
pub record Grew (n : ℕ) (st li : List ℕ) (size : ℕ) (st' li' : List ℕ) (size' : ℕ) : Type 0 where
  pub size≤ : size ≤ size'
  pub same : (k : ℕ) → k < size → get_or li' k 0 ≡ get_or li k 0
  pub keeps : (c : ℕ) → c < n → inside st c ≡ true → inside st' c ≡ true

-- what lies across a face of the cavity: a cell, and of the cavity if its answer is yes
abbrev pub Neighbour : Answers → Tables → Position → ℕ → ℕ → Type 0
Neighbour a t p n d = d ≢ none → IsCell t n d × (says_yes a t p d ≡ true → in_set (cavity_of t n p (says_yes a t p)) d ≡ true)

-- d is inside, unless it is none or its answer is no
abbrev pub InsideIfYes : Answers → Tables → Position → List ℕ → ℕ → Type 0
InsideIfYes a t p st d = d ≢ none → says_yes a t p d ≡ true → inside st d ≡ true

-- states and list as they are before any cell
pub record Empty (st li : List ℕ) : Type 0 where
  pub states : length st ≡ 4096
  pub entries : length li ≡ 4096
  pub zero : (k : ℕ) → get_or st k 0 ≡ 0

-- a note for each entry, all below the stamp of the node that comes next
pub record Unstamped (stamp : ℕ) (notes : List ℕ) : Type 0 where
  pub long : length notes ≡ 4096
  pub below : (c : ℕ) → get_or notes c 0 < stamp

-- Cells whose note is the stamp have answered no. No note is above it, so that with a greater stamp no cell has answered: the notes need
-- no clearing between nodes.
pub record Denied (a : Answers) (t : Tables) (p : Position) (stamp : ℕ) (notes : List ℕ) : Type 0 where
  pub long : length notes ≡ 4096
  pub no : (c : ℕ) → get_or notes c 0 ≡ stamp → says_yes a t p c ≡ false
  pub most : (c : ℕ) → get_or notes c 0 ≤ stamp

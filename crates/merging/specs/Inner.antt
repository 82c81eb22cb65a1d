-- What the inner functions ask and leave.
use Rattle.std.specs.Prelude.{ℕ, ◌+◌, ◌*◌, ◌-◌, ◌/◌, ◌%◌, ◌≤◌, ◌<◌, Bool, not, cond, ◌&&◌, ◌||◌, List, ◌++◌, ◌≢◌, ◌⊎◌, ◌≡◌, ltb, eqb, length, get_or, take}
use Rattle.arith.specs.Table.{tabulate}
use Rattle.geometry.specs.declared.Position.{Position}
use Rattle.mesh.specs.Tables.{point_in}
use Rattle.mesh.specs.Start.{over}
use Rattle.nodefile.specs.declared.Header.{Header}
use Rattle.nodefile.specs.Read.{Read}
use Rattle.nodefile.specs.Read.{Nodes, Refused as ReadRefused}
use Rattle.nodefile.specs.Write.{Written}
use Rattle.nodefile.specs.Write.{Bytes, Refused}
use Rattle.nodefile.specs.Read.{header, nodes}
use Rattle.merging.specs.Merge.{surveyed, kept, coordinates, with_count, file_of_positions, file_refusal, same_sides, all_inside}

-- the first n positions of some numbers, three a position
abbrev pub positions_in : ℕ → List ℕ → List Position
positions_in n ns = tabulate n (point_in ns)

-- a coordinate at one end of its side
abbrev pub at_end : ℕ → ℕ → Bool
at_end side v = eqb v 0 || eqb v side

unfoldable pub is_corner : Header → Position → Bool
is_corner h p = at_end h.x p.x && (at_end h.y p.y && at_end h.z p.z)

-- ---- a hash table of positions, by linear probing. An entry is 0 where the place is empty, else 1 more than the number of a kept node.

-- Where the search for a position begins: a multiplicative hash. The factors are 2^30 over the powers of 1.2207.., the root of
-- r^4 = r + 1, made odd, so that neighbours on a lattice begin far apart.
unfoldable pub hash_of : Position → ℕ
hash_of p = (879579789 * p.x + 720527587 * p.y + 590236393 * p.z) / 524288 % 2048

-- node m is at a place that the search for it comes to
pub record Stored (ns table : List ℕ) (m : ℕ) : Type 0 where
  pub place : ℕ
  pub entry : get_or table place 0 ≡ m + 1
  pub after : hash_of (point_in ns m) ≤ place
  pub run : (j : ℕ) → hash_of (point_in ns m) ≤ j → j < place → get_or table j 0 ≢ 0

-- the table names the first k nodes and no others. Its last places are still empty, so that every search ends
pub record Indexed (ns table : List ℕ) (k : ℕ) : Type 0 where
  pub named : (j : ℕ) → get_or table j 0 ≤ k
  pub empty : (j : ℕ) → 2048 + k ≤ j → get_or table j 0 ≡ 0
  pub stored : (m : ℕ) → m < k → Stored ns table m

-- the table's entry at place j is the number of a node at p
abbrev pub Names : List ℕ → List ℕ → Position → ℕ → Type 0
Names ns table p j = (get_or table j 0 ≢ 0) × (point_in ns (get_or table j 0 - 1) ≡ p)

-- the search for p has come to place r
pub record Probed (ns table : List ℕ) (p : Position) (r : ℕ) : Type 0 where
  pub after : hash_of p ≤ r
  pub run : (j : ℕ) → hash_of p ≤ j → j < r → (get_or table j 0 ≢ 0) × (point_in ns (get_or table j 0 - 1) ≢ p)

-- and ends there: at p, or at an empty place
pub record ProbeEnds (ns table : List ℕ) (p : Position) (r : ℕ) : Type 0 where
  pub probed : Probed ns table p r
  pub here : (get_or table r 0 ≡ 0) ⊎ Names ns table p r

-- room for k nodes and for one entry more
pub record Roomy (ns table : List ℕ) (k : ℕ) : Type 0 where
  pub few : k ≤ 2032
  pub nodes_fit : 3 * k ≤ length ns
  pub table_fits : length table ≡ 4096

-- ---- the nodes that are left move to the front

-- of the nodes ns₀, i have been looked at: k are left and stand at the front of ns, and the rest are where they were
pub record Filtered (h : Header) (ns₀ ns table : List ℕ) (i k : ℕ) : Type 0 where
  pub fewer : k ≤ i
  pub same_length : length ns ≡ length ns₀
  pub table_length : length table ≡ 4096
  pub front : positions_in k ns ≡ kept h (positions_in i ns₀)
  pub rest : (j : ℕ) → i ≤ j → point_in ns j ≡ point_in ns₀ j
  pub indexed : Indexed ns table k

-- node i is looked at
abbrev pub Filters : Header → List ℕ → List ℕ → ℕ → ℕ → List ℕ → List ℕ → ℕ → Type 0
Filters h ns table i k ns' table' k' = (ns₀ : List ℕ) → Filtered h ns₀ ns table i k → Filtered h ns₀ ns' table' (i + 1) k'

-- all of them have been looked at
pub record FilteredAll (h : Header) (ns : List ℕ) (k : ℕ) (ns' : List ℕ) : Type 0 where
  pub count : k ≡ length (kept h (positions_in h.count ns))
  pub fits : 3 * k ≤ length ns'
  pub front : take (3 * k) ns' ≡ coordinates (kept h (positions_in h.count ns))

-- ---- both files

-- 9 2 19 of the second file, after the first, whose header is a
abbrev pub second_refusal : Header → List ℕ → ℕ
second_refusal a second = cond (not (eqb (file_refusal second) 0)) (file_refusal second) (cond (not (same_sides a (header second))) 19 0)

-- what reading it into ns, after the first file's nodes, answers and leaves there
abbrev pub SecondRead : Header → List ℕ → List ℕ → Read → List ℕ → Type 0
SecondRead a second ns (ReadRefused e) ns' = (e ≡ second_refusal a second) × (e ≢ 0)
SecondRead a second ns (Nodes h) ns' =
    (second_refusal a second ≡ 0) × (h ≡ with_count a (a.count + (header second).count)) ×
    ((before old : List ℕ) → length before ≡ 3 * a.count → ns ≡ over before old → ns' ≡ over (before ++ nodes second) old)

-- 9 2 of the first, 9 2 of the second, 19
abbrev pub both_refusal : List ℕ → List ℕ → ℕ
both_refusal first second = cond (not (eqb (file_refusal first) 0)) (file_refusal first) (second_refusal (header first) second)

-- ns has the nodes of both files, and h their box and count
pub record Both (first second : List ℕ) (h : Header) (ns : List ℕ) : Type 0 where
  pub few : h.count ≤ 2032
  pub nodes_fit : 3 * h.count ≤ length ns
  pub box : h ≡ with_count (header first) h.count
  pub all : positions_in h.count ns ≡ surveyed first second

-- what reading both answers and leaves
abbrev pub BothRead : List ℕ → List ℕ → Read → List ℕ → Type 0
BothRead first second (ReadRefused e) ns' = (e ≡ both_refusal first second) × (e ≢ 0)
BothRead first second (Nodes h) ns' = (both_refusal first second ≡ 0) × Both first second h ns'

-- ---- the file of what is left

abbrev pub kept_file : Header → List Position → List ℕ
kept_file h ps = file_of_positions h (kept h ps)

-- 4 6 10
abbrev pub kept_refusal : Header → List Position → ℕ → ℕ
kept_refusal h ps room =
    cond (not (all_inside h.x h.y h.z ps)) 4 (cond (ltb 1016 (length (kept h ps))) 6 (cond (ltb room (length (kept_file h ps))) 10 0))

-- what writing it into out answers and leaves there
pub record KeptLeaves (h : Header) (ps : List Position) (out : List ℕ) (r : Written) (out' : List ℕ) : Type 0 where
  pub answer : r ≡ cond (eqb (kept_refusal h ps (length out)) 0) (Bytes (length (kept_file h ps))) (Refused (kept_refusal h ps (length out)))
  pub output : out' ≡ cond (eqb (kept_refusal h ps (length out)) 0) (over (kept_file h ps) out) out

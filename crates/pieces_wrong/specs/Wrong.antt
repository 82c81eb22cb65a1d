-- Document 01, 'One insertion', step 4, read right and in six wrong ways.
use Rattle.std.specs.Prelude.{ℕ, zero, suc, ◌+◌, ◌*◌, Bool, false, not, ◌&&◌, cond, ◌||◌, List, ◌≢◌, eqb, set, pos}
use Rattle.arith.specs.Table.{tabulate, any_below, all_below, iterate}
use Rattle.geometry.specs.declared.Position.{Position}
use Rattle.mesh.specs.Tables.{Tables, none, corner, across, side, face_has}
use Rattle.mesh.specs.Check.{same_z}
use Rattle.cavity.specs.Answers.{Answers, says_yes}
use Rattle.cavity.specs.Cavity.{in_set, base, outer, coplanar, visible, cavity_of}
use Rattle.insertion.specs.Insertion.{last_cavity}
use Rattle.calls.specs.Calls.{Build}
use Rattle.pieces.specs.Piece.{Piece, reached}

pub data Rule : Type 0 where
  right : Rule
  -- 'Zero counted as seen for a face inside the box'
  zero_visible : Rule
  -- 'Correction by visibility alone': no corner counts as lost
  visibility_only : Rule
  -- an 'outer face neither flat nor seen' is not looked for
  lost_corners_only : Rule
  -- a corner on a flat outer face is kept, though it is 'on no seen outer face'
  coplanar_keeps : Rule
  -- not till 'none is marked', but one round
  one_round : Rule
  -- not 'all marked cells together': each at once, and the next is judged without it
  one_at_a_time : Rule

abbrev number : Rule → ℕ
number right = 0
number zero_visible = 1
number visibility_only = 2
number lost_corners_only = 3
number coplanar_keeps = 4
number one_round = 5
number one_at_a_time = 6

abbrev is : Rule → Rule → Bool
is r q = eqb (number r) (number q)

-- the correction by the rule r, over the base b
module _ (r : Rule) (t : Tables) (n : ℕ) (p : Position) (b : List Bool) where
  abbrev outer_of : List Bool → ℕ → Bool
  outer_of s f = outer (across t) (in_set s) f

  unfoldable pub visible_by : List Bool → ℕ → Bool
  visible_by s f =
      (is r zero_visible && (outer_of s f && (not (eqb (across t f) none) && same_z (side t p f) (pos 0)))) || visible t p s f

  unfoldable pub keeps_by : List Bool → ℕ → Bool
  keeps_by s f = (is r coplanar_keeps && (outer_of s f && coplanar t p f)) || visible_by s f

  unfoldable pub faces_good_by : List Bool → ℕ → Bool
  faces_good_by s c =
      is r lost_corners_only ||
      all_below 4 (λ k. not (outer_of s (4 * c + k)) || (coplanar t p (4 * c + k) || visible_by s (4 * c + k)))

  unfoldable pub corners_good_by : List Bool → ℕ → Bool
  corners_good_by s c =
      is r visibility_only || all_below 4 (λ k. any_below (4 * n) (λ f. keeps_by s f && face_has t f (corner t c k)))

  unfoldable pub marked_by : List Bool → ℕ → Bool
  marked_by s c = in_set s c && (not (in_set b c) && not (faces_good_by s c && corners_good_by s c))

  -- of the cells c to c + k - 1
  unfoldable pub one_by_one : ℕ → ℕ → List Bool → List Bool
  one_by_one zero c s = s
  one_by_one (suc k) c s = one_by_one k (suc c) (cond (marked_by s c) (set s c false) s)

  unfoldable pub pruned_by : List Bool → List Bool
  pruned_by s = cond (is r one_at_a_time) (one_by_one n 0 s) (tabulate n (λ c. in_set s c && not (marked_by s c)))

  unfoldable pub corrected_by : List Bool → List Bool
  corrected_by s = iterate (cond (is r one_round) 1 n) pruned_by s

-- where p is inserted, the rule leaves another cavity than the definition
abbrev pub DiffersAt : Rule → Build → Position → Answers → Type 0
DiffersAt r b p a =
    let t = b.tables in
    let n = b.mesh.used in
    corrected_by r t n p (base t n p) (cavity_of t n p (says_yes a t p)) ≢ last_cavity b.mesh t p a

-- on a piece's insertion
abbrev pub Differs : Rule → Piece → Type 0
Differs r h = DiffersAt r (reached h) h.node h.answers

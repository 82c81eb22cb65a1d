-- What setting a point's numbers and inserting a node leave of a table: its length, and all numbers of the mesh in range.
use Prim.Native.Nat.{ℕ, ◌+◌, ◌*◌, ◌≤◌, ◌<◌}
use mathlib.Core.Bool.{true, false, not, ◌&&◌}
use mathlib.Core.List.{List}
use mathlib.Core.Logic.{◌≢◌}
use mathlib.Core.Path.{◌≡◌, ap, ◌∙◌}
use native.Mathlib.Decide.{ℕ_discrete}
use native.Mathlib.Omega.{arith}
use borrow.Author.Tests.{not-true}
use lib.ListN.{length, get_or, set, length-set}
use lib.Seq.{get_or-set_same, get_or-set_other}
use lib.IntN.{ℤ, pos}
use Rattle.arith.specs.Table.{any_below}
use Rattle.arith.proofs.Flags.{and_left, and_right, and_intro, fails, clash}
use Rattle.arith.proofs.Tables.{any_found}
use Rattle.geometry.specs.declared.Position.{Position}
use Rattle.mesh.specs.declared.Mesh.{Mesh}
use Rattle.geometry.specs.Volume.{in_box}
use Rattle.geometry.proofs.Ranges.{box_in}
use Rattle.mesh.specs.Tables.{Tables, point_capacity, IsCell}
use Rattle.mesh.specs.Check.{is_mesh}
use Rattle.mesh.proofs.Room.{room_of}
use Rattle.mesh.proofs.Valid.{valid_of}
use Rattle.locate.specs.Locate.{holds, first_holder}
use Rattle.locate.proofs.Codes.{holder_cell}
use Rattle.locate.proofs.First.{IsFirst, holder_is_first}
use Rattle.cavity.specs.Answers.{Answers}
use Rattle.insertion.specs.Insertion.{node_refusal}
use Rattle.insertion.proofs.Refusals.{node_fits}
use Rattle.corrections.specs.declared.Correction.{Correction}
use Rattle.corrections.specs.Corrections.{number_of, correction_of, in_range, out_of_range, with_correction, value_in, correction_in, correction_at}
use Rattle.corrections.specs.Calls.{is_correction, with_node}
use Rattle.corrections.proofs.Values.{entry_in_range, value_in_range, correction_from_every_holder}

-- ---- setting

module _ (cs : List ℤ) (v : ℕ) (d : Correction) where
  abbrev one : List ℤ
  one = set cs (3 * v) d.x

  abbrev two : List ℤ
  two = set one (3 * v + 1) d.y

  pub set_length : length (with_correction cs v d) ≡ length cs
  unfolding with_correction
  set_length = length-set two (3 * v + 2) d.z ∙ (length-set one (3 * v + 1) d.y ∙ length-set cs (3 * v) d.x)

  -- the other points' numbers stay
  pub set_other : (i : ℕ) → i ≢ 3 * v → i ≢ 3 * v + 1 → i ≢ 3 * v + 2 → get_or (with_correction cs v d) i (pos 0) ≡ get_or cs i (pos 0)
  unfolding with_correction
  set_other i a b c =
      get_or-set_other two (3 * v + 2) i d.z (pos 0) c ∙
      (get_or-set_other one (3 * v + 1) i d.y (pos 0) b ∙ get_or-set_other cs (3 * v) i d.x (pos 0) a)

  module _ (h : 3 * v + 2 < length cs) where
    set_x : get_or (with_correction cs v d) (3 * v) (pos 0) ≡ d.x
    unfolding with_correction
    set_x =
        get_or-set_other two (3 * v + 2) (3 * v) d.z (pos 0) (λ e. omega (arith, e)) ∙
        (get_or-set_other one (3 * v + 1) (3 * v) d.y (pos 0) (λ e. omega (arith, e)) ∙ get_or-set_same cs (3 * v) d.x (pos 0) (omega (arith, h)))

    set_y : get_or (with_correction cs v d) (3 * v + 1) (pos 0) ≡ d.y
    unfolding with_correction
    set_y =
        get_or-set_other two (3 * v + 2) (3 * v + 1) d.z (pos 0) (λ e. omega (arith, e)) ∙
        get_or-set_same one (3 * v + 1) d.y (pos 0) (omega (arith, h, length-set cs (3 * v) d.x))

    set_z : get_or (with_correction cs v d) (3 * v + 2) (pos 0) ≡ d.z
    unfolding with_correction
    set_z = get_or-set_same two (3 * v + 2) d.z (pos 0) (omega (arith, h, length-set one (3 * v + 1) d.y, length-set cs (3 * v) d.x))

    -- the point has what was set
    pub set_own : correction_of (with_correction cs v d) v ≡ d
    unfolding number_of
    set_own =
        let z : 3 * v + 0 ≡ 3 * v = omega arith in
        let x = ap (λ i. get_or (with_correction cs v d) i (pos 0)) z ∙ set_x in
        λ i. record { x = x i; y = set_y i; z = set_z i }

-- ---- ranges

pub range_intro : (np : ℕ) (cs : List ℤ) → ((i : ℕ) → i < 3 * np → in_range (get_or cs i (pos 0)) ≡ true) → out_of_range np cs ≡ false
unfolding out_of_range
range_intro np cs each =
    fails (any_below (3 * np) (λ i. not (in_range (get_or cs i (pos 0)))))
    (λ e. let f = any_found (3 * np) (λ i. not (in_range (get_or cs i (pos 0)))) e in clash (each f.at f.below) (not-true _ f.passes))

-- numbers in range for point v, and for all other points below np
module _ (np : ℕ) (cs : List ℤ) (v : ℕ) (d : Correction) (e : is_correction d ≡ true) (h : 3 * v + 2 < length cs)
    (others : (i : ℕ) → i < 3 * np → i ≢ 3 * v → i ≢ 3 * v + 1 → i ≢ 3 * v + 2 → in_range (get_or cs i (pos 0)) ≡ true) where
  in_x : in_range d.x ≡ true
  unfolding is_correction
  in_x = and_left (in_range d.x) (in_range d.y && in_range d.z) e

  in_yz : (in_range d.y && in_range d.z) ≡ true
  unfolding is_correction
  in_yz = and_right (in_range d.x) (in_range d.y && in_range d.z) e

  pub range_set : out_of_range np (with_correction cs v d) ≡ false
  range_set = range_intro np (with_correction cs v d) (λ i l. go i l (ℕ_discrete i (3 * v)) (ℕ_discrete i (3 * v + 1)) (ℕ_discrete i (3 * v + 2)))
    where
      is : {i j : ℕ} {z : ℤ} → i ≡ j → get_or (with_correction cs v d) j (pos 0) ≡ z → in_range z ≡ true → in_range (get_or (with_correction cs v d) i (pos 0)) ≡ true
      is q f g = ap (λ i. in_range (get_or (with_correction cs v d) i (pos 0))) q ∙ (ap in_range f ∙ g)

      go : (i : ℕ) → i < 3 * np → Dec (i ≡ 3 * v) → Dec (i ≡ 3 * v + 1) → Dec (i ≡ 3 * v + 2) → in_range (get_or (with_correction cs v d) i (pos 0)) ≡ true
      go i l (yes q) b c = is q (set_x cs v d h) in_x
      go i l (no a) (yes q) c = is q (set_y cs v d h) (and_left (in_range d.y) (in_range d.z) in_yz)
      go i l (no a) (no b) (yes q) = is q (set_z cs v d h) (and_right (in_range d.y) (in_range d.z) in_yz)
      go i l (no a) (no b) (no c) = ap in_range (set_other cs v d i a b c) ∙ others i l a b c

-- a point's numbers set again
pub range_again : (np : ℕ) (cs : List ℤ) (v : ℕ) (d : Correction) → out_of_range np cs ≡ false → is_correction d ≡ true → 3 * v + 2 < length cs →
    out_of_range np (with_correction cs v d) ≡ false
range_again np cs v d e f h = range_set np cs v d f h (λ i l a b c. entry_in_range np cs e i l)

-- one point more
pub range_more : (np : ℕ) (cs : List ℤ) (d : Correction) → out_of_range np cs ≡ false → is_correction d ≡ true → 3 * np + 2 < length cs →
    out_of_range (np + 1) (with_correction cs np d) ≡ false
range_more np cs d e f h = range_set (np + 1) cs np d f h (λ i l a b c. entry_in_range np cs e i (omega (arith, l, a, b, c)))

-- ---- a node

module _ (m : Mesh) (t : Tables) (cs : List ℤ) (w : ℕ) (p : Position) (e : is_mesh m t w ≡ true) (c : ℕ) (c< : c < m.used) (held : holds t p c ≡ true) where
  abbrev first : ℕ
  first = first_holder t m.used p

  is_first : IsFirst t p m.used first
  is_first = holder_is_first t p m.used c c< held

  first_cell : IsCell t m.used first
  first_cell = holder_cell t p is_first.cell< is_first.holding

  -- the correction of a position that cell c holds is that from c
  pub from_holder : in_box m.x m.y m.z p ≡ true → correction_in t cs p c ≡ correction_at t m.used cs p
  unfolding correction_at
  from_holder b =
      correction_from_every_holder (valid_of m t w e).mesh (room_of t w) p (box_in {X = m.x} {Y = m.y} {Z = m.z} b) c first c< is_first.cell< held is_first.holding cs

  -- and in range
  pub at_in_range : out_of_range m.points cs ≡ false → is_correction (correction_at t m.used cs p) ≡ true
  unfolding correction_at is_correction correction_in
  at_in_range r = and_intro (each 0 (omega arith)) (and_intro (each 1 (omega arith)) (each 2 (omega arith)))
    where
      each : (k : ℕ) → k < 3 → in_range (value_in t p (number_of cs k) first) ≡ true
      each k l =
          value_in_range m.points cs r t p first k ((valid_of m t w e).mesh.positive first first_cell) is_first.holding l
          (λ i h. (valid_of m t w e).mesh.corner< first i first_cell h)

pub node_length : (m : Mesh) (t : Tables) (cs : List ℤ) (p : Position) → length (with_node m t cs p) ≡ length cs
unfolding with_node
node_length m t cs p = set_length cs m.points (correction_at t m.used cs p)

-- an accepted node leaves all numbers in range
pub in_range_after : (m : Mesh) (t : Tables) (cs : List ℤ) (w : ℕ) (p : Position) (a : Answers) → is_mesh m t w ≡ true → node_refusal m t w p a ≡ 0 →
    3 * point_capacity t ≤ length cs → out_of_range m.points cs ≡ false → out_of_range (m.points + 1) (with_node m t cs p) ≡ false
unfolding with_node
in_range_after m t cs w p a e z l r =
    let f = node_fits m t w p a z in
    range_more m.points cs (correction_at t m.used cs p) r (at_in_range m t cs w p e f.holder.at f.holder.below f.holder.passes r)
    (omega (arith, l, f.next, (valid_of m t w e).mesh.points≤))

-- ---- what a mesh's points take

module _ (m : Mesh) (t : Tables) (w : ℕ) (e : is_mesh m t w ≡ true) where
  pub numbers_lent : {n : ℕ} → 3 * point_capacity t ≤ n → 3 * m.points ≤ n
  numbers_lent l = omega (arith, l, (valid_of m t w e).mesh.points≤)

  pub points_lent : (m.points ≤ 1024) × (3 * m.points ≤ length t.points)
  points_lent =
      let M = (valid_of m t w e).mesh in
      let R = room_of t w in
      (omega (arith, M.points≤, R.points≤), omega (arith, M.points≤, R.points_fit))

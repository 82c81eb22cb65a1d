-- Document 02 §4: the list is what the request says, the same from B to A; every place of the segment is held by a listed cell, and the located cells of
-- its ends are listed.
use Prim.Native.Nat.{ℕ, ◌+◌, ◌*◌, ◌-◌, ◌≤◌, ◌<◌}
use mathlib.Core.Bool.{Bool, true, false, ◌&&◌}
use mathlib.Core.List.{List}
use mathlib.Core.Logic.{◌⊎◌, inl, inr}
use mathlib.Core.Path.{◌≡◌, sym, ap, ◌∙◌, subst}
use native.Mathlib.Nat.{mul-le-mul_left, add-mul}
use native.Mathlib.Omega.{arith}
use native.Mathlib.Decide.{ℕ_discrete, dec_lt}
use borrow.Author.Tests.{ne_eqb}
use lib.ListN.{length, get_or}
use Rattle.arith.specs.Table.{count_below, select_below}
use Rattle.arith.proofs.Counting.{count_mono, count_lt, count_fewer, select_length, select_at, Picked, select_picks}
use Rattle.arith.proofs.Flags.{split, and_left, and_right}
use Rattle.geometry.specs.declared.Position.{Position}
use Rattle.geometry.specs.Volume.{InBox, in_box}
use Rattle.geometry.proofs.Ranges.{box_in}
use Rattle.mesh.specs.declared.Mesh.{Mesh}
use Rattle.mesh.specs.Tables.{Tables, live}
use Rattle.mesh.specs.Check.{is_mesh}
use Rattle.mesh.specs.Refusal.{mesh_refusal}
use Rattle.mesh.proofs.Valid.{valid_of, passed}
use Rattle.locate.specs.Locate.{Cell}
use Rattle.locate.specs.Locate.{holds, first_holder, locate_call}
use Rattle.locate.proofs.First.{holder_is_first}
use Rattle.covering.specs.Place.{InBoxAt, holds_at}
use Rattle.covering.specs.Claim.{Covering}
use Rattle.covering.proofs.Theorem.{checked_covering, some_holds}
use Rattle.located.proofs.Parked.{Answered, answered}
use Rattle.segment.specs.Segment.{on_way}
use Rattle.segment.specs.Call.{touches, segment_cells, segment_refusal}
use Rattle.segment.specs.Claim.{Listed, CellsOn, HeldAlong}
use Rattle.segment.proofs.Touch.{touch_is, touches_back, touches_end, touches_same}

module _ (t : Tables) (n : ℕ) (a b : Position) where
  abbrev on? : ℕ → Bool
  on? = touches t a b

  picked : (i : ℕ) → i < length (select_below n on?) → Picked n on? i (get_or (select_below n on?) i 0)
  picked i h = select_picks n on? i (subst (λ m. i < m) (select_length n on?) h)

  listed : (c : ℕ) → c < n → on? c ≡ true → Listed c (select_below n on?)
  listed c l e = record { at = count_below c on?; at< = subst (λ m. count_below c on? < m) (sym (select_length n on?)) (count_lt c n on? l e); is = select_at n on? c l e }

  -- THE LIST IS WHAT THE REQUEST SAYS
  pub cells_on : CellsOn t n a b (segment_cells t n a b)
  unfolding segment_cells
  cells_on = record {
    rising = λ i j l h. up i j l (picked i (omega arith)) (picked j h);
    every = λ c l T. listed c l ((touch_is t a b c).1 T);
    no_other = λ c L. let p = picked L.at L.at< in
        (subst (λ c. c < n) L.is p.below, (touch_is t a b c).0 (subst (λ c. on? c ≡ true) L.is p.passes));
  }
    where
      up : (i j : ℕ) {k l : ℕ} → i < j → Picked n on? i k → Picked n on? j l → k < l
      up i j {k} {l} h p q = go (dec_lt k l)
        where
          go : Dec (k < l) → k < l
          go (yes g) = g
          go (no g) = absurd (omega (arith, count_mono l k on? (omega arith), p.counted, q.counted))

  -- 'A travel from A to B' and back
  pub cells_back : segment_cells t n a b ≡ segment_cells t n b a
  unfolding segment_cells
  cells_back = λ ι. select_below n (λ c. touches_back t a b c ι)

-- 'If A and B are the same, it is the cells that hold A.'
pub cells_same : (t : Tables) (n : ℕ) (a : Position) → segment_cells t n a a ≡ select_below n (holds t a)
unfolding segment_cells
cells_same t n a = λ ι. select_below n (λ c. touches_same t a c ι)

-- AN ENTRY FOR EACH CELL IS ROOM ENOUGH
pub cells_fit : (m : Mesh) (t : Tables) (w : ℕ) → is_mesh m t w ≡ true → (a b : Position) → length (segment_cells t m.used a b) ≤ m.cells
unfolding segment_cells touches
cells_fit m t w e a b =
    subst (λ n. n ≤ m.cells) (sym (select_length m.used (touches t a b)))
    (subst (λ n. count_below m.used (touches t a b) ≤ n) (sym (valid_of m t w e).counted)
    (count_fewer m.used (live t) (touches t a b) (λ c l f. and_left (live t c) _ f)).0)

-- ---- places of the segment

way_in_box : {X Y Z : ℕ} {a b : Position} → InBox X Y Z a → InBox X Y Z b → (n d : ℕ) → n ≤ d → 1 ≤ d → InBoxAt X Y Z (on_way a b n d)
way_in_box {X} {Y} {Z} {a} {b} A B n d h some = record {
  w≥ = some;
  box = record { x≤ = between a.x b.x X A.x≤ B.x≤; y≤ = between a.y b.y Y A.y≤ B.y≤; z≤ = between a.z b.z Z A.z≤ B.z≤ };
}
  where
    between : (x y s : ℕ) → x ≤ s → y ≤ s → (d - n) * x + n * y ≤ d * s
    between x y s p q =
        subst (λ m. (d - n) * x + n * y ≤ m) (sym (add-mul (d - n) n s) ∙ ap (λ m. m * s) (back d n h))
        (omega (arith, mul-le-mul_left (d - n) p, mul-le-mul_left n q))
      where
        back : (d n : ℕ) → n ≤ d → d - n + n ≡ d
        back d n h = omega arith

pub held_along : {X Y Z n : ℕ} {t : Tables} → Covering X Y Z n t → (a b : Position) → InBox X Y Z a → InBox X Y Z b → HeldAlong t a b (segment_cells t n a b)
held_along {n = n} {t = t} C a b A B k d h some = go (C.nowhere_uncovered (on_way a b k d) (way_in_box A B k d h some))
  where
    go : (c : ℕ) × (c < n) × (holds_at t (on_way a b k d) c ≡ true) → (c : ℕ) × Listed c (segment_cells t n a b) × (holds_at t (on_way a b k d) c ≡ true)
    go (c, l, e) = (c, (cells_on t n a b).every c l record { n = k; d = d; within = h; some = some; held = e }, e)

-- ---- of an accepted call

module _ (m : Mesh) (t : Tables) (w : ℕ) (a b : Position) (room : ℕ) (e : segment_refusal m t w a b room ≡ 0) where
  record Tested : Type 0 where
    check : is_mesh m t w ≡ true
    ends : (in_box m.x m.y m.z a && in_box m.x m.y m.z b) ≡ true

  tested : Tested
  unfolding segment_refusal
  tested = go (ℕ_discrete (mesh_refusal m t w false) 0) (split (in_box m.x m.y m.z a && in_box m.x m.y m.z b)) e
    where
      go : Dec (mesh_refusal m t w false ≡ 0) → ((in_box m.x m.y m.z a && in_box m.x m.y m.z b) ≡ true) ⊎ ((in_box m.x m.y m.z a && in_box m.x m.y m.z b) ≡ false) →
          segment_refusal m t w a b room ≡ 0 → Tested
      go (no d) i e = absurd (d (rw (ne_eqb (mesh_refusal m t w false) 0 d) at e))
      go (yes z) (inr i) e = absurd (omega (arith, rw (z, i) at e))
      go (yes z) (inl i) e = record { check = passed m t w false z; ends = i }

  abbrev cells : List ℕ
  cells = segment_cells t m.used a b

  inside_a : InBox m.x m.y m.z a
  inside_a = box_in {X = m.x} {Y = m.y} {Z = m.z} {p = a} (and_left (in_box m.x m.y m.z a) _ tested.ends)

  inside_b : InBox m.x m.y m.z b
  inside_b = box_in {X = m.x} {Y = m.y} {Z = m.z} {p = b} (and_right (in_box m.x m.y m.z a) _ tested.ends)

  -- EVERY PLACE OF THE SEGMENT IS HELD BY A LISTED CELL
  pub call_held_along : HeldAlong t a b cells
  call_held_along = held_along (checked_covering m t w tested.check) a b inside_a inside_b

-- ---- the located cells of the ends

-- THE LOCATED CELLS OF THE ENDS ARE LISTED
pub located_first : (m : Mesh) (t : Tables) (w : ℕ) (a b : Position) (c : ℕ) → locate_call m t w a ≡ Cell c → Listed c (segment_cells t m.used a b)
located_first m t w a b c f = go (some_holds (checked_covering m t w A.check) a (box_in {X = m.x} {Y = m.y} {Z = m.z} {p = a} A.box))
  where
    A : Answered m t w a c
    A = answered m t w a c f

    go : (d : ℕ) × (d < m.used) × (holds t a d ≡ true) → Listed c (segment_cells t m.used a b)
    go (d, l, e) =
        let F = holder_is_first t a m.used d l e in
        subst (λ c. Listed c (segment_cells t m.used a b)) A.cell
        ((cells_on t m.used a b).every (first_holder t m.used a) F.cell< ((touch_is t a b (first_holder t m.used a)).0 (touches_end t a b (first_holder t m.used a) F.holding)))

pub located_last : (m : Mesh) (t : Tables) (w : ℕ) (a b : Position) (c : ℕ) → locate_call m t w b ≡ Cell c → Listed c (segment_cells t m.used a b)
located_last m t w a b c f = subst (Listed c) (cells_back t m.used b a) (located_first m t w b a c f)

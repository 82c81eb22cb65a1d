-- The list as it is written cell by cell, and what the call answers from its tests.
use Prim.Native.Nat.{ℕ, ◌+◌, ◌-◌, ◌≤◌, ◌<◌, min}
use mathlib.Core.Bool.{Bool, true, false, cond}
use mathlib.Core.List.{List, [], ◌∷◌, ◌++◌}
use mathlib.Core.Logic.{◌≢◌, ◌⊎◌, inl, inr}
use mathlib.Core.Path.{◌≡◌, refl, sym, ap, ap₂, ◌∙◌, subst}
use native.Mathlib.Nat.{le_of_suc-le-suc, not-suc-le-zero}
use native.Mathlib.Numerals.{add-one}
use native.Mathlib.Omega.{arith}
use borrow.Author.Tests.{ne_eqb}
use lib.Dec.{ltb}
use lib.ListN.{length, set, take, drop, replicate, length-append, length-take, length-drop, length-replicate}
use Rattle.arith.specs.Table.{count_below, select_from, select_below}
use Rattle.arith.proofs.Counting.{select_yes, select_no, select_length, count_yes, count_no, count_le}
use Rattle.arith.proofs.Flags.{split}
use Rattle.geometry.specs.declared.Position.{Position}
use Rattle.geometry.specs.Volume.{in_box}
use Rattle.mesh.specs.declared.Mesh.{Mesh}
use Rattle.mesh.specs.Tables.{Tables, cell_capacity, corner, corner_at, side, freed, live, cleared, tables}
use Rattle.mesh.specs.Check.{is_mesh}
use Rattle.mesh.specs.Start.{over}
use Rattle.mesh.specs.Refusal.{mesh_refusal}
use Rattle.mesh.proofs.Valid.{valid_of}
use Rattle.segment.specs.Call.{Counted}
use Rattle.segment.specs.Call.{Count, Refused}
use Rattle.segment.specs.Call.{touches, segment_cells, segment_refusal, segment_answer, segment_output, SegmentLeaves}

-- ---- cell by cell

over_more : (xs ys : List ℕ) (c : ℕ) → length xs < length ys → set (over xs ys) (length xs) c ≡ over (xs ++ (c ∷ [])) ys
over_more [] [] c h = absurd (not-suc-le-zero h)
over_more [] (y ∷ ys) c h = refl
over_more (x ∷ xs) [] c h = absurd (not-suc-le-zero h)
over_more (x ∷ xs) (y ∷ ys) c h = ap (λ (l : List ℕ). x ∷ l) (over_more xs ys c (le_of_suc-le-suc h))

-- the cells below c stand at the front of what was old
pub record Listing (t : Tables) (a b : Position) (c count : ℕ) (old now : List ℕ) : Type 0 where
  pub counted : count ≡ count_below c (touches t a b)
  pub written : now ≡ over (select_below c (touches t a b)) old

module _ (t : Tables) (a b : Position) (old : List ℕ) where
  pub listing_none : Listing t a b 0 0 old old
  unfolding count_below select_below select_from
  listing_none = record { counted = refl; written = refl }

  module _ {c count : ℕ} {now : List ℕ} (L : Listing t a b c count old now) where
    pub listing_count : count ≤ c
    listing_count = subst (λ n. n ≤ c) (sym L.counted) (count_le c (touches t a b))

    pub listing_length : c ≤ length old → length now ≡ length old
    listing_length h =
        ap length L.written ∙ (length-append (select_below c (touches t a b)) _ ∙ back (length-drop (length (select_below c (touches t a b))) old) (select_length c (touches t a b)) (count_le c (touches t a b)))
      where
        back : {x y k : ℕ} → x ≡ length old - y → y ≡ k → k ≤ c → y + x ≡ length old
        back e f g = omega arith

    pub listing_more : touches t a b c ≡ true → c < length old → Listing t a b (c + 1) (count + 1) old (set now count c)
    listing_more e h = rw add-one record {
      counted = omega (arith, L.counted, count_yes c (touches t a b) e);
      written = (λ i. set (L.written i) (place i) c) ∙ (over_more (select_below c (touches t a b)) old c (omega (arith, place, listing_count)) ∙ ap (λ l. over l old) (sym (select_yes c (touches t a b) e)));
    }
      where
        place : count ≡ length (select_below c (touches t a b))
        place = L.counted ∙ sym (select_length c (touches t a b))

    pub listing_as : {count' : ℕ} {now' : List ℕ} → count' ≡ count → now' ≡ now → Listing t a b c count' old now'
    listing_as e f = record { counted = e ∙ L.counted; written = f ∙ L.written }

    pub listing_same : touches t a b c ≡ false → Listing t a b (c + 1) count old now
    listing_same e = rw add-one record {
      counted = L.counted ∙ sym (count_no c (touches t a b) e);
      written = L.written ∙ ap (λ l. over l old) (sym (select_no c (touches t a b) e));
    }

    pub listing_ends : {n : ℕ} → c ≡ n → (count ≡ length (segment_cells t n a b)) × (now ≡ over (segment_cells t n a b) old)
    unfolding segment_cells
    listing_ends e = (L.counted ∙ (sym (select_length c (touches t a b)) ∙ ap (λ n. length (select_below n (touches t a b))) e), L.written ∙ ap (λ n. over (select_below n (touches t a b)) old) e)

-- ---- what the call answers

take_front : (xs ys : List ℕ) → take (length xs) (xs ++ ys) ≡ xs
take_front [] ys = refl
take_front (x ∷ xs) ys = ap (λ (l : List ℕ). x ∷ l) (take_front xs ys)

-- all of count are copied
pub copied : (count i : ℕ) (found old : List ℕ) {out : List ℕ} → count ≤ length found → i ≡ count → out ≡ take i found ++ drop i old → out ≡ over (take count found) old
copied count i found old h e f =
    f ∙ (ap (λ i. take i found ++ drop i old) e ∙ ap (λ k. take count found ++ drop k old) (sym (length-take count found ∙ least h)))
  where
    least : {x y : ℕ} → x ≤ y → min x y ≡ x
    least h = omega arith

-- the neighbours do not matter
pub bare_cells : (ps cs ns : List ℕ) (n : ℕ) (a b : Position) → segment_cells (tables ps cs []) n a b ≡ segment_cells (tables ps cs ns) n a b
unfolding segment_cells touches side corner_at corner live freed
bare_cells ps cs ns n a b = refl

pub cells_few : (t : Tables) (n : ℕ) (a b : Position) → length (segment_cells t n a b) ≤ n
unfolding segment_cells
cells_few t n a b = subst (λ k. k ≤ n) (sym (select_length n (touches t a b))) (count_le n (touches t a b))

-- the work area has room for a number a cell
pub work_room : (m : Mesh) (t : Tables) (w : ℕ) → is_mesh m t w ≡ true → m.used ≤ w
unfolding cell_capacity
work_room m t w e = let h = (valid_of m t w e).mesh.cells≤ in omega (arith, h)

module _ (m : Mesh) (t : Tables) (ws : List ℕ) (a b : Position) (out : List ℕ) where
  abbrev w : ℕ
  w = length ws

  abbrev cells : List ℕ
  cells = segment_cells t m.used a b

  abbrev inside_a : Bool
  inside_a = in_box m.x m.y m.z a

  abbrev inside_b : Bool
  inside_b = in_box m.x m.y m.z b

  module _ {ws' : List ℕ} (k : ws' ≡ cleared ws) where
    -- what the code was told of the length
    pub as_lent : {n : ℕ} → n ≡ mesh_refusal m t (length ws') false → n ≡ mesh_refusal m t w false
    as_lent e = e ∙ ap (λ l. mesh_refusal m t l false) (ap length k ∙ length-replicate (length ws) 0)

    pub mesh_refused : {n : ℕ} → n ≡ mesh_refusal m t (length ws') false → n ≢ 0 → SegmentLeaves m t ws a b out (Refused n) ws' out
    unfolding segment_answer segment_output segment_refusal
    mesh_refused {n} e d = record { answer = rw (← as_lent e, ne_eqb n 0 d, ne_eqb n 0 d); output = rw (← as_lent e, ne_eqb n 0 d, ne_eqb n 0 d); work = k }

    module _ (e : mesh_refusal m t w false ≡ 0) where
      pub first_outside : inside_a ≡ false → SegmentLeaves m t ws a b out (Refused 4) ws' out
      unfolding segment_answer segment_output segment_refusal
      first_outside i = record { answer = rw (e, i); output = rw (e, i); work = k }

      pub second_outside : inside_a ≡ true → inside_b ≡ false → SegmentLeaves m t ws a b out (Refused 4) ws' out
      unfolding segment_answer segment_output segment_refusal
      second_outside i j = record { answer = rw (e, i, j); output = rw (e, i, j); work = k }

      module _ (i : inside_a ≡ true) (j : inside_b ≡ true) {found : List ℕ} {count : ℕ} (c : count ≡ length cells) (f : found ≡ over cells ws') where
        -- what is handed on is the list
        front : take count found ≡ cells
        front = (λ ι. take (c ι) (f ι)) ∙ take_front cells _

        pub listed : {r : Counted} {out' ws'' : List ℕ} → r ≡ cond (ltb (length out) count) (Refused 10) (Count count) →
            out' ≡ cond (ltb (length out) count) out (over (take count found) out) → length found ≡ length ws' → ws'' ≡ cleared found → SegmentLeaves m t ws a b out r ws'' out'
        listed p q l z = record {
          answer = p ∙ answers (split (ltb (length out) (length cells)));
          output = q ∙ outputs (split (ltb (length out) (length cells)));
          work = z ∙ (ap (λ n. replicate n 0) (l ∙ (ap length k ∙ length-replicate (length ws) 0)));
        }
          where
            answers : (ltb (length out) (length cells) ≡ true) ⊎ (ltb (length out) (length cells) ≡ false) →
                cond (ltb (length out) count) (Refused 10) (Count count) ≡ segment_answer m t w a b (length out)
            answers (inl g) = ap (λ n. cond (ltb (length out) n) (Refused 10) (Count n)) c ∙ unfold segment_answer segment_refusal in rw (e, i, j, g)
            answers (inr g) = ap (λ n. cond (ltb (length out) n) (Refused 10) (Count n)) c ∙ unfold segment_answer segment_refusal in rw (e, i, j, g)

            outputs : (ltb (length out) (length cells) ≡ true) ⊎ (ltb (length out) (length cells) ≡ false) →
                cond (ltb (length out) count) out (over (take count found) out) ≡ segment_output m t w a b out
            outputs (inl g) = ap₂ (λ n l. cond (ltb (length out) n) out (over l out)) c front ∙ unfold segment_output segment_refusal in rw (e, i, j, g)
            outputs (inr g) = ap₂ (λ n l. cond (ltb (length out) n) out (over l out)) c front ∙ unfold segment_output segment_refusal in rw (e, i, j, g)

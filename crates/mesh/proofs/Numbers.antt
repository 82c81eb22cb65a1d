-- The face test by numbers is the face test: the far side is read off the order of the corner numbers, since both volumes are
-- above 0.
use Prim.Native.Nat.{ℕ, ◌+◌, ◌*◌, ◌-◌, ◌≤◌, ◌<◌}
use mathlib.Core.Bool.{Bool, true, false, not, ◌&&◌, cond, xor, and-true, ◌||◌}
use mathlib.Core.List.{List, []}
use mathlib.Core.Logic.{◌≢◌, ◌⊎◌, inl, inr}
use mathlib.Core.Path.{◌≡◌, refl, sym, ap, ◌∙◌, subst}
use native.Mathlib.Omega.{arith}
use native.Mathlib.Nat.{add-zero}
use borrow.Author.Tests.{eq-eqb, ne_eqb, eqb-true, leb-true, le-leb, ltb-true, lt-leb}
use lib.Dec.{leb, ltb, eqb}
use lib.ListN.{length, get_or}
use lib.IntN.{pos}
use lib.Signed.{◌<ℤ◌, lt_z}
use mir.Val.{bool_byte}
use Rattle.arith.specs.Table.{all_below, any_below}
use Rattle.arith.proofs.Flags.{split, clash, and_left, and_right, and_intro, or_other, bool_ext, below_four, fails}
use Rattle.arith.proofs.Tables.{any_default, all_at, any_found, any_intro, Found}
use Rattle.arith.proofs.Determinant.{odd}
use Rattle.geometry.proofs.Algebra.{volume_cong}
use Rattle.mesh.specs.declared.Cell.{Cell}
use Rattle.mesh.specs.Tables.{Tables, point_in, none, cell_of, opposite, point, corner, across, corner_at, cell_volume, live, IsCell, side, same_face, place_of, tables}
use Rattle.mesh.specs.Mesh.{OnFace, Wall, low_x, low_y, low_z, high_x, high_y, high_z, along, level}
use Rattle.mesh.specs.Check.{mated_ok, wall_ok, some_wall, face_ok}
use Rattle.mesh.specs.Inner.{volume_of_four, four_at, cell_at}
use Rattle.mesh.specs.Inner.Faces.{place_in, odd_order, faces_back, first, second, third, all_on, on_one_wall, face_test, face_numbers}
use Rattle.mesh.proofs.Live.{freed_corner}
use Rattle.mesh.proofs.FaceNumbers.{face_cell, face_opposite}
use Rattle.mesh.proofs.Links.{Same, same_yes, same_of, link, turned, distinct, far_side_turned, place_of_lem}

pub byte≤ : (b : Bool) → bool_byte b ≤ 1
byte≤ true = omega arith
byte≤ false = omega arith

pub place≤ : (b : List ℕ) (v : ℕ) → place_in b v ≤ 8
unfolding place_in
place≤ b v = go (eqb (get_or b 0 0) v) (eqb (get_or b 1 0) v) (eqb (get_or b 2 0) v) (eqb (get_or b 3 0) v)
  where
    go : (p q r s : Bool) → cond p 0 (cond q 1 (cond r 2 (cond s 3 8))) ≤ 8
    go true q r s = omega arith
    go false true r s = omega arith
    go false false true s = omega arith
    go false false false true = omega arith
    go false false false false = omega arith

-- ---- the order of k at place i, and a, b, d at the others

abbrev odd_at : ℕ → ℕ → ℕ → ℕ → ℕ → Bool
odd_at i k a b d = cond (eqb i 0) (odd k a b d) (cond (eqb i 1) (odd a k b d) (cond (eqb i 2) (odd a b k d) (odd a b d k)))

order_test : ℕ → ℕ → ℕ → ℕ → Bool
order_test i a b d =
    (eqb a b || (eqb a d || eqb b d)) ||
    (cond (odd_order i (6 - (a + b + d)) a b d) (odd_at i (6 - (a + b + d)) a b d) (not (odd_at i (6 - (a + b + d)) a b d)))

every_order : all_below 4 (λ i. all_below 4 (λ a. all_below 4 (λ b. all_below 4 (order_test i a b)))) ≡ true
unfolding all_below order_test odd_order xor
every_order = refl

order_is : (i a b d : ℕ) → i < 4 → a < 4 → b < 4 → d < 4 → a ≢ b → a ≢ d → b ≢ d →
    odd_order i (6 - (a + b + d)) a b d ≡ odd_at i (6 - (a + b + d)) a b d
unfolding order_test
order_is i a b d hi ha hb hd ab ad bd =
    agree (odd_order i (6 - (a + b + d)) a b d) (odd_at i (6 - (a + b + d)) a b d)
    (or_other (eqb a b || (eqb a d || eqb b d)) _ (rw (ne_eqb a b ab, ne_eqb a d ad, ne_eqb b d bd))
    (all_at 4 (order_test i a b) (all_at 4 (λ b. all_below 4 (order_test i a b))
    (all_at 4 (λ a. all_below 4 (λ b. all_below 4 (order_test i a b))) (all_at 4 (λ i. all_below 4 (λ a. all_below 4 (λ b. all_below 4 (order_test i a b)))) every_order i hi) a ha)
    b hb) d hd))
  where
    agree : (x y : Bool) → cond x y (not y) ≡ true → x ≡ y
    agree true y e = sym e
    agree false true e = clash refl (sym e)
    agree false false e = refl

-- ---- the three places other than i

pub record Others (i : ℕ) : Type 0 where
  pub first< : first i < 4
  pub second< : second i < 4
  pub third< : third i < 4
  pub first_off : first i ≢ i
  pub second_off : second i ≢ i
  pub third_off : third i ≢ i
  pub one_two : first i ≢ second i
  pub one_three : first i ≢ third i
  pub two_three : second i ≢ third i
  pub all : (k : ℕ) → k < 4 → k ≢ i → (k ≡ first i) ⊎ ((k ≡ second i) ⊎ (k ≡ third i))

pub others : (i : ℕ) → i < 4 → Others i
others = below_four Others
    record {
      first< = omega arith;
      second< = omega arith;
      third< = omega arith;
      first_off = omega arith;
      second_off = omega arith;
      third_off = omega arith;
      one_two = omega arith;
      one_three = omega arith;
      two_three = omega arith;
      all = below_four (λ k. k ≢ 0 → (k ≡ 1) ⊎ ((k ≡ 2) ⊎ (k ≡ 3))) (λ d. absurd (d refl)) (λ d. inl refl) (λ d. inr (inl refl)) (λ d. inr (inr refl));
    }
    record {
      first< = omega arith;
      second< = omega arith;
      third< = omega arith;
      first_off = omega arith;
      second_off = omega arith;
      third_off = omega arith;
      one_two = omega arith;
      one_three = omega arith;
      two_three = omega arith;
      all = below_four (λ k. k ≢ 1 → (k ≡ 0) ⊎ ((k ≡ 2) ⊎ (k ≡ 3))) (λ d. inl refl) (λ d. absurd (d refl)) (λ d. inr (inl refl)) (λ d. inr (inr refl));
    }
    record {
      first< = omega arith;
      second< = omega arith;
      third< = omega arith;
      first_off = omega arith;
      second_off = omega arith;
      third_off = omega arith;
      one_two = omega arith;
      one_three = omega arith;
      two_three = omega arith;
      all = below_four (λ k. k ≢ 2 → (k ≡ 0) ⊎ ((k ≡ 1) ⊎ (k ≡ 3))) (λ d. inl refl) (λ d. inr (inl refl)) (λ d. absurd (d refl)) (λ d. inr (inr refl));
    }
    record {
      first< = omega arith;
      second< = omega arith;
      third< = omega arith;
      first_off = omega arith;
      second_off = omega arith;
      third_off = omega arith;
      one_two = omega arith;
      one_three = omega arith;
      two_three = omega arith;
      all = below_four (λ k. k ≢ 3 → (k ≡ 0) ⊎ ((k ≡ 1) ⊎ (k ≡ 2))) (λ d. inl refl) (λ d. inr (inl refl)) (λ d. inr (inr refl)) (λ d. absurd (d refl));
    }

-- ---- places found in the far cell

pub four_entry : (xs : List ℕ) (u l : ℕ) → l < 4 → get_or (four_at xs u) l 0 ≡ get_or xs (4 * u + l) 0
unfolding four_at
four_entry xs u = below_four (λ l. get_or (four_at xs u) l 0 ≡ get_or xs (4 * u + l) 0) (ap (λ k. get_or xs k 0) (sym (add-zero (4 * u)))) refl refl refl

pub four_corner : (t : Tables) (u l : ℕ) → l < 4 → get_or (four_at t.corners u) l 0 ≡ corner t u l
unfolding corner
four_corner t u = four_entry t.corners u

-- the volume of a cell from its four corner numbers
pub four_volume : (ps cs : List ℕ) (c : ℕ) → volume_of_four ps (four_at cs c) ≡ cell_volume (tables ps cs []) c
unfolding cell_volume corner_at corner
four_volume ps cs c = volume_cong (λ i. point_in ps (get_or (four_at cs c) i 0)) (corner_at (tables ps cs []) c) (λ i h. ap (point_in ps) (four_entry cs c i h))

-- what is not 8 is a place with that number
place_found : (t : Tables) (u v : ℕ) → place_in (four_at t.corners u) v < 8 →
    (place_in (four_at t.corners u) v < 4) × (corner t u (place_in (four_at t.corners u) v) ≡ v)
unfolding place_in
place_found t u v h = go (split (is 0)) (split (is 1)) (split (is 2)) (split (is 3))
  where
    is : ℕ → Bool
    is l = eqb (get_or (four_at t.corners u) l 0) v

    at : (l : ℕ) → l < 4 → is l ≡ true → corner t u l ≡ v
    at l hl e = sym (four_corner t u l hl) ∙ eqb-true _ v e

    go : (is 0 ≡ true) ⊎ (is 0 ≡ false) → (is 1 ≡ true) ⊎ (is 1 ≡ false) → (is 2 ≡ true) ⊎ (is 2 ≡ false) → (is 3 ≡ true) ⊎ (is 3 ≡ false) →
        (place_in (four_at t.corners u) v < 4) × (corner t u (place_in (four_at t.corners u) v) ≡ v)
    go (inl a) b d e = rw a (omega arith, at 0 (omega arith) a)
    go (inr a) (inl b) d e = rw (a, b) (omega arith, at 1 (omega arith) b)
    go (inr a) (inr b) (inl d) e = rw (a, b, d) (omega arith, at 2 (omega arith) d)
    go (inr a) (inr b) (inr d) (inl e) = rw (a, b, d, e) (omega arith, at 3 (omega arith) e)
    go (inr a) (inr b) (inr d) (inr e) = absurd (eight (rw (a, b, d, e) at h))
      where
        eight : 8 < 8 → ⊥
        eight q = omega arith

-- and a number that stands at a place is found there
place_at : (t : Tables) (u : ℕ) → pos 0 <ℤ cell_volume t u → (l : ℕ) → l < 4 → place_in (four_at t.corners u) (corner t u l) ≡ l
unfolding place_in
place_at t u pu =
    below_four (λ l. place_in (four_at t.corners u) (corner t u l) ≡ l)
    (rw (own 0 (omega arith)))
    (rw (apart 0 1 (omega arith) (omega arith) (omega arith), own 1 (omega arith)))
    (rw (apart 0 2 (omega arith) (omega arith) (omega arith), apart 1 2 (omega arith) (omega arith) (omega arith), own 2 (omega arith)))
    (rw (
      apart 0 3 (omega arith) (omega arith) (omega arith),
      apart 1 3 (omega arith) (omega arith) (omega arith),
      apart 2 3 (omega arith) (omega arith) (omega arith),
      own 3 (omega arith),
    ))
  where
    own : (l : ℕ) → l < 4 → eqb (get_or (four_at t.corners u) l 0) (corner t u l) ≡ true
    own l h = eq-eqb _ _ (four_corner t u l h)

    apart : (k l : ℕ) → k < 4 → l < 4 → k ≢ l → eqb (get_or (four_at t.corners u) k 0) (corner t u l) ≡ false
    apart k l hk hl d = ne_eqb _ _ (λ e. d (distinct t u pu k l hk hl (sym (four_corner t u k hk) ∙ e)))

-- the four values of L, by place i and the other three
order_at : (i : ℕ) → i < 4 → (L : ℕ → ℕ) (k a b d : ℕ) → L i ≡ k → L (first i) ≡ a → L (second i) ≡ b → L (third i) ≡ d →
    odd (L 0) (L 1) (L 2) (L 3) ≡ odd_at i k a b d
order_at =
    below_four (λ i. (L : ℕ → ℕ) (k a b d : ℕ) → L i ≡ k → L (first i) ≡ a → L (second i) ≡ b → L (third i) ≡ d →
    odd (L 0) (L 1) (L 2) (L 3) ≡ odd_at i k a b d)
    (λ L k a b d x y z w. rw (x, y, z, w))
    (λ L k a b d x y z w. rw (y, x, z, w))
    (λ L k a b d x y z w. rw (y, z, x, w))
    (λ L k a b d x y z w. rw (y, z, w, x))

-- ---- face i of cell c against the cell u

module _ (t : Tables) (c u i : ℕ) (hi : i < 4) (pc : pos 0 <ℤ cell_volume t c) (pu : pos 0 <ℤ cell_volume t u) where
  abbrev O : Others i
  O = others i hi

  abbrev f : ℕ
  f = 4 * c + i

  abbrev p : ℕ
  p = corner t c (first i)

  abbrev q : ℕ
  q = corner t c (second i)

  abbrev r : ℕ
  r = corner t c (third i)

  abbrev far : List ℕ
  far = four_at t.corners u

  -- where the three corners of the face stand in u, and the place that is left
  record Places (k : ℕ) : Type 0 where
    at_p : ℕ
    at_q : ℕ
    at_r : ℕ
    k< : k < 4
    p< : at_p < 4
    q< : at_q < 4
    r< : at_r < 4
    p_is : corner t u at_p ≡ p
    q_is : corner t u at_q ≡ q
    r_is : corner t u at_r ≡ r
    p_off : at_p ≢ k
    q_off : at_q ≢ k
    r_off : at_r ≢ k

  differ : (a b x y : ℕ) → a < 4 → b < 4 → x < 4 → y < 4 → corner t u a ≡ corner t c x → corner t u b ≡ corner t c y → x ≢ y → a ≢ b
  differ a b x y ha hb hx hy ea eb d e = d (distinct t c pc x y hx hy (sym ea ∙ (ap (corner t u) e ∙ eb)))

  module _ (k : ℕ) (P : Places k) where
    abbrev g : ℕ
    g = 4 * u + k

    cell_g : cell_of g ≡ u
    cell_g = face_cell u k P.k<

    opp_g : opposite g ≡ k
    opp_g = face_opposite u k P.k<

    cell_f : cell_of f ≡ c
    cell_f = face_cell c i hi

    opp_f : opposite f ≡ i
    opp_f = face_opposite c i hi

    pq : P.at_p ≢ P.at_q
    pq = differ P.at_p P.at_q (first i) (second i) P.p< P.q< O.first< O.second< P.p_is P.q_is O.one_two

    pr : P.at_p ≢ P.at_r
    pr = differ P.at_p P.at_r (first i) (third i) P.p< P.r< O.first< O.third< P.p_is P.r_is O.one_three

    qr : P.at_q ≢ P.at_r
    qr = differ P.at_q P.at_r (second i) (third i) P.q< P.r< O.second< O.third< P.q_is P.r_is O.two_three

    -- four different places add up to 6
    left : (a b d k : ℕ) → a < 4 → b < 4 → d < 4 → k < 4 → a ≢ b → a ≢ d → b ≢ d → a ≢ k → b ≢ k → d ≢ k → a + b + d + k ≡ 6
    left a b d k ha hb hd hk ab ad bd ak bk dk = omega arith

    sums : P.at_p + P.at_q + P.at_r + k ≡ 6
    sums = left P.at_p P.at_q P.at_r k P.p< P.q< P.r< P.k< pq pr qr P.p_off P.q_off P.r_off

    on_face : (j l : ℕ) → l < 4 → l ≢ k → corner t u l ≡ corner t c j → OnFace t g (corner t (cell_of f) j)
    on_face j l hl d e =
        record {
          place = l;
          place< = hl;
          off = λ h. d (h ∙ opp_g);
          is = ap (λ x. corner t x l) cell_g ∙ (e ∙ ap (λ x. corner t x j) (sym cell_f));
        }

    same : Same t f g
    same j hj d = go (O.all j hj (λ e. d (e ∙ sym opp_f)))
      where
        go : (j ≡ first i) ⊎ ((j ≡ second i) ⊎ (j ≡ third i)) → OnFace t g (corner t (cell_of f) j)
        go (inl e) = on_face j P.at_p P.p< P.p_off (P.p_is ∙ ap (corner t c) (sym e))
        go (inr (inl e)) = on_face j P.at_q P.q< P.q_off (P.q_is ∙ ap (corner t c) (sym e))
        go (inr (inr e)) = on_face j P.at_r P.r< P.r_off (P.r_is ∙ ap (corner t c) (sym e))

    link_own : link t f g i ≡ k
    unfolding link
    link_own = rw (eq-eqb i (opposite f) (sym opp_f)) opp_g

    link_to : (j l : ℕ) → j ≢ i → l < 4 → corner t u l ≡ corner t c j → link t f g j ≡ l
    unfolding link
    link_to j l d hl e =
        rw (ne_eqb j (opposite f) (λ h. d (h ∙ opp_f)))
        (ap (place_of (corner t) (cell_of g)) (ap (λ x. corner t x j) cell_f ∙ sym e) ∙ (ap (λ x. place_of (corner t) x (corner t u l)) cell_g ∙ place_of_lem t u pu l hl))

    own_f : pos 0 <ℤ cell_volume t (cell_of f)
    own_f = rw cell_f pc

    own_g : pos 0 <ℤ cell_volume t (cell_of g)
    own_g = rw cell_g pu

    far_side_is : lt_z (side t (corner_at t (cell_of g) (opposite g)) f) (pos 0) ≡ odd_order i k P.at_p P.at_q P.at_r
    unfolding turned
    far_side_is =
        far_side_turned t f g own_f own_g same ∙
        (order_at i hi (link t f g) k P.at_p P.at_q P.at_r link_own
        (link_to (first i) P.at_p O.first_off P.p< P.p_is) (link_to (second i) P.at_q O.second_off P.q< P.q_is)
        (link_to (third i) P.at_r O.third_off P.r< P.r_is) ∙
        sym (subst (λ m. odd_order i m P.at_p P.at_q P.at_r ≡ odd_at i m P.at_p P.at_q P.at_r) rest
        (order_is i P.at_p P.at_q P.at_r hi P.p< P.q< P.r< pq pr qr)))
      where
        rest : 6 - (P.at_p + P.at_q + P.at_r) ≡ k
        rest = omega (arith, sums)

    -- so the face test there is one of numbers
    mated_is : mated_ok t f g ≡ (eqb (across t g) c && odd_order i k P.at_p P.at_q P.at_r)
    unfolding mated_ok
    mated_is = rw (same_yes t f g same, far_side_is, cell_f)

  -- places from a face of u with the same corners
  places_of : (k : ℕ) → k < 4 → Same t f (4 * u + k) → Places k
  places_of k hk same =
      let a = on (first i) O.first< O.first_off in
      let b = on (second i) O.second< O.second_off in
      let d = on (third i) O.third< O.third_off in
      record {
        at_p = a.0;
        at_q = b.0;
        at_r = d.0;
        k< = hk;
        p< = a.1;
        q< = b.1;
        r< = d.1;
        p_is = a.3;
        q_is = b.3;
        r_is = d.3;
        p_off = a.2;
        q_off = b.2;
        r_off = d.2;
      }
    where
      on : (j : ℕ) → j < 4 → j ≢ i → (l : ℕ) × (l < 4) × (l ≢ k) × (corner t u l ≡ corner t c j)
      on j hj d =
          let o = same j hj (λ e. d (e ∙ face_opposite c i hi)) in (
            o.place,
            o.place<,
            (λ e. o.off (e ∙ sym (face_opposite u k hk))),
            ap (λ x. corner t x o.place) (sym (face_cell u k hk)) ∙ (o.is ∙ ap (λ x. corner t x j) (face_cell c i hi)),
          )

  -- places from a sum that leaves one
  rest_off : (a b d : ℕ) → a < 4 → b < 4 → d < 4 → a ≢ b → a ≢ d → b ≢ d →
      (6 - (a + b + d) < 4) × (a ≢ 6 - (a + b + d)) × (b ≢ 6 - (a + b + d)) × (d ≢ 6 - (a + b + d))
  rest_off a b d ha hb hd ab ad bd = omega arith

  places_from : place_in far p + place_in far q + place_in far r ≤ 6 → Places (6 - (place_in far p + place_in far q + place_in far r))
  places_from h =
      let a = place_found t u p (omega arith) in
      let b = place_found t u q (omega arith) in
      let d = place_found t u r (omega arith) in
      let o =
      rest_off (place_in far p) (place_in far q) (place_in far r) a.0 b.0 d.0
      (differ (place_in far p) (place_in far q) (first i) (second i) a.0 b.0 O.first< O.second< a.1 b.1 O.one_two)
      (differ (place_in far p) (place_in far r) (first i) (third i) a.0 d.0 O.first< O.third< a.1 d.1 O.one_three)
      (differ (place_in far q) (place_in far r) (second i) (third i) b.0 d.0 O.second< O.third< b.1 d.1 O.two_three) in
      record {
        at_p = place_in far p;
        at_q = place_in far q;
        at_r = place_in far r;
        k< = o.0;
        p< = a.0;
        q< = b.0;
        r< = d.0;
        p_is = a.1;
        q_is = b.1;
        r_is = d.1;
        p_off = o.1;
        q_off = o.2;
        r_off = o.3;
      }

  module _ (room : 4 * u + 4 ≤ length t.neighbours) where
    back_is : (k : ℕ) → k < 4 → get_or (four_at t.neighbours u) k 0 ≡ across t (4 * u + k)
    unfolding four_at across
    back_is k hk = four_entry t.neighbours u k hk ∙ any_default t.neighbours (4 * u + k) 0 none (omega arith)

    abbrev sum : ℕ
    sum = place_in far p + place_in far q + place_in far r

    forth : faces_back c i p q r (cell_at t.corners t.neighbours u) ≡ true → any_below 4 (λ k. mated_ok t f (4 * u + k)) ≡ true
    unfolding faces_back cell_at places_from
    forth e =
        let low = and_left (leb 3 sum) _ e in
        let e₁ = and_right (leb 3 sum) _ e in
        let e₂ = and_right (leb sum 6) _ e₁ in
        let P = places_from (leb-true sum 6 (and_left (leb sum 6) _ e₁)) in
        let k = 6 - sum in
        any_intro 4 (λ k. mated_ok t f (4 * u + k)) k P.k<
        (mated_is k P ∙ and_intro (ap (λ x. eqb x c) (sym (back_is k P.k<)) ∙ and_left (eqb (get_or (four_at t.neighbours u) k 0) c) _ e₂)
        (and_right (eqb (get_or (four_at t.neighbours u) k 0) c) _ e₂))

    back_at : (k : ℕ) → k < 4 → mated_ok t f (4 * u + k) ≡ true → faces_back c i p q r (cell_at t.corners t.neighbours u) ≡ true
    unfolding faces_back cell_at mated_ok
    back_at k hk m =
        let P = places_of k hk (same_of t f (4 * u + k) (and_left (same_face t f (4 * u + k)) _ m)) in
        let e = sym (mated_is k P) ∙ m in
        let s = P.at_p + P.at_q + P.at_r in
        let rest : 6 - s ≡ k = omega (arith, sums k P) in
        rw (placed P.at_p P.p< P.p_is, placed P.at_q P.q< P.q_is, placed P.at_r P.r< P.r_is)
        (and_intro (le-leb 3 s (omega (arith, sums k P))) (and_intro (le-leb s 6 (omega (arith, sums k P)))
        (rw rest (and_intro (ap (λ x. eqb x c) (back_is k hk) ∙ and_left (eqb (across t (4 * u + k)) c) _ e) (and_right (eqb (across t (4 * u + k)) c) _ e)))))
      where
        placed : {v : ℕ} (l : ℕ) → l < 4 → corner t u l ≡ v → place_in far v ≡ l
        placed l hl e = ap (place_in far) (sym e) ∙ place_at t u pu l hl

    pub faces_back_is : faces_back c i p q r (cell_at t.corners t.neighbours u) ≡ any_below 4 (λ k. mated_ok t f (4 * u + k))
    faces_back_is =
        bool_ext (faces_back c i p q r (cell_at t.corners t.neighbours u)) (any_below 4 (λ k. mated_ok t f (4 * u + k))) forth
        (λ e. let o = any_found 4 (λ k. mated_ok t f (4 * u + k)) e in back_at o.at o.below o.passes)

-- ---- walls

abbrev wall_at : ℕ → ℕ → ℕ → Tables → ℕ → ℕ → Wall → Bool
wall_at X Y Z t c i w = all_below 4 (λ k. eqb k i || eqb (along w (corner_at t c k)) (level X Y Z w))

wall_at_lem : (X Y Z : ℕ) (t : Tables) (c i : ℕ) → i < 4 → (w : Wall) → wall_ok X Y Z t (4 * c + i) w ≡ wall_at X Y Z t c i w
unfolding wall_ok
wall_at_lem X Y Z t c i hi w =
    λ ι. all_below 4 (λ k. eqb k (face_opposite c i hi ι) || eqb (along w (corner_at t (face_cell c i hi ι) k)) (level X Y Z w))

wall_three : (X Y Z : ℕ) (t : Tables) (c i : ℕ) → i < 4 → (w : Wall) →
    wall_at X Y Z t c i w ≡ all_on X Y Z w (corner_at t c (first i)) (corner_at t c (second i)) (corner_at t c (third i))
unfolding all_below
wall_three X Y Z t c i hi w =
    below_four (λ i. wall_at X Y Z t c i w ≡ all_on X Y Z w (corner_at t c (first i)) (corner_at t c (second i)) (corner_at t c (third i)))
    (ap (λ x. on 3 && (on 2 && x)) (and-true (on 1)))
    (ap (λ x. on 3 && (on 2 && x)) (and-true (on 0)))
    (ap (λ x. on 3 && (on 1 && x)) (and-true (on 0)))
    (ap (λ x. on 2 && (on 1 && x)) (and-true (on 0)))
    i hi
  where
    on : ℕ → Bool
    on k = eqb (along w (corner_at t c k)) (level X Y Z w)

walls_are : (X Y Z : ℕ) (t : Tables) (c i : ℕ) → i < 4 →
    on_one_wall X Y Z (point t (corner t c (first i))) (point t (corner t c (second i))) (point t (corner t c (third i))) ≡ some_wall X Y Z t (4 * c + i)
unfolding on_one_wall some_wall corner_at
walls_are X Y Z t c i hi =
    rw (each low_x, each low_y, each low_z, each high_x, each high_y, each high_z)
  where
    each : (w : Wall) → wall_ok X Y Z t (4 * c + i) w ≡ all_on X Y Z w (point t (corner t c (first i))) (point t (corner t c (second i))) (point t (corner t c (third i)))
    each w = wall_at_lem X Y Z t c i hi w ∙ wall_three X Y Z t c i hi w

-- a freed entry has no face of a cell
freed_place : (t : Tables) (u v : ℕ) → live t u ≡ false → v ≢ none → place_in (four_at t.corners u) v ≡ 8
unfolding place_in
freed_place t u v a d = rw (off 0 (omega arith), off 1 (omega arith), off 2 (omega arith), off 3 (omega arith))
  where
    off : (k : ℕ) → k < 4 → eqb (get_or (four_at t.corners u) k 0) v ≡ false
    off k h = ne_eqb (get_or (four_at t.corners u) k 0) v (λ e. d (sym (sym (four_corner t u k h ∙ freed_corner t u a k h) ∙ e)))

freed_faces_back : (t : Tables) (c u i p q r : ℕ) → live t u ≡ false → p ≢ none → faces_back c i p q r (cell_at t.corners t.neighbours u) ≡ false
unfolding faces_back cell_at
freed_faces_back t c u i p q r a d =
    rw (freed_place t u p a d, lt-leb (8 + place_in (four_at t.corners u) q + place_in (four_at t.corners u) r) 6 (omega arith)) (off (leb 3 (8 + place_in (four_at t.corners u) q + place_in (four_at t.corners u) r)))
  where
    off : (x : Bool) → (x && false) ≡ false
    off true = refl
    off false = refl

no_face_of_freed : (t : Tables) (c u i : ℕ) → i < 4 → corner t c (first i) ≢ none → live t u ≡ false →
    faces_back c i (corner t c (first i)) (corner t c (second i)) (corner t c (third i)) (cell_at t.corners t.neighbours u) ≡ any_below 4 (λ k. mated_ok t (4 * c + i) (4 * u + k))
unfolding mated_ok
no_face_of_freed t c u i hi d a =
    freed_faces_back t c u i (corner t c (first i)) (corner t c (second i)) (corner t c (third i)) a d ∙
    sym (fails (any_below 4 (λ k. mated_ok t (4 * c + i) (4 * u + k))) (λ e. go (any_found 4 (λ k. mated_ok t (4 * c + i) (4 * u + k)) e)))
  where
    go : Found 4 (λ k. mated_ok t (4 * c + i) (4 * u + k)) → ⊥
    go w = by (same_of t (4 * c + i) (4 * u + w.at) (and_left (same_face t (4 * c + i) (4 * u + w.at)) _ w.passes) (first i) (others i hi).first< (λ e. (others i hi).first_off (e ∙ face_opposite c i hi)))
      where
        by : OnFace t (4 * u + w.at) (corner t (cell_of (4 * c + i)) (first i)) → ⊥
        by o =
            d (ap (λ x. corner t x (first i)) (sym (face_cell c i hi)) ∙ (sym o.is ∙
            (ap (λ x. corner t x o.place) (face_cell u w.at w.below) ∙ freed_corner t u a o.place o.place<)))

-- ---- every face

pub face_numbers_is : (X Y Z : ℕ) (t : Tables) (n : ℕ) → ((c : ℕ) → IsCell t n c → pos 0 <ℤ cell_volume t c) → ((c i : ℕ) → IsCell t n c → i < 4 → corner t c i ≢ none) → 4 * n ≤ length t.neighbours →
    (c i : ℕ) → IsCell t n c → i < 4 → face_numbers X Y Z t n c i ≡ face_ok X Y Z t n (4 * c + i)
unfolding face_numbers face_test face_ok
face_numbers_is X Y Z t n positive small room c i hc hi = go (split (eqb (across t (4 * c + i)) none)) (split (ltb (across t (4 * c + i)) n))
  where
    u : ℕ
    u = across t (4 * c + i)

    go : (eqb u none ≡ true) ⊎ (eqb u none ≡ false) → (ltb u n ≡ true) ⊎ (ltb u n ≡ false) → face_numbers X Y Z t n c i ≡ face_ok X Y Z t n (4 * c + i)
    go (inl e) l = rw e (walls_are X Y Z t c i hi)
    go (inr e) (inr l) = rw (e, l)
    go (inr e) (inl l) = rw (e, l) (by (split (live t u)))
      where
        by : (live t u ≡ true) ⊎ (live t u ≡ false) →
            faces_back c i (corner t c (first i)) (corner t c (second i)) (corner t c (third i)) (cell_at t.corners t.neighbours u) ≡ any_below 4 (λ k. mated_ok t (4 * c + i) (4 * u + k))
        by (inl a) = faces_back_is t c u i hi (positive c hc) (positive u record { below = ltb-true u n l; lives = a }) (omega (arith, ltb-true u n l))
        by (inr a) = no_face_of_freed t c u i hi (small c (first i) hc (others i hi).first<) a

-- face i of a cell that was loaded
pub loaded_face : (X Y Z : ℕ) (t : Tables) (n c : ℕ) → 4 * c + 4 ≤ length t.neighbours → {cell : Cell} → cell ≡ cell_at t.corners t.neighbours c →
    (i : ℕ) → i < 4 →
    face_test X Y Z t n c i (get_or cell.corners (first i) 0) (get_or cell.corners (second i) 0) (get_or cell.corners (third i) 0) (get_or cell.neighbours i 0) ≡
    face_numbers X Y Z t n c i
unfolding face_numbers cell_at across
loaded_face X Y Z t n c room {cell} e i hi =
    rw (
      e,
      four_corner t c (first i) (others i hi).first<,
      four_corner t c (second i) (others i hi).second<,
      four_corner t c (third i) (others i hi).third<,
      four_entry t.neighbours c i hi,
      any_default t.neighbours (4 * c + i) 0 none (omega arith),
    )

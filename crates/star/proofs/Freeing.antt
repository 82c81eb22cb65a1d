-- An insertion keeps the chain right: the taken numbers leave it, the cavity's join it.
use Prim.Native.Nat.{ℕ, zero, suc, ◌+◌, ◌*◌, ◌-◌, ◌≤◌, ◌<◌}
use mathlib.Core.Bool.{Bool, true, false, cond}
use mathlib.Core.List.{List, ◌∷◌}
use mathlib.Core.Logic.{◌≢◌, ◌⊎◌, inl, inr}
use mathlib.Core.Path.{◌≡◌, refl, sym, ap, ◌∙◌, subst}
use native.Mathlib.Omega.{arith}
use native.Mathlib.Decide.{ℕ_discrete, dec_lt}
use native.Mathlib.Nat.{add-zero}
use borrow.Author.Tests.{ne_eqb}
use lib.ListN.{length, get_or, drop, length-drop}
use lib.Seq.{get_or-drop}
use Rattle.arith.specs.Table.{count_below}
use Rattle.arith.proofs.Flags.{split, clash, fails}
use Rattle.arith.proofs.Tables.{any_default}
use Rattle.arith.proofs.Counting.{Picked}
use Rattle.geometry.specs.declared.Position.{Position}
use Rattle.mesh.specs.Tables.{Tables, none, opposite, corner, across, live}
use Rattle.mesh.specs.Chain.{Chain, end, link, Chained}
use Rattle.mesh.proofs.Live.{live_of, freed_of, live_same}
use Rattle.mesh.proofs.FaceNumbers.{opposite<}
use Rattle.mesh.proofs.Chains.{chain_once}
use Rattle.cavity.specs.Cavity.{in_set, visible}
use Rattle.star.specs.Star.{made_count, made_faces, slot, used_after, head_of, highest_below, chain_left, chain_after, star}
use Rattle.star.proofs.Numbered.{made_apex}
use Rattle.star.proofs.Star.{Fits, Taken, taken, on_chain, at_end, slot_cases, slot_end, freed_corners, freed_across_lem, same_corner, same_across, face_of, visible_face, is_star}

-- ---- lists

-- the chain after, as a list: the cells of s below c, falling, then what is left
unfoldable pub falling : List Bool → List ℕ → ℕ → List ℕ
falling s rest zero = rest
falling s rest (suc c) = cond (in_set s c) (c ∷ falling s rest c) (falling s rest c)

chain_rest : {t : Tables} {h : ℕ} {l : List ℕ} → Chain t h l → (k : ℕ) → Chain t (head_of (drop k l)) (drop k l)
chain_rest end zero = end
chain_rest end (suc k) = end
chain_rest (link d q) zero = link d q
chain_rest (link d q) (suc k) = chain_rest q k

-- the same links
chain_same : {t t' : Tables} {h : ℕ} {l : List ℕ} → Chain t h l → ((k : ℕ) → k < length l → across t' (4 * get_or l k 0) ≡ across t (4 * get_or l k 0)) → Chain t' h l
chain_same end e = end
chain_same {t' = t'} (link {c = c} {l = l} d q) e = link d (subst (λ h. Chain t' h l) (sym (e 0 (omega arith))) (chain_same q (λ k h. e (suc k) (omega arith))))

module _ (s : List Bool) (rest : List ℕ) where
  falling_yes : (c : ℕ) → in_set s c ≡ true → falling s rest (suc c) ≡ c ∷ falling s rest c
  unfolding falling
  falling_yes c e = rw e

  falling_no : (c : ℕ) → in_set s c ≡ false → falling s rest (suc c) ≡ falling s rest c
  unfolding falling
  falling_no c e = rw e

  -- what holds of the rest and of the set holds of all
  each_falling : (Q : ℕ → Type 0) → ((k : ℕ) → k < length rest → Q (get_or rest k 0)) → ((c : ℕ) → in_set s c ≡ true → Q c) →
      (c k : ℕ) → k < length (falling s rest c) → Q (get_or (falling s rest c) k 0)
  unfolding falling
  each_falling Q old new zero k h = old k h
  each_falling Q old new (suc c) k h = go (split (in_set s c)) (each_falling Q old new c) k h
    where
      go : (in_set s c ≡ true) ⊎ (in_set s c ≡ false) → ((k : ℕ) → k < length (falling s rest c) → Q (get_or (falling s rest c) k 0)) →
          (k : ℕ) → k < length (falling s rest (suc c)) → Q (get_or (falling s rest (suc c)) k 0)
      go (inl e) ih zero h = rw (falling_yes c e) (new c e)
      go (inl e) ih (suc k) h = rw (falling_yes c e) (ih k (omega (arith, ap length (falling_yes c e))))
      go (inr e) ih k h = rw (falling_no c e) (ih k (omega (arith, ap length (falling_no c e))))

  -- x is on the list l
  abbrev On : List ℕ → ℕ → Type 0
  On l x = (k : ℕ) × (k < length l) × (get_or l k 0 ≡ x)

  grows : (c x : ℕ) → On (falling s rest c) x → On (falling s rest (suc c)) x
  grows c x (k, h, q) = go (split (in_set s c))
    where
      go : (in_set s c ≡ true) ⊎ (in_set s c ≡ false) → On (falling s rest (suc c)) x
      go (inl e) = rw (falling_yes c e) (suc k, omega arith, q)
      go (inr e) = rw (falling_no c e) (k, h, q)

  rest_on : (x : ℕ) → On rest x → (c : ℕ) → On (falling s rest c) x
  unfolding falling
  rest_on x o zero = o
  rest_on x o (suc c) = grows c x (rest_on x o c)

  set_on : (x : ℕ) → in_set s x ≡ true → (c : ℕ) → x < c → On (falling s rest c) x
  set_on x e zero h = absurd (omega arith)
  set_on x e (suc c) h = go (ℕ_discrete x c) (λ l. set_on x e c l)
    where
      go : Dec (x ≡ c) → (x < c → On (falling s rest c) x) → On (falling s rest (suc c)) x
      go (yes q) ih = rw (falling_yes c (ap (in_set s) (sym q) ∙ e)) (0, omega arith, sym q)
      go (no d) ih = grows c x (ih (omega arith))

-- ---- the chain

module _ {pc cc np n h : ℕ} {t : Tables} {p : Position} {s : List Bool} {ch : List ℕ} (P : Fits pc cc np n t p s ch) (C : Chained t n h ch) where
  abbrev m : ℕ
  m = made_count t n p s

  abbrev n' : ℕ
  n' = used_after ch n (made_count t n p s)

  abbrev t' : Tables
  t' = star ch t n p np s

  abbrev rest : List ℕ
  rest = chain_left ch t n p s

  used≥ : n ≤ n'
  unfolding used_after
  used≥ = omega arith

  few : n ≤ 4096
  few = omega (arith, P.used≤, used≥, P.room.cells≤)

  -- a freed entry that is not taken
  module _ (k : ℕ) (k≥ : m ≤ k) (k< : k < length ch) where
    e : ℕ
    e = get_or ch k 0

    e< : e < n
    unfolding e
    e< = C.spare.below k k<

    e_dead : live t e ≡ false
    unfolding e
    e_dead = C.spare.dead k k<

    e_out : in_set s e ≡ false
    e_out = fails (in_set s e) (λ q. clash (P.cells e q).lives e_dead)

    e_off : (r : ℕ) → r < m → slot ch n r ≢ e
    unfolding e
    e_off r l q = go (taken C.spare r)
      where
        go : Taken C.spare r → ⊥
        go (on_chain a b) = omega (arith, C.spare.once r k a k< (sym b ∙ q))
        go (at_end a b) = omega (arith, C.spare.below k k<)

    pub left_across : (i : ℕ) → i < 4 → across t' (4 * get_or ch k 0 + i) ≡ across t (4 * get_or ch k 0 + i)
    unfolding e across
    left_across i l =
        same_across P e i (omega (arith, e<, used≥, P.used≤)) l e_dead e_out e_off ∙
        any_default t.neighbours (4 * e + i) 0 none (omega (arith, e<, used≥, P.used≤, P.room.neighbours_fit))

    pub left_dead : live t' (get_or ch k 0) ≡ false
    unfolding e
    left_dead = live_same t' t e e (λ i l. same_corner P e i (omega (arith, e<, used≥, P.used≤)) l e_out e_off) ∙ e_dead

  rest_at : (k : ℕ) → k < length rest → (m + k < length ch) × (get_or rest k 0 ≡ get_or ch (m + k) 0)
  rest_at k l = (omega (arith, length-drop m ch), get_or-drop m ch k 0)

  rest_chain : Chain t' (head_of rest) rest
  rest_chain = chain_same (chain_rest C.path m) (λ k l. go k l (rest_at k l))
    where
      go : (k : ℕ) → k < length rest → (m + k < length ch) × (get_or rest k 0 ≡ get_or ch (m + k) 0) → across t' (4 * get_or rest k 0) ≡ across t (4 * get_or rest k 0)
      go k l (a, q) =
          subst (λ x. across t' (4 * x) ≡ across t (4 * x)) (sym q)
          (subst (λ y. across t' y ≡ across t y) (add-zero (4 * get_or ch (m + k) 0)) (left_across (m + k) (omega arith) a 0 (omega arith)))

  chain_to : (c : ℕ) → Chain t' (highest_below s (head_of rest) c) (falling s rest c)
  unfolding highest_below falling
  chain_to zero = rest_chain
  chain_to (suc c) = go (split (in_set s c)) (chain_to c)
    where
      go : (in_set s c ≡ true) ⊎ (in_set s c ≡ false) → Chain t' (highest_below s (head_of rest) c) (falling s rest c) →
          Chain t' (cond (in_set s c) c (highest_below s (head_of rest) c)) (cond (in_set s c) (c ∷ falling s rest c) (falling s rest c))
      go (inl q) ih =
          rw q (link {c = c} (omega (arith, (P.cells c q).below, few))
          (subst (λ x. Chain t' x (falling s rest c)) (sym (ap (across t') (sym (add-zero (4 * c))) ∙ freed_across_lem P c 0 q (omega arith))) ih))
      go (inr q) ih = rw q ih

  -- where a freed entry comes from
  data Cause (c : ℕ) : Type 0 where
    cavity : in_set s c ≡ true → Cause c
    before : (k : ℕ) → m ≤ k → k < length ch → get_or ch k 0 ≡ c → Cause c

  cause : (c : ℕ) → c < n' → live t' c ≡ false → Cause c
  cause c l d = go (split (in_set s c)) (slot_cases C.spare c m)
    where
      go : (in_set s c ≡ true) ⊎ (in_set s c ≡ false) → ((r : ℕ) × (r < m) × (slot ch n r ≡ c)) ⊎ ((r : ℕ) → r < m → slot ch n r ≢ c) → Cause c
      go (inl q) z = cavity q
      go (inr q) (inl (r, a, b)) = new (face_of P r a)
        where
          new : Picked (4 * n) (visible t p s) r (get_or (made_faces t n p s) r 0) → Cause c
          new w =
              let f = get_or (made_faces t n p s) r 0 in
              let x : slot ch n (count_below f (visible t p s)) ≡ c = ap (slot ch n) w.counted ∙ b in
              clash (live_of t' c (opposite f) (opposite< f)
              (λ z. absurd (omega (arith, ap (λ y. corner t' y (opposite f)) x ∙ z, made_apex (is_star P) f (visible_face P f w.passes) w.passes (opposite f) (opposite< f) refl, P.next, P.room.points≤)))) d
      go (inr q) (inr off) = old (dec_lt c n)
        where
          old : Dec (c < n) → Cause c
          old (no a) = absurd (past (slot_end C.spare c m (omega arith) l))
            where
              past : (r : ℕ) × (r < m) × (slot ch n r ≡ c) → ⊥
              past (r, x, y) = off r x y
          old (yes a) = at (C.all c a (sym (live_same t' t c c (λ i b. same_corner P c i (omega (arith, l, P.used≤)) b q off)) ∙ d))
            where
              at : (k : ℕ) × (k < length ch) × (get_or ch k 0 ≡ c) → Cause c
              at (k, x, y) = by (dec_lt k m)
                where
                  by : Dec (k < m) → Cause c
                  by (no z) = before k (omega arith) x y
                  by (yes z) = absurd (off k z (taken_is (taken C.spare k)))
                    where
                      taken_is : Taken C.spare k → slot ch n k ≡ c
                      taken_is (on_chain u v) = v ∙ y
                      taken_is (at_end u v) = absurd (omega arith)

  -- THE LAW: the chain after is right
  pub chained_after : Chained (star ch t n p np s) (used_after ch n (made_count t n p s)) (chain_after ch t n p s) (falling s (chain_left ch t n p s) n)
  unfolding chain_after
  chained_after = record {
    path = chain_to n;
    spare = record {
      below = each_falling s rest (λ c. c < n') (λ k l. old_below k (rest_at k l)) (λ c q. omega (arith, (P.cells c q).below, used≥)) n;
      dead = each_falling s rest (λ c. live t' c ≡ false) (λ k l. old_dead k (rest_at k l)) (λ c q. freed_of t' c (λ i l. freed_corners P c i q l)) n;
      once = chain_once (chain_to n);
    };
    all = λ c l d. on c (cause c l d);
    bare = λ c i l d a b. bare c i a b (cause c l d);
  }
    where
      old_below : (k : ℕ) → (m + k < length ch) × (get_or rest k 0 ≡ get_or ch (m + k) 0) → get_or rest k 0 < n'
      old_below k (a, q) = omega (arith, C.spare.below (m + k) a, used≥)

      old_dead : (k : ℕ) → (m + k < length ch) × (get_or rest k 0 ≡ get_or ch (m + k) 0) → live t' (get_or rest k 0) ≡ false
      old_dead k (a, q) = ap (live t') q ∙ left_dead (m + k) (omega arith) a

      on : (c : ℕ) → Cause c → (k : ℕ) × (k < length (falling s rest n)) × (get_or (falling s rest n) k 0 ≡ c)
      on c (cavity q) = set_on s rest c q n (P.cells c q).below
      on c (before k a b q) =
          rest_on s rest c
          (k - m, omega (arith, length-drop m ch), (rest_at (k - m) (omega (arith, length-drop m ch))).1 ∙ (ap (λ j. get_or ch j 0) (omega arith) ∙ q)) n

      bare : (c i : ℕ) → 0 < i → i < 4 → Cause c → across t' (4 * c + i) ≡ none
      bare c i a b (cavity q) = freed_across_lem P c i q b ∙ rw (ne_eqb i 0 (omega arith))
      bare c i a b (before k x y q) =
          subst (λ z. across t' (4 * z + i) ≡ none) q (left_across k x y i b ∙ C.bare (get_or ch k 0) i (C.spare.below k y) (C.spare.dead k y) a b)

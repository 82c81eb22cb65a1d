-- The refusals of a call that is lent a table, from those of the call without one.
use Prim.Native.Nat.{ℕ, ◌≤◌, ◌<◌}
use mathlib.Core.Bool.{Bool, true, false, not, cond, ◌||◌}
use mathlib.Core.List.{List}
use mathlib.Core.Logic.{◌≢◌, ◌⊎◌, inl, inr}
use mathlib.Core.Path.{◌≡◌, refl, sym, ◌∙◌}
use native.Mathlib.Decide.{ℕ_discrete, dec_le}
use native.Mathlib.Omega.{arith}
use borrow.Author.Tests.{ne_eqb, lt-ltb, le-ltb}
use lib.Dec.{eqb}
use lib.IntN.{ℤ}
use Rattle.arith.specs.Table.{any_below}
use Rattle.arith.proofs.Flags.{split}
use Rattle.geometry.specs.declared.Position.{Position}
use Rattle.geometry.specs.Volume.{in_box, same_position}
use Rattle.mesh.specs.declared.Mesh.{Mesh}
use Rattle.mesh.specs.Tables.{Tables, point, point_capacity}
use Rattle.mesh.specs.Start.{short}
use Rattle.mesh.specs.Check.{legal_box, is_mesh}
use Rattle.mesh.specs.Refusal.{mesh_refusal}
use Rattle.locate.specs.Locate.{holds}
use Rattle.cavity.specs.Answers.{Answers}
use Rattle.insertion.specs.Inserted.{Accepted, Refused}
use Rattle.insertion.specs.Insertion.{node_refusal, report_of, inserted_mesh, inserted_tables}
use Rattle.insertion.proofs.Refusals.{chain≤, is_outside, is_taken, is_points_full, is_unheld, is_cells_full, is_accepted, cells_full, unless_accepted, unless_refused}
use Rattle.corrections.specs.Corrections.{out_of_range, too_short}
use Rattle.corrections.specs.Calls.{with_length, with_range, with_table, with_node, left_unless}
use Rattle.corrections.specs.Inner.{early_refusal}

-- ---- 12

module _ (np : ℕ) (cs : List ℤ) {r : ℕ} where
  pub range_in : out_of_range np cs ≡ false → with_range np cs r ≡ r
  unfolding with_range
  range_in e = rw e

  -- the refusals before 12 stay
  pub range_early : r ≢ 0 → r ≤ 5 → with_range np cs r ≡ r
  unfolding with_range
  range_early d h = go (split (out_of_range np cs))
    where
      go : (out_of_range np cs ≡ true) ⊎ (out_of_range np cs ≡ false) → with_range np cs r ≡ r
      go (inl e) = rw (e, ne_eqb r 0 d, le-ltb 5 r h)
      go (inr e) = rw e

  -- those after it are 12, and so is none
  pub range_late : out_of_range np cs ≡ true → (r ≡ 0) ⊎ (5 < r) → with_range np cs r ≡ 12
  unfolding with_range
  range_late e (inl z) = rw (e, z)
  range_late e (inr h) = rw (e, ne_eqb r 0 (λ z. omega (arith, h, z)), lt-ltb 5 r h)

  -- it refuses nothing only where there is nothing to refuse
  pub range_passed : with_range np cs r ≡ 0 → (out_of_range np cs ≡ false) × (r ≡ 0)
  range_passed q = go (split (out_of_range np cs))
    where
      wrong : out_of_range np cs ≡ true → Dec (r ≡ 0) → Dec (r ≤ 5) → ⊥
      wrong e (yes z) h = omega (arith, q, range_late e (inl z))
      wrong e (no d) (yes h) = d (sym (range_early d h) ∙ q)
      wrong e (no d) (no h) = omega (arith, q, range_late e (inr (omega (arith, h))))

      go : (out_of_range np cs ≡ true) ⊎ (out_of_range np cs ≡ false) → (out_of_range np cs ≡ false) × (r ≡ 0)
      go (inl e) = absurd (wrong e (ℕ_discrete r 0) (dec_le r 5))
      go (inr e) = (e, sym (range_in e) ∙ q)

-- ---- 1 to 3

pub mesh_three : (m : Mesh) (t : Tables) (w : ℕ) (fewer : Bool) → mesh_refusal m t w fewer ≤ 3
unfolding mesh_refusal
mesh_three m t w fewer =
    chain≤ (fewer || short t w) (omega arith) (chain≤ (not (legal_box m.x m.y m.z)) (omega arith) (chain≤ (not (is_mesh m t w)) (omega arith) (omega arith)))

pub length_long : (t : Tables) (cs : List ℤ) (r : ℕ) → too_short t cs ≡ false → with_length t cs r ≡ r
unfolding with_length
length_long t cs r e = rw e

pub length_short : (t : Tables) (cs : List ℤ) (r : ℕ) → too_short t cs ≡ true → with_length t cs r ≡ 1
unfolding with_length
length_short t cs r e = rw e

pub length_passed : (t : Tables) (cs : List ℤ) (r : ℕ) → with_length t cs r ≡ 0 → (too_short t cs ≡ false) × (r ≡ 0)
length_passed t cs r q = go (split (too_short t cs))
  where
    go : (too_short t cs ≡ true) ⊎ (too_short t cs ≡ false) → (too_short t cs ≡ false) × (r ≡ 0)
    go (inl e) = absurd (omega (arith, q, length_short t cs r e))
    go (inr e) = (e, sym (length_long t cs r e) ∙ q)

module _ (m : Mesh) (t : Tables) (cs : List ℤ) (w : ℕ) (fewer : Bool) {k : ℕ} (e : k ≡ with_length t cs (mesh_refusal m t w fewer)) where
  -- tests 1 to 3 refuse a call, whatever else it tests
  pub first_tests : k ≢ 0 → {r : ℕ} → ((j : ℕ) → mesh_refusal m t w fewer ≡ j → j ≢ 0 → r ≡ j) → with_table m t cs r ≡ k
  first_tests d {r} first = go (split (too_short t cs))
    where
      go : (too_short t cs ≡ true) ⊎ (too_short t cs ≡ false) → with_table m t cs r ≡ k
      go (inl s) = length_short t cs _ s ∙ sym (e ∙ length_short t cs _ s)
      go (inr s) =
          let q : mesh_refusal m t w fewer ≡ k = sym (e ∙ length_long t cs _ s) in
          let f = first k q d in
          length_long t cs _ s ∙ (range_early m.points cs (λ z. d (sym f ∙ z)) (omega (arith, f, q, mesh_three m t w fewer)) ∙ f)

  -- or let it pass
  pub tests_pass : k ≡ 0 → (too_short t cs ≡ false) × (mesh_refusal m t w fewer ≡ 0)
  tests_pass z = length_passed t cs _ (sym e ∙ z)

-- ---- a node over a table with a number out of range

module _ (m : Mesh) (t : Tables) (w : ℕ) (p : Position) (a : Answers) (cs : List ℤ) (wrong : out_of_range m.points cs ≡ true) where
  abbrev inside : Bool
  inside = in_box m.x m.y m.z p

  abbrev taken : Bool
  taken = any_below m.points (λ k. same_position (point t k) p)

  -- test 6 and those after it give no number up to 5
  late : inside ≡ true → taken ≡ false → (node_refusal m t w p a ≡ 0) ⊎ (5 < node_refusal m t w p a)
  unfolding node_refusal
  late b f = go (ℕ_discrete (node_refusal m t w p a) 0) (split (eqb m.points (point_capacity t))) (split (any_below m.used (holds t p)))
    where
      go : Dec (node_refusal m t w p a ≡ 0) → (eqb m.points (point_capacity t) ≡ true) ⊎ (eqb m.points (point_capacity t) ≡ false) →
          (any_below m.used (holds t p) ≡ true) ⊎ (any_below m.used (holds t p) ≡ false) → (node_refusal m t w p a ≡ 0) ⊎ (5 < node_refusal m t w p a)
      go (yes z) q h = inl z
      go (no z) (inl q) h = inr (omega (arith, is_points_full m t w p a b f q))
      go (no z) (inr q) (inr h) = inr (omega (arith, is_unheld m t w p a b f q h))
      go (no z) (inr q) (inl h) = inr (omega (arith, eight (split (cells_full m t w p a)) q h))
        where
          eight : (cells_full m t w p a ≡ true) ⊎ (cells_full m t w p a ≡ false) → eqb m.points (point_capacity t) ≡ false → any_below m.used (holds t p) ≡ true → node_refusal m t w p a ≡ 8
          eight (inl c) q h = is_cells_full m t w p a b f q h c
          eight (inr c) q h = absurd (z (is_accepted m t w p a b f q h c))

  -- r is the node's refusal, and where that is none, none or one after 12
  pub early_is : {r : ℕ} → ((j : ℕ) → node_refusal m t w p a ≡ j → j ≢ 0 → r ≡ j) → (node_refusal m t w p a ≡ 0 → (r ≡ 0) ⊎ (5 < r)) →
      with_range m.points cs r ≡ early_refusal m t p
  unfolding early_refusal
  early_is {r} same none = go (split inside) (split taken)
    where
      after : (node_refusal m t w p a ≡ 0) ⊎ (5 < node_refusal m t w p a) → (r ≡ 0) ⊎ (5 < r)
      after (inl z) = none z
      after (inr h) = inr (omega (arith, h, same _ refl (λ z. omega (arith, h, z))))

      go : (inside ≡ true) ⊎ (inside ≡ false) → (taken ≡ true) ⊎ (taken ≡ false) → with_range m.points cs r ≡ early_refusal m t p
      go (inr b) s = let f = same 4 (is_outside m t w p a b) (λ z. omega arith) in range_early m.points cs (λ z. omega (arith, f, z)) (omega (arith, f)) ∙ (f ∙ rw b)
      go (inl b) (inl s) = let f = same 5 (is_taken m t w p a b s) (λ z. omega arith) in range_early m.points cs (λ z. omega (arith, f, z)) (omega (arith, f)) ∙ (f ∙ rw (b, s))
      go (inl b) (inr s) = range_late m.points cs wrong (after (late b s)) ∙ rw (b, s)

  pub early_not_zero : early_refusal m t p ≢ 0
  unfolding early_refusal
  early_not_zero e = go inside taken e
    where
      go : (b s : Bool) → cond {A = ℕ} (not b) 4 (cond s 5 12) ≡ 0 → ⊥
      go true true q = omega arith
      go true false q = omega arith
      go false s q = omega arith

module _ (m : Mesh) (t : Tables) (p : Position) where
  pub early_outside : in_box m.x m.y m.z p ≡ false → 4 ≡ early_refusal m t p
  unfolding early_refusal
  early_outside b = rw b

  module _ (b : in_box m.x m.y m.z p ≡ true) where
    pub early_taken : any_below m.points (λ k. same_position (point t k) p) ≡ true → 5 ≡ early_refusal m t p
    unfolding early_refusal
    early_taken s = rw (b, s)

    pub early_wrong : any_below m.points (λ k. same_position (point t k) p) ≡ false → 12 ≡ early_refusal m t p
    unfolding early_refusal
    early_wrong s = rw (b, s)

-- ---- what a refusal or none leaves

module _ (m : Mesh) (t : Tables) (cs : List ℤ) (p : Position) (a : Answers) {r : ℕ} where
  pub left_accepted : r ≡ 0 →
      left_unless r m t cs p a ≡ record { answer = Accepted (inserted_mesh m t p a) (report_of m t p a); tables = inserted_tables m t p a; corrections = with_node m t cs p }
  unfolding left_unless
  left_accepted e = let q = unless_accepted m t p a e in λ i. record { answer = (q i).answer; tables = (q i).tables; corrections = cond (eqb (e i) 0) (with_node m t cs p) cs }

  pub left_refused : {k : ℕ} → r ≡ k → k ≢ 0 → left_unless r m t cs p a ≡ record { answer = Refused k; tables = t; corrections = cs }
  unfolding left_unless
  left_refused {k} e d =
      let q = unless_refused m t p a e d in
      let z : cond (eqb r 0) (with_node m t cs p) cs ≡ cs = rw (e, ne_eqb k 0 d) in
      λ i. record { answer = (q i).answer; tables = (q i).tables; corrections = z i }

-- Tables in which every entry in use is a cell: there the definitions that both layouts share are document 01's own.
use Prim.Native.Nat.{ℕ, zero, suc, ◌+◌, ◌*◌, ◌-◌, ◌<◌}
use mathlib.Core.Bool.{Bool, true, false, not, ◌&&◌, ◌||◌}
use mathlib.Core.List.{List}
use mathlib.Core.Logic.{◌⊎◌, inl, inr}
use mathlib.Core.Path.{◌≡◌, refl, sym, ap, ap₂, ◌∙◌, subst}
use native.Mathlib.Omega.{arith}
use borrow.Author.Tests.{ltb-true, not-true}
use lib.Dec.{ltb}
use lib.IntN.{pos}
use lib.Signed.{le_z, lt_z}
use Rattle.arith.specs.Table.{all_below, any_below, count_below, sum, iterate}
use Rattle.arith.proofs.Flags.{split, clash, and_left, and_right, bool_ext}
use Rattle.arith.proofs.Tables.{all_at, all_cong, tabulate_cong}
use Rattle.arith.proofs.Counting.{count_not, count_none, count_cong, count_lt}
use Rattle.geometry.specs.declared.Position.{Position}
use Rattle.mesh.specs.declared.Mesh.{Mesh}
use Rattle.mesh.specs.Tables.{Tables, point_capacity, cell_capacity, none, cell_of, corner, across, cell_volume, side, freed, live}
use Rattle.mesh.specs.Mesh.{IsMesh, ValidMesh}
use Rattle.mesh.specs.Chain.{Chained, end, chain_from, chain_of}
use Rattle.mesh.specs.Check.{same_z, counts_ok, box_ok, points_ok, cell_ok, face_ok, mesh_check, is_mesh}
use Rattle.mesh.proofs.Room.{room_of}
use Rattle.mesh.proofs.Live.{live_of}
use Rattle.mesh.proofs.Checked.{counts_of, check_mesh}
use Rattle.mesh.proofs.Valid.{valid_of, valid_yes}
use Rattle.locate.specs.Locate.{holds}
use Rattle.cavity.specs.Cavity.{in_set, base, grown, cavity, corrected, cavity_of, corrected_cavity}
use Rattle.layouts.specs.Packed.{packed_record}
use Rattle.layouts.specs.Old.{old_check, old_holds, old_base, old_grown, old_cavity, old_corrected_cavity, OldWords}

-- every entry of n is a cell
abbrev pub Full : Tables → ℕ → Type 0
Full t n = (c : ℕ) → c < n → live t c ≡ true

-- ---- counts

count_all : (n : ℕ) (p : ℕ → Bool) → count_below n p ≡ n → (k : ℕ) → k < n → p k ≡ true
count_all n p e k h = go (split (p k))
  where
    go : (p k ≡ true) ⊎ (p k ≡ false) → p k ≡ true
    go (inl q) = q
    go (inr q) = absurd (omega (arith, count_not n p, count_lt k n (λ k. not (p k)) h (ap not q)))

all_live : (t : Tables) (n : ℕ) → Full t n → count_below n (live t) ≡ n
all_live t n full = count_cong n (live t) (λ c. true) full ∙ omega (arith, count_not n (λ c. true), count_none n (λ c. false) (λ k h. refl))

-- ---- the mesh

module _ {x y z np n : ℕ} {t : Tables} {w : ℕ} where
  valid_full : ValidMesh (packed_record x y z np n) t w → Full t n
  valid_full v = count_all n (live t) (sym v.counted)

  pub full_valid : IsMesh x y z (point_capacity t) (cell_capacity t w) np n t → Full t n → ValidMesh (packed_record x y z np n) t w
  unfolding chain_of
  full_valid M full = record { mesh = M; counted = sym (all_live t n full); chained = subst (λ k. Chained t n none (chain_from t k none)) q empty }
    where
      q : 0 ≡ n - n
      q = omega arith

      empty : Chained t n none (chain_from t 0 none)
      empty = unfold chain_from in record {
        path = end;
        spare = record { below = λ k l. absurd (omega arith); dead = λ k l. absurd (omega arith); once = λ j k l. absurd (omega arith) };
        all = λ c l d. clash (full c l) d;
        bare = λ c i l d. clash (full c l) d;
      }

-- ---- the mesh check

module _ (x y z np n : ℕ) (t : Tables) (w : ℕ) where
  abbrev m : Mesh
  m = packed_record x y z np n

  check_full : Full t n → mesh_check x y z (point_capacity t) (cell_capacity t w) np n t ≡ old_check m t w
  unfolding mesh_check old_check
  check_full full =
      ap₂ (λ a b. counts_ok x y z (point_capacity t) (cell_capacity t w) np n && (box_ok x y z t && (points_ok x y z np n t && (a && (b && same_z (sum n (cell_volume t)) (pos (6 * x * y * z)))))))
      (all_cong n (λ c. freed t c || cell_ok t np c) (cell_ok t np) (λ c h. ap (λ b. b || cell_ok t np c) (alive c h)))
      (all_cong (4 * n) (λ f. freed t (cell_of f) || face_ok x y z t n f) (face_ok x y z t n) (λ f h. ap (λ b. b || face_ok x y z t n f) (alive (cell_of f) (omega arith))))
    where
      alive : (c : ℕ) → c < n → freed t c ≡ false
      alive c h = not-true (freed t c) (unfold live in full c h)

  old_full : old_check m t w ≡ true → Full t n
  unfolding old_check cell_ok
  old_full e c h =
      let e₁ = and_right (counts_ok x y z (point_capacity t) (cell_capacity t w) np n) _ e in
      let e₂ = and_right (points_ok x y z np n t) _ (and_right (box_ok x y z t) _ e₁) in
      let k = counts_of x y z (point_capacity t) (cell_capacity t w) np n (and_left (counts_ok x y z (point_capacity t) (cell_capacity t w) np n) _ e) in
      let cell = all_at n (cell_ok t np) (and_left (all_below n (cell_ok t np)) _ e₂) c h in
      let low = ltb-true (corner t c 0) np (all_at 4 (λ i. ltb (corner t c i) np) (and_left (all_below 4 (λ i. ltb (corner t c i) np)) (lt_z (pos 0) (cell_volume t c)) cell) 0 (omega arith)) in
      live_of t c 0 (omega arith) (omega (arith, low, k.points≤, (room_of t w).points≤))

  check_is : is_mesh (packed_record x y z np n) t w ≡ old_check (packed_record x y z np n) t w
  check_is = bool_ext (is_mesh m t w) (old_check m t w) there back
    where
      there : is_mesh m t w ≡ true → old_check m t w ≡ true
      there e = sym (check_full (valid_full (valid_of m t w e))) ∙ unfold is_mesh in and_left (mesh_check x y z (point_capacity t) (cell_capacity t w) np n t) _ e

      back : old_check m t w ≡ true → is_mesh m t w ≡ true
      back e =
          let full = old_full e in
          valid_yes m t w (full_valid (check_mesh x y z (point_capacity t) (cell_capacity t w) np n t (check_full full ∙ e)) full)

-- ---- the cavity

module _ (t : Tables) (n : ℕ) (full : Full t n) (p : Position) where
  holds_is : (c : ℕ) → c < n → holds t p c ≡ old_holds t p c
  unfolding holds old_holds
  holds_is c h = ap (λ b. b && all_below 4 (λ k. le_z (pos 0) (side t p (4 * c + k)))) (full c h)

  base_is : base t n p ≡ old_base t n p
  unfolding base old_base
  base_is = tabulate_cong n (holds t p) (old_holds t p) holds_is

  module _ (yes? : ℕ → Bool) where
    grown_is : (s : List Bool) → grown t n yes? s ≡ old_grown t n yes? s
    unfolding grown old_grown
    grown_is s =
        tabulate_cong n (λ c. in_set s c || ((live t c && yes? c) && any_below 4 (λ k. in_set s (across t (4 * c + k))))) (λ c. in_set s c || (yes? c && any_below 4 (λ k. in_set s (across t (4 * c + k)))))
        (λ c h. ap (λ b. in_set s c || ((b && yes? c) && any_below 4 (λ k. in_set s (across t (4 * c + k))))) (full c h))

    rounds_are : (k : ℕ) (s : List Bool) → iterate k (grown t n yes?) s ≡ iterate k (old_grown t n yes?) s
    unfolding iterate
    rounds_are zero s = refl
    rounds_are (suc k) s = rounds_are k (grown t n yes? s) ∙ ap (iterate k (old_grown t n yes?)) (grown_is s)

    cavity_is : cavity_of t n p yes? ≡ old_cavity t n p yes?
    unfolding cavity_of cavity old_cavity
    cavity_is = rounds_are n (base t n p) ∙ ap (iterate n (old_grown t n yes?)) base_is

    corrected_is : corrected_cavity t n p yes? ≡ old_corrected_cavity t n p yes?
    unfolding corrected_cavity old_corrected_cavity
    corrected_is = ap₂ (corrected t n p) base_is cavity_is

-- THE LAW: the shared definitions are document 01's
pub in_old_words : (x y z np n : ℕ) (t : Tables) (w : ℕ) → OldWords x y z np n t w
in_old_words x y z np n t w = record {
  check = check_is x y z np n t w;
  held = λ e p. holds_is t n (full e) p;
  before = λ e p. cavity_is t n (full e) p;
  after = λ e p. corrected_is t n (full e) p;
}
  where
    full : is_mesh (packed_record x y z np n) t w ≡ true → Full t n
    full e = valid_full (valid_of (packed_record x y z np n) t w e)

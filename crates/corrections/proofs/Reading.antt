-- What reading and setting a correction answer, from their tests.
use Prim.Native.Nat.{ℕ, ◌*◌, ◌≤◌, ◌<◌}
use mathlib.Core.Bool.{true, false, not, cond, ◌||◌}
use mathlib.Core.List.{List, []}
use mathlib.Core.Logic.{◌≢◌, ◌⊎◌, inl, inr}
use mathlib.Core.Path.{◌≡◌, sym, ap, ◌∙◌, subst}
use native.Mathlib.Omega.{arith}
use borrow.Author.Tests.{ne_eqb, lt-ltb, le-ltb}
use lib.Dec.{ltb}
use lib.ListN.{length}
use lib.IntN.{ℤ}
use Rattle.arith.specs.Table.{any_below}
use Rattle.arith.proofs.Flags.{split}
use Rattle.geometry.specs.declared.Position.{Position}
use Rattle.geometry.specs.Volume.{in_box}
use Rattle.mesh.specs.declared.Mesh.{Mesh}
use Rattle.mesh.specs.Tables.{Tables, tables, corner, corner_at, cell_volume, side, freed, live, cleared}
use Rattle.mesh.specs.Check.{is_mesh}
use Rattle.mesh.specs.Refusal.{mesh_refusal}
use Rattle.mesh.proofs.Valid.{solid, in_range_lem}
use Rattle.locate.specs.Locate.{holds, first_holder, locate_refusal}
use Rattle.locate.proofs.Finding.{none_held, some_held}
use Rattle.locate.proofs.First.{IsFirst, holder_is_first}
use Rattle.arith.proofs.Tables.{any_found}
use Rattle.insertion.proofs.Refusals.{first_refuses, first_passes}
use Rattle.insertion.proofs.Leaving.{same_work}
use Rattle.corrections.specs.declared.Correction.{Correction}
use Rattle.corrections.specs.Corrections.{By, Refused}
use Rattle.corrections.specs.Corrections.{out_of_range, too_short, weighted_sum, value_in, correction_in, correction_at, with_correction}
use Rattle.corrections.specs.Calls.{with_length, with_range, with_table, is_correction, set_refusal, set_table, correction_refusal, correction_call}
use Rattle.corrections.specs.Inner.{Readable}
use Rattle.corrections.proofs.Refusals.{range_in, range_early, range_late, first_tests, tests_pass, length_long, length_short}

-- ---- reading

module _ (m : Mesh) (t : Tables) (cs : List ℤ) (ws : List ℕ) {ws' : List ℕ} (c : ws' ≡ cleared ws) (p : Position) {k : ℕ}
    (e : k ≡ with_length t cs (mesh_refusal m t (length ws') false)) where
  abbrev w : ℕ
  w = length ws

  tested : k ≡ with_length t cs (mesh_refusal m t w false)
  tested = e ∙ ap (λ w. with_length t cs (mesh_refusal m t w false)) (same_work ws c)

  answered : {r : ℕ} → with_table m t cs (locate_refusal m t w p) ≡ r → r ≢ 0 → Refused r ≡ correction_call m t cs w p
  unfolding correction_call correction_refusal
  answered {r} q d = rw (q, ne_eqb r 0 d)

  first : (j : ℕ) → mesh_refusal m t w false ≡ j → j ≢ 0 → locate_refusal m t w p ≡ j
  unfolding locate_refusal
  first j q d = rw (q, ne_eqb j 0 d)

  pub read_refused : k ≢ 0 → Refused k ≡ correction_call m t cs w p
  read_refused d = answered (first_tests m t cs w false tested d first) d

  module _ (z : k ≡ 0) where
    passed : mesh_refusal m t w false ≡ 0
    passed = (tests_pass m t cs w false tested z).1

    lent : (r : ℕ) → with_table m t cs r ≡ with_range m.points cs r
    lent r = length_long t cs (with_range m.points cs r) (tests_pass m t cs w false tested z).0

    pub read_outside : in_box m.x m.y m.z p ≡ false → Refused 4 ≡ correction_call m t cs w p
    read_outside b =
        let q : locate_refusal m t w p ≡ 4 = unfold locate_refusal in rw (passed, b) in
        answered (lent _ ∙ (range_early m.points cs (λ n. omega (arith, q, n)) (omega (arith, q)) ∙ q)) (λ n. omega arith)

    module _ (b : in_box m.x m.y m.z p ≡ true) where
      held_or_not : (locate_refusal m t w p ≡ 0) ⊎ (5 < locate_refusal m t w p)
      unfolding locate_refusal
      held_or_not = go (split (any_below m.used (holds t p)))
        where
          go : (any_below m.used (holds t p) ≡ true) ⊎ (any_below m.used (holds t p) ≡ false) → (locate_refusal m t w p ≡ 0) ⊎ (5 < locate_refusal m t w p)
          go (inl h) = inl (rw (passed, b, h))
          go (inr h) = let q : locate_refusal m t w p ≡ 7 = rw (passed, b, h) in inr (omega (arith, q))

      pub read_wrong : out_of_range m.points cs ≡ true → Refused 12 ≡ correction_call m t cs w p
      read_wrong o = answered (lent _ ∙ range_late m.points cs o held_or_not) (λ n. omega arith)

      module _ (o : out_of_range m.points cs ≡ false) {f : ℕ} (g : f ≡ first_holder t m.used p) where
        same : with_table m t cs (locate_refusal m t w p) ≡ locate_refusal m t w p
        same = lent _ ∙ range_in m.points cs o

        pub read_unheld : f ≡ m.used → Refused 7 ≡ correction_call m t cs w p
        unfolding locate_refusal
        read_unheld h = answered (same ∙ rw (passed, b, none_held m t w p (sym g ∙ h))) (λ n. omega arith)

        module _ (d : f ≢ m.used) where
          some : any_below m.used (holds t p) ≡ true
          some = some_held m t w p (λ h. d (g ∙ h))

          is_first : IsFirst t p m.used (first_holder t m.used p)
          is_first = let h = any_found m.used (holds t p) some in holder_is_first t p m.used h.at h.below h.passes

          pub read_asks : is_mesh m t (length ws') ≡ true → 3 * m.points ≤ length cs → Readable t.points t.corners cs p f
          unfolding holds side corner_at corner live freed
          read_asks M l = record {
            np = m.points;
            n = m.used;
            solid = solid m t.points t.corners t.neighbours (length ws') M;
            position = in_range_lem m t (length ws') M b;
            cell< = subst (λ x. x < m.used) (sym g) is_first.cell<;
            held = subst (λ x. holds t p x ≡ true) (sym g) is_first.holding;
            standing = record { long = l; range = o };
          }

          pub read_found : {v : Correction} → v ≡ correction_in (tables t.points t.corners []) cs p f → By v ≡ correction_call m t cs w p
          unfolding correction_call correction_refusal locate_refusal correction_at correction_in value_in weighted_sum cell_volume side corner_at corner
          read_found h =
              let q : with_table m t cs (locate_refusal m t w p) ≡ 0 = same ∙ rw (passed, b, some) in
              rw q (ap By (h ∙ ap (correction_in t cs p) g))

-- ---- setting

-- the refusal r, and the table as it was
pub record SetRefused (m : Mesh) (t : Tables) (cs : List ℤ) (w v : ℕ) (d : Correction) (r : ℕ) : Type 0 where
  pub answer : r ≡ set_refusal m t cs w v d
  pub table : cs ≡ set_table m t cs w v d

module _ (m : Mesh) (t : Tables) (cs : List ℤ) (ws : List ℕ) {ws' : List ℕ} (c : ws' ≡ cleared ws) (v : ℕ) (d : Correction) {k : ℕ}
    (e : k ≡ with_length t cs (mesh_refusal m t (length ws') false)) where
  abbrev own : ℕ
  own = cond (not (ltb v m.points)) 13 (cond (not (is_correction d) || out_of_range m.points cs) 12 0)

  set_tested : k ≡ with_length t cs (mesh_refusal m t (length ws) false)
  set_tested = e ∙ ap (λ w. with_length t cs (mesh_refusal m t w false)) (same_work ws c)

  refuses : {r : ℕ} → set_refusal m t cs (length ws) v d ≡ r → r ≢ 0 → SetRefused m t cs (length ws) v d r
  unfolding set_table
  refuses {r} q n = record { answer = sym q; table = rw (q, ne_eqb r 0 n) }

  pub set_refused : k ≢ 0 → SetRefused m t cs (length ws) v d k
  unfolding set_refusal
  set_refused n = refuses (go (split (too_short t cs))) n
    where
      go : (too_short t cs ≡ true) ⊎ (too_short t cs ≡ false) → set_refusal m t cs (length ws) v d ≡ k
      go (inl s) = length_short t cs _ s ∙ sym (set_tested ∙ length_short t cs _ s)
      go (inr s) = length_long t cs _ s ∙ first_refuses own (sym (set_tested ∙ length_long t cs _ s)) n

  module _ (z : k ≡ 0) where
    left : set_refusal m t cs (length ws) v d ≡ own
    unfolding set_refusal
    left = let h = tests_pass m t cs (length ws) false set_tested z in length_long t cs _ h.0 ∙ first_passes own h.1

    pub set_no_point : m.points ≤ v → SetRefused m t cs (length ws) v d 13
    set_no_point h = refuses (left ∙ rw (le-ltb v m.points h)) (λ n. omega arith)

    module _ (h : v < m.points) where
      below : ltb v m.points ≡ true
      below = lt-ltb v m.points h

      pub set_handed : is_correction d ≡ false → SetRefused m t cs (length ws) v d 12
      set_handed f = refuses (left ∙ rw (below, f)) (λ n. omega arith)

      module _ (f : is_correction d ≡ true) where
        pub set_wrong : out_of_range m.points cs ≡ true → SetRefused m t cs (length ws) v d 12
        set_wrong o = refuses (left ∙ rw (below, f, o)) (λ n. omega arith)

        module _ (o : out_of_range m.points cs ≡ false) where
          pub set_answer : 0 ≡ set_refusal m t cs (length ws) v d
          set_answer = sym (left ∙ rw (below, f, o))

          pub set_table_lem : with_correction cs v d ≡ set_table m t cs (length ws) v d
          unfolding set_table
          set_table_lem = rw (← set_answer)

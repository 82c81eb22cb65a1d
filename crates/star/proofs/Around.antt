-- The turn by code: it reads only cells of the cavity, which still stand, and finds the next entry by name.
use Prim.Native.Nat.{ℕ, zero, suc, ◌+◌, ◌*◌, ◌-◌, ◌≤◌, ◌<◌}
use mathlib.Core.Bool.{Bool, true, false, cond}
use mathlib.Core.List.{List}
use mathlib.Core.Logic.{◌≢◌}
use mathlib.Core.Path.{◌≡◌, refl, sym, ap, ◌∙◌}
use native.Mathlib.Omega.{arith}
use native.Mathlib.Decide.{ℕ_discrete}
use borrow.Author.Tests.{eq-eqb, ne_eqb}
use lib.Dec.{eqb, ltb}
use lib.ListN.{length, get_or-eq_default}
use Rattle.arith.proofs.Flags.{flag_below, below_four}
use Rattle.arith.proofs.Tables.{tabulate_length}
use Rattle.mesh.specs.Tables.{Tables, point_capacity, cell_capacity, none, cell_of, opposite, corner, across, mate, place_of, IsCell, IsFace}
use Rattle.mesh.specs.Mesh.{IsMesh}
use Rattle.mesh.specs.Inner.{HasCell}
use Rattle.mesh.proofs.Room.{Room, room_of}
use Rattle.mesh.proofs.Glued.{Glued}
use Rattle.mesh.proofs.Faces.{glued, mated}
use Rattle.mesh.proofs.Mates.{mate_by_name}
use Rattle.mesh.proofs.FaceNumbers.{face_cell, face_opposite, face_eq, opposite<, face_in}
use Rattle.cavity.specs.Cavity.{in_set}
use Rattle.cavity.specs.Inner.{inside, set_of}
use Rattle.star.specs.Turn.{State, out_face, cross, turn}
use Rattle.star.specs.Star.{turn_face}
use Rattle.star.specs.Inner.{entry_at, CavityIntact}
use Rattle.star.proofs.Cross.{Valid, state_eq, cross_valid}
use Rattle.star.proofs.Turn.{turn_stop, turn_step}
use Rattle.star.proofs.Codes.{set_at}

-- ---- places

pub place_cong : (g h : ℕ → ℕ → ℕ) (c v w : ℕ) → ((i : ℕ) → i < 4 → g c i ≡ h c i) → v ≡ w → place_of g c v ≡ place_of h c w
unfolding place_of
place_cong g h c v w e q =
    λ ι. cond (eqb (e 0 (omega arith) ι) (q ι)) 0 (cond (eqb (e 1 (omega arith) ι) (q ι)) 1 (cond (eqb (e 2 (omega arith) ι) (q ι)) 2 3))

pub place< : (g : ℕ → ℕ → ℕ) (c v : ℕ) → place_of g c v < 4
unfolding place_of
place< g c v = go (eqb (g c 0) v) (eqb (g c 1) v) (eqb (g c 2) v)
  where
    go : (x y z : Bool) → cond x 0 (cond y 1 (cond z 2 3)) < 4
    go true y z = omega arith
    go false true z = omega arith
    go false false true = omega arith
    go false false false = omega arith

-- a number that stands at one place only is found there
pub place_only : (g : ℕ → ℕ → ℕ) (c v l : ℕ) → l < 4 → g c l ≡ v → ((k : ℕ) → k < 4 → g c k ≡ v → k ≡ l) → place_of g c v ≡ l
unfolding place_of
place_only g c v =
    below_four (λ l. g c l ≡ v → ((k : ℕ) → k < 4 → g c k ≡ v → k ≡ l) → place_of g c v ≡ l)
    (λ e o. rw (eq-eqb (g c 0) v e))
    (λ e o. rw (ne_eqb (g c 0) v (λ q. absurd (other 0 1 (o 0 (omega arith) q) (omega arith))), eq-eqb (g c 1) v e))
    (λ e o. rw (ne_eqb (g c 0) v (λ q. absurd (other 0 2 (o 0 (omega arith) q) (omega arith))), ne_eqb (g c 1) v (λ q. absurd (other 1 2 (o 1 (omega arith) q) (omega arith))), eq-eqb (g c 2) v e))
    (λ e o. rw (ne_eqb (g c 0) v (λ q. absurd (other 0 3 (o 0 (omega arith) q) (omega arith))), ne_eqb (g c 1) v (λ q. absurd (other 1 3 (o 1 (omega arith) q) (omega arith))), ne_eqb (g c 2) v (λ q. absurd (other 2 3 (o 2 (omega arith) q) (omega arith)))))
  where
    other : (a b : ℕ) → a ≡ b → a ≢ b → ⊥
    other a b e d = d e

-- ---- the set, by states

pub set_below : (n : ℕ) (st : List ℕ) (c : ℕ) → in_set (set_of n st) c ≡ true → c < n
unfolding set_of
set_below n st c e = omega (arith, flag_below (set_of n st) c e, tabulate_length n (inside st))

pub set_across : (n : ℕ) (st : List ℕ) → n ≤ 4096 → length st ≡ 4096 → (u : ℕ) → (u ≢ none → u < n) → in_set (set_of n st) u ≡ inside st u
unfolding set_of
set_across n st few long u real = go (ℕ_discrete u none)
  where
    go : Dec (u ≡ none) → in_set (set_of n st) u ≡ inside st u
    go (yes e) =
        get_or-eq_default (set_of n st) false {n = u} (omega (arith, tabulate_length n (inside st))) ∙
        sym (ap (ltb 0) (get_or-eq_default st 0 {n = u} (omega arith)))
    go (no d) = set_at n st u (real d)

module _ {n : ℕ} {st cs ns : List ℕ} (b : CavityIntact n st cs ns) where
  abbrev t : Tables
  t = b.was

  abbrev s : List Bool
  s = set_of n st

  pub standing_room : Room (point_capacity b.was) (cell_capacity b.was b.mesh.w) b.was
  standing_room = room_of t b.mesh.w

  abbrev R : Room (point_capacity t) (cell_capacity t b.mesh.w) t
  R = standing_room

  pub standing_glued : Glued n (IsCell b.was n) (corner b.was) (across b.was) (mate b.was)
  standing_glued = glued b.mesh.mesh R

  abbrev G : Glued n (IsCell t n) (corner t) (across t) (mate t)
  G = standing_glued

  pub standing_few : n ≤ 4096
  standing_few = omega (arith, b.mesh.mesh.cells≤, R.cells≤)

  pub has_corners : (c : ℕ) → c < n → HasCell c cs
  has_corners c h = record { few = omega (arith, standing_few); fits = omega (arith, b.mesh.mesh.cells≤, R.corners_fit, b.corners_long) }

  pub has_neighbours : (c : ℕ) → c < n → HasCell c ns
  has_neighbours c h = record { few = omega (arith, standing_few); fits = omega (arith, b.mesh.mesh.cells≤, R.neighbours_fit, b.neighbours_long) }

  -- at x, with u behind the exit
  module _ (x : State) (w : Valid (in_set (set_of n st)) x) (u : ℕ) (e : u ≡ entry_at ns x.cell x.exit) where
    cell< : IsCell t n x.cell
    cell< = b.cells x.cell w.held

    u_is : u ≡ across t (out_face x)
    u_is = e ∙ b.neighbours_same x.cell x.exit w.held w.exit<

    pub behind< : u ≢ none → u < n
    behind< d = rw u_is (b.mesh.mesh.across< (out_face x) (face_in x.cell x.exit w.exit< cell<) (λ q. d (u_is ∙ q)))

    pub behind_held : in_set (set_of n st) (across b.was (out_face x)) ≡ inside st (u)
    behind_held = ap (in_set s) (sym u_is) ∙ set_across n st standing_few b.states u behind<

    module _ (I : inside st (u) ≡ true) where
      held_u : in_set s u ≡ true
      held_u = set_across n st standing_few b.states u behind< ∙ I

      pub behind_below : u < n
      behind_below = set_below n st u held_u

      real : across t (out_face x) ≢ none
      real q = omega (arith, behind_below, standing_few, u_is, q)

      -- the state beyond, as the code finds it
      pub crossed :
          ◌≡◌ {A = State} record { cell = u; entry = place_of (entry_at ns) u x.cell; exit = place_of (entry_at cs) u (entry_at cs x.cell x.entry) }
          (cross (corner b.was) (across b.was) (mate b.was) x)
      unfolding cross
      crossed = state_eq u_is
          (place_only (entry_at ns) u x.cell (opposite (mate t f)) (opposite< (mate t f))
          (b.neighbours_same u (opposite (mate t f)) held_u (opposite< (mate t f)) ∙ (ap (λ g. across t g) home ∙ ((mated M R f f< real).back ∙ at)))
          (λ k h q. named k h (sym (b.neighbours_same u k held_u h) ∙ q)))
          (place_cong (entry_at cs) (corner t) u (entry_at cs x.cell x.entry) (corner t x.cell x.entry) (λ i h. b.corners_same u i held_u h) (b.corners_same x.cell x.entry w.held w.entry<)
          ∙ ap (λ y. place_of (corner t) y (corner t x.cell x.entry)) u_is)
        where
          M : IsMesh b.mesh.X b.mesh.Y b.mesh.Z (point_capacity t) (cell_capacity t b.mesh.w) b.np n t
          M = b.mesh.mesh

          f : ℕ
          f = out_face x

          f< : IsFace t n f
          f< = face_in x.cell x.exit w.exit< cell<

          at : cell_of f ≡ x.cell
          at = face_cell x.cell x.exit w.exit<

          home : 4 * u + opposite (mate t f) ≡ mate t f
          home = ap (λ y. 4 * y + opposite (mate t f)) (u_is ∙ sym (mated M R f f< real).far_cell) ∙ face_eq (mate t f)

          named : (k : ℕ) → k < 4 → across t (4 * u + k) ≡ x.cell → k ≡ opposite (mate t f)
          named k h q =
              sym (face_opposite (across t f) k h) ∙
              ap opposite (mate_by_name M R f k f< real h (ap (λ y. across t (4 * y + k)) (sym u_is) ∙ (q ∙ sym at)))

      pub crossed_valid : Valid (in_set (set_of n st)) (cross (corner b.was) (across b.was) (mate b.was) x)
      crossed_valid = cross_valid G b.cells x w (behind_held ∙ I)

      pub turn_on : (left : ℕ) → 0 < left →
          turn (corner b.was) (across b.was) (mate b.was) (in_set (set_of n st)) left x ≡
          turn (corner b.was) (across b.was) (mate b.was) (in_set (set_of n st)) (left - 1) (cross (corner b.was) (across b.was) (mate b.was) x)
      turn_on zero h = absurd (omega arith)
      turn_on (suc k) h =
          let q : k ≡ suc k - 1 = omega arith in
          turn_step G b.cells k x w (behind_held ∙ I) ∙ ap (λ m. turn (corner t) (across t) (mate t) (in_set s) m (cross (corner t) (across t) (mate t) x)) q

    pub turn_stays : inside st (u) ≡ false → (left : ℕ) →
        turn (corner b.was) (across b.was) (mate b.was) (in_set (set_of n st)) left x ≡ x
    turn_stays q left = turn_stop G b.cells left x w (behind_held ∙ q)

-- no steps left
pub turn_none : (corner : ℕ → ℕ → ℕ) (across mate : ℕ → ℕ) (S : ℕ → Bool) (left : ℕ) (x : State) → left ≤ 0 → turn corner across mate S left x ≡ x
unfolding turn
turn_none corner across mate S zero x h = refl
turn_none corner across mate S (suc k) x h = absurd (omega arith)

-- from face k of cell c
pub turn_face_lem : (t : Tables) (n : ℕ) (s : List Bool) (c k j : ℕ) → k < 4 →
    turn_face t n s (4 * c + k) j ≡ out_face (turn (corner t) (across t) (mate t) (in_set s) n record { cell = c; entry = k; exit = j })
unfolding turn_face
turn_face_lem t n s c k j h =
    λ ι. out_face (turn (corner t) (across t) (mate t) (in_set s) n record { cell = face_cell c k h ι; entry = face_opposite c k h ι; exit = j })

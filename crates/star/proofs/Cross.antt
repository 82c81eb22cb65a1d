-- Crossing a face on the way round an edge (T1, T2).
use Prim.Native.Nat.{ℕ, ◌<◌}
use mathlib.Core.Bool.{Bool, true}
use mathlib.Core.Logic.{◌≢◌}
use mathlib.Core.Path.{◌≡◌, sym, ap, ◌∙◌, subst}
use native.Mathlib.Omega.{arith}
use Rattle.mesh.specs.Tables.{none, cell_of, opposite, place_of}
use Rattle.mesh.proofs.FaceNumbers.{face_cell, face_opposite, place_found}
use Rattle.mesh.proofs.Glued.{Glued}
use Rattle.star.specs.Turn.{State, in_face, out_face, flip, cross}

-- a state in a cell of the set
pub record Valid (S : ℕ → Bool) (s : State) : Type 0 where
  pub held : S s.cell ≡ true
  pub entry< : s.entry < 4
  pub exit< : s.exit < 4
  pub apart : s.entry ≢ s.exit

-- the state's cell has the point number v among the two corners that are on both faces
pub record OnEdge (corner : ℕ → ℕ → ℕ) (s : State) (v : ℕ) : Type 0 where
  pub place : ℕ
  pub place< : place < 4
  pub off_entry : place ≢ s.entry
  pub off_exit : place ≢ s.exit
  pub is : corner s.cell place ≡ v

pub state_eq : {s t : State} → s.cell ≡ t.cell → s.entry ≡ t.entry → s.exit ≡ t.exit → s ≡ t
state_eq p q r = λ i. record { cell = p i; entry = q i; exit = r i }

pub flip_valid : {S : ℕ → Bool} {s : State} → Valid S s → Valid S (flip s)
flip_valid w = record { held = w.held; entry< = w.exit<; exit< = w.entry<; apart = λ e. w.apart (sym e) }

module _ {n : ℕ} {cell : ℕ → Type 0} {corner : ℕ → ℕ → ℕ} {across mate : ℕ → ℕ} (G : Glued n cell corner across mate) where
  pub place_is : (c l : ℕ) → cell c → l < 4 → place_of corner c (corner c l) ≡ l
  place_is c l h = place_found corner c (λ i j. G.distinct c i j h) l

  module _ {S : ℕ → Bool} (inside : (c : ℕ) → S c ≡ true → cell c) where
    held_real : (u : ℕ) → S u ≡ true → u ≢ none
    held_real u e = omega (arith, G.below u (inside u e), G.few)

    module _ (s : State) (w : Valid S s) (I : S (across (out_face s)) ≡ true) where
      c< : cell s.cell
      c< = inside s.cell w.held

      cell_is : cell_of (out_face s) ≡ s.cell
      cell_is = face_cell s.cell s.exit w.exit<

      f< : cell (cell_of (out_face s))
      f< = subst cell (sym cell_is) c<

      side_is : opposite (out_face s) ≡ s.exit
      side_is = face_opposite s.cell s.exit w.exit<

      real : across (out_face s) ≢ none
      real = held_real (across (out_face s)) I

      -- the far face, as the crossed state names it
      pub far_face : in_face (cross corner across mate s) ≡ mate (out_face s)
      unfolding cross
      far_face = omega (arith, G.mate_cell (out_face s) f< real)

      -- a corner of the crossed face, in the cell beyond
      far : (k : ℕ) → k < 4 → k ≢ s.exit → (l : ℕ) × (l < 4) × (l ≢ opposite (mate (out_face s))) × (corner (across (out_face s)) l ≡ corner s.cell k)
      far k h d = rw cell_is at (G.shared (out_face s) k f< real h (λ e. d (e ∙ side_is)))

      beyond : (l : ℕ) × (l < 4) × (l ≢ opposite (mate (out_face s))) × (corner (across (out_face s)) l ≡ corner s.cell s.entry)
      beyond = far s.entry w.entry< w.apart

      exit_is : (cross corner across mate s).exit ≡ beyond.0
      unfolding cross
      exit_is = rw (← beyond.3) (place_is (across (out_face s)) beyond.0 (inside (across (out_face s)) I) beyond.1)

      -- the point opposite to the entry is opposite to the exit beyond
      pub far_exit : corner (across (out_face s)) (cross corner across mate s).exit ≡ corner s.cell s.entry
      far_exit = rw exit_is beyond.3

      pub cross_valid : Valid S (cross corner across mate s)
      unfolding cross
      cross_valid = record {
        held = I;
        entry< = omega arith;
        exit< = rw exit_is beyond.1;
        apart = rw exit_is (λ e. beyond.2 (sym e));
      }

      -- what the crossed state comes in by leads back
      pub cross_back : across (in_face (cross corner across mate s)) ≡ s.cell
      cross_back = rw far_face (G.mate_across (out_face s) f< real ∙ cell_is)

      pub cross_flip_cross : cross corner across mate (flip (cross corner across mate s)) ≡ flip s
      unfolding cross
      cross_flip_cross =
          state_eq cross_back
          (rw far_face (ap opposite (G.mate_mate (out_face s) f< real) ∙ side_is))
          (rw (cross_back, far_exit) (place_is s.cell s.entry c< w.entry<))

      pub on_edge : (v : ℕ) → OnEdge corner s v → OnEdge corner (cross corner across mate s) v
      unfolding cross
      on_edge v o = record {
        place = q.0;
        place< = q.1;
        off_entry = q.2;
        off_exit = λ e. o.off_entry (G.distinct s.cell o.place s.entry c< o.place< w.entry< (sym q.3 ∙ (ap (corner (across (out_face s))) e ∙ far_exit)));
        is = q.3 ∙ o.is;
      }
        where
          q : (l : ℕ) × (l < 4) × (l ≢ opposite (mate (out_face s))) × (corner (across (out_face s)) l ≡ corner s.cell o.place)
          q = far o.place o.place< o.off_exit

      -- and the way back is a crossing too
      pub back_inner : S (across (out_face (flip (cross corner across mate s)))) ≡ true
      back_inner = rw cross_back w.held

    pub cross_inj : (s t : State) → Valid S s → Valid S t → S (across (out_face s)) ≡ true → S (across (out_face t)) ≡ true →
        cross corner across mate s ≡ cross corner across mate t → s ≡ t
    cross_inj s t ws wt Is It e =
        ap flip (sym (cross_flip_cross s ws Is) ∙ (ap (λ x. cross corner across mate (flip x)) e ∙ cross_flip_cross t wt It))

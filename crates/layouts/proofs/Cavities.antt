-- Base, growth and correction agree on joined cells.
use Prim.Native.Nat.{ℕ, zero, suc, ◌+◌, ◌*◌, ◌≤◌, ◌<◌}
use mathlib.Core.Bool.{Bool, true, false, not, ◌&&◌, ◌||◌}
use mathlib.Core.List.{List}
use mathlib.Core.Path.{◌≡◌, refl, sym, ap, ap₂, ◌∙◌, subst}
use native.Mathlib.Omega.{arith}
use borrow.Author.Tests.{ne_eqb}
use lib.Dec.{eqb}
use lib.ListN.{length}
use lib.IntN.{pos}
use lib.Signed.{le_z, lt_z}
use Rattle.arith.specs.Table.{any_below, count_below, iterate}
use Rattle.arith.proofs.Flags.{flag_below, and_left, and_right, and_intro, bool_ext, fails}
use Rattle.arith.proofs.Tables.{tabulate_at, tabulate_length, all_cong, any_found, any_intro, Found}
use Rattle.arith.proofs.Settling.{iterate_stops}
use Rattle.arith.proofs.Renumbering.{count_into}
use Rattle.geometry.specs.declared.Position.{Position}
use Rattle.geometry.specs.Volume.{replaced}
use Rattle.geometry.proofs.Places.{replaced_cong}
use Rattle.geometry.proofs.Algebra.{volume_cong}
use Rattle.mesh.specs.Tables.{Tables, none, cell_of, opposite, point, corner, across, corner_at, side, face_has, live, IsCell}
use Rattle.mesh.specs.Check.{same_z}
use Rattle.mesh.proofs.Room.{room_of}
use Rattle.mesh.proofs.FaceNumbers.{face_cell, face_opposite, face_eq, face<, opposite<}
use Rattle.mesh.proofs.Held.{side_at_lem}
use Rattle.locate.specs.Locate.{holds}
use Rattle.cavity.specs.Cavity.{in_set, base, grown, cavity, outer, coplanar, visible, faces_good, corners_good, marked, pruned, corrected, cavity_of, corrected_cavity}
use Rattle.cavity.proofs.Tests.{visible_of}
use Rattle.cavity.proofs.Correction.{base_long, base_at, base_cell, grown_cells, cavity_long, corrected_fixed}
use Rattle.cavity.proofs.Growth.{cavity_fixed}
use Rattle.layouts.specs.Same.{Next, no_cell, cells}
use Rattle.layouts.proofs.Alike.{Alike, AlikeMeshes, no_none, Faces, other_way}

pub any_cong : (n : ℕ) (p q : ℕ → Bool) → ((k : ℕ) → k < n → p k ≡ q k) → any_below n p ≡ any_below n q
unfolding any_below
any_cong zero p q h = refl
any_cong (suc n) p q h = ap₂ ◌||◌ (h n (omega arith)) (any_cong n p q (λ k l. h k (omega arith)))

module _ {R : ℕ → ℕ → Type 0} {np n n₁ : ℕ} {t t₁ : Tables} (T : AlikeMeshes R np t n t₁ n₁) where
  abbrev A : Alike R np t n t₁ n₁
  A = T.alike

  -- ---- positions and sides

  pub same_position_lem : (c d : ℕ) → R c d → (i : ℕ) → i < 4 → corner_at t c i ≡ corner_at t₁ d i
  unfolding corner_at
  same_position_lem c d r i h = A.points (corner t c i) (T.mesh.mesh.corner< c i (A.left c d r) h) ∙ ap (point t₁) (A.corners c d r i h)

  same_side : (q : Position) (c d : ℕ) → R c d → (i : ℕ) → i < 4 → side t q (4 * c + i) ≡ side t₁ q (4 * d + i)
  same_side q c d r i h =
      side_at_lem t q c i h ∙
      (volume_cong (replaced (corner_at t c) i q) (replaced (corner_at t₁ d) i q) (replaced_cong (corner_at t c) (corner_at t₁ d) i q q (same_position_lem c d r) refl) ∙
      sym (side_at_lem t₁ q d i h))

  pub same_holds : (p : Position) (c d : ℕ) → R c d → holds t p c ≡ holds t₁ p d
  unfolding holds
  same_holds p c d r =
      ap₂ ◌&&◌ ((A.left c d r).lives ∙ sym (A.right c d r).lives)
      (all_cong 4 (λ k. le_z (pos 0) (side t p (4 * c + k))) (λ k. le_z (pos 0) (side t₁ p (4 * d + k))) (λ k h. ap (le_z (pos 0)) (same_side p c d r k h)))

  -- ---- sets of cells that agree

  pub record Agree (s s₁ : List Bool) : Type 0 where
    pub cells : (c : ℕ) → in_set s c ≡ true → IsCell t n c
    pub cells₁ : (d : ℕ) → in_set s₁ d ≡ true → IsCell t₁ n₁ d
    pub same : (c d : ℕ) → R c d → in_set s c ≡ in_set s₁ d

  base_agrees : (p : Position) → Agree (base t n p) (base t₁ n₁ p)
  base_agrees p = record {
    cells = base_cell t n p;
    cells₁ = base_cell t₁ n₁ p;
    same = λ c d r. base_at t n p c (A.left c d r).below ∙ (same_holds p c d r ∙ sym (base_at t₁ n₁ p d (A.right c d r).below));
  }

  module _ {s s₁ : List Bool} (G : Agree s s₁) where
    out : in_set s none ≡ false
    out = fails (in_set s none) (λ e. no_none T.mesh (G.cells none e) refl)

    out₁ : in_set s₁ none ≡ false
    out₁ = fails (in_set s₁ none) (λ e. no_none T.mesh₁ (G.cells₁ none e) refl)

    pub next_same : (a b : ℕ) → Next R a b → in_set s a ≡ in_set s₁ b
    next_same a b (no_cell x y) = ap (in_set s) x ∙ (out ∙ sym (ap (in_set s₁) y ∙ out₁))
    next_same a b (cells r) = G.same a b r

    -- ---- faces

    module _ (p : Position) (c d : ℕ) (r : R c d) (i : ℕ) (i< : i < 4) where
      same_outer : outer (across t) (in_set s) (4 * c + i) ≡ outer (across t₁) (in_set s₁) (4 * d + i)
      unfolding outer
      same_outer =
          ap₂ ◌&&◌ (ap (in_set s) (face_cell c i i<) ∙ (G.same c d r ∙ ap (in_set s₁) (sym (face_cell d i i<))))
          (ap not (next_same (across t (4 * c + i)) (across t₁ (4 * d + i)) (A.neighbours c d r i i<)))

      same_visible : visible t p s (4 * c + i) ≡ visible t₁ p s₁ (4 * d + i)
      unfolding visible
      same_visible = ap₂ ◌&&◌ same_outer (ap (lt_z (pos 0)) (same_side p c d r i i<))

    same_coplanar : (p : Position) (c d : ℕ) → R c d → (i : ℕ) → i < 4 → coplanar t p (4 * c + i) ≡ coplanar t₁ p (4 * d + i)
    unfolding coplanar
    same_coplanar p c d r i i< = ap₂ ◌&&◌ (bare (A.neighbours c d r i i<)) (ap (λ z. same_z z (pos 0)) (same_side p c d r i i<))
      where
        bare : Next R (across t (4 * c + i)) (across t₁ (4 * d + i)) → eqb (across t (4 * c + i)) none ≡ eqb (across t₁ (4 * d + i)) none
        bare (no_cell x y) = ap (λ a. eqb a none) (x ∙ sym y)
        bare (cells q) =
            ne_eqb (across t (4 * c + i)) none (no_none T.mesh (A.left (across t (4 * c + i)) (across t₁ (4 * d + i)) q)) ∙
            sym (ne_eqb (across t₁ (4 * d + i)) none (no_none T.mesh₁ (A.right (across t (4 * c + i)) (across t₁ (4 * d + i)) q)))

    -- the same of joined faces
    module _ (p : Position) {f g : ℕ} (w : Faces R f g) where
      at : 4 * cell_of g + opposite f ≡ g
      at = ap (λ i. 4 * cell_of g + i) w.place ∙ face_eq g

      pub visible_alike : visible t p s f ≡ visible t₁ p s₁ g
      visible_alike =
          ap (visible t p s) (sym (face_eq f)) ∙ (same_visible p (cell_of f) (cell_of g) w.joined (opposite f) (opposite< f) ∙ ap (visible t₁ p s₁) at)

      pub coplanar_alike : coplanar t p f ≡ coplanar t₁ p g
      coplanar_alike =
          ap (coplanar t p) (sym (face_eq f)) ∙ (same_coplanar p (cell_of f) (cell_of g) w.joined (opposite f) (opposite< f) ∙ ap (coplanar t₁ p) at)

    -- a visible face has a joined one
    pub visible_there : (p : Position) (f : ℕ) → visible t p s f ≡ true → (g : ℕ) × Faces R f g
    visible_there p f v = go (A.there (cell_of f) (G.cells (cell_of f) (visible_of t p s f v).held))
      where
        go : (d : ℕ) × R (cell_of f) d → (g : ℕ) × Faces R f g
        go (d, r) = (4 * d + opposite f, record { joined = subst (R (cell_of f)) (sym (face_cell d (opposite f) (opposite< f))) r; place = sym (face_opposite d (opposite f) (opposite< f)) })

  pub has_alike : {f g : ℕ} → Faces R f g → (v : ℕ) → face_has t f v ≡ face_has t₁ g v
  unfolding face_has
  has_alike {f} {g} w v =
      any_cong 4 (λ k. not (eqb k (opposite f)) && eqb (corner t (cell_of f) k) v) (λ k. not (eqb k (opposite g)) && eqb (corner t₁ (cell_of g) k) v)
      (λ k h. ap₂ (λ o x. not (eqb k o) && eqb x v) w.place (A.corners (cell_of f) (cell_of g) w.joined k h))

-- what a cell of the one sees, the joined cell of the other sees
module _ {R : ℕ → ℕ → Type 0} {np n n₁ : ℕ} {t t₁ : Tables} (T : AlikeMeshes R np t n t₁ n₁) {s s₁ : List Bool} (G : Agree T s s₁) (p : Position) where
  seen_there : (v : ℕ) → any_below (4 * n) (λ f. visible t p s f && face_has t f v) ≡ true → any_below (4 * n₁) (λ f. visible t₁ p s₁ f && face_has t₁ f v) ≡ true
  seen_there v e = go (any_found (4 * n) (λ f. visible t p s f && face_has t f v) e)
    where
      go : Found (4 * n) (λ f. visible t p s f && face_has t f v) → any_below (4 * n₁) (λ f. visible t₁ p s₁ f && face_has t₁ f v) ≡ true
      go q = by (visible_there T G p q.at seen)
        where
          seen : visible t p s q.at ≡ true
          seen = and_left (visible t p s q.at) (face_has t q.at v) q.passes

          by : (g : ℕ) × Faces R q.at g → any_below (4 * n₁) (λ f. visible t₁ p s₁ f && face_has t₁ f v) ≡ true
          by (g, w) =
              any_intro (4 * n₁) (λ f. visible t₁ p s₁ f && face_has t₁ f v) g (face< g (T.alike.right (cell_of q.at) (cell_of g) w.joined))
              (and_intro (sym (visible_alike T G p w) ∙ seen) (sym (has_alike T w v) ∙ and_right (visible t p s q.at) (face_has t q.at v) q.passes))

  made_there : count_below (4 * n) (visible t p s) ≤ count_below (4 * n₁) (visible t₁ p s₁)
  made_there =
      count_into (4 * n) (4 * n₁) (visible t p s) (visible t₁ p s₁) (Faces R) (λ f h v. go f v (visible_there T G p f v))
      (λ f f' g w w'. omega (arith, T.alike.one_back (cell_of f) (cell_of f') (cell_of g) w.joined w'.joined, w.place, w'.place))
    where
      go : (f : ℕ) → visible t p s f ≡ true → (g : ℕ) × Faces R f g → (g : ℕ) × (g < 4 * n₁) × ((visible t₁ p s₁ g ≡ true) × Faces R f g)
      go f v (g, w) = (g, face< g (T.alike.right (cell_of f) (cell_of g) w.joined), (sym (visible_alike T G p w) ∙ v, w))

pub agree_back : {R : ℕ → ℕ → Type 0} {np n n₁ : ℕ} {t t₁ : Tables} (T : AlikeMeshes R np t n t₁ n₁) {s s₁ : List Bool} → Agree T s s₁ → Agree (other_way T) s₁ s
agree_back T G = record { cells = G.cells₁; cells₁ = G.cells; same = λ d c r. sym (G.same c d r) }

module _ {R : ℕ → ℕ → Type 0} {np n n₁ : ℕ} {t t₁ : Tables} (T : AlikeMeshes R np t n t₁ n₁) (p : Position) where
  module _ {s s₁ : List Bool} (G : Agree T s s₁) where
    -- as many new cells
    pub same_made : count_below (4 * n) (visible t p s) ≡ count_below (4 * n₁) (visible t₁ p s₁)
    same_made = omega (arith, made_there T G p, made_there (other_way T) (agree_back T G) p)

    same_seen : (v : ℕ) → any_below (4 * n) (λ f. visible t p s f && face_has t f v) ≡ any_below (4 * n₁) (λ f. visible t₁ p s₁ f && face_has t₁ f v)
    same_seen v = bool_ext _ _ (seen_there T G p v) (seen_there (other_way T) (agree_back T G) p v)

    same_faces : (c d : ℕ) → R c d → faces_good t p s c ≡ faces_good t₁ p s₁ d
    unfolding faces_good
    same_faces c d r =
        all_cong 4 (λ k. not (outer (across t) (in_set s) (4 * c + k)) || (coplanar t p (4 * c + k) || visible t p s (4 * c + k)))
        (λ k. not (outer (across t₁) (in_set s₁) (4 * d + k)) || (coplanar t₁ p (4 * d + k) || visible t₁ p s₁ (4 * d + k)))
        (λ k h. ap₂ (λ a b. not a || b) (same_outer T G p c d r k h) (ap₂ ◌||◌ (same_coplanar T G p c d r k h) (same_visible T G p c d r k h)))

    same_corners_lem : (c d : ℕ) → R c d → corners_good t n p s c ≡ corners_good t₁ n₁ p s₁ d
    unfolding corners_good
    same_corners_lem c d r =
        all_cong 4 (λ k. any_below (4 * n) (λ f. visible t p s f && face_has t f (corner t c k))) (λ k. any_below (4 * n₁) (λ f. visible t₁ p s₁ f && face_has t₁ f (corner t₁ d k)))
        (λ k h. same_seen (corner t c k) ∙ ap (λ v. any_below (4 * n₁) (λ f. visible t₁ p s₁ f && face_has t₁ f v)) (T.alike.corners c d r k h))

    same_marked : {b b₁ : List Bool} → Agree T b b₁ → (c d : ℕ) → R c d → marked t n p b s c ≡ marked t₁ n₁ p b₁ s₁ d
    unfolding marked
    same_marked B c d r =
        ap₂ ◌&&◌ (G.same c d r) (ap₂ (λ x y. not x && not y) (B.same c d r) (ap₂ ◌&&◌ (same_faces c d r) (same_corners_lem c d r)))

    pruned_agrees : {b b₁ : List Bool} → Agree T b b₁ → Agree T (pruned t n p b s) (pruned t₁ n₁ p b₁ s₁)
    unfolding pruned
    pruned_agrees {b} {b₁} B = record {
      cells = λ c e. G.cells c (and_left (in_set s c) (not (marked t n p b s c)) (sym (at c (below c e)) ∙ e));
      cells₁ = λ d e. G.cells₁ d (and_left (in_set s₁ d) (not (marked t₁ n₁ p b₁ s₁ d)) (sym (at₁ d (below₁ d e)) ∙ e));
      same = λ c d r. at c (T.alike.left c d r).below ∙ (ap₂ (λ x y. x && not y) (G.same c d r) (same_marked B c d r) ∙ sym (at₁ d (T.alike.right c d r).below));
    }
      where
        at : (c : ℕ) → c < n → in_set (pruned t n p b s) c ≡ (in_set s c && not (marked t n p b s c))
        at c h = tabulate_at n (λ c. in_set s c && not (marked t n p b s c)) c false h

        at₁ : (d : ℕ) → d < n₁ → in_set (pruned t₁ n₁ p b₁ s₁) d ≡ (in_set s₁ d && not (marked t₁ n₁ p b₁ s₁ d))
        at₁ d h = tabulate_at n₁ (λ c. in_set s₁ c && not (marked t₁ n₁ p b₁ s₁ c)) d false h

        below : (c : ℕ) → in_set (pruned t n p b s) c ≡ true → c < n
        below c e = omega (arith, flag_below (pruned t n p b s) c e, tabulate_length n (λ c. in_set s c && not (marked t n p b s c)))

        below₁ : (d : ℕ) → in_set (pruned t₁ n₁ p b₁ s₁) d ≡ true → d < n₁
        below₁ d e = omega (arith, flag_below (pruned t₁ n₁ p b₁ s₁) d e, tabulate_length n₁ (λ c. in_set s₁ c && not (marked t₁ n₁ p b₁ s₁ c)))

  -- ---- growing, with answers that follow their cells

  module _ (yes? yes₁ : ℕ → Bool) (follow : (c d : ℕ) → R c d → yes? c ≡ yes₁ d) where
    grown_agrees : {s s₁ : List Bool} → Agree T s s₁ → Agree T (grown t n yes? s) (grown t₁ n₁ yes₁ s₁)
    unfolding grown
    grown_agrees {s} {s₁} G = record {
      cells = grown_cells t n p yes? s G.cells;
      cells₁ = grown_cells t₁ n₁ p yes₁ s₁ G.cells₁;
      same = λ c d r.
          tabulate_at n (λ c. in_set s c || ((live t c && yes? c) && any_below 4 (λ k. in_set s (across t (4 * c + k))))) c false (T.alike.left c d r).below ∙
          (ap₂ ◌||◌ (G.same c d r)
          (ap₂ ◌&&◌ (ap₂ ◌&&◌ ((T.alike.left c d r).lives ∙ sym (T.alike.right c d r).lives) (follow c d r))
          (any_cong 4 (λ k. in_set s (across t (4 * c + k))) (λ k. in_set s₁ (across t₁ (4 * d + k)))
          (λ k h. next_same T G (across t (4 * c + k)) (across t₁ (4 * d + k)) (T.alike.neighbours c d r k h)))) ∙
          sym (tabulate_at n₁ (λ c. in_set s₁ c || ((live t₁ c && yes₁ c) && any_below 4 (λ k. in_set s₁ (across t₁ (4 * c + k))))) d false (T.alike.right c d r).below));
    }

    -- rounds without change do no harm, so both sides may go as many
    rounds : (f f₁ : List Bool → List Bool) → ((s s₁ : List Bool) → Agree T s s₁ → Agree T (f s) (f₁ s₁)) → (k : ℕ) (s s₁ : List Bool) → Agree T s s₁ → Agree T (iterate k f s) (iterate k f₁ s₁)
    unfolding iterate
    rounds f f₁ step zero s s₁ G = G
    rounds f f₁ step (suc k) s s₁ G = rounds f f₁ step k (f s) (f₁ s₁) (step s s₁ G)

    settled : (f f₁ : List Bool → List Bool) → ((s s₁ : List Bool) → Agree T s s₁ → Agree T (f s) (f₁ s₁)) → (s s₁ : List Bool) → Agree T s s₁ →
        f (iterate n f s) ≡ iterate n f s → f₁ (iterate n₁ f₁ s₁) ≡ iterate n₁ f₁ s₁ → Agree T (iterate n f s) (iterate n₁ f₁ s₁)
    settled f f₁ step s s₁ G e e₁ =
        subst (λ x. Agree T x (iterate n₁ f₁ s₁)) (iterate_stops f n (n + n₁) s (omega arith) e)
        (subst (λ x. Agree T (iterate (n + n₁) f s) x) (iterate_stops f₁ n₁ (n + n₁) s₁ (omega arith) e₁) (rounds f f₁ step (n + n₁) s s₁ G))

    pub cavity_agrees : Agree T (cavity_of t n p yes?) (cavity_of t₁ n₁ p yes₁)
    unfolding cavity_of cavity
    cavity_agrees =
        settled (grown t n yes?) (grown t₁ n₁ yes₁) (λ s s₁ G. grown_agrees G) (base t n p) (base t₁ n₁ p) (base_agrees T p)
        (cavity_fixed T.mesh.mesh (room_of t T.mesh.w) yes? (base t n p) (base_long t n p)) (cavity_fixed T.mesh₁.mesh (room_of t₁ T.mesh₁.w) yes₁ (base t₁ n₁ p) (base_long t₁ n₁ p))

    -- THE LAW: the corrected cavities agree
    pub corrected_agrees : Agree T (corrected_cavity t n p yes?) (corrected_cavity t₁ n₁ p yes₁)
    unfolding corrected_cavity corrected
    corrected_agrees =
        settled (pruned t n p (base t n p)) (pruned t₁ n₁ p (base t₁ n₁ p)) (λ s s₁ G. pruned_agrees G (base_agrees T p)) (cavity_of t n p yes?) (cavity_of t₁ n₁ p yes₁) cavity_agrees
        (corrected_fixed t n p (base t n p) (cavity_of t n p yes?) (long t n yes?)) (corrected_fixed t₁ n₁ p (base t₁ n₁ p) (cavity_of t₁ n₁ p yes₁) (long t₁ n₁ yes₁))
      where
        long : (t : Tables) (n : ℕ) (yes? : ℕ → Bool) → length (cavity_of t n p yes?) ≡ n
        long t n yes? = unfold cavity_of in cavity_long t n p yes? (base t n p) (base_long t n p)

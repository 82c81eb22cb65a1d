-- The tables while the star is built: one more face starred, in any order.
use Prim.Native.Nat.{ℕ, ◌+◌, ◌*◌, ◌/◌, ◌<◌}
use mathlib.Core.Bool.{Bool, true, false, ◌||◌}
use mathlib.Core.List.{List}
use mathlib.Core.Logic.{◌≢◌, ◌⊎◌, inl, inr}
use mathlib.Core.Path.{◌≡◌, refl, sym, ap, ◌∙◌, subst}
use native.Mathlib.Omega.{arith}
use native.Mathlib.Decide.{ℕ_discrete}
use borrow.Author.Tests.{eq-eqb, ne_eqb, eqb-true, eqb-false}
use lib.Dec.{eqb}
use lib.ListN.{length, get_or, set, length-set}
use lib.Seq.{get_or-set_same, get_or-set_other}
use Rattle.arith.proofs.Flags.{split, clash, fails, or_cases}
use Rattle.arith.proofs.Tables.{any_default}
use Rattle.geometry.specs.declared.Position.{Position}
use Rattle.mesh.specs.Tables.{Tables, none, cell_of, opposite, corner, across, mate, place_of, IsCell, IsFace}
use Rattle.mesh.specs.Mesh.{IsMesh}
use Rattle.mesh.specs.Inner.{with_four}
use Rattle.mesh.proofs.Room.{Room}
use Rattle.mesh.proofs.FaceNumbers.{face_cell, face_opposite, face_eq, opposite<, face<, face_in}
use Rattle.mesh.proofs.Faces.{mated, mate<, mate_real, mate_mate, across_cell}
use Rattle.mesh.proofs.Mates.{mate_by_name}
use Rattle.cavity.specs.Cavity.{in_set, visible}
use Rattle.cavity.proofs.Tests.{visible_of}
use Rattle.star.specs.Star.{Numbers, made_corner, made_across}
use Rattle.star.specs.Inner.{entry_at, name_back, FaceStarred, Places, Starred}
use Rattle.star.proofs.Around.{place_only}
use Rattle.star.proofs.Fours.{four_same, four_other, length_four}

neither : (a b : Bool) → (a || b) ≡ false → (a ≡ false) × (b ≡ false)
neither true b e = clash refl e
neither false b e = (refl, e)

module _ {X Y Z pc cc np n : ℕ} {t : Tables} (M : IsMesh X Y Z pc cc np n t) (R : Room pc cc t)
    (p : Position) (v : ℕ) (s : List Bool) {N : Numbers} (P : Places N t n p s cc) where
  -- ---- one more face

  module _ (D : ℕ → Bool) (only : (g : ℕ) → D g ≡ true → visible t p s g ≡ true)
      (f : ℕ) (vf : visible t p s f ≡ true) (fresh : D f ≡ false)
      {cs ns cs' ns' : List ℕ} (S : Starred N t n p v s D cs ns) (F : FaceStarred N t n p v s f cs ns cs' ns') where
    d : ℕ
    d = N.made f

    f< : IsFace t n f
    f< = P.cells (cell_of f) (visible_of t p s f vf).held

    d< : d < cc
    unfolding d
    d< = P.below f vf

    -- no cell stands there
    d_off : (c : ℕ) → IsCell t n c → c ≢ d
    unfolding d
    d_off c h e = P.off c f h vf (sym e)

    -- another slot
    apart : (g : ℕ) → D g ≡ true → N.made g ≢ d
    unfolding d
    apart g e q = clash (ap D (sym (P.one g f (only g e) vf q)) ∙ e) fresh

    corners_at : (q : ℕ) → cell_of q ≢ d → get_or cs' q 0 ≡ get_or cs q 0
    unfolding d
    corners_at q h = ap (λ l. get_or l q 0) F.corners ∙ four_other cs (N.made f) F.cell.corners q h

    corners_in : (j : ℕ) → j < 4 → get_or cs' (4 * d + j) 0 ≡ made_corner t v f j
    unfolding d
    corners_in j h =
        ap (λ l. get_or l (4 * N.made f + j) 0) F.corners ∙
        (four_same cs (N.made f) F.cell.corners (omega (arith, S.corners_long, R.corners_fit, P.below f vf)) j h ∙ F.new.corners_are j h)

    -- the new cell is written, and not yet named back
    ns₁ : List ℕ
    ns₁ = with_four ns d F.cell.neighbours

    ns₁_long : length ns₁ ≡ length t.neighbours
    unfolding ns₁
    ns₁_long = length_four ns d F.cell.neighbours ∙ S.neighbours_long

    ns₁_at : (q : ℕ) → cell_of q ≢ d → get_or ns₁ q 0 ≡ get_or ns q 0
    unfolding ns₁
    ns₁_at q h = four_other ns d F.cell.neighbours q h

    ns₁_in : (j : ℕ) → j < 4 → get_or ns₁ (4 * d + j) 0 ≡ made_across N t n p s f j
    unfolding ns₁
    ns₁_in j h =
        four_same ns d F.cell.neighbours (omega (arith, S.neighbours_long, R.neighbours_fit, d<)) j h ∙ F.new.neighbours_are j h

    module _ (real : across t f ≢ none) where
      u : ℕ
      u = across t f

      u< : IsCell t n u
      unfolding u
      u< = across_cell M R f f< real

      g : ℕ
      g = mate t f

      g< : IsFace t n g
      unfolding g
      g< = mate< M R f f< real

      home : 4 * u + opposite g ≡ g
      unfolding u g
      home = ap (λ x. 4 * x + opposite (mate t f)) (sym (mated M R f f< real).far_cell) ∙ face_eq (mate t f)

      -- the mate still names f's cell
      names : get_or ns g 0 ≡ cell_of f
      unfolding g
      names = S.unnamed (mate t f) g< (λ r. ap D (mate_mate M R f f< real) ∙ fresh) ∙ (mated M R f f< real).back

      old_entry : (q : ℕ) → IsFace t n q → get_or ns q 0 ≡ cell_of f → across t q ≡ cell_of f
      old_entry q h e = go (ℕ_discrete (across t q) none) (split (D (mate t q)))
        where
          go : Dec (across t q ≡ none) → (D (mate t q) ≡ true) ⊎ (D (mate t q) ≡ false) → across t q ≡ cell_of f
          go (yes z) b = sym (S.unnamed q h (λ r. absurd (r z))) ∙ e
          go (no r) (inl b) = absurd (P.off (cell_of f) (mate t q) f< (only (mate t q) b) (sym (S.named q h r b) ∙ e))
          go (no r) (inr b) = sym (S.unnamed q h (λ r. b)) ∙ e

      back : 4 * across t f + place_of (entry_at ns₁) (across t f) (cell_of f) ≡ mate t f
      unfolding u g
      back = ap (λ k. 4 * across t f + k) (place_only (entry_at ns₁) u (cell_of f) (opposite g) (opposite< g) here only_there) ∙ home
        where
          same : (k : ℕ) → k < 4 → entry_at ns₁ u k ≡ get_or ns (4 * u + k) 0
          same k h = ns₁_at (4 * u + k) (λ e. d_off u u< (sym (face_cell u k h) ∙ e))

          here : entry_at ns₁ u (opposite g) ≡ cell_of f
          here = same (opposite g) (opposite< g) ∙ (ap (λ q. get_or ns q 0) home ∙ names)

          only_there : (k : ℕ) → k < 4 → entry_at ns₁ u k ≡ cell_of f → k ≡ opposite g
          only_there k h e =
              sym (face_opposite u k h) ∙
              ap opposite (mate_by_name M R f k f< real h (old_entry (4 * u + k) (face_in u k h u<) (sym (same k h) ∙ e)))

      set_is : ns' ≡ set ns₁ (mate t f) d
      unfolding name_back ns₁ d
      set_is = F.neighbours ∙ (rw (ne_eqb (across t f) none real) (ap (λ k. set ns₁ k d) back))

      named_back : get_or ns' (mate t f) 0 ≡ d
      unfolding g
      named_back =
          ap (λ l. get_or l (mate t f) 0) set_is ∙
          get_or-set_same ns₁ (mate t f) d 0 (omega (arith, ns₁_long, R.neighbours_fit, M.cells≤, face< (mate t f) g<))

    none_back : across t f ≡ none → ns' ≡ ns₁
    unfolding name_back ns₁ d
    none_back e = F.neighbours ∙ rw (eq-eqb (across t f) none e)

    neighbours_at : (q : ℕ) → (across t f ≢ none → q ≢ mate t f) → get_or ns' q 0 ≡ get_or ns₁ q 0
    neighbours_at q other = go (ℕ_discrete (across t f) none)
      where
        go : Dec (across t f ≡ none) → get_or ns' q 0 ≡ get_or ns₁ q 0
        go (yes e) = ap (λ l. get_or l q 0) (none_back e)
        go (no r) = ap (λ l. get_or l q 0) (set_is r) ∙ get_or-set_other ns₁ (mate t f) q d 0 (other r)

    -- a face whose mate is not f
    neighbours_old : (q : ℕ) → IsFace t n q → (across t f ≢ none → q ≢ mate t f) → get_or ns' q 0 ≡ get_or ns q 0
    neighbours_old q h other = neighbours_at q other ∙ ns₁_at q (d_off (cell_of q) h)

    mates_back : (q : ℕ) → across t f ≢ none → q ≡ mate t f → mate t q ≡ f
    mates_back q r e = ap (mate t) e ∙ mate_mate M R f f< r

    neighbours_long' : length ns' ≡ length t.neighbours
    neighbours_long' = go (ℕ_discrete (across t f) none)
      where
        go : Dec (across t f ≡ none) → length ns' ≡ length t.neighbours
        go (yes e) = ap length (none_back e) ∙ ns₁_long
        go (no r) = ap length (set_is r) ∙ (length-set ns₁ (mate t f) d ∙ ns₁_long)

    pub star_more : Starred N t n p v s (λ g. D g || eqb g f) cs' ns'
    unfolding d
    star_more =
        record {
          corners_long = ap length F.corners ∙ (length_four cs (N.made f) F.cell.corners ∙ S.corners_long);
          neighbours_long = neighbours_long';
          corners_else = λ q h. corners_at q (λ e. h f vf (sym e)) ∙ S.corners_else q h;
          corners_new = λ g j e h. corner_in g j h (or_cases (D g) (eqb g f) e);
          named = λ q h r e. name q h r (split (eqb (mate t q) f)) e;
          unnamed = λ q h e. unname q h e;
          neighbours_new = λ g j e h. across_in g j h (or_cases (D g) (eqb g f) e);
          neighbours_else = λ q h out.
              neighbours_at q (λ r e. absurd (out (subst (λ x. IsFace t n x) (sym e) (mate< M R f f< r)))) ∙ (ns₁_at q (λ e. h f vf (sym e)) ∙ S.neighbours_else q h out);
        }
      where
        corner_in : (g j : ℕ) → j < 4 → (D g ≡ true) ⊎ (eqb g f ≡ true) → entry_at cs' (N.made g) j ≡ made_corner t v g j
        corner_in g j h (inl e) =
            corners_at (4 * N.made g + j) (λ q. apart g e (sym (face_cell (N.made g) j h) ∙ q)) ∙ S.corners_new g j e h
        corner_in g j h (inr e) = subst (λ x. entry_at cs' (N.made x) j ≡ made_corner t v x j) (sym (eqb-true g f e)) (corners_in j h)

        off_mate : (g j : ℕ) → j < 4 → visible t p s g ≡ true → across t f ≢ none → 4 * N.made g + j ≢ mate t f
        off_mate g j h w r e = P.off (cell_of (mate t f)) g (mate< M R f f< r) w (sym (face_cell (N.made g) j h) ∙ ap (λ x. x / 4) e)

        across_in : (g j : ℕ) → j < 4 → (D g ≡ true) ⊎ (eqb g f ≡ true) → entry_at ns' (N.made g) j ≡ made_across N t n p s g j
        across_in g j h (inl e) =
            neighbours_at (4 * N.made g + j) (off_mate g j h (only g e)) ∙
            (ns₁_at (4 * N.made g + j) (λ q. apart g e (sym (face_cell (N.made g) j h) ∙ q)) ∙ S.neighbours_new g j e h)
        across_in g j h (inr e) =
            subst (λ x. entry_at ns' (N.made x) j ≡ made_across N t n p s x j) (sym (eqb-true g f e))
            (neighbours_at (4 * N.made f + j) (off_mate f j h vf) ∙ ns₁_in j h)

        name : (q : ℕ) → IsFace t n q → across t q ≢ none → (eqb (mate t q) f ≡ true) ⊎ (eqb (mate t q) f ≡ false) → (D (mate t q) || eqb (mate t q) f) ≡ true →
            get_or ns' q 0 ≡ N.made (mate t q)
        name q h r (inl e) b =
            let m : mate t q ≡ f = eqb-true (mate t q) f e in
            let far : across t f ≢ none = subst (λ x. across t x ≢ none) m (mate_real M R q h r) in
            let at : q ≡ mate t f = sym (mate_mate M R q h r) ∙ ap (mate t) m in
            ap (λ x. get_or ns' x 0) at ∙ (named_back far ∙ ap N.made (sym m))
        name q h r (inr e) b = go (or_cases (D (mate t q)) (eqb (mate t q) f) b)
          where
            go : (D (mate t q) ≡ true) ⊎ (eqb (mate t q) f ≡ true) → get_or ns' q 0 ≡ N.made (mate t q)
            go (inl x) = neighbours_old q h (λ w z. clash (eq-eqb (mate t q) f (mates_back q w z)) e) ∙ S.named q h r x
            go (inr x) = clash x e

        unname : (q : ℕ) → IsFace t n q → (across t q ≢ none → (D (mate t q) || eqb (mate t q) f) ≡ false) → get_or ns' q 0 ≡ across t q
        unname q h e =
            neighbours_old q h (λ w z.
            eqb-false (mate t q) f (neither (D (mate t q)) (eqb (mate t q) f) (e (subst (λ x. across t x ≢ none) (sym z) (mate_real M R f f< w)))).1 (mates_back q w z)) ∙
            S.unnamed q h (λ r. (neither (D (mate t q)) (eqb (mate t q) f) (e r)).0)

  -- ---- none

  pub star_none : Starred N t n p v s (λ g. false) t.corners t.neighbours
  unfolding across
  star_none = record {
    corners_long = refl;
    neighbours_long = refl;
    corners_else = λ q h. refl;
    corners_new = λ g j e h. clash e refl;
    named = λ q h r e. clash e refl;
    unnamed = λ q h e. any_default t.neighbours q 0 none (omega (arith, R.neighbours_fit, M.cells≤, face< q h));
    neighbours_new = λ g j e h. clash e refl;
    neighbours_else = λ q h out. refl;
  }

  -- ---- the cavity's cells stand

  module _ (D : ℕ → Bool) (only : (g : ℕ) → D g ≡ true → visible t p s g ≡ true) {cs ns : List ℕ} (S : Starred N t n p v s D cs ns)
      (c i : ℕ) (held : in_set s c ≡ true) (i< : i < 4) where
    q< : IsFace t n (4 * c + i)
    q< = face_in c i i< (P.cells c held)

    pub cavity_corners : entry_at cs c i ≡ corner t c i
    unfolding corner
    cavity_corners = S.corners_else (4 * c + i) (λ f w e. P.off c f (P.cells c held) w (e ∙ face_cell c i i<))

    pub cavity_neighbours : entry_at ns c i ≡ across t (4 * c + i)
    cavity_neighbours = S.unnamed (4 * c + i) q< (λ r. fails (D (mate t (4 * c + i))) (λ e.
        clash held (ap (in_set s) (sym ((mated M R (4 * c + i) q< r).back ∙ face_cell c i i<)) ∙ (visible_of t p s (mate t (4 * c + i)) (only (mate t (4 * c + i)) e)).free)))

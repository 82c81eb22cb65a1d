-- F5: sums over the cells that depend on the walls only. Each point number gets a place in ℕ³ (`φ`), and so each cell a volume. A volume is
-- the sum of its four `facet`s, mated faces have opposite facets, and what is left are the wall faces.
use Prim.Native.Nat.{ℕ, ◌+◌, ◌*◌, ◌<◌}
use mathlib.Core.Bool.{Bool, true, false, not, ◌&&◌, cond}
use mathlib.Core.Logic.{◌≢◌, ◌⊎◌, inl, inr}
use mathlib.Core.Path.{◌≡◌, refl, sym, ap, ap₂, ◌∙◌}
use mathlib.Core.List.{List, [], ◌∷◌}
use native.Mathlib.Omega.{arith}
use native.Mathlib.Decide.{ℕ_discrete}
use borrow.Author.Tests.{eqb-true, eq-eqb, ne_eqb}
use lib.Dec.{eqb}
use lib.IntN.{ℤ, pos, negsuc, neg_ℤ, ◌+ℤ◌, ◌-ℤ◌, ◌*ℤ◌, *ℤ-zero, *ℤ_comm, neg_ℤ-neg_ℤ}
use lib.Signed.{◌<ℤ◌}
use Rattle.arith.specs.Table.{sum}
use Rattle.arith.specs.Determinant.{det3_of}
use Rattle.arith.proofs.Flags.{split, clash, and_left, and_right, and_intro, below_four}
use Rattle.arith.proofs.Sums.{sum_cong, sum_zero, sum_add, sum_times, sum_cells, sum_paired}
use Rattle.arith.proofs.Ring.{var, con, ◌⊕◌, ◌⊗◌, neg, ring}
use Rattle.geometry.specs.declared.Position.{Position}
use Rattle.geometry.specs.Volume.{vector, volume6, volume, replaced}
use Rattle.geometry.proofs.Places.{replaced_same, replaced_other}
use Rattle.geometry.proofs.Algebra.{volume_cong, volume_split}
use Rattle.mesh.specs.Tables.{Tables, none, cell_of, opposite, point, corner, across, corner_at, cell_volume, mate, live, IsFace}
use Rattle.mesh.specs.Mesh.{Wall, along, level, OnWall, IsMesh}
use Rattle.mesh.proofs.Room.{Room}
use Rattle.mesh.proofs.Live.{freed_corner}
use Rattle.mesh.proofs.Links.{link, link_corner, link_apart}
use Rattle.mesh.proofs.Faces.{link_opposite, mated, mate<, mate_mate, mate_real, mirrored}
use Rattle.mesh.proofs.FaceNumbers.{opposite<, face<, face_cell, face_opposite}
use Rattle.covering.proofs.Linear.{o₀, p₃, k₃, rowsₑ, sixₑ, env₃}

abbrev pub corners_by : Tables → (ℕ → Position) → ℕ → ℕ → Position
corners_by t φ c k = φ (corner t c k)

unfoldable pub facet : Tables → (ℕ → Position) → ℕ → ℤ
facet t φ f = volume (replaced (corners_by t φ (cell_of f)) (opposite f) o₀)

-- Σ over the entries in use; a freed one has four times one corner, so that it adds nothing
unfoldable pub sum_of : Tables → ℕ → (ℕ → Position) → ℤ
sum_of t n φ = sum n (λ c. volume (corners_by t φ c))

facet_sum : (t : Tables) (n : ℕ) (φ : ℕ → Position) → sum (4 * n) (facet t φ) ≡ sum_of t n φ
unfolding facet sum_of
facet_sum t n φ =
    sum_cells n (facet t φ) ∙
    sum_cong n (λ c. sum 4 (λ i. facet t φ (4 * c + i))) (λ c. volume (corners_by t φ c))
    (λ c l. sum_cong 4 (λ i. facet t φ (4 * c + i)) (λ i. volume (replaced (corners_by t φ c) i o₀)) (λ i h. rw (face_cell c i h, face_opposite c i h)) ∙ volume_split (corners_by t φ c) o₀)

-- ---- the three corners of a face

abbrev pub triple : Position → Position → Position → ℤ
triple a b c =
    det3_of ℤ ◌+ℤ◌ ◌-ℤ◌ ◌*ℤ◌ (vector a) (vector b) (vector c)

record Facing (i : ℕ) : Type 0 where
  a : ℕ
  b : ℕ
  c : ℕ
  a< : a < 4
  b< : b < 4
  c< : c < 4
  a≢ : a ≢ i
  b≢ : b ≢ i
  c≢ : c ≢ i
  sgn : ℤ
  is : (s : ℕ → Position) → volume (replaced s i o₀) ≡ sgn *ℤ triple (s a) (s b) (s c)

facing : (i : ℕ) → i < 4 → Facing i
unfolding volume volume6
facing =
    below_four Facing
    record {
      a = 1;
      b = 2;
      c = 3;
      a< = omega arith;
      b< = omega arith;
      c< = omega arith;
      a≢ = omega arith;
      b≢ = omega arith;
      c≢ = omega arith;
      sgn = pos 1;
      is = λ s. ring (sixₑ (k₃ 0 0 0) (p₃ 1) (p₃ 2) (p₃ 3)) (con (pos 1) ⊗ rowsₑ (p₃ 1) (p₃ 2) (p₃ 3)) tt (env₃ (s 0 ∷ s 1 ∷ s 2 ∷ s 3 ∷ []) []);
    }
    record {
      a = 0;
      b = 2;
      c = 3;
      a< = omega arith;
      b< = omega arith;
      c< = omega arith;
      a≢ = omega arith;
      b≢ = omega arith;
      c≢ = omega arith;
      sgn = negsuc 0;
      is = λ s. ring (sixₑ (p₃ 0) (k₃ 0 0 0) (p₃ 2) (p₃ 3)) (con (negsuc 0) ⊗ rowsₑ (p₃ 0) (p₃ 2) (p₃ 3)) tt (env₃ (s 0 ∷ s 1 ∷ s 2 ∷ s 3 ∷ []) []);
    }
    record {
      a = 0;
      b = 1;
      c = 3;
      a< = omega arith;
      b< = omega arith;
      c< = omega arith;
      a≢ = omega arith;
      b≢ = omega arith;
      c≢ = omega arith;
      sgn = pos 1;
      is = λ s. ring (sixₑ (p₃ 0) (p₃ 1) (k₃ 0 0 0) (p₃ 3)) (con (pos 1) ⊗ rowsₑ (p₃ 0) (p₃ 1) (p₃ 3)) tt (env₃ (s 0 ∷ s 1 ∷ s 2 ∷ s 3 ∷ []) []);
    }
    record {
      a = 0;
      b = 1;
      c = 2;
      a< = omega arith;
      b< = omega arith;
      c< = omega arith;
      a≢ = omega arith;
      b≢ = omega arith;
      c≢ = omega arith;
      sgn = negsuc 0;
      is = λ s. ring (sixₑ (p₃ 0) (p₃ 1) (p₃ 2) (k₃ 0 0 0)) (con (negsuc 0) ⊗ rowsₑ (p₃ 0) (p₃ 1) (p₃ 2)) tt (env₃ (s 0 ∷ s 1 ∷ s 2 ∷ s 3 ∷ []) []);
    }

-- ---- sums of several, with factors

pub data Part : Type 0 where
  ◌of◌ : ℤ → (ℕ → Position) → Part

infix 80 ◌of◌
unfoldable pub facets : Tables → List Part → ℕ → ℤ
facets t [] f = pos 0
facets t (m of φ ∷ l) f = m *ℤ facet t φ f +ℤ facets t l f

abbrev pub sums_of : Tables → ℕ → List Part → ℤ
sums_of t n [] = pos 0
sums_of t n (m of φ ∷ l) = m *ℤ sum_of t n φ +ℤ sums_of t n l

abbrev pub triples : List Part → ℕ → ℕ → ℕ → ℤ
triples [] a b c = pos 0
triples (m of φ ∷ l) a b c = m *ℤ triple (φ a) (φ b) (φ c) +ℤ triples l a b c

facets_sum : (t : Tables) (n : ℕ) (l : List Part) → sum (4 * n) (facets t l) ≡ sums_of t n l
unfolding facets
facets_sum t n [] = sum_zero (4 * n) (facets t []) (λ k h. refl)
facets_sum t n (m of φ ∷ l) =
    sum_add (4 * n) (λ f. m *ℤ facet t φ f) (facets t l) ∙
    ap₂ ◌+ℤ◌ (sum_cong (4 * n) (λ f. m *ℤ facet t φ f) (λ f. facet t φ f *ℤ m) (λ k h. *ℤ_comm m (facet t φ k)) ∙ (sum_times (4 * n) (facet t φ) m ∙ (ap (λ z. z *ℤ m) (facet_sum t n φ) ∙ *ℤ_comm (sum_of t n φ) m))) (facets_sum t n l)

facets_triples : (t : Tables) (l : List Part) (f : ℕ) (F : Facing (opposite f)) →
    facets t l f ≡ F.sgn *ℤ triples l (corner t (cell_of f) F.a) (corner t (cell_of f) F.b) (corner t (cell_of f) F.c)
unfolding facets facet
facets_triples t [] f F = sym (*ℤ-zero F.sgn)
facets_triples t (m of φ ∷ l) f F =
    ap₂ (λ u v. m *ℤ u +ℤ v) (F.is (corners_by t φ (cell_of f))) (facets_triples t l f F) ∙
    ring (var 0 ⊗ (var 1 ⊗ var 2) ⊕ var 1 ⊗ var 3) (var 1 ⊗ (var 0 ⊗ var 2 ⊕ var 3)) tt
    (m ∷ F.sgn ∷ triple (φ (corner t (cell_of f) F.a)) (φ (corner t (cell_of f) F.b)) (φ (corner t (cell_of f) F.c)) ∷ triples l (corner t (cell_of f) F.a) (corner t (cell_of f) F.b) (corner t (cell_of f) F.c) ∷ [])

-- three times one corner
triples_one : (l : List Part) (v : ℕ) → triples l v v v ≡ pos 0
triples_one [] v = refl
triples_one (m of φ ∷ l) v =
    ap (λ z. m *ℤ triple (φ v) (φ v) (φ v) +ℤ z) (triples_one l v) ∙
    ring (var 3 ⊗ rowsₑ (p₃ 0) (p₃ 0) (p₃ 0) ⊕ con (pos 0)) (con (pos 0)) tt (env₃ (φ v ∷ []) (m ∷ []))

facets_freed : (t : Tables) (l : List Part) (f : ℕ) → live t (cell_of f) ≡ false → facets t l f ≡ pos 0
facets_freed t l f a =
    facets_triples t l f F ∙
    (ap (λ z. F.sgn *ℤ z) ((λ i. triples l (at F.a F.a< i) (at F.b F.b< i) (at F.c F.c< i)) ∙ triples_one l none) ∙ *ℤ-zero F.sgn)
  where
    F : Facing (opposite f)
    F = facing (opposite f) (opposite< f)

    at : (k : ℕ) → k < 4 → corner t (cell_of f) k ≡ none
    at = freed_corner t (cell_of f) a

module _ {X Y Z pc cc np n : ℕ} {t : Tables} (M : IsMesh X Y Z pc cc np n t) (R : Room pc cc t) where
  facet_mate : (φ : ℕ → Position) (f : ℕ) → IsFace t n f → across t f ≢ none → facet t φ (mate t f) ≡ neg_ℤ (facet t φ f)
  unfolding facet
  facet_mate φ f f< real =
      sym (neg_ℤ-neg_ℤ _) ∙
      ap neg_ℤ (sym (mirrored M R f f< real (replaced u (opposite (mate t f)) o₀)) ∙
      volume_cong (λ k. replaced u (opposite (mate t f)) o₀ (link t f (mate t f) k)) (replaced c (opposite f) o₀) (λ k h. go k h (ℕ_discrete k (opposite f))))
    where
      u : ℕ → Position
      u = corners_by t φ (cell_of (mate t f))

      c : ℕ → Position
      c = corners_by t φ (cell_of f)

      own : pos 0 <ℤ cell_volume t (cell_of f)
      own = M.positive (cell_of f) f<

      far : pos 0 <ℤ cell_volume t (cell_of (mate t f))
      far = M.positive (cell_of (mate t f)) (mate< M R f f< real)

      go : (k : ℕ) → k < 4 → Dec (k ≡ opposite f) → replaced u (opposite (mate t f)) o₀ (link t f (mate t f) k) ≡ replaced c (opposite f) o₀ k
      go k h (yes e) =
          ap (replaced u (opposite (mate t f)) o₀) (ap (link t f (mate t f)) e ∙ link_opposite M R f f< real) ∙
          (replaced_same u (opposite (mate t f)) o₀ ∙ sym (ap (replaced c (opposite f) o₀) e ∙ replaced_same c (opposite f) o₀))
      go k h (no d) =
          replaced_other u (opposite (mate t f)) o₀ (link t f (mate t f) k) (link_apart t f (mate t f) own far (mated M R f f< real).same k h d) ∙
          (ap φ (link_corner t f (mate t f) own far (mated M R f f< real).same k h d) ∙ sym (replaced_other c (opposite f) o₀ k d))

  facets_mate : (l : List Part) (f : ℕ) → IsFace t n f → across t f ≢ none → facets t l (mate t f) ≡ neg_ℤ (facets t l f)
  unfolding facets
  facets_mate [] f f< real = refl
  facets_mate (m of φ ∷ l) f f< real =
      ap₂ (λ u v. m *ℤ u +ℤ v) (facet_mate φ f f< real) (facets_mate l f f< real) ∙
      ring (var 0 ⊗ neg (var 1) ⊕ neg (var 2)) (neg (var 0 ⊗ var 1 ⊕ var 2)) tt (m ∷ facet t φ f ∷ facets t l f ∷ [])

  abbrev pub On : Wall → ℕ → Type 0
  On w v = along w (point t v) ≡ level X Y Z w

  -- what is 0 on every wall sums to 0
  pub closed : (l : List Part) → ((w : Wall) (a b c : ℕ) → On w a → On w b → On w c → triples l a b c ≡ pos 0) → sums_of t n l ≡ pos 0
  closed l flat =
      sym (facets_sum t n l) ∙
      (sum_cong (4 * n) (facets t l) (λ f. cond (in? f) (facets t l f) (pos 0)) (λ f f<. bare f f< (split (live t (cell_of f))) (split (eqb (across t f) none))) ∙
      sum_paired (4 * n) (mate t) in? (facets t l) record {
        mate< = λ f f< e. face< (mate t f) (mate< M R f (face f f< e) (real f e));
        mate_in = λ f f< e. and_intro (mate< M R f (face f f< e) (real f e)).lives (ap not (ne_eqb (across t (mate t f)) none (mate_real M R f (face f f< e) (real f e))));
        mate_mate = λ f f< e. mate_mate M R f (face f f< e) (real f e);
        mate_neg = λ f f< e. facets_mate l f (face f f< e) (real f e);
      })
    where
      in? : ℕ → Bool
      in? f = live t (cell_of f) && not (eqb (across t f) none)

      face : (f : ℕ) → f < 4 * n → in? f ≡ true → IsFace t n f
      face f f< e = record { below = omega arith; lives = and_left (live t (cell_of f)) (not (eqb (across t f) none)) e }

      real : (f : ℕ) → in? f ≡ true → across t f ≢ none
      real f e q = clash (and_right (live t (cell_of f)) (not (eqb (across t f) none)) e) (ap not (eq-eqb (across t f) none q))

      bare : (f : ℕ) → f < 4 * n → (live t (cell_of f) ≡ true) ⊎ (live t (cell_of f) ≡ false) → (eqb (across t f) none ≡ true) ⊎ (eqb (across t f) none ≡ false) →
          facets t l f ≡ cond (in? f) (facets t l f) (pos 0)
      bare f f< (inr a) e = rw a (facets_freed t l f a)
      bare f f< (inl a) (inr e) = rw (a, e) refl
      bare f f< (inl a) (inl e) = rw (a, e) (facets_triples t l f F ∙ (ap (λ z. F.sgn *ℤ z) (flat o.wall _ _ _ (on F.a F.a< F.a≢) (on F.b F.b< F.b≢) (on F.c F.c< F.c≢)) ∙ *ℤ-zero F.sgn))
        where
          F : Facing (opposite f)
          F = facing (opposite f) (opposite< f)

          o : OnWall X Y Z t f
          o = M.walls f record { below = omega arith; lives = a } (eqb-true (across t f) none e)

          on : (k : ℕ) → k < 4 → k ≢ opposite f → On o.wall (corner t (cell_of f) k)
          on k h d = unfold corner_at in o.on k h d

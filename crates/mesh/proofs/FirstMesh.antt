-- The started box is a mesh, for every legal box.
use Prim.Native.Nat.{ℕ, ◌*◌, ◌/◌, ◌%◌, ◌≤◌, ◌<◌}
use mathlib.Core.Bool.{Bool, true, false, not, cond, ◌||◌}
use mathlib.Core.List.{◌∷◌, []}
use mathlib.Core.Logic.{◌≢◌}
use mathlib.Core.Path.{◌≡◌, refl, sym, ap, ◌∙◌, subst}
use native.Mathlib.Omega.{arith}
use borrow.Author.Tests.{eqb-true, ne_eqb, eq-eqb, ltb-true}
use lib.Dec.{T, ltb, eqb}
use lib.ListN.{length, drop, length-append}
use lib.IntN.{pos, ◌*ℤ◌}
use lib.Signed.{◌<ℤ◌}
use Rattle.arith.specs.Table.{all_below, any_below, sum}
use Rattle.arith.proofs.Flags.{or_other, below_six, below_eight}
use Rattle.arith.proofs.Order.{arithℤ, *-pos}
use Rattle.arith.proofs.Ring.{Expr, var, con, ◌⊕◌, ◌⊖◌, ◌⊗◌, eval, check, ring}
use Rattle.arith.specs.Determinant.{Vector, det4_of}
use Rattle.arith.proofs.Sums.{sum_cong}
use Rattle.arith.proofs.Tables.{all_at}
use Rattle.geometry.specs.Volume.{InBox, volume6, volume}
use Rattle.mesh.specs.Tables.{Tables, none, cell_of, opposite, point_in, point, corner, across, corner_at, cell_volume, live}
use Rattle.mesh.specs.Mesh.{LegalSide, bit, at_bit, box_corner, Wall, low_x, low_y, low_z, high_x, high_y, high_z, along, level, OnWall, IsMesh}
use Rattle.mesh.specs.Check.{used_ok, face_ok}
use Rattle.mesh.specs.Start.{start_points, start_corners, start_neighbours, started}
use Rattle.mesh.specs.Inner.{four_at, cell_at}
use Rattle.mesh.specs.Inner.Faces.{place_in, odd_order, faces_back, face_test, face_numbers}
use Rattle.mesh.proofs.FaceNumbers.{face_eq, opposite<, face<}
use Rattle.mesh.proofs.Live.{live_of}
use Rattle.mesh.proofs.Numbers.{face_numbers_is}
use Rattle.mesh.proofs.Checked.{used_of, face_mated_of}

-- corner k of the box X, Y, Z, for the solver
abbrev cornerₑ : ℕ → Vector Expr
cornerₑ k = record { x = cond (eqb (k % 2) 1) (var 0) (con (pos 0)); y = cond (eqb (k / 2 % 2) 1) (var 1) (con (pos 0)); z = cond (eqb (k / 2 / 2 % 2) 1) (var 2) (con (pos 0)) }

abbrev cellₑ : ℕ → ℕ → ℕ → ℕ → Expr
cellₑ a b c d = det4_of Expr ◌⊕◌ ◌⊖◌ ◌⊗◌ (cornerₑ a) (cornerₑ b) (cornerₑ c) (cornerₑ d)

-- the wall that a box corner lies on, by its bits
abbrev on_wall : Wall → ℕ → Bool
on_wall low_x k = eqb (k % 2) 0
on_wall low_y k = eqb (k / 2 % 2) 0
on_wall low_z k = eqb (k / 2 / 2 % 2) 0
on_wall high_x k = eqb (k % 2) 1
on_wall high_y k = eqb (k / 2 % 2) 1
on_wall high_z k = eqb (k / 2 / 2 % 2) 1

-- the wall of face f of the started box, where it has one
abbrev wall_of : ℕ → Wall
wall_of f =
    cond (eqb (f % 4) 0)
    (cond (eqb f 0 || eqb f 20) high_x (cond (eqb f 4 || eqb f 8) high_y high_z))
    (cond (eqb f 3 || eqb f 7) low_z (cond (eqb f 11 || eqb f 15) low_x low_y))

low : (b s : ℕ) → eqb b 0 ≡ true → cond (eqb b 1) s 0 ≡ 0
low b s e = ap (λ b. cond (eqb b 1) s 0) (eqb-true b 0 e)

at≤ : (k b s : ℕ) → at_bit k b s ≤ s
at≤ k b s = go (eqb (bit k b) 1)
  where
    go : (c : Bool) → cond c s 0 ≤ s
    go true = omega arith
    go false = omega arith

module _ (X Y Z : ℕ) (t : Tables) where
  abbrev t₀ : Tables
  t₀ = started X Y Z t

  start_point : (k : ℕ) → k < 8 → point t₀ k ≡ box_corner X Y Z k
  unfolding started start_points point_in
  start_point = below_eight (λ k. point t₀ k ≡ box_corner X Y Z k) refl refl refl refl refl refl refl refl

  -- ---- volumes

  start_volume : (c : ℕ) → c < 6 → cell_volume t₀ c ≡ pos X *ℤ pos Y *ℤ pos Z
  unfolding cell_volume volume volume6 corner_at corner started start_points start_corners point_in
  start_volume =
      below_six (λ c. cell_volume t₀ c ≡ pos X *ℤ pos Y *ℤ pos Z)
      (is (cellₑ 0 1 3 7) tt) (is (cellₑ 0 3 2 7) tt) (is (cellₑ 0 2 6 7) tt) (is (cellₑ 0 6 4 7) tt) (is (cellₑ 0 4 5 7) tt) (is (cellₑ 0 5 1 7) tt)
    where
      is : (e : Expr) → T (check e (var 0 ⊗ var 1 ⊗ var 2)) → eval (pos X ∷ pos Y ∷ pos Z ∷ []) e ≡ pos X *ℤ pos Y *ℤ pos Z
      is e h = ring e (var 0 ⊗ var 1 ⊗ var 2) h (pos X ∷ pos Y ∷ pos Z ∷ [])

  start_sum : sum 6 (cell_volume t₀) ≡ pos (6 * X * Y * Z)
  unfolding sum
  start_sum =
      sum_cong 6 (cell_volume t₀) (λ c. pos X *ℤ pos Y *ℤ pos Z) start_volume ∙
      ring (con (pos 0) ⊕ v ⊕ v ⊕ v ⊕ v ⊕ v ⊕ v) (con (pos 6) ⊗ var 0 ⊗ var 1 ⊗ var 2) tt (pos X ∷ pos Y ∷ pos Z ∷ [])
    where
      v : Expr
      v = var 0 ⊗ var 1 ⊗ var 2

  -- ---- numbers

  start_corner : (c i : ℕ) → c < 6 → i < 4 → corner t₀ c i < 8
  unfolding all_below corner started start_corners
  start_corner c i hc hi = ltb-true (corner t₀ c i) 8 (all_at 4 (λ i. ltb (corner t₀ c i) 8) (all_at 6 (λ c. all_below 4 (λ i. ltb (corner t₀ c i) 8)) test c hc) i hi)
    where
      test : all_below 6 (λ c. all_below 4 (λ i. ltb (corner t₀ c i) 8)) ≡ true
      test = refl

  pub start_live : (c : ℕ) → c < 6 → live (started X Y Z t) c ≡ true
  start_live c h = live_of t₀ c 0 (omega arith) (omega (arith, start_corner c 0 h (omega arith)))

  start_used : all_below 8 (used_ok t₀ 6) ≡ true
  unfolding all_below any_below used_ok corner started start_corners
  start_used = refl

  start_faces : all_below 24 (λ f. eqb (across t₀ f) none || face_numbers X Y Z t₀ 6 (cell_of f) (opposite f)) ≡ true
  unfolding all_below across started start_corners start_neighbours face_numbers face_test faces_back place_in odd_order cell_at four_at corner
  start_faces = refl

  -- ---- walls

  start_walls : all_below 24 (λ f. not (eqb (across t₀ f) none) || all_below 4 (λ k. eqb k (opposite f) || on_wall (wall_of f) (corner t₀ (cell_of f) k))) ≡ true
  unfolding all_below across started start_corners start_neighbours corner
  start_walls = refl

  on_wall_lem : (w : Wall) (k : ℕ) → on_wall w k ≡ true → along w (box_corner X Y Z k) ≡ level X Y Z w
  on_wall_lem low_x k e = low (k % 2) X e
  on_wall_lem low_y k e = low (k / 2 % 2) Y e
  on_wall_lem low_z k e = low (k / 2 / 2 % 2) Z e
  on_wall_lem high_x k e = rw e
  on_wall_lem high_y k e = rw e
  on_wall_lem high_z k e = rw e

  start_wall : (f : ℕ) → f < 24 → across t₀ f ≡ none → OnWall X Y Z t₀ f
  unfolding corner_at
  start_wall f h b = record {
    wall = wall_of f;
    on = λ k l d.
        let test = or_other (not (eqb (across t₀ f) none)) (all_below 4 (λ k. eqb k (opposite f) || on_wall (wall_of f) (corner t₀ (cell_of f) k))) (rw (eq-eqb (across t₀ f) none b)) (all_at 24 wall_test start_walls f h) in
        let here = or_other (eqb k (opposite f)) (on_wall (wall_of f) (corner t₀ (cell_of f) k)) (ne_eqb k (opposite f) d) (all_at 4 (λ k. eqb k (opposite f) || on_wall (wall_of f) (corner t₀ (cell_of f) k)) test k l) in
        ap (along (wall_of f)) (start_point (corner t₀ (cell_of f) k) (start_corner (cell_of f) k (omega arith) l)) ∙ on_wall_lem (wall_of f) (corner t₀ (cell_of f) k) here;
  }
    where
      wall_test : ℕ → Bool
      wall_test f = not (eqb (across t₀ f) none) || all_below 4 (λ k. eqb k (opposite f) || on_wall (wall_of f) (corner t₀ (cell_of f) k))

  -- ---- the mesh

  module _ (hX : LegalSide X) (hY : LegalSide Y) (hZ : LegalSide Z) where
    start_positive : (c : ℕ) → c < 6 → pos 0 <ℤ cell_volume t₀ c
    start_positive c h =
        subst (λ z. pos 0 <ℤ z) (sym (start_volume c h)) (*-pos (*-pos (above hX) (above hY)) (above hZ))
      where
        above : {s : ℕ} → LegalSide s → pos 0 <ℤ pos s
        above h = omega (arithℤ, h.low)

    start_inner : (f : ℕ) → f < 24 → across t₀ f ≢ none → face_ok X Y Z t₀ 6 f ≡ true
    unfolding started start_neighbours
    start_inner f h d =
        ap (face_ok X Y Z t₀ 6) (sym (face_eq f)) ∙
        (sym (face_numbers_is X Y Z t₀ 6 (λ c l. start_positive c l.below) (λ c i l k. omega (arith, start_corner c i l.below k)) room (cell_of f) (opposite f) record { below = omega arith; lives = start_live (cell_of f) (omega arith) } (opposite< f)) ∙
        or_other (eqb (across t₀ f) none) (face_numbers X Y Z t₀ 6 (cell_of f) (opposite f)) (ne_eqb (across t₀ f) none d)
        (all_at 24 (λ f. eqb (across t₀ f) none || face_numbers X Y Z t₀ 6 (cell_of f) (opposite f)) start_faces f h))
      where
        room : 24 ≤ length t₀.neighbours
        room = omega (arith, length-append start_neighbours (drop 24 t.neighbours))

    pub start_mesh : (pc cc : ℕ) → 8 ≤ pc → 6 ≤ cc → IsMesh X Y Z pc cc 8 6 t₀
    start_mesh pc cc hp hc = record {
      point_cap≥ = hp;
      cell_cap≥ = hc;
      side_x = hX;
      side_y = hY;
      side_z = hZ;
      points≥ = omega arith;
      points≤ = hp;
      cells≥ = omega arith;
      cells≤ = hc;
      box_corners = start_point;
      inside = λ k h. subst (InBox X Y Z) (sym (start_point k h)) record { x≤ = at≤ k 0 X; y≤ = at≤ k 1 Y; z≤ = at≤ k 2 Z };
      used = λ k h. used_of t₀ 6 k (all_at 8 (used_ok t₀ 6) start_used k h);
      corner< = λ c i l. start_corner c i l.below;
      across< = λ f h d. (face_mated_of t₀ X Y Z 6 f (start_inner f (face< f h) d) d).0;
      positive = λ c l. start_positive c l.below;
      walls = λ f h. start_wall f (face< f h);
      mated = λ f h d. (face_mated_of t₀ X Y Z 6 f (start_inner f (face< f h) d) d).1;
      volumes = start_sum;
    }

-- Two tables alike, whatever the numbers at which their cells stand: a relation joins the cells. It is that of equal corners, since no two cells of a
-- mesh have the same.
use Prim.Native.Nat.{ℕ, ◌+◌, ◌*◌, ◌<◌}
use mathlib.Core.Logic.{◌≢◌}
use mathlib.Core.Path.{◌≡◌, sym, ◌∙◌, subst}
use native.Mathlib.Omega.{arith}
use Rattle.mesh.specs.Tables.{Tables, none, cell_of, opposite, point, corner, across, IsCell}
use Rattle.mesh.specs.Inner.{SomeMesh}
use Rattle.mesh.proofs.Room.{room_of}
use Rattle.mesh.proofs.Faces.{few}
use Rattle.covering.proofs.Holders.{corners_tell_cells}
use Rattle.calls.specs.Calls.{Build}
use Rattle.layouts.specs.Histories.{SameCell}
use Rattle.layouts.specs.Same.{Next, no_cell, cells}

-- R joins the cells of t, with n entries in use, and those of t₁, with n₁, one to one; joined cells have the same corners, place by place, and joined
-- neighbours; and the first np points are the same
pub record Alike (R : ℕ → ℕ → Type 0) (np : ℕ) (t : Tables) (n : ℕ) (t₁ : Tables) (n₁ : ℕ) : Type 0 where
  pub there : (c : ℕ) → IsCell t n c → (d : ℕ) × R c d
  pub back : (d : ℕ) → IsCell t₁ n₁ d → (c : ℕ) × R c d
  pub left : (c d : ℕ) → R c d → IsCell t n c
  pub right : (c d : ℕ) → R c d → IsCell t₁ n₁ d
  pub one : (c d d' : ℕ) → R c d → R c d' → d ≡ d'
  pub one_back : (c c' d : ℕ) → R c d → R c' d → c ≡ c'
  pub corners : (c d : ℕ) → R c d → (i : ℕ) → i < 4 → corner t c i ≡ corner t₁ d i
  pub neighbours : (c d : ℕ) → R c d → (i : ℕ) → i < 4 → Next R (across t (4 * c + i)) (across t₁ (4 * d + i))
  pub points : (k : ℕ) → k < np → point t k ≡ point t₁ k

-- two meshes alike
pub record AlikeMeshes (R : ℕ → ℕ → Type 0) (np : ℕ) (t : Tables) (n : ℕ) (t₁ : Tables) (n₁ : ℕ) : Type 0 where
  pub mesh : SomeMesh t np n
  pub mesh₁ : SomeMesh t₁ np n₁
  pub alike : Alike R np t n t₁ n₁

-- a cell's number is no 65,535
pub no_none : {t : Tables} {np n : ℕ} → SomeMesh t np n → {c : ℕ} → IsCell t n c → c ≢ none
no_none {t} M h = omega (arith, h.below, few M.mesh (room_of t M.w))

-- joined faces: of joined cells, at the same place
pub record Faces (R : ℕ → ℕ → Type 0) (f g : ℕ) : Type 0 where
  pub joined : R (cell_of f) (cell_of g)
  pub place : opposite f ≡ opposite g

next_turned : {R : ℕ → ℕ → Type 0} {u v : ℕ} → Next R u v → Next (λ c d. R d c) v u
next_turned (no_cell x y) = no_cell y x
next_turned (cells r) = cells r

-- the other way round
pub other_way : {R : ℕ → ℕ → Type 0} {np n n₁ : ℕ} {t t₁ : Tables} → AlikeMeshes R np t n t₁ n₁ → AlikeMeshes (λ c d. R d c) np t₁ n₁ t n
other_way T = record {
  mesh = T.mesh₁;
  mesh₁ = T.mesh;
  alike = record {
    there = T.alike.back;
    back = T.alike.there;
    left = λ c d. T.alike.right d c;
    right = λ c d. T.alike.left d c;
    one = λ c d d'. T.alike.one_back d d' c;
    one_back = λ c c' d. T.alike.one d c c';
    corners = λ c d r i h. sym (T.alike.corners d c r i h);
    neighbours = λ c d r i h. next_turned (T.alike.neighbours d c r i h);
    points = λ k h. sym (T.alike.points k h);
  };
}

next_map : {R Q : ℕ → ℕ → Type 0} {u v : ℕ} → ((c d : ℕ) → R c d → Q c d) → Next R u v → Next Q u v
next_map f (no_cell x y) = no_cell x y
next_map {u = u} {v = v} f (cells r) = cells (f u v r)

-- no two cells of a mesh have the same corners
corners_once : {t : Tables} {np n : ℕ} → SomeMesh t np n → (c d : ℕ) → IsCell t n c → IsCell t n d → ((i : ℕ) → i < 4 → corner t c i ≡ corner t d i) → c ≡ d
corners_once {t} M c d hc hd e = corners_tell_cells M.mesh (room_of t M.w) c d hc hd (λ i h. (i, h, sym (e i h)))

-- so joined cells are just those with equal corners
pub by_corners_alone : {R : ℕ → ℕ → Type 0} (a b : Build) {np : ℕ} → AlikeMeshes R np a.tables a.mesh.used b.tables b.mesh.cells →
    Alike (SameCell a b) np a.tables a.mesh.used b.tables b.mesh.cells
by_corners_alone {R} a b T = record {
  there = λ c h. there c (T.alike.there c h);
  back = λ d h. back d (T.alike.back d h);
  left = λ c d x. x.cell;
  right = λ c d x. x.cell₁;
  one = λ c d d' x y. T.alike.one c d d' (joined c d x) (joined c d' y);
  one_back = λ c c' d x y. T.alike.one_back c c' d (joined c d x) (joined c' d y);
  corners = λ c d x. x.corners;
  neighbours = λ c d x i h. next_map equal (T.alike.neighbours c d (joined c d x) i h);
  points = T.alike.points;
}
  where
    equal : (c d : ℕ) → R c d → SameCell a b c d
    equal c d r = record { cell = T.alike.left c d r; cell₁ = T.alike.right c d r; corners = T.alike.corners c d r }

    there : (c : ℕ) → (d : ℕ) × R c d → (d : ℕ) × SameCell a b c d
    there c (d, r) = (d, equal c d r)

    back : (d : ℕ) → (c : ℕ) × R c d → (c : ℕ) × SameCell a b c d
    back d (c, r) = (c, equal c d r)

    joined : (c d : ℕ) → SameCell a b c d → R c d
    joined c d x = by (T.alike.there c x.cell)
      where
        by : (d' : ℕ) × R c d' → R c d
        by (d', r) =
            subst (R c) (corners_once T.mesh₁ d' d (T.alike.right c d' r) x.cell₁ (λ i h. sym (T.alike.corners c d' r i h) ∙ x.corners i h)) r

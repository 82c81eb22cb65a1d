-- F1: the plane of a face as a linear form of a place, that is of the row (x, y, z, w).
use Prim.Native.Nat.{ℕ, ◌+◌, ◌*◌, ◌<◌}
use mathlib.Core.Bool.{cond}
use mathlib.Core.Logic.{◌≢◌}
use mathlib.Core.Path.{◌≡◌, sym, ap, ap₂, ◌∙◌}
use mathlib.Core.List.{List, [], ◌∷◌}
use lib.Dec.{eqb}
use lib.Signed.{◌≤ℤ◌, ◌<ℤ◌}
use lib.IntN.{ℤ, pos, neg_ℤ, ◌+ℤ◌, ◌-ℤ◌, ◌*ℤ◌}
use Rattle.arith.specs.Table.{sum}
use Rattle.arith.specs.Determinant.{Vector, det3_of, det4_of}
use Rattle.arith.proofs.Flags.{below_four}
use Rattle.arith.proofs.Ring.{Expr, var, con, ◌⊕◌, ◌⊖◌, ◌⊗◌, neg, ring}
use Rattle.arith.proofs.Sums.{sum_cong}
use Rattle.arith.proofs.Combine.{hyp, combine}
use Rattle.geometry.specs.declared.Position.{Position}
use Rattle.geometry.specs.Volume.{volume6, volume, replaced}
use Rattle.mesh.specs.Tables.{Tables, none, cell_of, opposite, across, corner_at, cell_volume, side, mate, IsFace}
use Rattle.mesh.specs.Mesh.{IsMesh}
use Rattle.mesh.proofs.Room.{Room}
use Rattle.mesh.proofs.Faces.{mate_opposite}
use Rattle.mesh.proofs.FaceNumbers.{opposite<, face_cell, face_opposite}
use Rattle.covering.specs.Place.{Place, whole}

-- the coordinates of a place, without its w
abbrev row₃ : Place → Vector ℤ
row₃ p = record { x = pos p.x; y = pos p.y; z = pos p.z }

abbrev det₃ : Place → Place → Place → ℤ
det₃ a b c = det3_of ℤ ◌+ℤ◌ ◌-ℤ◌ ◌*ℤ◌ (row₃ a) (row₃ b) (row₃ c)

-- The determinant of four rows (x, y, z, w), with the sign that gives the six-fold volume where each w is 1 (`volume_whole`).
unfoldable pub row_volume : (ℕ → Place) → ℤ
row_volume s =
    pos (s 0).w *ℤ det₃ (s 1) (s 2) (s 3) -ℤ pos (s 1).w *ℤ det₃ (s 0) (s 2) (s 3)
    +ℤ pos (s 2).w *ℤ det₃ (s 0) (s 1) (s 3) -ℤ pos (s 3).w *ℤ det₃ (s 0) (s 1) (s 2)

-- the places s with q at place i
abbrev pub replaced_row : (ℕ → Place) → ℕ → Place → ℕ → Place
replaced_row s i q k = cond (eqb k i) q (s k)

-- corner k of cell c
abbrev pub placed : Tables → ℕ → ℕ → Place
placed t c k = whole (corner_at t c k)

-- above 0 at places strictly on the cell's side: times w² it is `side_at` (`side_form` in proofs/Parts)
unfoldable pub form : Tables → Place → ℕ → ℤ
form t q f = row_volume (replaced_row (placed t (cell_of f)) (opposite f) q)

abbrev pub HoldsForm : Tables → Place → ℕ → Type 0
HoldsForm t q c = (k : ℕ) → k < 4 → pos 0 ≤ℤ form t q (4 * c + k)

abbrev pub InsideForm : Tables → Place → ℕ → Type 0
InsideForm t q c = (k : ℕ) → k < 4 → pos 0 <ℤ form t q (4 * c + k)

-- ---- rows as expressions: row k is variables 4k .. 4k + 3
pub data Row : Type 0 where
  row : Expr → Expr → Expr → Expr → Row

abbrev pub rx : Row → Expr
rx (row x y z w) = x

abbrev pub ry : Row → Expr
ry (row x y z w) = y

abbrev pub rz : Row → Expr
rz (row x y z w) = z

abbrev pub rw' : Row → Expr
rw' (row x y z w) = w

abbrev pub r₄ : ℕ → Row
r₄ k = row (var (4 * k)) (var (4 * k + 1)) (var (4 * k + 2)) (var (4 * k + 3))

-- a whole point: three variables
abbrev pub p₃ : ℕ → Row
p₃ k = row (var (3 * k)) (var (3 * k + 1)) (var (3 * k + 2)) (con (pos 1))

abbrev pub k₃ : ℕ → ℕ → ℕ → Row
k₃ x y z = row (con (pos x)) (con (pos y)) (con (pos z)) (con (pos 1))

abbrev vec : Row → Vector Expr
vec r = record { x = rx r; y = ry r; z = rz r }

abbrev pub rowsₑ : Row → Row → Row → Expr
rowsₑ a b c = det3_of Expr ◌⊕◌ ◌⊖◌ ◌⊗◌ (vec a) (vec b) (vec c)

abbrev pub atₑ : Row → Row → Row → Row → Expr
atₑ a b c d = rw' a ⊗ rowsₑ b c d ⊖ rw' b ⊗ rowsₑ a c d ⊕ rw' c ⊗ rowsₑ a b d ⊖ rw' d ⊗ rowsₑ a b c

-- volume6 of whole points
abbrev pub sixₑ : Row → Row → Row → Row → Expr
sixₑ a b c d = det4_of Expr ◌⊕◌ ◌⊖◌ ◌⊗◌ (vec a) (vec b) (vec c) (vec d)

abbrev pub env₄ : List Place → List ℤ → List ℤ
env₄ [] r = r
env₄ (p ∷ ps) r = pos p.x ∷ pos p.y ∷ pos p.z ∷ pos p.w ∷ env₄ ps r

abbrev pub env₃ : List Position → List ℤ → List ℤ
env₃ [] r = r
env₃ (p ∷ ps) r = pos p.x ∷ pos p.y ∷ pos p.z ∷ env₃ ps r

-- ---- Cramer's rule for the four rows

-- a column, weighted with the determinants in which row 4 stands in place of another
abbrev cramerₑ : (Row → Expr) → Expr
cramerₑ r =
    con (pos 0) ⊕ atₑ (r₄ 4) (r₄ 1) (r₄ 2) (r₄ 3) ⊗ r (r₄ 0) ⊕ atₑ (r₄ 0) (r₄ 4) (r₄ 2) (r₄ 3) ⊗ r (r₄ 1) ⊕
    atₑ (r₄ 0) (r₄ 1) (r₄ 4) (r₄ 3) ⊗ r (r₄ 2) ⊕ atₑ (r₄ 0) (r₄ 1) (r₄ 2) (r₄ 4) ⊗ r (r₄ 3)

abbrev fifthₑ : (Row → Expr) → Expr
fifthₑ r = atₑ (r₄ 0) (r₄ 1) (r₄ 2) (r₄ 3) ⊗ r (r₄ 4)

module _ (s : ℕ → Place) (q : Place) where
  abbrev five : List ℤ
  five = env₄ (s 0 ∷ s 1 ∷ s 2 ∷ s 3 ∷ q ∷ []) []

  cramer_x : sum 4 (λ k. row_volume (replaced_row s k q) *ℤ pos (s k).x) ≡ row_volume s *ℤ pos q.x
  unfolding sum row_volume
  cramer_x = ring (cramerₑ rx) (fifthₑ rx) tt five

  cramer_y : sum 4 (λ k. row_volume (replaced_row s k q) *ℤ pos (s k).y) ≡ row_volume s *ℤ pos q.y
  unfolding sum row_volume
  cramer_y = ring (cramerₑ ry) (fifthₑ ry) tt five

  cramer_z : sum 4 (λ k. row_volume (replaced_row s k q) *ℤ pos (s k).z) ≡ row_volume s *ℤ pos q.z
  unfolding sum row_volume
  cramer_z = ring (cramerₑ rz) (fifthₑ rz) tt five

  cramer_w : sum 4 (λ k. row_volume (replaced_row s k q) *ℤ pos (s k).w) ≡ row_volume s *ℤ pos q.w
  unfolding sum row_volume
  cramer_w = ring (cramerₑ rw') (fifthₑ rw') tt five

-- ---- where every w is 1

volume_whole : (s : ℕ → Position) → row_volume (λ k. whole (s k)) ≡ volume s
unfolding row_volume volume volume6
volume_whole s = ring (atₑ (p₃ 0) (p₃ 1) (p₃ 2) (p₃ 3)) (sixₑ (p₃ 0) (p₃ 1) (p₃ 2) (p₃ 3)) tt (env₃ (s 0 ∷ s 1 ∷ s 2 ∷ s 3 ∷ []) [])

abbrev ReplacedWhole : (ℕ → Position) → Position → ℕ → Type 0
ReplacedWhole s p i = row_volume (replaced_row (λ k. whole (s k)) i (whole p)) ≡ volume (replaced s i p)

replaced_whole : (s : ℕ → Position) (p : Position) (i : ℕ) → i < 4 → ReplacedWhole s p i
unfolding row_volume volume volume6
replaced_whole s p =
    below_four (ReplacedWhole s p)
    (ring (atₑ (p₃ 4) (p₃ 1) (p₃ 2) (p₃ 3)) (sixₑ (p₃ 4) (p₃ 1) (p₃ 2) (p₃ 3)) tt (env₃ (s 0 ∷ s 1 ∷ s 2 ∷ s 3 ∷ p ∷ []) []))
    (ring (atₑ (p₃ 0) (p₃ 4) (p₃ 2) (p₃ 3)) (sixₑ (p₃ 0) (p₃ 4) (p₃ 2) (p₃ 3)) tt (env₃ (s 0 ∷ s 1 ∷ s 2 ∷ s 3 ∷ p ∷ []) []))
    (ring (atₑ (p₃ 0) (p₃ 1) (p₃ 4) (p₃ 3)) (sixₑ (p₃ 0) (p₃ 1) (p₃ 4) (p₃ 3)) tt (env₃ (s 0 ∷ s 1 ∷ s 2 ∷ s 3 ∷ p ∷ []) []))
    (ring (atₑ (p₃ 0) (p₃ 1) (p₃ 2) (p₃ 4)) (sixₑ (p₃ 0) (p₃ 1) (p₃ 2) (p₃ 4)) tt (env₃ (s 0 ∷ s 1 ∷ s 2 ∷ s 3 ∷ p ∷ []) []))

-- ---- linear forms

abbrev pub lin : ℤ → ℤ → ℤ → ℤ → Place → ℤ
lin a b c d q = a *ℤ pos q.x +ℤ b *ℤ pos q.y +ℤ c *ℤ pos q.z +ℤ d *ℤ pos q.w

abbrev pub linₑ : Expr → Expr → Expr → Expr → Row → Expr
linₑ a b c d q = a ⊗ rx q ⊕ b ⊗ ry q ⊕ c ⊗ rz q ⊕ d ⊗ rw' q

-- m parts of p and k parts of q
abbrev pub mix : ℕ → Place → ℕ → Place → Place
mix m p k q = record { x = m * p.x + k * q.x; y = m * p.y + k * q.y; z = m * p.z + k * q.z; w = m * p.w + k * q.w }

pub lin_mix : (a b c d : ℤ) (m : ℕ) (p : Place) (k : ℕ) (q : Place) → lin a b c d (mix m p k q) ≡ pos m *ℤ lin a b c d p +ℤ pos k *ℤ lin a b c d q
lin_mix a b c d m p k q =
    ring (linₑ A B C D (row (mx rx) (mx ry) (mx rz) (mx rw'))) (var 12 ⊗ linₑ A B C D (r₄ 0) ⊕ var 13 ⊗ linₑ A B C D (r₄ 1)) tt
    (env₄ (p ∷ q ∷ []) (a ∷ b ∷ c ∷ d ∷ pos m ∷ pos k ∷ []))
  where
    A : Expr
    A = var 8

    B : Expr
    B = var 9

    C : Expr
    C = var 10

    D : Expr
    D = var 11

    mx : (Row → Expr) → Expr
    mx r = var 12 ⊗ r (r₄ 0) ⊕ var 13 ⊗ r (r₄ 1)

-- the weights of q interpolate every linear form
pub between : (a b c d : ℤ) (s : ℕ → Place) (q : Place) → sum 4 (λ k. row_volume (replaced_row s k q) *ℤ lin a b c d (s k)) ≡ row_volume s *ℤ lin a b c d q
unfolding sum
between a b c d s q =
    combine
    (con (pos 0) ⊕ v 0 ⊗ linₑ A B C D (r₄ 0) ⊕ v 1 ⊗ linₑ A B C D (r₄ 1) ⊕ v 2 ⊗ linₑ A B C D (r₄ 2) ⊕ v 3 ⊗ linₑ A B C D (r₄ 3))
    (v 4 ⊗ linₑ A B C D (r₄ 4))
    (hyp A (all rx) (v 4 ⊗ rx (r₄ 4)) ∷ hyp B (all ry) (v 4 ⊗ ry (r₄ 4)) ∷ hyp C (all rz) (v 4 ⊗ rz (r₄ 4)) ∷ hyp D (all rw') (v 4 ⊗ rw' (r₄ 4)) ∷ [])
    tt
    (env₄ (s 0 ∷ s 1 ∷ s 2 ∷ s 3 ∷ q ∷ [])
    (a ∷ b ∷ c ∷ d ∷ row_volume (replaced_row s 0 q) ∷ row_volume (replaced_row s 1 q) ∷ row_volume (replaced_row s 2 q) ∷ row_volume (replaced_row s 3 q) ∷ row_volume s ∷ []))
    (cramer_x s q, (cramer_y s q, (cramer_z s q, (cramer_w s q, tt))))
  where
    A : Expr
    A = var 20

    B : Expr
    B = var 21

    C : Expr
    C = var 22

    D : Expr
    D = var 23

    v : ℕ → Expr
    v k = var (24 + k)

    all : (Row → Expr) → Expr
    all r = con (pos 0) ⊕ v 0 ⊗ r (r₄ 0) ⊕ v 1 ⊗ r (r₄ 1) ⊕ v 2 ⊗ r (r₄ 2) ⊕ v 3 ⊗ r (r₄ 3)

-- ---- the side as a form

abbrev pub o₀ : Position
o₀ = record { x = 0; y = 0; z = 0 }

abbrev pub e₁ : Position
e₁ = record { x = 1; y = 0; z = 0 }

abbrev pub e₂ : Position
e₂ = record { x = 0; y = 1; z = 0 }

abbrev pub e₃ : Position
e₃ = record { x = 0; y = 0; z = 1 }

-- the form whose values at o₀, e₁, e₂, e₃ are those of v
abbrev form_of : (Position → ℤ) → Place → ℤ
form_of v q = lin (v e₁ -ℤ v o₀) (v e₂ -ℤ v o₀) (v e₃ -ℤ v o₀) (v o₀) q

abbrev Formed : (ℕ → Position) → Place → ℕ → Type 0
Formed s q i = row_volume (replaced_row (λ k. whole (s k)) i q) ≡ form_of (λ p. volume (replaced s i p)) q

abbrev pub q₄ : Row
q₄ = row (var 12) (var 13) (var 14) (var 15)

abbrev formₑ : (Row → Expr) → Expr
formₑ v = linₑ (v (k₃ 1 0 0) ⊖ v (k₃ 0 0 0)) (v (k₃ 0 1 0) ⊖ v (k₃ 0 0 0)) (v (k₃ 0 0 1) ⊖ v (k₃ 0 0 0)) (v (k₃ 0 0 0)) q₄

formed : (s : ℕ → Position) (q : Place) (i : ℕ) → i < 4 → Formed s q i
unfolding row_volume volume volume6
formed s q =
    below_four (Formed s q)
    (ring (atₑ q₄ (p₃ 1) (p₃ 2) (p₃ 3)) (formₑ (λ r. sixₑ r (p₃ 1) (p₃ 2) (p₃ 3))) tt values)
    (ring (atₑ (p₃ 0) q₄ (p₃ 2) (p₃ 3)) (formₑ (λ r. sixₑ (p₃ 0) r (p₃ 2) (p₃ 3))) tt values)
    (ring (atₑ (p₃ 0) (p₃ 1) q₄ (p₃ 3)) (formₑ (λ r. sixₑ (p₃ 0) (p₃ 1) r (p₃ 3))) tt values)
    (ring (atₑ (p₃ 0) (p₃ 1) (p₃ 2) q₄) (formₑ (λ r. sixₑ (p₃ 0) (p₃ 1) (p₃ 2) r)) tt values)
  where
    values : List ℤ
    values = env₃ (s 0 ∷ s 1 ∷ s 2 ∷ s 3 ∷ []) (env₄ (q ∷ []) [])

-- by its values at whole steps
pub form_of_sides : (t : Tables) (q : Place) (f : ℕ) → form t q f ≡ form_of (λ p. side t p f) q
unfolding form side
form_of_sides t q f = formed (corner_at t (cell_of f)) q (opposite f) (opposite< f)

pub form_mix : (t : Tables) (m : ℕ) (p : Place) (k : ℕ) (q : Place) (f : ℕ) → form t (mix m p k q) f ≡ pos m *ℤ form t p f +ℤ pos k *ℤ form t q f
form_mix t m p k q f =
    form_of_sides t (mix m p k q) f ∙
    (lin_mix (side t e₁ f -ℤ side t o₀ f) (side t e₂ f -ℤ side t o₀ f) (side t e₃ f -ℤ side t o₀ f) (side t o₀ f) m p k q ∙
    ap₂ (λ u v. pos m *ℤ u +ℤ pos k *ℤ v) (sym (form_of_sides t p f)) (sym (form_of_sides t q f)))

pub form_whole : (t : Tables) (p : Position) (f : ℕ) → form t (whole p) f ≡ side t p f
unfolding form side
form_whole t p f = replaced_whole (corner_at t (cell_of f)) p (opposite f) (opposite< f)

pub form_at : (t : Tables) (q : Place) (c i : ℕ) → i < 4 → form t q (4 * c + i) ≡ row_volume (replaced_row (placed t c) i q)
unfolding form
form_at t q c i h = rw (face_cell c i h, face_opposite c i h)

pub volume_at_lem : (t : Tables) (c : ℕ) → row_volume (placed t c) ≡ cell_volume t c
unfolding cell_volume
volume_at_lem t c = volume_whole (corner_at t c)

-- A4 for places: the form of another face g
pub form_between : (t : Tables) (q : Place) (c g : ℕ) → sum 4 (λ k. form t q (4 * c + k) *ℤ side t (corner_at t c k) g) ≡ cell_volume t c *ℤ form t q g
form_between t q c g =
    sum_cong 4 (λ k. form t q (4 * c + k) *ℤ side t (corner_at t c k) g)
    (λ k. row_volume (replaced_row (placed t c) k q) *ℤ form_of (λ p. side t p g) (placed t c k))
    (λ k l. ap₂ ◌*ℤ◌ (form_at t q c k l) (sym (form_whole t (corner_at t c k) g) ∙ form_of_sides t (placed t c k) g)) ∙
    (between (side t e₁ g -ℤ side t o₀ g) (side t e₂ g -ℤ side t o₀ g) (side t e₃ g -ℤ side t o₀ g) (side t o₀ g) (placed t c) q ∙
    ap₂ ◌*ℤ◌ (volume_at_lem t c) (sym (form_of_sides t q g)))

-- M1 for places
module _ {X Y Z pc cc np n : ℕ} {t : Tables} (M : IsMesh X Y Z pc cc np n t) (R : Room pc cc t) where
  pub mate_opposite_form : (f : ℕ) → IsFace t n f → across t f ≢ none → (q : Place) → form t q (mate t f) ≡ neg_ℤ (form t q f)
  mate_opposite_form f f< real q =
      form_of_sides t q (mate t f) ∙
      ((λ i. form_of (λ p. mate_opposite M R f f< real p i) q) ∙
      (swap (side t e₁ f) (side t e₂ f) (side t e₃ f) (side t o₀ f) ∙ ap neg_ℤ (sym (form_of_sides t q f))))
    where
      swap : (a b c d : ℤ) →
          lin (neg_ℤ a -ℤ neg_ℤ d) (neg_ℤ b -ℤ neg_ℤ d) (neg_ℤ c -ℤ neg_ℤ d) (neg_ℤ d) q ≡ neg_ℤ (lin (a -ℤ d) (b -ℤ d) (c -ℤ d) d q)
      swap a b c d =
          ring (linₑ (neg (var 4) ⊖ neg (var 7)) (neg (var 5) ⊖ neg (var 7)) (neg (var 6) ⊖ neg (var 7)) (neg (var 7)) (r₄ 0))
          (neg (linₑ (var 4 ⊖ var 7) (var 5 ⊖ var 7) (var 6 ⊖ var 7) (var 7) (r₄ 0))) tt
          (env₄ (q ∷ []) (a ∷ b ∷ c ∷ d ∷ []))

-- Worked pieces for volumes and the sphere test, by computation: document 01's, as document 02 §2 reads them, and sums whose sign T does not tell.
use Prim.Native.Nat.{ℕ, ◌*◌, ◌/◌, ◌%◌, ◌^◌}
use mathlib.Core.Bool.{true, false}
use mathlib.Core.Path.{◌≡◌, refl}
use mathlib.Core.List.{List, [], ◌∷◌, map}
use lib.IntN.{ℤ, pos, negsuc, neg_ℤ, ◌+ℤ◌}
use lib.Ieee.{Float, fin, add, mul, of_int}
use Rattle.geometry.specs.declared.Position.{Position}
use Rattle.insphere.specs.declared.Sphere.{Sphere}
use Rattle.insphere.specs.declared.Sphere.TheVariants.{Inside, Outside}
use Rattle.geometry.specs.Volume.{position, volume6, squared_distance}
use Rattle.geometry.specs.Inner.{volumes_at}
use Rattle.insphere.specs.Sphere.{sphere_sum, sphere_t, sphere_answer}

-- corner k of a cube with the side s
abbrev corner : ℕ → ℕ → Position
corner s k = record { x = s * (k % 2); y = s * (k / 2 % 2); z = s * (k / 4 % 2) }

-- the six cells of the started box 4, 4, 4
started : List ℤ
started =
    v 0 1 3 7 ∷ v 0 3 2 7 ∷ v 0 2 6 7 ∷ v 0 6 4 7 ∷ v 0 4 5 7 ∷ v 0 5 1 7 ∷ []
  where
    v : ℕ → ℕ → ℕ → ℕ → ℤ
    v a b c d = volume6 (corner 4 a) (corner 4 b) (corner 4 c) (corner 4 d)

started_64 : started ≡ pos 64 ∷ pos 64 ∷ pos 64 ∷ pos 64 ∷ pos 64 ∷ pos 64 ∷ []
unfolding started volume6
started_64 = refl

total : List ℤ → ℤ
total [] = pos 0
total (z ∷ zs) = z +ℤ total zs

started_384 : total started ≡ pos 384
unfolding total started volume6
started_384 = refl

-- (1,2,3) in cell 3
abbrev P : Position
P = record { x = 1; y = 2; z = 3 }

volumes_16 : volumes_at (record { a = corner 4 0; b = corner 4 6; c = corner 4 4; d = corner 4 7 }) P ≡ record { v0 = pos 16; v1 = pos 16; v2 = pos 16; v3 = pos 16 }
unfolding volumes_at volume6
volumes_16 = refl

distances : map (λ k. squared_distance (corner 4 k) P) (0 ∷ 6 ∷ 4 ∷ 7 ∷ []) ≡ pos 14 ∷ pos 6 ∷ pos 6 ∷ pos 14 ∷ []
unfolding squared_distance
distances = refl

-- 640
abbrev T : Float
T = fin false 5 (pos 7)

sum_640 : sphere_t (corner 4 0) (corner 4 6) (corner 4 4) (corner 4 7) P ≡ T
unfolding sphere_t volume6 squared_distance add mul of_int
sum_640 = refl

-- what E is, and what is answered
abbrev Reads : Position → Position → Position → Position → Position → ℤ → Sphere → Type 0
Reads a b c d p e s = (sphere_sum a b c d p ≡ e) × (sphere_answer a b c d p ≡ s)

-- 'The piece that read close reads inside.'
inside_640 : Reads (corner 4 0) (corner 4 6) (corner 4 4) (corner 4 7) P (pos 640) (Inside T)
unfolding sphere_answer sphere_sum sphere_t volume6 squared_distance add mul of_int
inside_640 = (refl, refl)

-- side 131,072, P at half, cell 0: 3 × 2^83
half : Reads (corner 131072 0) (corner 131072 1) (corner 131072 3) (corner 131072 7) (position 65536 65536 65536) (pos (3 * 2 ^ 83)) (Inside (fin false 3 (pos 83)))
unfolding sphere_answer sphere_sum sphere_t volume6 squared_distance add mul of_int
half = (refl, refl)

-- ---- where T does not tell E's sign (document 02 §2)

-- a tie with T above 0: cell 0 of a started box, at box corner 2
tie_above : Reads (position 0 0 0) (position 1543 0 0) (position 1543 1555 0) (position 1543 1555 1555) (position 0 1555 0) (pos 0) (Outside (fin false 1 (pos 0)))
unfolding sphere_answer sphere_sum sphere_t volume6 squared_distance add mul of_int
tie_above = (refl, refl)

-- with T below 0
tie_below : Reads (position 0 0 0) (position 1549 0 0) (position 1549 1553 0) (position 1549 1553 1553) (position 0 1553 0) (pos 0) (Outside (fin true 1 (pos 0)))
unfolding sphere_answer sphere_sum sphere_t volume6 squared_distance add mul of_int
tie_below = (refl, refl)

-- E above 0 and T = −2,773,504
inside_below : Reads (position 0 0 0) (position 115625 2556 1400) (position 120000 0 0) (position 10122 6325 1013) (position 7461 3986 2802)
    (pos 480000) (Inside (fin true 5417 (pos 9)))
unfolding sphere_answer sphere_sum sphere_t volume6 squared_distance add mul of_int
inside_below = (refl, refl)

-- E below 0 and T = 2^20
outside_above : Reads (position 0 0 0) (position 5245 218 3669) (position 131072 0 0) (position 19046 2753 140) (position 114018 1906 3586)
    (negsuc 262143) (Outside (fin false 1 (pos 20)))
unfolding sphere_answer sphere_sum sphere_t volume6 squared_distance add mul of_int
outside_above = (refl, refl)

-- ---- sides 131,072 and E ±3 × 2^84, the greatest size that a search found

greatest : Reads (position 0 0 0) (position 131072 131072 0) (position 0 131072 131072) (position 131072 0 131072) (position 65536 65536 65536)
    (pos (3 * 2 ^ 84)) (Inside (fin false 3 (pos 84)))
unfolding sphere_answer sphere_sum sphere_t volume6 squared_distance add mul of_int
greatest = (refl, refl)

least : Reads (position 0 0 131072) (position 131072 131072 131072) (position 65536 65536 65536) (position 0 131072 0) (position 131072 0 0)
    (neg_ℤ (pos (3 * 2 ^ 84))) (Outside (fin true 3 (pos 84)))
unfolding sphere_answer sphere_sum sphere_t volume6 squared_distance add mul of_int
least = (refl, refl)

-- The correction of a position: between those of the corners of a cell that holds it, the same from every such cell, and at a point its own.
use Prim.Native.Nat.{ℕ, ◌+◌, ◌*◌, ◌≤◌, ◌<◌}
use mathlib.Core.Bool.{true, false, not}
use mathlib.Core.List.{List}
use mathlib.Core.Logic.{◌≢◌, ◌⊎◌, inl, inr}
use mathlib.Core.Path.{◌≡◌, sym, ap, ap₂, ◌∙◌, subst}
use native.Mathlib.Omega.{arith}
use borrow.Author.Tests.{leb-true, le-leb}
use lib.IntN.{ℤ, pos, negsuc, nat_abs, ◌*ℤ◌, *ℤ_comm, zero-*ℤ}
use lib.ListN.{get_or}
use lib.Signed.{le_z, lt_z, ◌≤ℤ◌, ◌<ℤ◌}
use Rattle.arith.specs.Table.{sum}
use Rattle.arith.proofs.Flags.{bool_ext, fails, and_right, split, clash}
use Rattle.arith.proofs.Magnitude.{abs_parts, parts_abs}
use Rattle.arith.proofs.Order.{arithℤ, ≤-<-trans, <-irrefl, lt_z_true, le_z_true, le_le_z, lt_z_no_le_z, *-mono-≤-l}
use Rattle.arith.proofs.Sums.{sum_cong, sum_mono, sum_one, sum_times}
use Rattle.arith.proofs.Tables.{all_at, any_intro}
use Rattle.geometry.specs.declared.Position.{Position}
use Rattle.geometry.specs.Volume.{InBox, volume, replaced}
use Rattle.geometry.proofs.Places.{replaced_same, replaced_other}
use Rattle.geometry.proofs.Algebra.{volume_split, volume_id, volume_zero}
use Rattle.mesh.specs.Tables.{Tables, point, corner, corner_at, cell_volume, side, live}
use Rattle.mesh.specs.Mesh.{IsMesh}
use Rattle.mesh.proofs.Room.{Room}
use Rattle.mesh.proofs.Held.{side_at_lem}
use Rattle.locate.specs.Locate.{holds}
use Rattle.locate.proofs.Codes.{holder_cell}
use Rattle.covering.specs.Place.{whole, side_at}
use Rattle.covering.specs.Holders.{weighted}
use Rattle.covering.proofs.Parts.{holds_whole, side_whole, weight_whole, whole_in_box}
use Rattle.covering.proofs.Holders.{interpolated_alike, held_point_is_corner}
use Rattle.corrections.specs.declared.Correction.{Correction}
use Rattle.corrections.specs.Rounding.{rounded}
use Rattle.corrections.specs.Corrections.{number_of, correction_of, in_range, out_of_range, weighted_sum, value_in, correction_in}
use Rattle.corrections.proofs.Rounding.{at_least, at_most, exactly, same_ratio}

-- ---- the weights

module _ (t : Tables) (p : Position) (c : ℕ) where
  -- no weight of a cell that holds p is below 0
  pub weight_nonneg : holds t p c ≡ true → (i : ℕ) → i < 4 → pos 0 ≤ℤ side t p (4 * c + i)
  unfolding holds
  weight_nonneg e i h = le_z_true (pos 0) (side t p (4 * c + i)) (all_at 4 (λ k. le_z (pos 0) (side t p (4 * c + k))) (and_right (live t c) _ e) i h)

  -- together they are the cell's volume
  pub weights_add : sum 4 (λ i. side t p (4 * c + i)) ≡ cell_volume t c
  unfolding cell_volume
  weights_add = sum_cong 4 (λ i. side t p (4 * c + i)) (λ i. volume (replaced (corner_at t c) i p)) (λ i h. side_at_lem t p c i h) ∙ volume_split (corner_at t c) p

  constant_sum : (a : ℤ) → sum 4 (λ i. side t p (4 * c + i) *ℤ a) ≡ a *ℤ cell_volume t c
  constant_sum a = sum_times 4 (λ i. side t p (4 * c + i)) a ∙ (ap (λ z. z *ℤ a) weights_add ∙ *ℤ_comm (cell_volume t c) a)

  -- at a corner the weighted sum is that corner's number, times the cell's volume
  corner_sum : (φ : ℕ → ℤ) (i : ℕ) → i < 4 → corner_at t c i ≡ p → weighted_sum t p φ c ≡ φ (corner t c i) *ℤ cell_volume t c
  unfolding weighted_sum
  corner_sum φ i h e =
      sum_one 4 (λ k. side t p (4 * c + k) *ℤ φ (corner t c k)) i h (λ k l d. ap (λ z. z *ℤ φ (corner t c k)) (others k l d) ∙ zero-*ℤ (φ (corner t c k))) ∙
      (ap (λ z. z *ℤ φ (corner t c i)) own ∙ *ℤ_comm (cell_volume t c) (φ (corner t c i)))
    where
      own : side t p (4 * c + i) ≡ cell_volume t c
      own = unfold cell_volume in side_at_lem t p c i h ∙ volume_id (corner_at t c) i p e

      others : (k : ℕ) → k < 4 → k ≢ i → side t p (4 * c + k) ≡ pos 0
      others k l d =
          side_at_lem t p c k l ∙
          volume_zero (replaced (corner_at t c) k p) i k h l (λ q. d (sym q)) (replaced_other (corner_at t c) k p i (λ q. d (sym q)) ∙ (e ∙ sym (replaced_same (corner_at t c) k p)))

  -- ---- between the four

  module _ (h : pos 0 <ℤ cell_volume t c) (e : holds t p c ≡ true) (φ : ℕ → ℤ) (a : ℤ) where
    value_at_least : ((i : ℕ) → i < 4 → a ≤ℤ φ (corner t c i)) → a ≤ℤ value_in t p φ c
    unfolding value_in weighted_sum
    value_at_least l =
        at_least a h
        (subst (λ z. z ≤ℤ weighted_sum t p φ c) (constant_sum a)
        (sum_mono 4 (λ i. side t p (4 * c + i) *ℤ a) (λ i. side t p (4 * c + i) *ℤ φ (corner t c i)) (λ i k. *-mono-≤-l (weight_nonneg e i k) (l i k))))

    value_at_most : ((i : ℕ) → i < 4 → φ (corner t c i) ≤ℤ a) → value_in t p φ c ≤ℤ a
    unfolding value_in weighted_sum
    value_at_most l =
        at_most a h
        (subst (λ z. weighted_sum t p φ c ≤ℤ z) (constant_sum a)
        (sum_mono 4 (λ i. side t p (4 * c + i) *ℤ φ (corner t c i)) (λ i. side t p (4 * c + i) *ℤ a) (λ i k. *-mono-≤-l (weight_nonneg e i k) (l i k))))

  -- A VALUE IS NOT BELOW WHAT NO CORNER IS BELOW, AND NOT ABOVE WHAT NONE IS ABOVE: IT LIES BETWEEN THE FOUR
  pub between_the_four : pos 0 <ℤ cell_volume t c → holds t p c ≡ true → (φ : ℕ → ℤ) (lo hi : ℤ) → ((i : ℕ) → i < 4 → (lo ≤ℤ φ (corner t c i)) × (φ (corner t c i) ≤ℤ hi)) →
      (lo ≤ℤ value_in t p φ c) × (value_in t p φ c ≤ℤ hi)
  between_the_four h e φ lo hi l = (value_at_least h e φ lo (λ i k. (l i k).0), value_at_most h e φ hi (λ i k. (l i k).1))

-- ---- the range

-- a number in range, by its size and by its bounds
pub in_range_size : (d : ℤ) → in_range d ≡ true → nat_abs d ≤ 1000
unfolding in_range
in_range_size d e = leb-true (nat_abs d) 1000 e

pub in_range_bounds : (d : ℤ) → in_range d ≡ true → (negsuc 999 ≤ℤ d) × (d ≤ℤ pos 1000)
in_range_bounds d e = let h = in_range_size d e in (omega (arithℤ, abs_parts d), omega (arithℤ, abs_parts d))

pub bounds_in_range : (d : ℤ) → negsuc 999 ≤ℤ d → d ≤ℤ pos 1000 → in_range d ≡ true
unfolding in_range
bounds_in_range d h k = le-leb (nat_abs d) 1000 (parts_abs d 1000 (omega arithℤ) (omega arithℤ))

-- and by the two tests of the code
pub below_range : (d : ℤ) → lt_z d (negsuc 999) ≡ true → in_range d ≡ false
below_range d e = fails (in_range d) (λ r. <-irrefl (≤-<-trans (in_range_bounds d r).0 (lt_z_true d (negsuc 999) e)))

pub not_below_range : (d : ℤ) → lt_z d (negsuc 999) ≡ false → le_z d (pos 1000) ≡ in_range d
not_below_range d e =
    bool_ext (le_z d (pos 1000)) (in_range d) (λ k. bounds_in_range d (le_z_true (negsuc 999) d (lt_z_no_le_z (negsuc 999) d e)) (le_z_true d (pos 1000) k))
    (λ k. le_le_z (in_range_bounds d k).1)

module _ (np : ℕ) (cs : List ℤ) (e : out_of_range np cs ≡ false) where
  -- a table that is not out of range has an entry in range at each place of a point
  pub entry_in_range : (i : ℕ) → i < 3 * np → in_range (get_or cs i (pos 0)) ≡ true
  unfolding out_of_range
  entry_in_range i h = go (split (in_range (get_or cs i (pos 0))))
    where
      go : (in_range (get_or cs i (pos 0)) ≡ true) ⊎ (in_range (get_or cs i (pos 0)) ≡ false) → in_range (get_or cs i (pos 0)) ≡ true
      go (inl r) = r
      go (inr r) = clash (any_intro (3 * np) (λ i. not (in_range (get_or cs i (pos 0)))) i h (ap not r)) e

  -- and so has each point on each axis
  pub number_in_range : (k v : ℕ) → k < 3 → v < np → in_range (number_of cs k v) ≡ true
  unfolding number_of
  number_in_range k v hk hv = entry_in_range (3 * v + k) (omega arith)

  -- so the numbers of every position that a cell over such points holds are in range
  pub value_in_range : (t : Tables) (p : Position) (c k : ℕ) → pos 0 <ℤ cell_volume t c → holds t p c ≡ true → k < 3 → ((i : ℕ) → i < 4 → corner t c i < np) →
      in_range (value_in t p (number_of cs k) c) ≡ true
  value_in_range t p c k h held k< below =
      let b = between_the_four t p c h held (number_of cs k) (negsuc 999) (pos 1000) (λ i l. in_range_bounds (number_of cs k (corner t c i)) (number_in_range k (corner t c i) k< (below i l))) in
      bounds_in_range (value_in t p (number_of cs k) c) b.0 b.1

-- ---- in a mesh

weighted_whole : (t : Tables) (p : Position) (φ : ℕ → ℤ) (c : ℕ) → weighted t (whole p) φ c ≡ weighted_sum t p φ c
unfolding weighted weighted_sum
weighted_whole t p φ c =
    sum_cong 4 (λ i. side_at t (whole p) (4 * c + i) *ℤ φ (corner t c i)) (λ i. side t p (4 * c + i) *ℤ φ (corner t c i))
    (λ i h. ap (λ z. z *ℤ φ (corner t c i)) (side_whole t p (4 * c + i)))

-- three equal numbers are equal corrections
corrections_equal : {a b : Correction} → a.x ≡ b.x → a.y ≡ b.y → a.z ≡ b.z → a ≡ b
corrections_equal e f g = λ i. record { x = e i; y = f i; z = g i }

module _ {X Y Z pc cc np n : ℕ} {t : Tables} (M : IsMesh X Y Z pc cc np n t) (R : Room pc cc t) where
  module _ (p : Position) (box : InBox X Y Z p) (c d : ℕ) (c< : c < n) (d< : d < n) (hc : holds t p c ≡ true) (hd : holds t p d ≡ true) where
    -- EVERY CELL THAT HOLDS A POSITION GIVES IT THE SAME VALUE
    pub from_every_holder : (φ : ℕ → ℤ) → value_in t p φ c ≡ value_in t p φ d
    unfolding value_in
    from_every_holder φ =
        same_ratio (weighted_sum t p φ c) (cell_volume t c) (weighted_sum t p φ d) (cell_volume t d)
        (M.positive c (holder_cell t p c< hc)) (M.positive d (holder_cell t p d< hd))
        (ap₂ ◌*ℤ◌ (sym (weighted_whole t p φ c)) (sym (weight_whole t p d)) ∙
        (interpolated_alike M R (whole p) (whole_in_box box) c d c< d< (holds_whole t p c ∙ hc) (holds_whole t p d ∙ hd) φ ∙
        ap₂ ◌*ℤ◌ (weighted_whole t p φ d) (weight_whole t p c)))

    -- so its correction is the same from each
    pub correction_from_every_holder : (cs : List ℤ) → correction_in t cs p c ≡ correction_in t cs p d
    unfolding correction_in
    correction_from_every_holder cs = corrections_equal (from_every_holder (number_of cs 0)) (from_every_holder (number_of cs 1)) (from_every_holder (number_of cs 2))

  module _ (v c : ℕ) (v< : v < np) (c< : c < n) (held : holds t (point t v) c ≡ true) where
    -- AT A POINT THE VALUE IS THE POINT'S OWN
    pub at_a_point : (φ : ℕ → ℤ) → value_in t (point t v) φ c ≡ φ v
    unfolding value_in
    at_a_point φ = go (held_point_is_corner M R v c v< c< held)
      where
        go : (i : ℕ) × (i < 4) × (corner t c i ≡ v) → rounded (weighted_sum t (point t v) φ c) (cell_volume t c) ≡ φ v
        go (i, h, e) =
            exactly (φ v) (M.positive c (holder_cell t (point t v) c< held))
            (corner_sum t (point t v) c φ i h (unfold corner_at in ap (point t) e) ∙ ap (λ u. φ u *ℤ cell_volume t c) e)

    -- so the correction is the point's own
    pub correction_at_a_point : (cs : List ℤ) → correction_in t cs (point t v) c ≡ correction_of cs v
    unfolding correction_in
    correction_at_a_point cs = corrections_equal (at_a_point (number_of cs 0)) (at_a_point (number_of cs 1)) (at_a_point (number_of cs 2))

-- What the inner functions give: codes of the points as seen from a segment, the test by a cell's corners, products of two words.
use Rattle.std.specs.Prelude.{ℕ, ◌+◌, ◌*◌, ◌/◌, ◌%◌, ◌^◌, Bool, List, ℤ, pos, get_or}
use Rattle.std.specs.Int.Bits.{bit_and}
use Rattle.std.specs.Int.Signed.{lt_z}
use mir.Val.{bool_byte}
use Rattle.geometry.specs.declared.Position.{Position}
use Rattle.geometry.specs.declared.Vector.{Vector}
use Rattle.geometry.specs.declared.Volumes.{Volumes}
use Rattle.geometry.specs.Volume.{volume, replaced}
use Rattle.geometry.specs.Inner.{between, cross_product}
use Rattle.mesh.specs.Tables.{point_in}
use Rattle.locate.specs.Inner.{side_code, codes_below, volume_at}
use Rattle.segment.specs.declared.Product.{Product}
use Rattle.segment.specs.Call.{meets}

-- ---- codes

-- beyond both ends on one side of an axis: two bits an axis
unfoldable pub range_codes : List ℕ → ℕ → Position → Position → List ℕ
range_codes ps np a b = codes_below np (λ v. bit_and (side_code (point_in ps v) a) (side_code (point_in ps v) b))

-- bit 0 below 0, bit 1 above
unfoldable pub sign_code : ℤ → ℕ
sign_code v = bool_byte (lt_z v (pos 0)) + 2 * bool_byte (lt_z (pos 0) v)

-- the signs of (b − a) × (p − a): on which side of the line p lies, in each plane of two axes
unfoldable pub line_code : Position → Vector → Position → ℕ
line_code a u p = let w = cross_product u (between a p) in sign_code w.x + 4 * sign_code w.y + 16 * sign_code w.z

unfoldable pub line_codes : List ℕ → ℕ → Position → Position → List ℕ
line_codes ps np a b = codes_below np (λ v. line_code a (between a b) (point_in ps v))

-- ---- the test

-- by the volumes with a corner replaced by an end
unfoldable pub volumes_meet : Volumes → Volumes → Bool
volumes_meet a b = meets 4 (volume_at a) (volume_at b)

-- the segment touches the cell with the corners k
unfoldable pub touches_four : List ℕ → List ℕ → Position → Position → Bool
touches_four ps k a b =
    meets 4 (λ i. volume (replaced (λ j. point_in ps (get_or k j 0)) i a)) (λ i. volume (replaced (λ j. point_in ps (get_or k j 0)) i b))

unfoldable pub product_of : ℕ → ℕ → Product
product_of x y = record { high = x * y / 2 ^ 52; low = x * y % 2 ^ 52 }

-- What the inner functions give: the terms of E, its float sum, and E in two words (document 02 §2: 'the sum E is now worked out
-- exactly in two 64-bit words').
use Rattle.std.specs.Prelude.{ℕ, ◌+◌, ◌*◌, ◌/◌, ◌%◌, ◌^◌, ◌≤◌, ◌<◌, ℤ, pos, nat_abs, ◌+ℤ◌, ◌-ℤ◌, ◌*ℤ◌, ◌≤ℤ◌, Float, true, false}
use Rattle.std.specs.Float.{fin, binary64}
use Rattle.std.specs.Float.Ieee.{add}
use Rattle.geometry.specs.declared.Position.{Position}
use Rattle.geometry.specs.declared.Tetrahedron.{Tetrahedron}
use Rattle.geometry.specs.Volume.{squared_distance}
use Rattle.geometry.specs.Inner.{volumes_at}
use Rattle.insphere.specs.declared.Term.{Term}
use Rattle.insphere.specs.declared.Terms.{Terms}
use Rattle.insphere.specs.declared.Words.{Words}
use Rattle.insphere.specs.Sphere.{product}

-- a volume and a squared distance of positions in range
pub record TermInRange (x : Term) : Type 0 where
  pub volume≤ : nat_abs x.volume ≤ 2 ^ 52
  pub distance≥ : pos 0 ≤ℤ x.distance
  pub distance≤ : nat_abs x.distance ≤ 3 * 2 ^ 34

pub record TermsInRange (x : Terms) : Type 0 where
  pub t0 : TermInRange x.t0
  pub t1 : TermInRange x.t1
  pub t2 : TermInRange x.t2
  pub t3 : TermInRange x.t3

unfoldable pub terms_at : Tetrahedron → Position → Terms
terms_at t p =
    let v = volumes_at t p in
    record {
      t0 = record { volume = v.v0; distance = squared_distance t.a p };
      t1 = record { volume = v.v1; distance = squared_distance t.b p };
      t2 = record { volume = v.v2; distance = squared_distance t.c p };
      t3 = record { volume = v.v3; distance = squared_distance t.d p };
    }

-- E and T of the terms
unfoldable pub exact_sum : Terms → ℤ
exact_sum x =
    x.t0.volume *ℤ x.t0.distance +ℤ
    x.t1.volume *ℤ x.t1.distance +ℤ
    x.t2.volume *ℤ x.t2.distance +ℤ
    x.t3.volume *ℤ x.t3.distance

unfoldable pub float_sum : Terms → Float
float_sum x =
    add binary64
    (add binary64
    (add binary64
    (product x.t0.volume x.t0.distance)
    (product x.t1.volume x.t1.distance))
    (product x.t2.volume x.t2.distance))
    (product x.t3.volume x.t3.distance)

-- 2^39 and −2^39
abbrev pub limit : Float
limit = fin false 1 (pos 39)

abbrev pub low_limit : Float
low_limit = fin true 1 (pos 39)

-- ---- two words

-- 2^27
abbrev pub unit : ℕ
unit = 134217728

unfoldable pub value_of : Words → ℤ
value_of w = w.high *ℤ pos unit +ℤ pos w.low

-- v in words, for v within ±2^52, which is 2^25 units
unfoldable pub parted : ℤ → Words
parted v = let u = nat_abs (v +ℤ pos (2 ^ 52)) in record { high = pos (u / unit) -ℤ pos (2 ^ 25); low = u % unit }

-- w times l, the low product's units moved up
unfoldable pub scaled : Words → ℕ → Words
scaled w l = record { high = w.high *ℤ pos l +ℤ pos (w.low * l / unit); low = w.low * l % unit }

unfoldable pub term_words : Term → Words
term_words x = scaled (parted x.volume) (nat_abs x.distance)

-- a term's words
pub record WordsInRange (w : Words) : Type 0 where
  pub high≤ : nat_abs w.high ≤ 7 * 2 ^ 58
  pub low< : w.low < unit

-- the sum of four, the low word's units moved up
unfoldable pub sum_words : Words → Words → Words → Words → Words
sum_words a b c d =
    let low = a.low + b.low + c.low + d.low in
    record { high = a.high +ℤ b.high +ℤ c.high +ℤ d.high +ℤ pos (low / unit); low = low % unit }

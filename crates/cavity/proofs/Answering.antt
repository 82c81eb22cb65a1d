-- What cell c answers: by the sphere test, or by the byte handed in.
use Prim.Native.Nat.{ℕ}
use mathlib.Core.Bool.{Bool, true, false, not}
use mathlib.Core.List.{List}
use mathlib.Core.Path.{◌≡◌, ap, ◌∙◌}
use native.Mathlib.Omega.{arith}
use lib.Dec.{eqb}
use lib.ListN.{get_or}
use lib.IntN.{ℤ, pos}
use lib.Signed.{lt_z}
use Rattle.rounding.specs.Whole.{IsInt}
use Rattle.rounding.proofs.Whole.{zero_int}
use Rattle.geometry.specs.declared.Position.{Position}
use Rattle.geometry.specs.Volume.{InRange}
use Rattle.insphere.specs.declared.Sphere.{Sphere}
use Rattle.insphere.specs.Sphere.{zero_float, sphere_answer}
use Rattle.insphere.proofs.Promises.{sphere_near, is_inside, carried, answer_inside, answer_carries}
use Rattle.mesh.specs.Tables.{Tables, point_in, corner_at, IsCell, tables}
use Rattle.mesh.specs.Inner.{four_at, positions_of, SomeMesh}
use Rattle.mesh.proofs.Numbers.{four_corner}
use Rattle.mesh.proofs.Reading.{corner_in_range}
use Rattle.cavity.specs.declared.Answer.{Answer}
use Rattle.cavity.specs.Answers.{Answers, sphere, handed, cell_e, cell_t, says_yes, report_t, answers_of}
use Rattle.cavity.specs.Inner.Growth.{answer_for}

-- the answer for the corners that were read
pub read_answer : (ps cs ns : List ℕ) (c : ℕ) (q : Position) → let k = positions_of ps (four_at cs c) in let t = tables ps cs ns in
    sphere_answer k.a k.b k.c k.d q ≡ sphere_answer (corner_at t c 0) (corner_at t c 1) (corner_at t c 2) (corner_at t c 3) q
unfolding corner_at
read_answer ps cs ns c q =
    let t = tables ps cs ns in
    λ i. sphere_answer (point_in ps (four_corner t c 0 (omega arith) i)) (point_in ps (four_corner t c 1 (omega arith) i))
    (point_in ps (four_corner t c 2 (omega arith) i)) (point_in ps (four_corner t c 3 (omega arith) i)) q

module _ {ps cs ns : List ℕ} {np n : ℕ} (M : SomeMesh (tables ps cs ns) np n) where
  abbrev t : Tables
  t = tables ps cs ns

  whole_T : (c : ℕ) → IsCell t n c → {q : Position} → InRange q → (z : ℤ) × IsInt (cell_t t q c) z
  unfolding cell_t
  whole_T c h {q} r =
      let s = sphere_near record { a = corner_at t c 0; b = corner_at t c 1; c = corner_at t c 2; d = corner_at t c 3 } q
      record { a = corner_in_range M c 0 h (omega arith); b = corner_in_range M c 1 h (omega arith); c = corner_in_range M c 2 h (omega arith); d = corner_in_range M c 3 h (omega arith) } r in
      (s.whole, s.is)

  pub whole_report : (a : Answers) (c : ℕ) → IsCell t n c → {q : Position} → InRange q → (z : ℤ) × IsInt (report_t a t q c) z
  unfolding report_t
  whole_report sphere c h r = whole_T c h r
  whole_report (handed bytes) c h r = (pos 0, zero_int)

module _ (t : Tables) (q : Position) (c : ℕ) where
  pub answered_by_byte : (h : Bool) (bytes : List ℕ) → h ≡ true →
      ◌≡◌ {A = Answer} record { yes = not (eqb (get_or bytes c 0) 0); t = zero_float } (answer_for (answers_of h bytes) t q c)
  unfolding answer_for says_yes report_t
  answered_by_byte h bytes e = rw e

  -- the sphere answer: whether it is inside, and the T that it carries
  pub answered_by_sphere : {h : Bool} (bytes : List ℕ) → h ≡ false → (s : Sphere) →
      s ≡ sphere_answer (corner_at t c 0) (corner_at t c 1) (corner_at t c 2) (corner_at t c 3) q →
      ◌≡◌ {A = Answer} record { yes = is_inside s; t = carried s } (answer_for (answers_of h bytes) t q c)
  unfolding answer_for says_yes report_t cell_e cell_t
  answered_by_sphere bytes e s f =
      let says : is_inside s ≡ lt_z (pos 0) (cell_e t q c) = ap is_inside f ∙ answer_inside (corner_at t c 0) (corner_at t c 1) (corner_at t c 2) (corner_at t c 3) q in
      let is : carried s ≡ cell_t t q c = ap carried f ∙ answer_carries (corner_at t c 0) (corner_at t c 1) (corner_at t c 2) (corner_at t c 3) q in
      rw e (λ i. record { yes = says i; t = is i })

pub answer_yes : (a : Answers) (t : Tables) (p : Position) (c : ℕ) {r : Answer} → r ≡ answer_for a t p c → r.yes ≡ says_yes a t p c
unfolding answer_for
answer_yes a t p c e = ap (λ r. r.yes) e

pub answer_t : (a : Answers) (t : Tables) (p : Position) (c : ℕ) {r : Answer} → r ≡ answer_for a t p c → r.t ≡ report_t a t p c
unfolding answer_for
answer_t a t p c e = ap (λ r. r.t) e

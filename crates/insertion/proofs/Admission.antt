-- A node of a mesh: which test refuses it, what its cavity and star are, and what it answers and leaves.
use Prim.Native.Nat.{ℕ, ◌+◌, ◌*◌, ◌^◌, ◌≤◌, ◌<◌}
use mathlib.Core.Bool.{Bool, true, false, not}
use mathlib.Core.List.{List}
use mathlib.Core.Logic.{◌≢◌, ◌⊎◌, inl, inr}
use mathlib.Core.Path.{◌≡◌, refl, sym, ap, ap₂, ◌∙◌, subst}
use native.Mathlib.Omega.{arith}
use native.Mathlib.Decide.{dec_lt}
use lib.Dec.{ltb, eqb}
use lib.ListN.{length, get_or}
use borrow.Author.Tests.{ne_eqb, eq-eqb, eqb-true, eqb-false, lt-ltb, le-ltb, ltb-false}
use Rattle.arith.specs.Table.{any_below}
use Rattle.arith.proofs.Flags.{split, clash, fails, bool_ext}
use Rattle.arith.proofs.Tables.{any_found, any_intro}
use Rattle.arith.proofs.Counting.{count_le}
use Rattle.geometry.specs.declared.Position.{Position}
use Rattle.geometry.specs.Volume.{InRange, in_box, same_position}
use Rattle.geometry.proofs.Ranges.{box_in}
use Rattle.mesh.specs.declared.Mesh.{Mesh}
use Rattle.mesh.specs.Tables.{Tables, point_capacity, cell_capacity, point, live}
use Rattle.mesh.specs.Mesh.{IsMesh, ValidMesh}
use Rattle.mesh.specs.Inner.{SomeMesh}
use Rattle.mesh.proofs.Room.{room_of}
use Rattle.mesh.proofs.Checked.{same_position_of, same_position_yes}
use Rattle.mesh.proofs.Valid.{valid_of}
use Rattle.locate.specs.Locate.{holds}
use Rattle.locate.specs.Inner.{axis_code, side_code, side_codes}
use Rattle.locate.proofs.Codes.{side_code_at}
use Rattle.cavity.specs.declared.Node.{Node}
use Rattle.cavity.specs.declared.Extent.{Extent}
use Rattle.cavity.specs.Answers.{Answers, says_yes, answers_of}
use Rattle.cavity.specs.Cavity.{in_set, visible, cavity_of, cavity_size}
use Rattle.cavity.specs.Inner.Star.{StarShaped}
use Rattle.cavity.specs.Inner.{Answerable, set_of, Enumerated, CavityFound}
use Rattle.cavity.specs.Inner.Growth.{Unstamped}
use Rattle.cavity.proofs.Correction.{base_at, corrected_star_shaped}
use Rattle.star.specs.Star.{made_count}
use Rattle.star.specs.Inner.{Ranked, Rising}
use Rattle.insertion.specs.Inner.{Found}
use Rattle.insertion.specs.Insertion.{last_cavity, cells_made, node_refusal}
use Rattle.insertion.specs.Inner.{some_zero, star_found, PointTests, NodeOf, Admitted, Tested}
use Rattle.insertion.proofs.Refusals.{is_outside, is_taken, is_points_full, is_unheld, is_cells_full, is_accepted}

-- ---- tests 4 to 6

module _ (m : Mesh) (t : Tables) (p : Position) where
  pub outside_box : in_box m.x m.y m.z p ≡ false → PointTests m t p 4
  outside_box e = record { refuses = λ d w a. is_outside m t w p a e; passes = λ z. absurd (omega arith) }

  pub point_taken : in_box m.x m.y m.z p ≡ true → any_below m.points (λ k. same_position (point t k) p) ≡ true → PointTests m t p 5
  point_taken b e = record { refuses = λ d w a. is_taken m t w p a b e; passes = λ z. absurd (omega arith) }

  pub points_full_lem : in_box m.x m.y m.z p ≡ true → any_below m.points (λ k. same_position (point t k) p) ≡ false →
      eqb m.points (point_capacity t) ≡ true → PointTests m t p 6
  points_full_lem b f e = record { refuses = λ d w a. is_points_full m t w p a b f e; passes = λ z. absurd (omega arith) }

  pub free_place : in_box m.x m.y m.z p ≡ true → any_below m.points (λ k. same_position (point t k) p) ≡ false →
      eqb m.points (point_capacity t) ≡ false → PointTests m t p 0
  free_place b f e = record { refuses = λ d. absurd (d refl); passes = λ z. record { box = b; free = f; next = e } }

-- ---- test 8

module _ (t : Tables) (d : Node) (s : List Bool) {k : ℕ} (e : k ≡ made_count t d.used d.position s) where
  pub made_fits : d.cells ≤ 4096 → d.used ≤ 4096 → d.cells + k < 2 ^ 64
  unfolding made_count
  made_fits h l = omega (arith, e, count_le (4 * d.used) (visible t d.position s))

  module _ (r : Extent) {c : ℕ} (f : c ≡ cell_capacity t d.work) where
    pub no_room : c < d.cells + k → record { refusal = 8; extent = r; made = k } ≡ star_found t d s r
    unfolding star_found
    no_room l = rw (lt-ltb (cell_capacity t d.work) (d.cells + made_count t d.used d.position s) (omega (arith, l, e, f))) (λ i. record { refusal = 8; extent = r; made = e i })

    pub has_room : d.cells + k ≤ c → record { refusal = 0; extent = r; made = k } ≡ star_found t d s r
    unfolding star_found
    has_room l = rw (le-ltb (cell_capacity t d.work) (d.cells + made_count t d.used d.position s) (omega (arith, l, e, f))) (λ i. record { refusal = 0; extent = r; made = e i })

-- the same cavity, its cells listed in another order
pub relisted : {a : Answers} {t : Tables} {p : Position} {n : ℕ} {st li li' fa : List ℕ} {r : Extent} → CavityFound a t p n st li fa r →
    Enumerated t n st li' r.after → CavityFound a t p n st li' fa r
relisted H E = record {
  states = H.states;
  entries = E.entries;
  codes = H.codes;
  held = H.held;
  empty = H.empty;
  list = λ d. E;
  set = H.set;
  coded = H.coded;
  before_is = H.before_is;
  after_is = H.after_is;
  holder< = H.holder<;
  holder_holds = H.holder_holds;
  least_is = H.least_is;
}

-- ---- a node

module _ {m : Mesh} {t : Tables} {bytes : List ℕ} {d : Node} (N : NodeOf m t bytes d) where
  pub valid : ValidMesh m t d.work
  valid = valid_of m t d.work N.mesh

  abbrev M : IsMesh m.x m.y m.z (point_capacity t) (cell_capacity t d.work) m.points m.used t
  M = valid.mesh

  unfoldable pub node_mesh : SomeMesh t d.points d.used
  node_mesh = record {
    X = m.x;
    Y = m.y;
    Z = m.z;
    w = d.work;
    mesh =
        subst (λ k. IsMesh m.x m.y m.z (point_capacity t) (cell_capacity t d.work) k d.used t) (sym N.points_are)
        (subst (λ k. IsMesh m.x m.y m.z (point_capacity t) (cell_capacity t d.work) m.points k t) (sym N.used_are) M);
  }

  pub used≤ : m.used ≤ 4096
  used≤ = omega (arith, M.cells≤, (room_of t d.work).cells≤)

  pub cells≤ : m.cells ≤ m.used
  cells≤ = omega (arith, valid.counted, count_le m.used (live t))

  pub points≤ : m.points ≤ 1024
  points≤ = omega (arith, M.points≤, (room_of t d.work).points≤)

  pub node_used≤ : d.used ≤ 4096
  node_used≤ = omega (arith, used≤, N.used_are)

  pub node_cells≤ : d.cells ≤ 4096
  node_cells≤ = omega (arith, cells≤, used≤, N.cells_are)

  -- what the side codes ask, and what they are for the record's own count
  pub placed_points : (d.points ≤ 1024) × (3 * d.points ≤ length t.points)
  placed_points = (omega (arith, points≤, N.points_are), omega (arith, N.points_are, M.points≤, (room_of t d.work).points_fit))

  pub points_same : {codes : List ℕ} → codes ≡ side_codes t.points d.points d.position → (m.points ≤ 1024) × (codes ≡ side_codes t.points m.points d.position)
  points_same e = (points≤, e ∙ ap (λ k. side_codes t.points k d.position) N.points_are)

  -- the stamp of the notes is the point count, the record's or the node's own
  pub stamp_in : {de : List ℕ} → Unstamped m.points de → Unstamped d.points de
  stamp_in {de} U = subst (λ k. Unstamped k de) (sym N.points_are) U

  pub stamp_out : {de : List ℕ} → Unstamped (d.points + 1) de → Unstamped (m.points + 1) de
  stamp_out {de} U = subst (λ k. Unstamped (k + 1) de) N.points_are U

  pub admitted : {r : ℕ} → PointTests m t d.position r → r ≡ 0 → Admitted m t bytes d
  admitted T z = record { node = N; place = T.passes z }

  pub refused_early : {r : ℕ} → PointTests m t d.position r → r ≢ 0 → {e : Extent} {k : ℕ} {st li fa de nu : List ℕ} →
      Tested m t bytes d st li fa de nu record { refusal = r; extent = e; made = k }
  refused_early T z = record { refusal_is = sym (T.refuses z d.work (answers_of d.handed bytes)); starable = λ e. absurd (z e); notes = λ e. absurd (z e) }

module _ {m : Mesh} {t : Tables} {bytes : List ℕ} {d : Node} (A : Admitted m t bytes d) where
  abbrev p : Position
  p = d.position

  abbrev a : Answers
  a = answers_of d.handed bytes

  abbrev node : NodeOf m t bytes d
  node = A.node

  node_range : InRange p
  node_range =
      let b = box_in {X = m.x} {Y = m.y} {Z = m.z} {p = p} A.place.box in
      record { x≤ = omega (arith, b.x≤, (valid node).mesh.side_x.high); y≤ = omega (arith, b.y≤, (valid node).mesh.side_y.high); z≤ = omega (arith, b.z≤, (valid node).mesh.side_z.high) }

  pub answerable : Answerable t bytes d
  answerable = record { mesh = node_mesh node; position = node_range; answered = λ e. omega (arith, node.answered e, node.used_are) }

  pub next_point : m.points < point_capacity t
  next_point = omega (arith, (valid node).mesh.points≤, eqb-false m.points (point_capacity t) A.place.next)

  -- ---- tests 7 and 8

  module _ {st li fa : List ℕ} {r : Extent} (H' : CavityFound a t p d.used st li fa r) where
    -- the same with the record's own used length
    pub H : CavityFound a t p m.used st li fa r
    H = subst (λ n. CavityFound a t p n st li fa r) node.used_are H'

    pub unheld_node : r.before ≡ 0 → {k : ℕ} {de nu : List ℕ} → Tested m t bytes d st li fa de nu record { refusal = 7; extent = r; made = k }
    unheld_node e = record {
      refusal_is = sym (is_unheld m t d.work p a A.place.box A.place.free A.place.next (H.held ∙ ap not (eq-eqb r.before 0 e)));
      starable = λ z. absurd (omega arith);
      notes = λ z. absurd (omega arith);
    }

    module _ (some : r.before ≢ 0) where
      abbrev n : ℕ
      n = m.used

      abbrev s : List Bool
      s = set_of n st

      held_node : any_below n (holds t p) ≡ true
      held_node = H.held ∙ ap not (ne_eqb r.before 0 some)

      pub last_is : s ≡ last_cavity m t p a
      unfolding last_cavity
      last_is = H.set some

      pub made_is : {k : ℕ} → k ≡ made_count t d.used p (set_of d.used st) → k ≡ cells_made m t p a
      unfolding cells_made
      made_is e = e ∙ (ap (λ n. made_count t n p (set_of n st)) node.used_are ∙ ap (made_count t n p) last_is)

      pub star_shaped : StarShaped t n p s
      star_shaped =
          let f = any_found n (holds t p) held_node in
          subst (StarShaped t n p) (sym (H.set some))
          (corrected_star_shaped (valid node).mesh (room_of t d.work) p free (says_yes a t p) f.at (base_at t n p f.at f.below ∙ f.passes))
        where
          free : (k : ℕ) → k < m.points → p ≢ point t k
          free k l q = clash (any_intro m.points (λ k. same_position (point t k) p) k l (same_position_yes (point t k) p (sym q))) A.place.free

      pub before≤ : r.before ≤ n
      unfolding cavity_size
      before≤ = omega (arith, H.before_is some, count_le n (in_set (cavity_of t n p (says_yes a t p))))

      full_is : ltb (cell_capacity t d.work) (d.cells + made_count t d.used p (set_of d.used st)) ≡ ltb (cell_capacity t d.work) (m.cells + cells_made m t p a)
      full_is = ap₂ (λ n k. ltb (cell_capacity t d.work) (n + k)) node.cells_are (made_is refl)

      pub no_refusal : {k : ℕ} → k ≡ made_count t d.used p (set_of d.used st) → d.cells + k ≤ cell_capacity t d.work → node_refusal m t d.work p a ≡ 0
      no_refusal e l =
          is_accepted m t d.work p a A.place.box A.place.free A.place.next held_node
          (le-ltb (cell_capacity t d.work) (m.cells + cells_made m t p a) (omega (arith, l, made_is e, node.cells_are)))

      pub last_test : {f : Found} {de nu : List ℕ} → f ≡ star_found t d (set_of d.used st) r → Rising d.used (set_of d.used st) li r.after → Ranked t d.used p (set_of d.used st) nu → length nu ≡ 4096 → Unstamped (m.points + 1) de →
          Tested m t bytes d st li fa de nu f
      unfolding star_found
      last_test {f} {de} {nu} e L N l u = subst (Tested m t bytes d st li fa de nu) (sym e) (go (split full))
        where
          full : Bool
          full = ltb (cell_capacity t d.work) (d.cells + made_count t d.used p (set_of d.used st))

          go : (full ≡ true) ⊎ (full ≡ false) → Tested m t bytes d st li fa de nu (star_found t d (set_of d.used st) r)
          go (inl q) = record {
            refusal_is = rw q (sym (is_cells_full m t d.work p a A.place.box A.place.free A.place.next held_node (sym full_is ∙ q)));
            starable = λ z. absurd (eight (rw q at z));
            notes = λ z. u;
          }
            where
              eight : ◌≡◌ {A = ℕ} 8 0 → ⊥
              eight z = omega arith
          go (inr q) = record {
            refusal_is = rw q (sym (no_refusal refl (ltb-false (cell_capacity t d.work) (d.cells + made_count t d.used p (set_of d.used st)) q)));
            starable = λ z. record {
              admitted = A;
              found = H';
              some = some;
              counted = refl;
              rising = L;
              ranked = N;
              ranks_long = l;
              room = ltb-false (cell_capacity t d.work) (d.cells + made_count t d.used p (set_of d.used st)) q;
            };
            notes = λ z. u;
          }

-- ---- the codes

pub no_zero : (codes : List ℕ) (np : ℕ) → ((k : ℕ) → k < np → eqb (get_or codes k 0) 0 ≡ false) → false ≡ some_zero codes np
unfolding some_zero
no_zero codes np h =
    sym (fails (any_below np (λ k. eqb (get_or codes k 0) 0)) (λ e. let f = any_found np (λ k. eqb (get_or codes k 0) 0) e in clash f.passes (h f.at f.below)))

pub a_zero : (codes : List ℕ) (np k : ℕ) → k < np → get_or codes k 0 ≡ 0 → true ≡ some_zero codes np
unfolding some_zero
a_zero codes np k h e = sym (any_intro np (λ k. eqb (get_or codes k 0) 0) k h (eq-eqb (get_or codes k 0) 0 e))

zero_code : (x y : ℕ) → axis_code x y ≡ 0 → x ≡ y
unfolding axis_code
zero_code x y e = go (dec_lt x y) (dec_lt y x)
  where
    go : Dec (x < y) → Dec (y < x) → x ≡ y
    go (yes h) k = absurd (one (rw (lt-ltb x y h, le-ltb y x (omega arith)) at e))
      where
        one : ◌≡◌ {A = ℕ} (1 + 2 * 0) 0 → ⊥
        one q = omega arith
    go (no h) (yes k) = absurd (two (rw (le-ltb x y (omega arith), lt-ltb y x k) at e))
      where
        two : ◌≡◌ {A = ℕ} (0 + 2 * 1) 0 → ⊥
        two q = omega arith
    go (no h) (no k) = omega arith

same_code : (x : ℕ) → axis_code x x ≡ 0
unfolding axis_code
same_code x = rw (le-ltb x x (omega arith))

-- a point has code 0 just where it is at the position
code_zero : (p q : Position) → eqb (side_code p q) 0 ≡ same_position p q
unfolding side_code
code_zero p q =
    bool_ext (eqb (side_code p q) 0) (same_position p q)
    (λ e. let z = eqb-true (side_code p q) 0 e in
    same_position_yes p q (λ i. record { x = zero_code p.x q.x (omega (arith, z)) i; y = zero_code p.y q.y (omega (arith, z)) i; z = zero_code p.z q.z (omega (arith, z)) i }))
    (λ e. let z = same_position_of p q e in
    ap (λ p. eqb (side_code p q) 0) z ∙ eq-eqb (side_code q q) 0 (λ i. same_code q.x i + 4 * same_code q.y i + 16 * same_code q.z i))

pub taken_is : (t : Tables) (np : ℕ) (q : Position) → np ≤ 1024 → {codes : List ℕ} → codes ≡ side_codes t.points np q →
    some_zero codes np ≡ any_below np (λ k. same_position (point t k) q)
unfolding some_zero
taken_is t np q h {codes} e =
    bool_ext (any_below np (λ k. eqb (get_or codes k 0) 0)) (any_below np (λ k. same_position (point t k) q))
    (λ x. let f = any_found np (λ k. eqb (get_or codes k 0) 0) x in any_intro np (λ k. same_position (point t k) q) f.at f.below (sym (each f.at f.below) ∙ f.passes))
    (λ x. let f = any_found np (λ k. same_position (point t k) q) x in any_intro np (λ k. eqb (get_or codes k 0) 0) f.at f.below (each f.at f.below ∙ f.passes))
  where
    each : (k : ℕ) → k < np → eqb (get_or codes k 0) 0 ≡ same_position (point t k) q
    each k l = ap (λ x. eqb x 0) (ap (λ c. get_or c k 0) e ∙ side_code_at t.points np q h k l) ∙ code_zero (point t k) q

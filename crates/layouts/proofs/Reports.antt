-- The reports: answers that follow their cells, cavities of the same size, and least T's of which neither is below the other.
use Prim.Native.Nat.{ℕ, zero, suc, ◌≤◌, ◌<◌}
use mathlib.Core.Bool.{Bool, true, false, not, ◌&&◌}
use mathlib.Core.List.{List}
use mathlib.Core.Logic.{◌⊎◌, inl, inr}
use mathlib.Core.Path.{◌≡◌, refl, sym, ap, ap₂, ◌∙◌}
use native.Mathlib.Omega.{arith}
use borrow.Author.Tests.{not-true}
use lib.Dec.{eqb}
use lib.Ieee.{Float, lt}
use lib.IntN.{ℤ, pos}
use lib.ListN.{get_or}
use lib.Signed.{◌<ℤ◌, lt_z}
use Rattle.arith.specs.Table.{all_below, first_below}
use Rattle.arith.proofs.Flags.{split, clash, and_left, and_right, and_intro, fails}
use Rattle.arith.proofs.Order.{lt_z_true, lt_lt_z, <-trans, <-irrefl}
use Rattle.arith.proofs.Tables.{all_at, all_intro, below_more, first_is}
use Rattle.arith.proofs.Renumbering.{count_into}
use Rattle.rounding.specs.Whole.{IsInt}
use Rattle.rounding.proofs.Whole.{lt_int}
use Rattle.geometry.specs.declared.Position.{Position}
use Rattle.geometry.specs.Volume.{InRange}
use Rattle.geometry.proofs.Ranges.{in_box_lem}
use Rattle.insphere.specs.Sphere.{sphere_sum, sphere_t}
use Rattle.mesh.specs.declared.Mesh.{Mesh}
use Rattle.mesh.specs.Tables.{Tables, corner_at, IsCell}
use Rattle.mesh.specs.Mesh.{ValidMesh}
use Rattle.mesh.proofs.Valid.{in_range_lem, valid_yes}
use Rattle.cavity.specs.Cavity.{in_set, base, cavity, cavity_of, cavity_size}
use Rattle.cavity.specs.Answers.{Answers, sphere, handed, cell_e, cell_t, says_yes, report_t, least_t}
use Rattle.cavity.proofs.Answering.{whole_report}
use Rattle.cavity.proofs.Correction.{base_long, base_at, base_cell, cavity_cells, cavity_has}
use Rattle.insertion.specs.Insertion.{first_cavity, report_of}
use Rattle.insertion.proofs.Refusals.{NodeFits}
use Rattle.layouts.proofs.Alike.{AlikeMeshes, other_way}
use Rattle.layouts.proofs.Cavities.{Agree, same_position_lem, agree_back}

-- ---- answers that follow their cells

module _ {R : ℕ → ℕ → Type 0} {np n n₁ : ℕ} {t t₁ : Tables} (T : AlikeMeshes R np t n t₁ n₁) (p : Position) where
  -- joined cells answer alike, with the same T
  pub record Answered (a a₁ : Answers) : Type 0 where
    pub says : (c d : ℕ) → R c d → says_yes a t p c ≡ says_yes a₁ t₁ p d
    pub values : (c d : ℕ) → R c d → report_t a t p c ≡ report_t a₁ t₁ p d

  -- the sphere test's answers do
  pub by_corners : Answered sphere sphere
  unfolding says_yes report_t cell_e cell_t
  by_corners = record { says = λ c d r. ap (lt_z (pos 0)) (λ i. at sphere_sum c d r i); values = λ c d r i. at sphere_t c d r i }
    where
      at : {A : Type 0} (f : Position → Position → Position → Position → Position → A) (c d : ℕ) → R c d →
          f (corner_at t c 0) (corner_at t c 1) (corner_at t c 2) (corner_at t c 3) p ≡ f (corner_at t₁ d 0) (corner_at t₁ d 1) (corner_at t₁ d 2) (corner_at t₁ d 3) p
      at f c d r i =
          f (same_position_lem T c d r 0 (omega arith) i) (same_position_lem T c d r 1 (omega arith) i) (same_position_lem T c d r 2 (omega arith) i) (same_position_lem T c d r 3 (omega arith) i) p

  -- and those handed in, if their bytes do
  pub by_bytes : (bytes bytes₁ : List ℕ) → ((c d : ℕ) → R c d → get_or bytes c 0 ≡ get_or bytes₁ d 0) → Answered (handed bytes) (handed bytes₁)
  unfolding says_yes report_t
  by_bytes bytes bytes₁ follow = record { says = λ c d r. ap (λ x. not (eqb x 0)) (follow c d r); values = λ c d r. refl }

-- ---- sizes

size_there : {R : ℕ → ℕ → Type 0} {np n n₁ : ℕ} {t t₁ : Tables} (T : AlikeMeshes R np t n t₁ n₁) {s s₁ : List Bool} → Agree T s s₁ → cavity_size n s ≤ cavity_size n₁ s₁
unfolding cavity_size
size_there {R} {n = n} {n₁ = n₁} T {s} {s₁} G =
    count_into n n₁ (in_set s) (in_set s₁) R (λ c h e. go c e (T.alike.there c (G.cells c e))) (λ c c' d r r'. T.alike.one_back c c' d r r')
  where
    go : (c : ℕ) → in_set s c ≡ true → (d : ℕ) × R c d → (d : ℕ) × (d < n₁) × ((in_set s₁ d ≡ true) × R c d)
    go c e (d, r) = (d, (T.alike.right c d r).below, (sym (G.same c d r) ∙ e, r))

pub same_size : {R : ℕ → ℕ → Type 0} {np n n₁ : ℕ} {t t₁ : Tables} (T : AlikeMeshes R np t n t₁ n₁) {s s₁ : List Bool} → Agree T s s₁ → cavity_size n s ≡ cavity_size n₁ s₁
same_size T G = omega (arith, size_there T G, size_there (other_way T) (agree_back T G))

-- ---- the least T

-- below suc n: below n, and n
each : {n : ℕ} (P : ℕ → Type 0) → ((k : ℕ) → k < n → P k) → P n → (k : ℕ) → k < suc n → P k
each {n} P old new k h = below_more P n old new k (omega arith)

-- the first number below n that passes, or none does
First : ℕ → (ℕ → Bool) → Type 0
First n p = (c : ℕ) × (c < n) × ((p c ≡ true) × ((k : ℕ) → k < c → p k ≡ false))

first : (n : ℕ) (p : ℕ → Bool) → First n p ⊎ ((k : ℕ) → k < n → p k ≡ false)
unfolding First
first zero p = inr (λ k h. absurd (omega arith))
first (suc n) p = go (first n p) (split (p n))
  where
    go : First n p ⊎ ((k : ℕ) → k < n → p k ≡ false) → (p n ≡ true) ⊎ (p n ≡ false) → First (suc n) p ⊎ ((k : ℕ) → k < suc n → p k ≡ false)
    go (inl (c, h, q)) e = inl (c, omega arith, q)
    go (inr none) (inl e) = inl (n, omega arith, (e, none))
    go (inr none) (inr e) = inr (each (λ k. p k ≡ false) none e)

-- so the definition's number passes, where one does
pub first_passes : (n : ℕ) (p : ℕ → Bool) (k : ℕ) → k < n → p k ≡ true → p (first_below n p) ≡ true
unfolding First
first_passes n p k h e = go (first n p)
  where
    go : First n p ⊎ ((k : ℕ) → k < n → p k ≡ false) → p (first_below n p) ≡ true
    go (inl (c, l, q)) = ap p (first_is n p c l q.0 q.1) ∙ q.0
    go (inr none) = clash e (none k h)

-- floats that are whole numbers
module _ (T : ℕ → Float) (p : ℕ → Bool) (whole : (c : ℕ) → p c ≡ true → (z : ℤ) × IsInt (T c) z) where
  order : (c d : ℕ) (h : p c ≡ true) (k : p d ≡ true) → lt (T c) (T d) ≡ lt_z (whole c h).0 (whole d k).0
  order c d h k = lt_int (whole c h).1 (whole d k).1

  below : (c d : ℕ) (h : p c ≡ true) (k : p d ≡ true) → lt (T c) (T d) ≡ true → (whole c h).0 <ℤ (whole d k).0
  below c d h k e = lt_z_true (whole c h).0 (whole d k).0 (sym (order c d h k) ∙ e)

  not_itself : (c : ℕ) → p c ≡ true → lt (T c) (T c) ≡ false
  not_itself c h = fails (lt (T c) (T c)) (λ e. <-irrefl (below c c h h e))

  -- one below n with none below it, or none passes
  Bottom : ℕ → Type 0
  Bottom n = (c : ℕ) × (c < n) × ((p c ≡ true) × ((d : ℕ) → d < n → p d ≡ true → lt (T d) (T c) ≡ false))

  bottom : (n : ℕ) → Bottom n ⊎ ((c : ℕ) → c < n → p c ≡ false)
  unfolding Bottom
  bottom zero = inr (λ c h. absurd (omega arith))
  bottom (suc n) = go (bottom n) (split (p n))
    where
      above : ℕ → ℕ → Type 0
      above c d = p d ≡ true → lt (T d) (T c) ≡ false

      go : Bottom n ⊎ ((c : ℕ) → c < n → p c ≡ false) → (p n ≡ true) ⊎ (p n ≡ false) → Bottom (suc n) ⊎ ((c : ℕ) → c < suc n → p c ≡ false)
      go (inr none) (inr e) = inr (each (λ c. p c ≡ false) none e)
      go (inr none) (inl e) = inl (n, omega arith, (e, each (above n) (λ d h k. clash k (none d h)) (λ k. not_itself n e)))
      go (inl (c, h, (k, low))) (inr e) = inl (c, omega arith, (k, each (above c) low (λ q. clash q e)))
      go (inl (c, h, (k, low))) (inl e) = by (split (lt (T n) (T c)))
        where
          by : (lt (T n) (T c) ≡ true) ⊎ (lt (T n) (T c) ≡ false) → Bottom (suc n) ⊎ ((c : ℕ) → c < suc n → p c ≡ false)
          by (inr f) = inl (c, omega arith, (k, each (above c) low (λ q. f)))
          by (inl f) = inl (n, omega arith, (e, each (above n) lower (λ q. not_itself n e)))
            where
              lower : (d : ℕ) → d < n → p d ≡ true → lt (T d) (T n) ≡ false
              lower d l q = fails (lt (T d) (T n)) (λ r. clash (order d c q k ∙ lt_lt_z (<-trans (below d n q e r) (below n c e k f))) (low d l q))

-- a cell of s with the least T, and none of s below it
pub record Least (T : ℕ → Float) (s : List Bool) (x : Float) : Type 0 where
  pub at : ℕ
  pub member : in_set s at ≡ true
  pub is : x ≡ T at
  pub none_below : (d : ℕ) → in_set s d ≡ true → lt (T d) (T at) ≡ false

-- the report's least T is one, where s has a cell
least_of : (T : ℕ → Float) (n : ℕ) (s : List Bool) → ((c : ℕ) → in_set s c ≡ true → c < n) → ((c : ℕ) → in_set s c ≡ true → (z : ℤ) × IsInt (T c) z) →
    (c : ℕ) → in_set s c ≡ true → Least T s (least_t T n s)
unfolding least_t
least_of T n s small whole c e = go (bottom T (in_set s) whole n)
  where
    off : ℕ → ℕ → Bool
    off c d = not (in_set s d && lt (T d) (T c))

    test : ℕ → Bool
    test c = in_set s c && all_below n (off c)

    go : Bottom T (in_set s) whole n ⊎ ((c : ℕ) → c < n → in_set s c ≡ false) → Least T s (least_t T n s)
    go (inr none) = clash e (none c (small c e))
    go (inl b) = by (unfold Bottom in b)
      where
        by : (c : ℕ) × (c < n) × ((in_set s c ≡ true) × ((d : ℕ) → d < n → in_set s d ≡ true → lt (T d) (T c) ≡ false)) → Least T s (least_t T n s)
        by (k, k<, (m, low)) = record {
          at = j;
          member = and_left (in_set s j) (all_below n (off j)) passes;
          is = refl;
          none_below = λ d h. fails (lt (T d) (T j)) (λ q. clash (and_intro h q) (not-true (in_set s d && lt (T d) (T j)) (all_at n (off j) (and_right (in_set s j) (all_below n (off j)) passes) d (small d h))));
        }
          where
            j : ℕ
            j = first_below n test

            passes : test j ≡ true
            passes =
                first_passes n test k k<
                (and_intro m (all_intro n (off k) (λ d h. ap not (fails (in_set s d && lt (T d) (T k)) (λ q. clash (and_right (in_set s d) (lt (T d) (T k)) q) (low d h (and_left (in_set s d) (lt (T d) (T k)) q)))))))

module _ {R : ℕ → ℕ → Type 0} {np n n₁ : ℕ} {t t₁ : Tables} (T : AlikeMeshes R np t n t₁ n₁) {p : Position} {a a₁ : Answers} (W : Answered T p a a₁)
    {s s₁ : List Bool} (G : Agree T s s₁) {x y : Float} (L : Least (report_t a t p) s x) (L₁ : Least (report_t a₁ t₁ p) s₁ y) where
  pub least_not_below : lt x y ≡ false
  least_not_below = go (T.alike.there L.at (G.cells L.at L.member))
    where
      go : (d : ℕ) × R L.at d → lt x y ≡ false
      go (d, r) = ap₂ lt (L.is ∙ W.values L.at d r) L₁.is ∙ L₁.none_below d (sym (G.same L.at d r) ∙ L.member)

-- ---- the report of a node that fits

-- a cell of the base
pub in_base : (m : Mesh) (t : Tables) (w : ℕ) (p : Position) (a : Answers) (N : NodeFits m t w p a) → in_set (base t m.used p) N.holder.at ≡ true
in_base m t w p a N = base_at t m.used p N.holder.at N.holder.below ∙ N.holder.passes

pub node_least : (m : Mesh) (t : Tables) (w : ℕ) (p : Position) (a : Answers) → ValidMesh m t w → NodeFits m t w p a →
    Least (report_t a t p) (first_cavity m t p a) (report_of m t p a).least
unfolding report_of first_cavity cavity_of
node_least m t w p a k N =
    least_of (report_t a t p) m.used (cavity t m.used (says_yes a t p) (base t m.used p)) (λ c e. (cell c e).below)
    (λ c e. whole_report {ps = t.points} {cs = t.corners} {ns = t.neighbours} record { X = m.x; Y = m.y; Z = m.z; w = w; mesh = k.mesh } a c (cell c e) range)
    N.holder.at (cavity_has t m.used p (says_yes a t p) (base t m.used p) (base_long t m.used p) N.holder.at (in_base m t w p a N))
  where
    cell : (c : ℕ) → in_set (cavity t m.used (says_yes a t p) (base t m.used p)) c ≡ true → IsCell t m.used c
    cell = cavity_cells t m.used p (says_yes a t p) (base t m.used p) (base_cell t m.used p)

    range : InRange p
    range = in_range_lem m t w (valid_yes m t w k) (in_box_lem N.box)

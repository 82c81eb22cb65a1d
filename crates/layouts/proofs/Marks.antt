-- Marks that follow their cells are those of a look in the one layout just where they are in the other; and a look leaves such marks.
use Prim.Native.Nat.{ℕ, zero, suc, ◌≤◌, ◌<◌}
use mathlib.Core.Bool.{Bool, true, false, cond, true≢false}
use mathlib.Core.List.{List, [], ◌∷◌}
use mathlib.Core.Logic.{◌⊎◌, inl, inr}
use mathlib.Core.Path.{◌≡◌, refl, sym, ap, ◌∙◌}
use native.Mathlib.Omega.{arith}
use borrow.Author.Tests.{eqb-true, eq-eqb}
use lib.Dec.{eqb}
use lib.ListN.{length, get_or, drop, length-append, get_or-append}
use Rattle.arith.proofs.Flags.{split, clash, and_left, and_right, and_intro, bool_ext, fails}
use Rattle.mesh.specs.Tables.{Tables, live}
use Rattle.mesh.specs.Start.{over}
use Rattle.cavity.specs.Cavity.{in_set}
use Rattle.insertion.specs.Look.{marks_of, begins_with}
use Rattle.insertion.proofs.Looking.{marks_length, mark_at}
use Rattle.layouts.proofs.Alike.{AlikeMeshes, other_way}
use Rattle.layouts.proofs.Cavities.{Agree, agree_back}

-- ---- bytes that begin with others

begins_of : (xs bytes : List ℕ) → begins_with xs bytes ≡ true → (i : ℕ) → i < length xs → get_or bytes i 0 ≡ get_or xs i 0
unfolding begins_with
begins_of [] bytes e i h = absurd (omega arith)
begins_of (x ∷ xs) [] e i h = absurd (true≢false (sym e))
begins_of (x ∷ xs) (b ∷ bytes) e zero h = eqb-true b x (and_left (eqb b x) (begins_with xs bytes) e)
begins_of (x ∷ xs) (b ∷ bytes) e (suc i) h = begins_of xs bytes (and_right (eqb b x) (begins_with xs bytes) e) i (omega arith)

begins_yes : (xs bytes : List ℕ) → length xs ≤ length bytes → ((i : ℕ) → i < length xs → get_or bytes i 0 ≡ get_or xs i 0) → begins_with xs bytes ≡ true
unfolding begins_with
begins_yes [] bytes h e = refl
begins_yes (x ∷ xs) [] h e = absurd (omega arith)
begins_yes (x ∷ xs) (b ∷ bytes) h e = and_intro (eq-eqb b x (e 0 (omega arith))) (begins_yes xs bytes (omega arith) (λ i l. e (suc i) (omega arith)))

-- 0 where an entry in use is no cell
abbrev ZeroOff : Tables → ℕ → List ℕ → Type 0
ZeroOff t n marks = (c : ℕ) → c < n → live t c ≡ false → get_or marks c 0 ≡ 0

marks_there : {R : ℕ → ℕ → Type 0} {np n n₁ : ℕ} {t t₁ : Tables} (T : AlikeMeshes R np t n t₁ n₁) {s s₁ : List Bool} → Agree T s s₁ → (marks marks₁ : List ℕ) →
    n₁ ≤ length marks₁ → ((c d : ℕ) → R c d → get_or marks c 0 ≡ get_or marks₁ d 0) → ZeroOff t₁ n₁ marks₁ →
    begins_with (marks_of n (in_set s)) marks ≡ true → begins_with (marks_of n₁ (in_set s₁)) marks₁ ≡ true
marks_there {R} {n = n} {n₁ = n₁} {t₁ = t₁} T {s} {s₁} G marks marks₁ long follow zeros e =
    begins_yes (marks_of n₁ (in_set s₁)) marks₁ (omega (arith, long, marks_length n₁ (in_set s₁))) (λ d h. at d (omega (arith, h, marks_length n₁ (in_set s₁))) (split (live t₁ d)))
  where
    at : (d : ℕ) → d < n₁ → (live t₁ d ≡ true) ⊎ (live t₁ d ≡ false) → get_or marks₁ d 0 ≡ get_or (marks_of n₁ (in_set s₁)) d 0
    at d h (inr off) = zeros d h off ∙ sym (mark_at n₁ (in_set s₁) d h ∙ ap (λ b. cond {A = ℕ} b 1 0) (fails (in_set s₁ d) (λ q. clash (G.cells₁ d q).lives off)))
    at d h (inl on) = by (T.alike.back d record { below = h; lives = on })
      where
        by : (c : ℕ) × R c d → get_or marks₁ d 0 ≡ get_or (marks_of n₁ (in_set s₁)) d 0
        by (c, r) =
            let l = (T.alike.left c d r).below in
            sym (follow c d r) ∙ (begins_of (marks_of n (in_set s)) marks e c (omega (arith, l, marks_length n (in_set s))) ∙
            (mark_at n (in_set s) c l ∙ (ap (λ b. cond {A = ℕ} b 1 0) (G.same c d r) ∙ sym (mark_at n₁ (in_set s₁) d h))))

module _ {R : ℕ → ℕ → Type 0} {np n n₁ : ℕ} {t t₁ : Tables} (T : AlikeMeshes R np t n t₁ n₁) {s s₁ : List Bool} (G : Agree T s s₁) (marks marks₁ : List ℕ) where
  pub same_marks : n ≤ length marks → n₁ ≤ length marks₁ → ((c d : ℕ) → R c d → get_or marks c 0 ≡ get_or marks₁ d 0) → ZeroOff t n marks → ZeroOff t₁ n₁ marks₁ →
      begins_with (marks_of n (in_set s)) marks ≡ begins_with (marks_of n₁ (in_set s₁)) marks₁
  same_marks long long₁ follow zeros zeros₁ =
      bool_ext (begins_with (marks_of n (in_set s)) marks) (begins_with (marks_of n₁ (in_set s₁)) marks₁)
      (marks_there T G marks marks₁ long₁ follow zeros₁)
      (marks_there (other_way T) (agree_back T G) marks₁ marks long (λ d c r. sym (follow c d r)) zeros)

-- ---- the marks that a look leaves

module _ (n : ℕ) (is_marked : ℕ → Bool) (marks : List ℕ) where
  pub left_long : n ≤ length (over (marks_of n is_marked) marks)
  left_long = omega (arith, marks_length n is_marked, length-append (marks_of n is_marked) (drop (length (marks_of n is_marked)) marks))

  pub left_at : (c : ℕ) → c < n → get_or (over (marks_of n is_marked) marks) c 0 ≡ cond (is_marked c) 1 0
  left_at c h =
      get_or-append (marks_of n is_marked) (drop (length (marks_of n is_marked)) marks) 0 c (omega (arith, h, marks_length n is_marked)) ∙ mark_at n is_marked c h

-- Positions a single time: what is left of a list, one position more, and what every position of it tells.
use Prim.Native.Nat.{ℕ, zero, suc, ◌≤◌, ◌<◌}
use mathlib.Core.Bool.{Bool, true, false, not, cond, ◌||◌, or_assoc, true≢false}
use mathlib.Core.List.{List, [], ◌∷◌, ◌++◌, append-nil}
use mathlib.Core.Logic.{◌⊎◌, inl, inr, ⊎_elim}
use mathlib.Core.Path.{◌≡◌, refl, sym, ap, ◌∙◌}
use native.Mathlib.Omega.{arith}
use borrow.Author.Tests.{not-true}
use lib.ListN.{length, get_or}
use lib.Seq.{append_snoc}
use Rattle.arith.proofs.Flags.{split, clash, and_left, and_right, or_cases, or_left, or_right, fails}
use Rattle.geometry.specs.declared.Position.{Position}
use Rattle.geometry.specs.Volume.{same_position}
use Rattle.mesh.proofs.Checked.{same_position_of, same_position_yes}
use Rattle.merging.specs.Merge.{among, firsts}
use Rattle.merging.specs.Laws.{distinct}

-- ---- among

pub among_at : (ps : List Position) (p d : Position) (j : ℕ) → j < length ps → get_or ps j d ≡ p → among ps p ≡ true
unfolding among
among_at [] p d j h e = absurd (omega arith)
among_at (q ∷ ps) p d zero h e = or_left (same_position q p) (among ps p) (same_position_yes q p e)
among_at (q ∷ ps) p d (suc j) h e = or_right (same_position q p) (among ps p) (among_at ps p d j (omega arith) e)

-- where a position stands
pub record Stands (ps : List Position) (p d : Position) : Type 0 where
  pub at : ℕ
  pub below : at < length ps
  pub is : get_or ps at d ≡ p

pub among_stands : (ps : List Position) (p d : Position) → among ps p ≡ true → Stands ps p d
unfolding among
among_stands [] p d e = absurd (true≢false (sym e))
among_stands (q ∷ ps) p d e = go (among_stands ps p d) (or_cases (same_position q p) (among ps p) e)
  where
    go : (among ps p ≡ true → Stands ps p d) → (same_position q p ≡ true) ⊎ (among ps p ≡ true) → Stands (q ∷ ps) p d
    go h (inl s) = record { at = 0; below = omega arith; is = same_position_of q p s }
    go h (inr s) = let r = h s in record { at = suc r.at; below = omega (arith, r.below); is = r.is }

pub among_append : (ps qs : List Position) (p : Position) → among (ps ++ qs) p ≡ (among ps p || among qs p)
unfolding among
among_append [] qs p = refl
among_append (q ∷ ps) qs p = ap (λ b. same_position q p || b) (among_append ps qs p) ∙ sym (or_assoc (same_position q p) (among ps p) (among qs p))

-- ---- one position more

pub firsts_snoc : (seen ps : List Position) (p : Position) →
    firsts seen (ps ++ (p ∷ [])) ≡ cond (among seen p || among (firsts seen ps) p) (firsts seen ps) (firsts seen ps ++ (p ∷ []))
unfolding firsts among
firsts_snoc seen [] p = go (split (among seen p))
  where
    go : (among seen p ≡ true) ⊎ (among seen p ≡ false) → cond (among seen p) [] (p ∷ []) ≡ cond (among seen p || false) [] (p ∷ [])
    go (inl e) = rw e
    go (inr e) = rw e
firsts_snoc seen (q ∷ ps) p = go (firsts_snoc seen ps p) (firsts_snoc (q ∷ seen) ps p) (split (among seen q))
  where
    F : List Position
    F = firsts (q ∷ seen) ps

    turned : (s a f : Bool) → ((s || a) || f) ≡ (a || (s || f))
    turned true true f = refl
    turned true false f = refl
    turned false a f = refl

    under : (b : Bool) → q ∷ cond b F (F ++ (p ∷ [])) ≡ cond b (q ∷ F) ((q ∷ F) ++ (p ∷ []))
    under true = refl
    under false = refl

    after : List Position → Type 0
    after s =
        firsts s (ps ++ (p ∷ [])) ≡ cond (among s p || among (firsts s ps) p) (firsts s ps) (firsts s ps ++ (p ∷ []))

    go : after seen → after (q ∷ seen) → (among seen q ≡ true) ⊎ (among seen q ≡ false) →
        firsts seen ((q ∷ ps) ++ (p ∷ [])) ≡
        cond (among seen p || among (firsts seen (q ∷ ps)) p) (firsts seen (q ∷ ps)) (firsts seen (q ∷ ps) ++ (p ∷ []))
    go h k (inl e) = rw e h
    go h k (inr e) =
        let b = ap (λ b. cond b (q ∷ F) ((q ∷ F) ++ (p ∷ []))) (turned (same_position q p) (among seen p) (among F p)) in
        rw e (ap (λ l. q ∷ l) k ∙ (under ((same_position q p || among seen p) || among F p) ∙ b))

-- a list whose positions all stand before it adds nothing
pub firsts_known : (seen ps qs : List Position) → ((q : Position) → among qs q ≡ true → (among seen q || among (firsts seen ps) q) ≡ true) →
    firsts seen (ps ++ qs) ≡ firsts seen ps
unfolding among
firsts_known seen ps [] h = ap (firsts seen) (append-nil ps)
firsts_known seen ps (q ∷ qs) h =
    ap (firsts seen) (sym (append_snoc ps q qs)) ∙ (firsts_known seen (ps ++ (q ∷ [])) qs later ∙ one)
  where
    known : (among seen q || among (firsts seen ps) q) ≡ true
    known = h q (or_left (same_position q q) (among qs q) (same_position_yes q q refl))

    one : firsts seen (ps ++ (q ∷ [])) ≡ firsts seen ps
    one = firsts_snoc seen ps q ∙ rw known

    later : (r : Position) → among qs r ≡ true → (among seen r || among (firsts seen (ps ++ (q ∷ []))) r) ≡ true
    later r e = ap (λ l. among seen r || among l r) one ∙ h r (or_right (same_position q r) (among qs r) e)

-- ---- what is left, by its positions

-- every position of a list was seen or is left
pub firsts_all : (seen ps : List Position) (p : Position) → among ps p ≡ true → (among seen p || among (firsts seen ps) p) ≡ true
unfolding firsts among
firsts_all seen [] p e = absurd (true≢false (sym e))
firsts_all seen (q ∷ ps) p e = go (firsts_all seen ps p) (firsts_all (q ∷ seen) ps p) (split (among seen q)) (or_cases (same_position q p) (among ps p) e)
  where
    F : List Position
    F = firsts (q ∷ seen) ps

    moved : (s a f : Bool) → ((s || a) || f) ≡ true → (a || (s || f)) ≡ true
    moved true true f h = refl
    moved true false f h = refl
    moved false a f h = h

    all : List Position → Type 0
    all s = among ps p ≡ true → (among s p || among (firsts s ps) p) ≡ true

    go : all seen → all (q ∷ seen) → (among seen q ≡ true) ⊎ (among seen q ≡ false) → (same_position q p ≡ true) ⊎ (among ps p ≡ true) →
        (among seen p || among (firsts seen (q ∷ ps)) p) ≡ true
    go h k (inl a) (inl s) = or_left (among seen p) _ (ap (among seen) (sym (same_position_of q p s)) ∙ a)
    go h k (inl a) (inr t) = rw a (h t)
    go h k (inr a) (inl s) = rw a (or_right (among seen p) _ (or_left (same_position q p) (among F p) s))
    go h k (inr a) (inr t) = rw a (moved (same_position q p) (among seen p) (among F p) (k t))

-- and what is left is one of the list that was not seen
pub firsts_new : (seen ps : List Position) (p : Position) → among (firsts seen ps) p ≡ true → (among ps p ≡ true) × (among seen p ≡ false)
unfolding firsts among
firsts_new seen [] p e = absurd (true≢false (sym e))
firsts_new seen (q ∷ ps) p e = go (firsts_new seen ps p) (firsts_new (q ∷ seen) ps p) (split (among seen q))
  where
    none : (a b : Bool) → (a || b) ≡ false → b ≡ false
    none true b h = absurd (true≢false h)
    none false b h = h

    new : List Position → Type 0
    new s = among (firsts s ps) p ≡ true → (among ps p ≡ true) × (among s p ≡ false)

    here : new (q ∷ seen) → among seen q ≡ false → (same_position q p ≡ true) ⊎ (among (firsts (q ∷ seen) ps) p ≡ true) →
        ((same_position q p || among ps p) ≡ true) × (among seen p ≡ false)
    here k a (inl s) = (or_left (same_position q p) (among ps p) s, ap (among seen) (sym (same_position_of q p s)) ∙ a)
    here k a (inr t) = (or_right (same_position q p) (among ps p) (k t).0, none (same_position q p) (among seen p) (k t).1)

    go : new seen → new (q ∷ seen) → (among seen q ≡ true) ⊎ (among seen q ≡ false) → ((same_position q p || among ps p) ≡ true) × (among seen p ≡ false)
    go h k (inl a) = let r = h (rw a at e) in (or_right (same_position q p) (among ps p) r.0, r.1)
    go h k (inr a) = here k a (or_cases (same_position q p) (among (firsts (q ∷ seen) ps) p) (rw a at e))

pub firsts_fewer : (seen ps : List Position) → length (firsts seen ps) ≤ length ps
unfolding firsts
firsts_fewer seen [] = omega arith
firsts_fewer seen (q ∷ ps) = go (firsts_fewer seen ps) (firsts_fewer (q ∷ seen) ps) (among seen q)
  where
    go : length (firsts seen ps) ≤ length ps → length (firsts (q ∷ seen) ps) ≤ length ps → (b : Bool) →
        length (cond b (firsts seen ps) (q ∷ firsts (q ∷ seen) ps)) ≤ length (q ∷ ps)
    go h k true = omega arith
    go h k false = omega arith

-- no position is left twice
pub firsts_distinct : (seen ps : List Position) → distinct (firsts seen ps) ≡ true
unfolding firsts among distinct
firsts_distinct seen [] = refl
firsts_distinct seen (q ∷ ps) = go (firsts_distinct seen ps) (firsts_distinct (q ∷ seen) ps) (split (among seen q))
  where
    F : List Position
    F = firsts (q ∷ seen) ps

    absent : among F q ≡ false
    absent =
        fails (among F q)
        (λ e. clash (or_left (same_position q q) (among seen q) (same_position_yes q q refl)) (firsts_new (q ∷ seen) ps q e).1)

    go : distinct (firsts seen ps) ≡ true → distinct F ≡ true → (among seen q ≡ true) ⊎ (among seen q ≡ false) → distinct (firsts seen (q ∷ ps)) ≡ true
    go h k (inl a) = rw a h
    go h k (inr a) = rw (a, absent) k

-- a list without repetition, of which nothing was seen, is left as it is
pub firsts_same : (seen ps : List Position) → distinct ps ≡ true → ((p : Position) → among ps p ≡ true → among seen p ≡ false) → firsts seen ps ≡ ps
unfolding firsts among distinct
firsts_same seen [] s h = refl
firsts_same seen (q ∷ ps) s h =
    rw (h q (or_left (same_position q q) (among ps q) (same_position_yes q q refl))) (ap (λ l. q ∷ l) (firsts_same (q ∷ seen) ps (and_right (not (among ps q)) (distinct ps) s) unseen))
  where
    absent : among ps q ≡ false
    absent = not-true (among ps q) (and_left (not (among ps q)) (distinct ps) s)

    unseen : (p : Position) → among ps p ≡ true → (same_position q p || among seen p) ≡ false
    unseen p e =
        fails (same_position q p || among seen p)
        (λ b. ⊎_elim (λ t. clash (ap (among ps) (same_position_of q p t) ∙ e) absent) (λ t. clash t (h p (or_right (same_position q p) (among ps p) e)))
        (or_cases (same_position q p) (among seen p) b))

-- Taking numbers for new cells, one after the other: the chain's, then those at the end of the table.
use Prim.Native.Nat.{ℕ, ◌+◌, ◌*◌, ◌≤◌, ◌<◌}
use mathlib.Core.Bool.{cond}
use mathlib.Core.List.{List}
use mathlib.Core.Logic.{◌≢◌}
use mathlib.Core.Path.{◌≡◌, refl, sym, ap, ◌∙◌, subst}
use native.Mathlib.Omega.{arith}
use native.Mathlib.Decide.{ℕ_discrete}
use native.Mathlib.Nat.{add-zero}
use borrow.Author.Tests.{eq-eqb, ne_eqb}
use lib.Dec.{eqb}
use lib.ListN.{length, get_or, set, drop, length-drop, drop_of_length-le}
use lib.Seq.{drop-drop, get_or-drop}
use Rattle.arith.proofs.Tables.{any_default}
use Rattle.mesh.specs.Tables.{Tables, none, across}
use Rattle.mesh.specs.Chain.{Chain, end, link, Chained}
use Rattle.mesh.specs.Inner.{HasCell}
use Rattle.star.specs.Star.{slot, used_after, head_of}
use Rattle.star.specs.Inner.{Slotted, Supply}
use Rattle.star.proofs.Star.{spare_few, Taken, taken, on_chain, at_end}
use Rattle.star.proofs.Codes.{filled_more}

-- from a number on the chain to the next
record Goes (t : Tables) (h : ℕ) (l : List ℕ) : Type 0 where
  some : 0 < length l
  first : get_or l 0 0 ≡ h
  rest : Chain t (across t (4 * h)) (drop 1 l)

module _ {t : Tables} where
  chain_head : {h : ℕ} {l : List ℕ} → Chain t h l → h ≡ head_of l
  chain_head end = refl
  chain_head (link d q) = refl

  chain_ends : {h : ℕ} {l : List ℕ} → Chain t h l → h ≡ none → length l ≡ 0
  chain_ends end e = refl
  chain_ends (link d q) e = absurd (d e)

  chain_goes : {h : ℕ} {l : List ℕ} → Chain t h l → h ≢ none → Goes t h l
  chain_goes end d = absurd (d refl)
  chain_goes (link d q) e = record { some = omega arith; first = refl; rest = q }

-- the first number is an entry's, or none
pub chain_small : {t : Tables} {n h : ℕ} {ch : List ℕ} → Chained t n h ch → n ≤ none → h ≤ none
chain_small {n = n} {h = h} C few = go (ℕ_discrete h none)
  where
    go : Dec (h ≡ none) → h ≤ none
    go (yes e) = omega arith
    go (no d) = let g = chain_goes C.path d in omega (arith, g.first, C.spare.below 0 g.some)

module _ {ns : List ℕ} {n h m : ℕ} (b : Supply ns n h m) where
  pub supply_few : m ≤ 4096
  unfolding used_after
  supply_few = omega (arith, spare_few b.chained.spare, b.room)

  -- the first r numbers are taken
  pub record TakenTo (r chain used : ℕ) (sl : List ℕ) : Type 0 where
    pub path : Chain b.t chain (drop r b.ch)
    pub used_is : used ≡ used_after b.ch n r
    pub slotted : Slotted b.ch n r sl

  pub taken_none : (sl : List ℕ) → TakenTo 0 h n sl
  unfolding used_after
  taken_none sl = record { path = b.chained.path; used_is = omega arith; slotted = λ k l. absurd (omega arith) }

  module _ {r chain used : ℕ} {sl : List ℕ} (T : TakenTo r chain used sl) where
    past : chain ≡ none → length b.ch ≤ r
    past e = omega (arith, chain_ends T.path e, length-drop r b.ch)

    here : chain ≢ none → (r < length b.ch) × (get_or b.ch r 0 ≡ chain)
    here d =
        let g = chain_goes T.path d in
        (omega (arith, g.some, length-drop r b.ch), ap (λ k. get_or b.ch k 0) (sym (add-zero r)) ∙ (sym (get_or-drop r b.ch 0 0) ∙ g.first))

    chain< : chain ≢ none → chain < n
    chain< d = omega (arith, (here d).1, b.chained.spare.below r (here d).0)

    pub taken_end : r < m → chain ≡ none → used < 4096
    unfolding used_after
    taken_end l e = omega (arith, past e, T.used_is, b.room)

    pub taken_has : chain ≢ none → HasCell chain ns
    unfolding used_after
    taken_has d = record { few = omega (arith, chain< d, b.room); fits = omega (arith, chain< d, b.neighbours_long) }

    pub taken_more : {chain' used' : ℕ} {sl' : List ℕ} → r < length sl → sl' ≡ set sl r (cond (eqb chain none) used chain) →
        chain' ≡ cond (eqb chain none) none (get_or ns (4 * chain) 0) → used' ≡ cond (eqb chain none) (used + 1) used → TakenTo (r + 1) chain' used' sl'
    unfolding used_after across
    taken_more {chain'} {used'} {sl'} l e q u = go (ℕ_discrete chain none)
      where
        step : Chain b.t chain' (drop (r + 1) b.ch) → used' ≡ used_after b.ch n (r + 1) → cond (eqb chain none) used chain ≡ slot b.ch n r → TakenTo (r + 1) chain' used' sl'
        step x y z = record { path = x; used_is = y; slotted = filled_more sl sl' (slot b.ch n) r _ l e z T.slotted }

        go : Dec (chain ≡ none) → TakenTo (r + 1) chain' used' sl'
        go (yes z) =
            step (subst (λ x. Chain b.t x (drop (r + 1) b.ch)) (sym (rw (eq-eqb chain none z) at q)) (subst (Chain b.t none) (sym (drop_of_length-le b.ch {i = r + 1} (omega (arith, past z)))) end))
            (omega (arith, rw (eq-eqb chain none z) at u, T.used_is, past z))
            (rw (eq-eqb chain none z) (by (taken b.chained.spare r)))
          where
            by : Taken b.chained.spare r → used ≡ slot b.ch n r
            by (on_chain a x) = absurd (omega (arith, past z))
            by (at_end a x) = omega (arith, x, T.used_is)
        go (no d) =
            step (subst (λ x. Chain b.t x (drop (r + 1) b.ch)) (sym (rw (ne_eqb chain none d) at q ∙ (read ∙ ap (λ l. get_or l (4 * chain) none) (sym b.neighbours_are)))) (subst (Chain b.t (across b.t (4 * chain))) (drop-drop 1 r b.ch) (chain_goes T.path d).rest))
            (omega (arith, rw (ne_eqb chain none d) at u, T.used_is, (here d).0))
            (rw (ne_eqb chain none d) (by (taken b.chained.spare r)))
          where
            read : get_or ns (4 * chain) 0 ≡ get_or ns (4 * chain) none
            read = any_default ns (4 * chain) 0 none (omega (arith, chain< d, b.neighbours_long))

            by : Taken b.chained.spare r → chain ≡ slot b.ch n r
            by (on_chain a x) = sym (x ∙ (here d).1)
            by (at_end a x) = absurd (omega (arith, (here d).0))

    pub taken_all : r ≡ m → Slotted b.ch n m sl × (chain ≡ head_of (drop m b.ch)) × (used ≡ used_after b.ch n m)
    taken_all e =
        (subst (λ k. Slotted b.ch n k sl) e T.slotted, subst (λ k. chain ≡ head_of (drop k b.ch)) e (chain_head T.path), subst (λ k. used ≡ used_after b.ch n k) e T.used_is)

-- The candidate that may not be there yet: where it is not, it is that of the laws with the cell count and a number above all keys.
use Rattle.std.specs.Prelude.{ℕ, ◌+◌, ◌<◌, true, false, List, [], Bool, ltb, ◌≡◌, Option, Some, None, option_map, unwrap_or, IfSome}
use mathlib.Core.Logic.{◌⊎◌, inl, inr}
use mathlib.Core.Path.{refl}
use native.Mathlib.Omega.{arith}
use Rattle.geometry.specs.declared.Position.{Position}
use Rattle.mesh.specs.Tables.{Tables, tables}
use Rattle.mesh.specs.Inner.{four_at, Solid}
use Rattle.locate.specs.declared.Candidate.{Candidate}
use Rattle.locate.specs.Locate.{holds, first_holder}
use Rattle.locate.specs.Inner.{above_keys, key_of, earlier}
use Rattle.locate.proofs.First.{CandidateAfter, candidate_none, candidate_more, candidate_earlier, candidate_is}
use Rattle.locate_first.specs.Candidates.{earlier_of}

split : (b : Bool) → (b ≡ true) ⊎ (b ≡ false)
split true = inl refl
split false = inr refl

abbrev candidate_or : ℕ → Option Candidate → Candidate
candidate_or n first = unwrap_or first record { cell = n; key = above_keys }

-- after c of n cells
pub record FirstAfter (t : Tables) (p : Position) (n c : ℕ) (first : Option Candidate) : Type 0 where
  pub candidate : CandidateAfter t p n c (candidate_or n first)
  pub below : IfSome first (λ b. b.cell < n)

module _ (t : Tables) (p : Position) (n : ℕ) where
  pub first_none : FirstAfter t p n 0 None
  first_none = record { candidate = candidate_none t p n; below = tt }

  pub first_more : {c : ℕ} {first : Option Candidate} → FirstAfter t p n c first → holds t p c ≡ false → FirstAfter t p n (c + 1) first
  first_more {c} F e = record { candidate = candidate_more t p n c F.candidate e; below = F.below }

  pub first_is : {c : ℕ} (first : Option Candidate) → FirstAfter t p n c first → c ≡ n → unwrap_or (option_map (λ b. b.cell) first) n ≡ first_holder t n p
  first_is None F e = candidate_is t p n F.candidate e
  first_is (Some b) F e = candidate_is t p n F.candidate e

module _ (ps cs : List ℕ) (np n : ℕ) (S : Solid ps cs np n) (c : ℕ) (c< : c < n) {k : List ℕ} (ek : k ≡ four_at cs c) (p : Position) where
  abbrev t : Tables
  t = tables ps cs []

  pub first_earlier : (first : Option Candidate) → FirstAfter t p n c first → holds t p c ≡ true → FirstAfter t p n (c + 1) (Some (earlier_of k c first))
  unfolding earlier_of earlier
  first_earlier (Some b) F e = record {
    candidate = candidate_earlier ps cs np n S c c< ek p F.candidate e;
    below = go (split (ltb (key_of k) b.key));
  }
    where
      go : (ltb (key_of k) b.key ≡ true) ⊎ (ltb (key_of k) b.key ≡ false) → (earlier k c b).cell < n
      go (inl f) = rw f c<
      go (inr f) = rw f F.below
  first_earlier None F e = record { candidate = go (split (ltb (key_of k) above_keys)) (candidate_earlier ps cs np n S c c< ek p F.candidate e); below = c< }
    where
      alone : Candidate
      alone = record { cell = c; key = key_of k }

      go : (ltb (key_of k) above_keys ≡ true) ⊎ (ltb (key_of k) above_keys ≡ false) →
          CandidateAfter t p n (c + 1) (earlier k c record { cell = n; key = above_keys }) → CandidateAfter t p n (c + 1) alone
      go (inl f) l = rw f at l
      go (inr f) l = none (rw f at l)
        where
          none : CandidateAfter t p n (c + 1) record { cell = n; key = above_keys } → CandidateAfter t p n (c + 1) alone
          none (inl (l, q)) = absurd (omega (arith, l.cell<))
          none (inr (l, q)) = let h : holds t p c ≡ false = l c (omega arith) in absurd (cc (e, h))

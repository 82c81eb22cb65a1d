-- What a call on a mesh answers, from its tests.
use Prim.Native.Nat.{ℕ}
use mathlib.Core.Bool.{true, false}
use mathlib.Core.Logic.{◌≢◌, ◌⊎◌, inl, inr}
use mathlib.Core.Path.{◌≡◌, sym, ap, ◌∙◌}
use native.Mathlib.Omega.{arith}
use borrow.Author.Tests.{ne_eqb}
use Rattle.arith.specs.Table.{any_below}
use Rattle.arith.proofs.Flags.{fails}
use Rattle.arith.proofs.Tables.{Found, any_found, any_intro}
use Rattle.geometry.specs.declared.Position.{Position}
use Rattle.geometry.specs.Volume.{in_box}
use Rattle.mesh.specs.declared.Mesh.{Mesh}
use Rattle.mesh.specs.Tables.{Tables}
use Rattle.mesh.specs.Refusal.{mesh_refusal}
use Rattle.locate.specs.Locate.{Cell, Refused}
use Rattle.locate.specs.Locate.{holds, first_holder, locate_refusal, locate_call}
use Rattle.locate.proofs.First.{NoneHolds, IsFirst, first_or_none, none_is, holder_is_first}

module _ (m : Mesh) (t : Tables) (w : ℕ) where
  module _ (q : Position) where
    pub refused : {n : ℕ} → n ≡ mesh_refusal m t w false → n ≢ 0 → Refused n ≡ locate_call m t w q
    unfolding locate_call locate_refusal
    refused {n} e d = rw (← e, ne_eqb n 0 d, ne_eqb n 0 d)

    pub outside : mesh_refusal m t w false ≡ 0 → in_box m.x m.y m.z q ≡ false → Refused 4 ≡ locate_call m t w q
    unfolding locate_call locate_refusal
    outside e b = rw (e, b)

    -- what is found is the used length just where no cell holds q
    pub none_held : first_holder t m.used q ≡ m.used → any_below m.used (holds t q) ≡ false
    none_held e = fails (any_below m.used (holds t q)) (λ h. by (any_found m.used (holds t q) h))
      where
        by : Found m.used (holds t q) → ⊥
        by r = let l = (holder_is_first t q m.used r.at r.below r.passes).cell< in absurd (omega (arith, l, e))

    pub some_held : first_holder t m.used q ≢ m.used → any_below m.used (holds t q) ≡ true
    some_held d = go (first_or_none t q m.used)
      where
        go : ((b : ℕ) × IsFirst t q m.used b) ⊎ NoneHolds t q m.used → any_below m.used (holds t q) ≡ true
        go (inl (b, l)) = any_intro m.used (holds t q) b l.cell< l.holding
        go (inr none) = absurd (d (none_is t q m.used none))

    pub unheld : mesh_refusal m t w false ≡ 0 → in_box m.x m.y m.z q ≡ true → {n : ℕ} → n ≡ first_holder t m.used q → n ≡ m.used →
        Refused 7 ≡ locate_call m t w q
    unfolding locate_call locate_refusal
    unheld e b f h = rw (e, b, none_held (sym f ∙ h))

    pub found : mesh_refusal m t w false ≡ 0 → in_box m.x m.y m.z q ≡ true → {n : ℕ} → n ≡ first_holder t m.used q → n ≢ m.used →
        Cell n ≡ locate_call m t w q
    unfolding locate_call locate_refusal
    found e b f d = rw (e, b, some_held (λ h. d (f ∙ h))) (ap Cell f)

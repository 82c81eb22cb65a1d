-- A part of a table written at once is its entries written one by one.
use Rattle.std.proofs.Common.{◌≡◌, ◌∙◌, ℕ, ◌+◌, ◌-◌, ◌≤◌, List, [], ◌∷◌, length, sym, refl, arith, append_assoc, suc, get_or}
use Rattle.std.proofs.lemmas.List.Edits.{sets, sets-eq, paste_all}
use Rattle.std.proofs.lemmas.Slice.{put_mid-paste}
use borrow.Rule.Slice.PartMut.{put_mid}
use lib.ListN.{set}

written : (xs vs : List ℕ) (at e : ℕ) → e ≡ at + length vs → e ≤ length xs → put_mid at (e - at) xs vs ≡ sets xs at vs
written xs vs at e h l =
    put_mid-paste at (e - at) xs vs vs (length vs) refl (omega arith) refl ∙
    (paste_all xs at vs (length vs) refl ∙ rw append_assoc at (sym (sets-eq vs xs at (omega arith))))

pub three_written : (xs vs : List ℕ) (at x y z : ℕ) → at + 3 ≤ length xs → vs ≡ x ∷ y ∷ z ∷ [] →
    put_mid at (at + 3 - at) xs vs ≡ set (set (set xs at x) (at + 1) y) (at + 2) z
three_written xs vs at x y z h e =
    let one : suc at ≡ at + 1 = omega arith in
    let two : suc (suc at) ≡ at + 2 = omega arith in
    rw e (rw (two, one) at (written xs (x ∷ y ∷ z ∷ []) at (at + 3) refl h))

four_of : (v : List ℕ) → length v ≡ 4 → v ≡ get_or v 0 0 ∷ get_or v 1 0 ∷ get_or v 2 0 ∷ get_or v 3 0 ∷ []
four_of [] h = absurd (omega arith)
four_of (a ∷ []) h = absurd (omega arith)
four_of (a ∷ b ∷ []) h = absurd (omega arith)
four_of (a ∷ b ∷ c ∷ []) h = absurd (omega arith)
four_of (a ∷ b ∷ c ∷ d ∷ []) h = refl
four_of (a ∷ b ∷ c ∷ d ∷ e ∷ v) h = absurd (omega arith)

pub four_written : (xs vs v : List ℕ) (at : ℕ) → at + 4 ≤ length xs → vs ≡ v → length v ≡ 4 →
    put_mid at (at + 4 - at) xs vs ≡ set (set (set (set xs at (get_or v 0 0)) (at + 1) (get_or v 1 0)) (at + 2) (get_or v 2 0)) (at + 3) (get_or v 3 0)
four_written xs vs v at h e k =
    let one : suc at ≡ at + 1 = omega arith in
    let two : suc (suc at) ≡ at + 2 = omega arith in
    let three : suc (suc (suc at)) ≡ at + 3 = omega arith in
    rw (e, four_of v k) (rw (three, two, one) at (written xs (get_or v 0 0 ∷ get_or v 1 0 ∷ get_or v 2 0 ∷ get_or v 3 0 ∷ []) at (at + 4) refl h))

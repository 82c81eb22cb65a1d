use Rattle.std.proofs.Common.{◌≡◌, ◌&&◌, ℕ, Bool, ap, sym, ◌∙◌, pos, arith}
use Rattle.segment.proofs.Volumes.{itself≤, face_above}
use lib.Signed.{le_z}
use Rattle.locate.specs.Inner.{volume_at}
use Rattle.segment.specs.Call.{in_order}
use Rattle.segment.proofs.Volumes.{itself}
use Rattle.segment_test.proofs.Tests.{face_tests, both, stopped}
use Rattle.segment_test.proofs.face_meets.Goals as goal
use Rattle.segment_test.proofs.face_meets.Goals.{then-q-ge0, else-q-ge0, then-in_order, else-in_order, then-in_order-2, else-in_order-2}

pub in_order-requires-then-in_order-2 : goal.in_order-requires-then-in_order-2
in_order-requires-then-in_order-2 c = let a = c.args in let h = c.requires in (itself≤ a.p h.0, itself≤ a.q h.1, h.2 1 (omega arith), h.3 1 (omega arith))

pub in_order-requires-then-in_order-3 : goal.in_order-requires-then-in_order-3
in_order-requires-then-in_order-3 c = let a = c.args in let h = c.requires in (itself≤ a.p h.0, itself≤ a.q h.1, h.2 0 (omega arith), h.3 0 (omega arith))

pub returns-then-p-ge0 : goal.returns-then-p-ge0
returns-then-p-ge0 c = let a = c.args in let h = c.requires in c.if-p-ge0.true ∙ face_above a.p a.q h.0 h.1 a.a a.b c.if-p-ge0.true

pub returns-then-in_order-3 : goal.returns-then-in_order-3
returns-then-in_order-3 c =
    let a = c.args in
    let p = itself a.p c.requires.0 in
    let q = itself a.q c.requires.1 in
    let f : ℕ → Bool = λ l. in_order a.p a.q (volume_at a.a l) (volume_at a.b l) in
    let x = le_z (pos 0) a.q in
    let one : c.if-q-ge0.value ≡ (x && f 3) = elim c.if-q-ge0.branch [
      | then-q-ge0 w ↦ w.value-is ∙ both w.if-q-ge0.true (ap (le_z (pos 0)) q) (w.in_order.ensures ∙ (λ i. in_order (p i) (q i) (volume_at a.a 3) (volume_at a.b 3)))
      | else-q-ge0 w ↦ w.value-is ∙ stopped (f 3) w.if-q-ge0.false (ap (le_z (pos 0)) q)
    ] in
    let two : c.if-in_order.value ≡ ((x && f 3) && f 2) = elim c.if-in_order.branch [
      | then-in_order w ↦ w.value-is ∙ both w.if-in_order.true one (w.in_order-then-in_order.ensures ∙ (λ i. in_order (p i) (q i) (volume_at a.a 2) (volume_at a.b 2)))
      | else-in_order w ↦ w.value-is ∙ stopped (f 2) w.if-in_order.false one
    ] in
    let three : c.if-in_order-2.value ≡ (((x && f 3) && f 2) && f 1) = elim c.if-in_order-2.branch [
      | then-in_order-2 w ↦ w.value-is ∙ both w.if-in_order-2.true two (w.in_order-then-in_order-2.ensures ∙ (λ i. in_order (p i) (q i) (volume_at a.a 1) (volume_at a.b 1)))
      | else-in_order-2 w ↦ w.value-is ∙ stopped (f 1) w.if-in_order-2.false two
    ] in
    both c.if-in_order-3.true three (c.in_order-then-in_order-3.ensures ∙ (λ i. in_order (p i) (q i) (volume_at a.a 0) (volume_at a.b 0))) ∙ sym (face_tests a.p a.q f (ap (le_z (pos 0)) (sym p) ∙ c.if-p-ge0.false))

pub returns-else-in_order-3 : goal.returns-else-in_order-3
returns-else-in_order-3 c =
    let a = c.args in
    let p = itself a.p c.requires.0 in
    let q = itself a.q c.requires.1 in
    let f : ℕ → Bool = λ l. in_order a.p a.q (volume_at a.a l) (volume_at a.b l) in
    let x = le_z (pos 0) a.q in
    let one : c.if-q-ge0.value ≡ (x && f 3) = elim c.if-q-ge0.branch [
      | then-q-ge0 w ↦ w.value-is ∙ both w.if-q-ge0.true (ap (le_z (pos 0)) q) (w.in_order.ensures ∙ (λ i. in_order (p i) (q i) (volume_at a.a 3) (volume_at a.b 3)))
      | else-q-ge0 w ↦ w.value-is ∙ stopped (f 3) w.if-q-ge0.false (ap (le_z (pos 0)) q)
    ] in
    let two : c.if-in_order.value ≡ ((x && f 3) && f 2) = elim c.if-in_order.branch [
      | then-in_order w ↦ w.value-is ∙ both w.if-in_order.true one (w.in_order-then-in_order.ensures ∙ (λ i. in_order (p i) (q i) (volume_at a.a 2) (volume_at a.b 2)))
      | else-in_order w ↦ w.value-is ∙ stopped (f 2) w.if-in_order.false one
    ] in
    let three : c.if-in_order-2.value ≡ (((x && f 3) && f 2) && f 1) = elim c.if-in_order-2.branch [
      | then-in_order-2 w ↦ w.value-is ∙ both w.if-in_order-2.true two (w.in_order-then-in_order-2.ensures ∙ (λ i. in_order (p i) (q i) (volume_at a.a 1) (volume_at a.b 1)))
      | else-in_order-2 w ↦ w.value-is ∙ stopped (f 1) w.if-in_order-2.false two
    ] in
    stopped (f 0) c.if-in_order-3.false three ∙ sym (face_tests a.p a.q f (ap (le_z (pos 0)) (sym p) ∙ c.if-p-ge0.false))

use Rattle.std.proofs.Common.{◌≡◌, ◌&&◌, sym, ◌∙◌, arith}
use Rattle.segment_test.proofs.Tests.{face_at, volumes_tests, both, stopped}
use Rattle.segment_test.proofs.volumes_meet.Goals as goal
use Rattle.segment_test.proofs.volumes_meet.Goals.{then-face_meets, else-face_meets, then-face_meets-2, else-face_meets-2}

pub face_meets-requires-then-face_meets : goal.face_meets-requires-then-face_meets
face_meets-requires-then-face_meets c = let h = c.requires in (h.0 2 (omega arith), h.1 2 (omega arith), h.0, h.1)

pub face_meets-requires-then-face_meets-2 : goal.face_meets-requires-then-face_meets-2
face_meets-requires-then-face_meets-2 c = let h = c.requires in (h.0 1 (omega arith), h.1 1 (omega arith), h.0, h.1)

pub face_meets-requires-then-face_meets-3 : goal.face_meets-requires-then-face_meets-3
face_meets-requires-then-face_meets-3 c = let h = c.requires in (h.0 0 (omega arith), h.1 0 (omega arith), h.0, h.1)

pub returns-then-face_meets-3 : goal.returns-then-face_meets-3
returns-then-face_meets-3 c =
    let f = face_at c.args.a c.args.b in
    let two : c.if-face_meets.value ≡ (f 3 && f 2) = elim c.if-face_meets.branch [
      | then-face_meets w ↦ w.value-is ∙ both w.if-face_meets.true c.face_meets.ensures w.face_meets-then-face_meets.ensures
      | else-face_meets w ↦ w.value-is ∙ stopped (f 2) w.if-face_meets.false c.face_meets.ensures
    ] in
    let three : c.if-face_meets-2.value ≡ ((f 3 && f 2) && f 1) = elim c.if-face_meets-2.branch [
      | then-face_meets-2 w ↦ w.value-is ∙ both w.if-face_meets-2.true two w.face_meets-then-face_meets-2.ensures
      | else-face_meets-2 w ↦ w.value-is ∙ stopped (f 1) w.if-face_meets-2.false two
    ] in
    both c.if-face_meets-3.true three c.face_meets-then-face_meets-3.ensures ∙ sym (volumes_tests c.args.a c.args.b)

pub returns-else-face_meets-3 : goal.returns-else-face_meets-3
returns-else-face_meets-3 c =
    let f = face_at c.args.a c.args.b in
    let two : c.if-face_meets.value ≡ (f 3 && f 2) = elim c.if-face_meets.branch [
      | then-face_meets w ↦ w.value-is ∙ both w.if-face_meets.true c.face_meets.ensures w.face_meets-then-face_meets.ensures
      | else-face_meets w ↦ w.value-is ∙ stopped (f 2) w.if-face_meets.false c.face_meets.ensures
    ] in
    let three : c.if-face_meets-2.value ≡ ((f 3 && f 2) && f 1) = elim c.if-face_meets-2.branch [
      | then-face_meets-2 w ↦ w.value-is ∙ both w.if-face_meets-2.true two w.face_meets-then-face_meets-2.ensures
      | else-face_meets-2 w ↦ w.value-is ∙ stopped (f 1) w.if-face_meets-2.false two
    ] in
    stopped (f 0) c.if-face_meets-3.false three ∙ sym (volumes_tests c.args.a c.args.b)

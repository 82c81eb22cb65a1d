use Rattle.std.proofs.Common.{◌≡◌, ◌∙◌, false, refl, sym, arith}
use Rattle.refusal.specs.Refusal.{refusal_number}
use Rattle.refusal.proofs.Numbers.{number-positive, handed-on}
use Rattle.corrections.proofs.Keeping.{numbers_lent}
use Rattle.corrections.proofs.Leaving.{mesh_at, long_at}
use Rattle.corrections.proofs.Reading.{set_refused, set_no_point, set_handed, set_wrong, set_answer, set_table_lem}
use Rattle.corrections_call.proofs.set_correction.Goals.{then-not-is_correction-via-then-not-is_correction, then-not-is_correction-via-else-not-is_correction+then-out_of_range}
use Rattle.corrections_call.proofs.set_correction.Goals as goal

pub returns-in_err-test_tables : goal.returns-in_err-test_tables
returns-in_err-test_tables c =
    let e = c.in_err-test_tables.field-0.0 in
    let s = set_refused _ _ _ c.args.work.now c.clear.ensures c.args.point c.args.d c.in_err-test_tables.ensures (λ (z : refusal_number e ≡ 0). omega (arith, number-positive e, z)) in
    rw (handed-on _ c.from_residual.ensures.1) (s.answer, s.table, c.clear.ensures)

pub returns-then-mesh-point : goal.returns-then-mesh-point
returns-then-mesh-point c =
    let s = set_no_point _ _ _ c.args.work.now c.clear.ensures c.args.point c.args.d c.in_ok-test_tables.ensures refl c.if-mesh-point.true in
    (s.answer, s.table, c.clear.ensures)

pub out_of_range-requires : goal.out_of_range-requires
out_of_range-requires c =
    let e = c.in_ok-test_tables.ensures in
    numbers_lent _ _ _ (mesh_at _ _ _ _ false e refl) (long_at _ _ _ _ false e refl)

pub returns-then-not-is_correction : goal.returns-then-not-is_correction
returns-then-not-is_correction c =
    elim c.then-not-is_correction.branch [
      | then-not-is_correction-via-then-not-is_correction w ↦
          let s = set_handed _ _ _ c.args.work.now c.clear.ensures c.args.point c.args.d c.in_ok-test_tables.ensures refl c.if-mesh-point.false (sym c.is_correction.ensures ∙ w.if-not-is_correction.true) in
          (s.answer, s.table, c.clear.ensures)
      | then-not-is_correction-via-else-not-is_correction+then-out_of_range w ↦
          let s =
          set_wrong _ _ _ c.args.work.now c.clear.ensures c.args.point c.args.d c.in_ok-test_tables.ensures refl c.if-mesh-point.false (sym c.is_correction.ensures ∙ w.if-not-is_correction.false)
          (sym w.out_of_range.ensures ∙ w.if-out_of_range.true) in
          (s.answer, s.table, c.clear.ensures)
    ]

pub put_correction-requires : goal.put_correction-requires
put_correction-requires c =
    let e = c.in_ok-test_tables.ensures in
    omega (arith, numbers_lent _ _ _ (mesh_at _ _ _ _ false e refl) (long_at _ _ _ _ false e refl), c.if-mesh-point.false)

pub returns : goal.returns
returns c =
    let e = c.in_ok-test_tables.ensures in
    let h = c.if-mesh-point.false in
    let f = sym c.is_correction.ensures ∙ c.if-not-is_correction.false in
    let o = sym c.out_of_range.ensures ∙ c.if-out_of_range.false in (
      set_answer _ _ _ c.args.work.now c.clear.ensures c.args.point c.args.d e refl h f o,
      c.put_correction.ensures ∙ set_table_lem _ _ _ c.args.work.now c.clear.ensures c.args.point c.args.d e refl h f o,
      c.clear.ensures,
    )

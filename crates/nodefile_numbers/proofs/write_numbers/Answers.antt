use Rattle.std.proofs.Common.{◌≡◌, ◌*◌, ◌+◌, ◌-◌, ap, ◌∙◌, arith}
use borrow.Rule.Slice.PartMut.{put_mid}
use Rattle.mesh.proofs.Loops.{copy_all}
use Rattle.nodefile.proofs.Digits.{bytes_length}
use Rattle.nodefile_numbers.proofs.Fours.{bytes_more}
use Rattle.nodefile_numbers.proofs.write_numbers.Goals as goal

pub loop-k-preserved : goal.loop-k-preserved
loop-k-preserved c =
    let k = c.loop-k.k in
    let w : 4 * k + 4 - 4 * k ≡ 4 = omega arith in
    ap (λ bs. put_mid (4 * k) (4 * k + 4 - 4 * k) bs c.copy_from_slice.new.self) c.loop-k.invariant ∙
    bytes_more c.args.numbers.now c.args.bytes.now k _ _ c.loop-k-test.true c.requires w (c.copy_from_slice.ensures.after ∙ c.to_le_bytes.ensures)

pub returns : goal.returns
returns c =
    let n = bytes_length c.args.numbers.now in
    copy_all (4 * c.loop-k.k) _ _ _ c.loop-k.invariant (omega arith) (omega arith)

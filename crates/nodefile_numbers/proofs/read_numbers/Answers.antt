use Rattle.std.proofs.Common.{◌/◌, length, slice_set, sym, ◌∙◌, arith}
use Rattle.mesh.proofs.Loops.{copy_more, copy_all}
use Rattle.nodefile.specs.Bytes.{numbers_of}
use Rattle.nodefile.proofs.Digits.{numbers_length, numbers_at}
use Rattle.nodefile_numbers.proofs.Fours.{number_in}
use Rattle.nodefile_numbers.proofs.read_numbers.Goals as goal

pub loop-k-preserved : goal.loop-k-preserved
loop-k-preserved c =
    let l = c.loop-k in
    let bytes = c.args.bytes.now in
    let n = numbers_length bytes in
    let v = number_in bytes (length bytes / 4) l.k _ c.as_chunks.ensures.front (omega arith) _ c.from_le_bytes.ensures in
    let e = v ∙ sym (numbers_at bytes l.k (omega arith)) in
    (λ j. slice_set (l.invariant j) l.k (e j)) ∙ copy_more l.k (numbers_of bytes) c.args.numbers.now (omega arith) (omega arith)

pub returns : goal.returns
returns c =
    let n = numbers_length c.args.bytes.now in
    copy_all c.loop-k.k _ _ _ c.loop-k.invariant (omega arith) (omega arith)

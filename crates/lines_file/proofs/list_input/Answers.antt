use Rattle.std.proofs.Common.{ℕ, refl}
use Rattle.std.proofs.lemmas.List.{length-replicate}
use Rattle.lines.specs.Listing.{room}
use Rattle.lines.proofs.Putting.{reads_as}
use Rattle.lines.proofs.Answering.{over_limit, within_limit}
use Rattle.lines_file.proofs.list_input.Goals as goal

pub returns-then-file-gt65536 : goal.returns-then-file-gt65536
returns-then-file-gt65536 c = reads_as c.write_refused.ensures (over_limit _ c.if-file-gt65536.true)

pub returns : goal.returns
unfolding room
returns c =
    reads_as c.list_file.ensures
    (within_limit _ c.if-file-gt65536.false refl (length-replicate {A = ℕ} 3048 0) (length-replicate {A = ℕ} 12288 0))

use Rattle.std.proofs.Common.{◌+◌, ◌-◌, length, refl, arith}
use Rattle.std.proofs.lemmas.Slice.{put_mid-paste}
use Rattle.lines.proofs.Putting.{wrote_copy}
use Rattle.lines_text.proofs.write_bytes.Goals as goal

pub returns : goal.returns
returns c =
    let bytes = c.args.bytes.now in
    let at = c.args.at in
    let out = c.args.out.now in
    wrote_copy out bytes at c.requires (put_mid-paste at (at + length bytes - at) out _ bytes (length bytes) c.copy_from_slice.ensures.after (omega arith) refl)

use Rattle.std.proofs.Common.{arith}
use Rattle.lines.proofs.Answering.{listing_fits, listing_length, too_short, long_enough}
use Rattle.lines_listing.proofs.copy_listing.Goals as goal

pub returns-then-out-length : goal.returns-then-out-length
returns-then-out-length c = too_short _ c.list_input-length.ensures _ c.if-out-length.true

pub overflow_cast-result : goal.overflow_cast-result
overflow_cast-result c = omega (arith, listing_length _ c.list_input-length.ensures, listing_fits c.args.file.now)

pub returns : goal.returns
returns c = long_enough _ c.list_input-length.ensures _ c.if-out-length.false c.write_bytes.ensures

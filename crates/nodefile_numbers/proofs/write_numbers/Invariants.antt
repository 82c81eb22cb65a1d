-- After k turns the slice is the bytes of the first k numbers and then what it held.
use Rattle.std.proofs.Common.{◌≡◌, ◌*◌, ◌++◌, take, drop}
use Rattle.nodefile.specs.Bytes.{bytes_of}
use Rattle.nodefile_numbers.proofs.write_numbers.Given as goal

abbrev pub invariant-loop-k : goal.invariant-loop-k
invariant-loop-k l = l.bytes ≡ take (4 * l.k) (bytes_of l.numbers) ++ drop (4 * l.k) l.fn.bytes

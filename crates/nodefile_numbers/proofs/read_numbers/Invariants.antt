-- After k turns the slice is the first k numbers and then what it held.
use Rattle.std.proofs.Common.{◌≡◌, ◌++◌, take, drop}
use Rattle.nodefile.specs.Bytes.{numbers_of}
use Rattle.nodefile_numbers.proofs.read_numbers.Given as goal

abbrev pub invariant-loop-k : goal.invariant-loop-k
invariant-loop-k l = l.numbers ≡ take l.k (numbers_of l.bytes) ++ drop l.k l.fn.numbers

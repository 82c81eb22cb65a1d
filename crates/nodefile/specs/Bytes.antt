-- 'all numbers unsigned 32-bit, low byte first'
use Rattle.std.specs.Prelude.{ℕ, ◌+◌, ◌*◌, ◌/◌, ◌%◌, ◌^◌, List, length, get_or}
use Rattle.arith.specs.Table.{tabulate}

-- number k of some bytes
unfoldable pub number_at : List ℕ → ℕ → ℕ
number_at bytes k =
    get_or bytes (4 * k) 0 + 256 * get_or bytes (4 * k + 1) 0 + 65536 * get_or bytes (4 * k + 2) 0 + 16777216 * get_or bytes (4 * k + 3) 0

-- the numbers of some bytes, four bytes each
unfoldable pub numbers_of : List ℕ → List ℕ
numbers_of bytes = tabulate (length bytes / 4) (number_at bytes)

-- byte i of some numbers
unfoldable pub byte_at : List ℕ → ℕ → ℕ
byte_at numbers i = get_or numbers (i / 4) 0 / 256 ^ (i % 4) % 256

-- the bytes of some numbers
unfoldable pub bytes_of : List ℕ → List ℕ
bytes_of numbers = tabulate (4 * length numbers) (byte_at numbers)

-- Bytes that may be handed in: marks, answers.
use Rattle.std.specs.Prelude.{ℕ, List, [], Option, None, Some}
use Rattle.std.specs.Borrow.{Bor}

-- the bytes, none where none are handed in
abbrev pub given : Option (Bor (List ℕ)) → List ℕ
given None = []
given (Some bytes) = bytes.now

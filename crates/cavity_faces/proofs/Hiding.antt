-- Points marked as exposed no longer, one by one.
use Rattle.std.proofs.Common.{ℕ, zero, suc, List, get_or, set}

-- the marks after the first i points of k
unfoldable pub without_first : ℕ → List ℕ → List ℕ → List ℕ
without_first zero exposed k = exposed
without_first (suc i) exposed k = set (without_first i exposed k) (get_or k i 0) 0

-- What the functions that write text leave.
use Rattle.std.specs.Prelude.{ℕ, ◌+◌, ◌≤◌, List, ◌++◌, ◌≡◌, length, take, drop}
use Rattle.mesh.specs.declared.Mesh.{Mesh}
use Rattle.mesh.specs.Start.{Accepted}
use Rattle.mesh.specs.Tables.{Tables}
use Rattle.mesh.specs.Start.{StartLeaves}
use Rattle.insertion.specs.Listed.{Listed}
use Rattle.insertion.specs.Listed.{Ended, Stopped, Refused}

-- out with the text s from place at on
unfoldable pub put : List ℕ → ℕ → List ℕ → List ℕ
put out at s = take at out ++ (s ++ drop (at + length s) out)

-- s was written from place at on, within out, and `next` is the place after it
pub record Wrote (s out : List ℕ) (at next : ℕ) (out' : List ℕ) : Type 0 where
  pub within : at + length s ≤ length out
  pub output : out' ≡ put out at s
  pub next_is : next ≡ at + length s

-- the record and tables are those that an accepted start left
pub record FromStart (m : Mesh) (t : Tables) : Type 0 where
  pub X : ℕ
  pub Y : ℕ
  pub Z : ℕ
  pub before : Tables
  pub work : List ℕ
  pub work' : List ℕ
  pub start : StartLeaves X Y Z before work (Accepted m) t work'

-- the entries in use that the text of a list's answer goes over
unfoldable pub entries_listed : Listed → ℕ
entries_listed (Ended m k) = m.used
entries_listed (Stopped m place e) = m.used
entries_listed (Refused e) = 0

-- as many bytes as a listing can take: 100 a line
abbrev pub longest : ℕ
longest = 409600

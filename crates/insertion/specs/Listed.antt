-- What the insertion of a list of nodes answers.
use Rattle.std.specs.Prelude.{ℕ, Option, None, Some, Result, Ok, Err}
use Rattle.refusal.specs.declared.Refusal.{Refusal}
use Rattle.refusal.specs.Refusal.{refusal_number}
use Rattle.mesh.specs.declared.Mesh.{Mesh}
use Rattle.insertion.specs.declared.Insertions.{Insertions}

-- the record and how many nodes went in; the record as the last accepted node left it, the place of the refused node and its number; or
-- the number that refuses the whole list
pub data Listed : Type 0 where
  Ended : Mesh → ℕ → Listed
  Stopped : Mesh → ℕ → ℕ → Listed
  Refused : ℕ → Listed

-- how a list ended, with this number of what stopped it
abbrev pub ended_by : {R : Type 0} → (R → ℕ) → Mesh → ℕ → Option R → Listed
ended_by number m n None = Ended m n
ended_by number m n (Some e) = Stopped m n (number e)

abbrev pub as_listed : Result (Insertions Refusal) Refusal → Listed
as_listed (Ok l) = ended_by refusal_number l.mesh l.accepted l.stopped
as_listed (Err e) = Refused (refusal_number e)

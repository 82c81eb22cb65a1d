-- What a look answers.
use Rattle.std.specs.Prelude.{ℕ, Result, Ok, Err}
use Rattle.refusal.specs.declared.Refusal.{Refusal}
use Rattle.refusal.specs.Refusal.{refusal_number}
use Rattle.insertion.specs.declared.Report.{Report}

-- the report of the insertion that was looked at, or the refusal's number
pub data Looked : Type 0 where
  Reported : Report → Looked
  Refused : ℕ → Looked

abbrev pub as_looked : Result Report Refusal → Looked
as_looked (Ok r) = Reported r
as_looked (Err e) = Refused (refusal_number e)

-- What the insertion of a node answers.
use Rattle.std.specs.Prelude.{ℕ, Result, Ok, Err}
use Rattle.refusal.specs.declared.Refusal.{Refusal}
use Rattle.refusal.specs.Refusal.{refusal_number}
use Rattle.mesh.specs.declared.Mesh.{Mesh}
use Rattle.insertion.specs.declared.Report.{Report}
use Rattle.insertion.specs.declared.Insertion.{Insertion}

-- the record with the node and the report, or the refusal's number
pub data Inserted : Type 0 where
  Accepted : Mesh → Report → Inserted
  Refused : ℕ → Inserted

abbrev pub as_inserted : Result Insertion Refusal → Inserted
as_inserted (Ok i) = Accepted i.mesh i.report
as_inserted (Err e) = Refused (refusal_number e)

-- The numbers of the C interface (include/gantry.h): what C is given for each case of an answer. The refusal is 0 where the call was
-- accepted, and a field that a refusal leaves without meaning is 0.
use Rattle.std.specs.Prelude.{ℕ, pos, Result, Ok, Err}
use Rattle.insphere.specs.declared.Sphere.{Sphere}
use Rattle.insphere.specs.declared.Sphere.TheVariants.{Inside, Outside}
use Rattle.insphere.specs.Sphere.{Tested}
use Rattle.insphere.specs.Sphere.{Answered, Refused as TestRefused}
use Rattle.insphere.specs.Sphere.{zero_float}
use Rattle.mesh.specs.declared.Mesh.{Mesh}
use Rattle.mesh.specs.Start.{Started}
use Rattle.mesh.specs.Start.{Accepted as StartAccepted, Refused as StartRefused}
use Rattle.locate.specs.Locate.{Located}
use Rattle.locate.specs.Locate.{Cell, Refused as LocateRefused}
use Rattle.insertion.specs.Inserted.{Inserted}
use Rattle.insertion.specs.Inserted.{Accepted, Refused}
use Rattle.insertion.specs.Looked.{Looked}
use Rattle.insertion.specs.Looked.{Reported, Refused as LookRefused}
use Rattle.insertion.specs.Listed.{Listed}
use Rattle.insertion.specs.Listed.{Ended, Stopped, Refused as ListRefused}
use Rattle.corrections.specs.Corrections.{Corrected}
use Rattle.corrections.specs.Corrections.{By, Refused as NotCorrected}
use Rattle.segment.specs.Call.{Counted}
use Rattle.segment.specs.Call.{Count, Refused as NotCounted}
use Rattle.nodefile.specs.Read.{Read}
use Rattle.nodefile.specs.Read.{Nodes, Refused as ReadRefused}
use Rattle.nodefile.specs.Write.{Written}
use Rattle.nodefile.specs.Write.{Bytes, Refused as WriteRefused}
use Rattle.gantry_numbers.specs.declared.GantryStarted.{GantryStarted}
use Rattle.gantry_numbers.specs.declared.GantryInserted.{GantryInserted}
use Rattle.gantry_numbers.specs.declared.GantryLooked.{GantryLooked}
use Rattle.gantry_numbers.specs.declared.GantryListed.{GantryListed}
use Rattle.gantry_numbers.specs.declared.GantryLocated.{GantryLocated}
use Rattle.gantry_numbers.specs.declared.GantryCounted.{GantryCounted}
use Rattle.gantry_numbers.specs.declared.GantryCorrected.{GantryCorrected}
use Rattle.gantry_numbers.specs.declared.GantrySphere.{GantrySphere}
use Rattle.gantry_numbers.specs.declared.GantryRead.{GantryRead}
use Rattle.gantry_numbers.specs.declared.GantryWritten.{GantryWritten}

-- a result as an answer of the papers: made of its value, or of its refusal's number
abbrev pub as_answer : {Value R Answer : Type 0} → (Value → Answer) → (ℕ → Answer) → (R → ℕ) → Result Value R → Answer
as_answer accepted refused number (Ok x) = accepted x
as_answer accepted refused number (Err e) = refused (number e)

-- of a refused start, since no record goes in
abbrev pub no_mesh : Mesh
no_mesh = record { x = 0; y = 0; z = 0; points = 0; cells = 0; chain = 0; used = 0 }

unfoldable pub started_of : Started → GantryStarted
started_of (StartAccepted m) = record { refusal = 0; mesh = m }
started_of (StartRefused e) = record { refusal = e; mesh = no_mesh }

-- of a call that was handed the record m, which a refusal leaves as it was
unfoldable pub inserted_of : Mesh → Inserted → GantryInserted
inserted_of m (Accepted m' r) =
    record {
      refusal = 0;
      mesh = m';
      point = r.point;
      before = r.before;
      after = r.after;
      made = r.made;
      least = r.least;
    }
inserted_of m (Refused e) =
    record { refusal = e; mesh = m; point = 0; before = 0; after = 0; made = 0; least = zero_float }

unfoldable pub looked_of : Looked → GantryLooked
looked_of (Reported r) =
    record { refusal = 0; point = r.point; before = r.before; after = r.after; made = r.made; least = r.least }
looked_of (LookRefused e) = record { refusal = e; point = 0; before = 0; after = 0; made = 0; least = zero_float }

-- the place is that of the refused node, or how many went in; a stopped list has the record that its last accepted node left
unfoldable pub listed_of : Mesh → Listed → GantryListed
listed_of m (Ended m' count) = record { refusal = 0; mesh = m'; place = count }
listed_of m (Stopped m' place e) = record { refusal = e; mesh = m'; place = place }
listed_of m (ListRefused e) = record { refusal = e; mesh = m; place = 0 }

unfoldable pub located_of : Located → GantryLocated
located_of (Cell c) = record { refusal = 0; cell = c }
located_of (LocateRefused e) = record { refusal = e; cell = 0 }

unfoldable pub counted_of : Counted → GantryCounted
counted_of (Count n) = record { refusal = 0; count = n }
counted_of (NotCounted e) = record { refusal = e; count = 0 }

unfoldable pub corrected_of : Corrected → GantryCorrected
corrected_of (By d) = record { refusal = 0; x = d.x; y = d.y; z = d.z }
corrected_of (NotCorrected e) = record { refusal = e; x = pos 0; y = pos 0; z = pos 0 }

-- 1 inside, 2 outside; document 02 §2 retired 3, close
unfoldable pub sphere_of : Sphere → GantrySphere
sphere_of (Inside t) = record { refusal = 0; answer = 1; t = t }
sphere_of (Outside t) = record { refusal = 0; answer = 2; t = t }

unfoldable pub tested_of : Tested → GantrySphere
tested_of (Answered s) = sphere_of s
tested_of (TestRefused e) = record { refusal = e; answer = 0; t = zero_float }

unfoldable pub read_of : Read → GantryRead
read_of (Nodes h) = record { refusal = 0; x = h.x; y = h.y; z = h.z; count = h.count }
read_of (ReadRefused e) = record { refusal = e; x = 0; y = 0; z = 0; count = 0 }

unfoldable pub written_of : Written → GantryWritten
written_of (Bytes count) = record { refusal = 0; bytes = count }
written_of (WriteRefused e) = record { refusal = e; bytes = 0 }

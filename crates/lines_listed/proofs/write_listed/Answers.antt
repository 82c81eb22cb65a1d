use Rattle.std.proofs.Common.{ℕ, ◌≤◌, List, [], length, Option, None, Some, refl}
use Rattle.refusal.specs.declared.Refusal.{Refusal}
use Rattle.refusal.specs.Refusal.{refusal_number}
use Rattle.mesh.specs.declared.Mesh.{Mesh}
use Rattle.mesh.specs.Tables.{tables}
use Rattle.mesh.specs.Inner.{Celled}
use Rattle.insertion.specs.Listed.{Ended, Stopped, ended_by}
use Rattle.lines.specs.Listing.{mesh_text, list_text}
use Rattle.lines.specs.Inner.{entries_listed, longest}
use Rattle.lines.proofs.Putting.{then}
use Rattle.lines.proofs.Answering.{ended_printable, stopped_printable, stopped_room}
use Rattle.lines_listed.proofs.write_listed.Goals as goal

printable : (m : Mesh) (n : ℕ) (s : Option Refusal) {cs bs : List ℕ} {room : ℕ} → Celled cs (entries_listed (ended_by refusal_number m n s)) →
    Celled bs (entries_listed (ended_by refusal_number m n s)) → longest ≤ room → Celled cs m.used × Celled bs m.used × (length (mesh_text m (tables [] cs bs)) ≤ room)
printable m n None C D h = ended_printable (Ended m n) C D refl h
printable m n (Some e) C D h = stopped_printable (Stopped m n (refusal_number e)) C D refl h

pub write_mesh-end-requires : goal.write_mesh-end-requires
write_mesh-end-requires c =
    let l = c.in-Ok.list in
    let r = rw c.in-Ok.is at c.requires in
    printable l.mesh l.accepted l.stopped r.0 r.1 r.2

pub write_stopped-requires : goal.write_stopped-requires
write_stopped-requires c =
    let l = c.in-Ok.list in
    let r = rw (c.in-Ok.is, c.in-Some.is) at c.requires in
    stopped_room (Stopped l.mesh l.accepted (refusal_number c.in-Some.refusal)) r.0 r.1 refl r.2 c.write_mesh-end.ensures

pub returns-in-None : goal.returns-in-None
unfolding list_text
returns-in-None c = rw (c.in-Ok.is, c.in-None.is) c.write_mesh-end.ensures

pub returns-in-Some : goal.returns-in-Some
unfolding list_text
returns-in-Some c = rw (c.in-Ok.is, c.in-Some.is) (then c.write_mesh-end.ensures c.write_stopped.ensures)

pub returns-in-Err : goal.returns-in-Err
unfolding list_text
returns-in-Err c = rw c.in-Err.is c.write_refused.ensures

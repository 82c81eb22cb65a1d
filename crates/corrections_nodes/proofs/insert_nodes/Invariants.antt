use Rattle.std.proofs.Common.{◌≡◌, length}
use Rattle.mesh.specs.Tables.{tables}
use Rattle.insertion.specs.Inner.{Scratch}
use Rattle.corrections.proofs.Listing.{Inserting}
use Rattle.corrections_nodes.proofs.insert_nodes.Given as goal

-- i nodes are in, and the work arrays serve the next
abbrev pub invariant-loop-i : goal.invariant-loop-i
invariant-loop-i l = record {
  inserting : Inserting l.fn.mesh (tables l.fn.points l.fn.corners l.fn.neighbours) l.fn.corrections l.work l.nodes l.now (tables l.points l.corners l.neighbours) l.corrections l.i;
  scratch : Scratch l.now.points l.state l.list l.faces l.denied l.exposed l.ranks;
  slots_long : length l.slots ≡ 4096;
}

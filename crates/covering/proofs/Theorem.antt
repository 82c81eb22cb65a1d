-- Document 02 §9, of a mesh, of tables that pass the mesh check, and after every list of calls.
use Prim.Native.Nat.{ℕ, ◌+◌, ◌*◌, ◌<◌}
use mathlib.Core.Bool.{true}
use mathlib.Core.List.{List}
use mathlib.Core.Path.{◌≡◌, sym, ◌∙◌}
use native.Mathlib.Omega.{arith}
use Rattle.geometry.specs.declared.Position.{Position}
use Rattle.geometry.specs.Volume.{InBox}
use Rattle.mesh.specs.declared.Mesh.{Mesh}
use Rattle.mesh.specs.Tables.{Tables, IsCell}
use Rattle.mesh.specs.Mesh.{IsMesh}
use Rattle.mesh.specs.Check.{points_ok, cell_ok, mated_ok, face_ok, mesh_check, entries_ok, is_mesh}
use Rattle.mesh.specs.Start.{start_refusal}
use Rattle.mesh.proofs.Room.{Room, room_of}
use Rattle.mesh.proofs.Valid.{valid_of}
use Rattle.locate.specs.Locate.{holds}
use Rattle.calls.specs.Calls.{Build, Call, start_build, mesh_after}
use Rattle.calls.proofs.Calls.{every_list_of_calls}
use Rattle.covering.specs.Place.{Place, whole, InBoxAt, holds_at}
use Rattle.covering.specs.Clauses.{cell_ok_but, mated_ok_but, face_ok_but, mesh_check_but, entries_ok_but, is_mesh_but}
use Rattle.covering.specs.Claim.{Covering, Covers, Passes}
use Rattle.covering.proofs.Linear.{HoldsForm}
use Rattle.covering.proofs.Cover.{held}
use Rattle.covering.proofs.Once.{once}
use Rattle.covering.proofs.Parts.{holds_whole, whole_in_box, holds_form, insider_at, inside_form, inside_w}

-- NOWHERE UNCOVERED, NOWHERE TWICE
pub covering : {X Y Z pc cc np n : ℕ} {t : Tables} → IsMesh X Y Z pc cc np n t → Room pc cc t → Covering X Y Z n t
covering {X} {Y} {Z} {n = n} {t = t} M R = record {
  nowhere_uncovered = λ q box. found q box (held M R q box);
  nowhere_twice = λ q c d lc ld ic id.
      let w≥ = inside_w t q c ic in
      once M R q c d (insider_at t q lc ic) (insider_at t q ld id) ((inside_form t q w≥ c).0 ic) ((inside_form t q w≥ d).0 id);
}
  where
    found : (q : Place) → InBoxAt X Y Z q → (c : ℕ) × IsCell t n c × HoldsForm t q c → (c : ℕ) × (c < n) × (holds_at t q c ≡ true)
    found q box (c, l, h) = (c, l.below, (holds_form t q box.w≥ c l.lives).1 h)

-- OF TABLES THAT PASS THE MESH CHECK. The check is unfolded so that an edit that drops a clause is refused for want of that clause.
pub checked_covering : (m : Mesh) (t : Tables) (w : ℕ) → Passes m t w → Covers m t
unfolding is_mesh mesh_check points_ok cell_ok face_ok mated_ok entries_ok is_mesh_but mesh_check_but cell_ok_but face_ok_but mated_ok_but entries_ok_but
checked_covering m t w e = covering (valid_of m t w e).mesh (room_of t w)

-- after every list of calls from an accepted start
pub every_list_covers : (X Y Z : ℕ) (t : Tables) (w : ℕ) → start_refusal X Y Z t w ≡ 0 → (cs : List Call) →
    let b = mesh_after (start_build X Y Z t w) cs in Covering X Y Z b.mesh.used b.tables
every_list_covers X Y Z t w e cs =
    let b : Build = mesh_after (start_build X Y Z t w) cs in
    let C = every_list_of_calls X Y Z t w e cs in
    rw (C.side_x, C.side_y, C.side_z) at
    (covering (C.mesh (18 + 3 * b.mesh.used) (omega arith) (omega arith)).mesh (room_of b.tables (18 + 3 * b.mesh.used)))

-- some cell holds a position of the box
pub some_holds : {X Y Z n : ℕ} {t : Tables} → Covering X Y Z n t → (p : Position) → InBox X Y Z p → (c : ℕ) × (c < n) × (holds t p c ≡ true)
some_holds {n = n} {t = t} C p box =
    go (C.nowhere_uncovered (whole p) (whole_in_box box))
  where
    go : (c : ℕ) × (c < n) × (holds_at t (whole p) c ≡ true) → (c : ℕ) × (c < n) × (holds t p c ≡ true)
    go (c, l, h) = (c, l, sym (holds_whole t p c) ∙ h)

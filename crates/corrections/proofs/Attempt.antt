-- A node's own numbers, from the cell of its base that its tests found.
use Prim.Native.Nat.{ℕ, ◌+◌, ◌*◌, ◌≤◌, ◌<◌}
use mathlib.Core.Bool.{true}
use mathlib.Core.List.{List, []}
use mathlib.Core.Path.{◌≡◌, ap₂, ◌∙◌}
use native.Mathlib.Omega.{arith}
use lib.IntN.{ℤ}
use Rattle.mesh.specs.declared.Mesh.{Mesh}
use Rattle.mesh.specs.Tables.{Tables, tables, point_capacity, corner, corner_at, cell_volume, side, freed, live}
use Rattle.mesh.proofs.Valid.{solid, in_range_lem}
use Rattle.locate.specs.Locate.{holds}
use Rattle.cavity.specs.declared.Node.{Node}
use Rattle.insertion.specs.Inner.{Found}
use Rattle.insertion.specs.Inner.{Starable}
use Rattle.insertion.proofs.Admission.{next_point, H}
use Rattle.corrections.specs.declared.Correction.{Correction}
use Rattle.corrections.specs.Corrections.{with_correction, weighted_sum, value_in, correction_in}
use Rattle.corrections.specs.Calls.{with_node}
use Rattle.corrections.specs.Inner.{Standing, Readable}
use Rattle.corrections.proofs.Keeping.{from_holder}

-- the next point's entries are there
pub entries< : {m : Mesh} {t : Tables} {bytes : List ℕ} {d : Node} {st li fa nu : List ℕ} {r : Found} → Starable m t bytes d st li fa nu r → {n : ℕ} → 3 * point_capacity t ≤ n →
    3 * d.points + 2 < n
entries< S l = omega (arith, l, next_point S.admitted, S.admitted.node.points_are)

module _ {m : Mesh} {t : Tables} {bytes : List ℕ} {d : Node} {st li fa nu : List ℕ} {r : Found} (S : Starable m t bytes d st li fa nu r) (cs : List ℤ) where
  abbrev holder : ℕ
  holder = r.extent.holder

  holder< : holder < m.used
  holder< = (H S.admitted S.found).holder< S.some

  held : holds t d.position holder ≡ true
  held = (H S.admitted S.found).holder_holds S.some

  pub readable : Standing m.points cs → Readable t.points t.corners cs d.position r.extent.holder
  unfolding holds side corner_at corner live freed
  readable K =
      let e = S.admitted.node.mesh in
      record {
        np = m.points;
        n = m.used;
        solid = solid m t.points t.corners t.neighbours d.work e;
        position = in_range_lem m t d.work e S.admitted.place.box;
        cell< = holder<;
        held = held;
        standing = K;
      }

  pub written : {c : Correction} {cs' : List ℤ} → c ≡ correction_in (tables t.points t.corners []) cs d.position r.extent.holder → cs' ≡ with_correction cs d.points c →
      cs' ≡ with_node m t cs d.position
  unfolding with_node correction_in value_in weighted_sum cell_volume side corner_at corner
  written f e =
      e ∙ ap₂ (with_correction cs) S.admitted.node.points_are
      (f ∙ from_holder m t cs d.work d.position S.admitted.node.mesh holder holder< held S.admitted.place.box)

-- A record and tables that pass the mesh check.
use Prim.Native.Nat.{ℕ, ◌+◌, ◌-◌}
use mathlib.Core.Bool.{Bool, true, false, ◌||◌}
use mathlib.Core.List.{List}
use mathlib.Core.Logic.{◌⊎◌, inl, inr, ◌↔◌}
use mathlib.Core.Path.{◌≡◌, subst}
use native.Mathlib.Omega.{arith}
use borrow.Author.Tests.{eqb-true, eq-eqb, not-true}
use lib.Dec.{eqb}
use Rattle.arith.specs.Table.{count_below}
use Rattle.arith.proofs.Flags.{split, clash, and_left, and_right, and_intro}
use Rattle.arith.proofs.Counting.{count_not, count_none}
use Rattle.geometry.specs.declared.Position.{Position}
use Rattle.geometry.specs.Volume.{InRange, in_box}
use Rattle.geometry.proofs.Ranges.{box_in}
use Rattle.mesh.specs.declared.Mesh.{Mesh}
use Rattle.mesh.specs.Tables.{Tables, point_capacity, cell_capacity, freed, live, tables}
use Rattle.mesh.specs.Mesh.{IsMesh, ValidMesh}
use Rattle.mesh.specs.Chain.{end, chain_from, chain_ok, chain_of}
use Rattle.mesh.specs.Check.{legal_box, mesh_check, entries_ok, is_mesh}
use Rattle.mesh.specs.Start.{short, started, started_mesh}
use Rattle.mesh.specs.Refusal.{mesh_refusal}
use Rattle.mesh.specs.Inner.{Solid, SomeMesh}
use Rattle.mesh.proofs.Room.{room_of}
use Rattle.mesh.proofs.Checked.{check_mesh, mesh_check_lem}
use Rattle.mesh.proofs.Chains.{from_length, chain_of_lem, chain_yes}
use Rattle.mesh.proofs.FirstMesh.{start_live}
use Rattle.mesh.proofs.Reading as reading

pub cells_freed : (t : Tables) (n : ℕ) → count_below n (live t) + count_below n (freed t) ≡ n
unfolding live
cells_freed t n = omega (arith, count_not n (freed t))

module _ (m : Mesh) (t : Tables) (w : ℕ) where
  abbrev cells_check : Bool
  cells_check = mesh_check m.x m.y m.z (point_capacity t) (cell_capacity t w) m.points m.used t

  abbrev count_check : Bool
  count_check = eqb m.cells (count_below m.used (live t))

  pub valid_of : is_mesh m t w ≡ true → ValidMesh m t w
  unfolding is_mesh entries_ok chain_of
  valid_of e = record { mesh = mesh; counted = counted; chained = chain_of_lem t m.used (m.used - m.cells) m.chain (omega (arith, mesh.cells≤, (room_of t w).cells≤)) (omega (arith, counted, cells_freed t m.used)) (and_right count_check _ entries) }
    where
      entries : entries_ok m t ≡ true
      entries = and_right cells_check (entries_ok m t) e

      mesh : IsMesh m.x m.y m.z (point_capacity t) (cell_capacity t w) m.points m.used t
      mesh = check_mesh m.x m.y m.z (point_capacity t) (cell_capacity t w) m.points m.used t (and_left cells_check (entries_ok m t) e)

      counted : m.cells ≡ count_below m.used (live t)
      counted = eqb-true m.cells (count_below m.used (live t)) (and_left count_check _ entries)

  pub valid_yes : ValidMesh m t w → is_mesh m t w ≡ true
  unfolding is_mesh entries_ok chain_of
  valid_yes v =
      and_intro (mesh_check_lem m.x m.y m.z (point_capacity t) (cell_capacity t w) m.points m.used t v.mesh)
      (and_intro (eq-eqb m.cells (count_below m.used (live t)) v.counted)
      (subst (λ k. chain_ok t m.used k m.chain ≡ true) (from_length t (m.used - m.cells) m.chain) (chain_yes v.chained)))

  -- the mesh check is the mesh
  pub valid_is : (is_mesh m t w ≡ true) ↔ ValidMesh m t w
  valid_is = (valid_of, valid_yes)

  pub some_mesh : is_mesh m t w ≡ true → SomeMesh t m.points m.used
  some_mesh e = record { X = m.x; Y = m.y; Z = m.z; w = w; mesh = (valid_of e).mesh }

  pub in_range_lem : is_mesh m t w ≡ true → {q : Position} → in_box m.x m.y m.z q ≡ true → InRange q
  in_range_lem e {q} h =
      let k = (valid_of e).mesh in
      let b = box_in {X = m.x} {Y = m.y} {Z = m.z} {p = q} h in
      record { x≤ = omega (arith, b.x≤, k.side_x.high); y≤ = omega (arith, b.y≤, k.side_y.high); z≤ = omega (arith, b.z≤, k.side_z.high) }

pub solid : (m : Mesh) (ps cs ns : List ℕ) (w : ℕ) → is_mesh m (tables ps cs ns) w ≡ true → Solid ps cs m.points m.used
solid m ps cs ns w e = reading.solid (some_mesh m (tables ps cs ns) w e)

-- no refusal up to 3: a mesh
pub passed : (m : Mesh) (t : Tables) (w : ℕ) (fewer : Bool) → mesh_refusal m t w fewer ≡ 0 → is_mesh m t w ≡ true
unfolding mesh_refusal
passed m t w fewer e = go (split (fewer || short t w)) (split (legal_box m.x m.y m.z)) (split (is_mesh m t w)) e
  where
    go : ((fewer || short t w) ≡ true) ⊎ ((fewer || short t w) ≡ false) → (legal_box m.x m.y m.z ≡ true) ⊎ (legal_box m.x m.y m.z ≡ false) →
        (is_mesh m t w ≡ true) ⊎ (is_mesh m t w ≡ false) → mesh_refusal m t w fewer ≡ 0 → is_mesh m t w ≡ true
    go a b (inl c) e = c
    go (inl a) b (inr c) e = absurd (omega (arith, rw a at e))
    go (inr a) (inr b) (inr c) e = absurd (omega (arith, rw (a, b) at e))
    go (inr a) (inl b) (inr c) e = absurd (omega (arith, rw (a, b, c) at e))

-- the started box
pub start_valid : (X Y Z : ℕ) (t : Tables) (w : ℕ) → IsMesh X Y Z (point_capacity (started X Y Z t)) (cell_capacity (started X Y Z t) w) 8 6 (started X Y Z t) →
    ValidMesh (started_mesh X Y Z) (started X Y Z t) w
unfolding chain_of chain_from live
start_valid X Y Z t w M =
    record {
      mesh = M;
      counted = omega (arith, cells_freed (started X Y Z t) 6, none_freed);
      chained = record {
        path = end;
        spare = record { below = λ k l. absurd (omega arith); dead = λ k l. absurd (omega arith); once = λ j k l. absurd (omega arith) };
        all = λ c l d. clash (start_live X Y Z t c l) d;
        bare = λ c i l d. clash (start_live X Y Z t c l) d;
      };
    }
  where
    none_freed : count_below 6 (freed (started X Y Z t)) ≡ 0
    none_freed = count_none 6 (freed (started X Y Z t)) (λ c l. not-true (freed (started X Y Z t) c) (start_live X Y Z t c l))

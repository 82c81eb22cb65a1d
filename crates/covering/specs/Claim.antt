-- Document 02 §9: nowhere uncovered, nowhere twice; refusal 7 never occurs; which clauses of the mesh check this takes.
use Rattle.std.specs.Prelude.{ℕ, ◌<◌, true, List, ◌≢◌, ◌≡◌}
use Rattle.geometry.specs.declared.Position.{Position}
use Rattle.mesh.specs.declared.Mesh.{Mesh}
use Rattle.mesh.specs.Tables.{Tables}
use Rattle.mesh.specs.Check.{is_mesh}
use Rattle.locate.specs.Locate.{Refused as NotLocated}
use Rattle.locate.specs.Locate.{locate_call}
use Rattle.cavity.specs.Answers.{Answers}
use Rattle.insertion.specs.Inserted.{Refused}
use Rattle.insertion.specs.Listed.{Stopped, Refused as AllRefused}
use Rattle.insertion.specs.Looked.{Refused as NotLooked}
use Rattle.insertion.specs.Insertion.{insert_call}
use Rattle.insertion.specs.List.{list_call}
use Rattle.insertion.specs.Look.{look_call, marked_call}
use Rattle.covering.specs.Place.{Place, InBoxAt, holds_at, inside_at}
use Rattle.covering.specs.Clauses.{Clause, sizes, positive_volumes, faces_on_walls, neighbour_numbers, same_points, far_side, volumes_add_up, is_mesh_but}

-- 'every position of the box, at whole steps and at any fraction of one, is held by at least one cell, and lies strictly inside at most one'; of n
-- entries in use, of which a freed one holds nothing and has nothing strictly inside
pub record Covering (X Y Z n : ℕ) (t : Tables) : Type 0 where
  pub nowhere_uncovered : (q : Place) → InBoxAt X Y Z q → (c : ℕ) × (c < n) × (holds_at t q c ≡ true)
  pub nowhere_twice : (q : Place) (c d : ℕ) → c < n → d < n → inside_at t q c ≡ true → inside_at t q d ≡ true → c ≡ d

abbrev pub Covers : Mesh → Tables → Type 0
Covers m t = Covering m.x m.y m.z m.used t

-- 'in tables that pass the mesh check'
abbrev pub Passes : Mesh → Tables → ℕ → Type 0
Passes m t w = is_mesh m t w ≡ true

-- 'the number stays in the table': 7, no cell holds the position
abbrev pub unheld : ℕ
unheld = 7

-- 'It follows that 7 never occurs': whatever the record, tables, work area and input, for each call that tests it
pub record NeverUnheld : Type 0 where
  pub located : (m : Mesh) (t : Tables) (w : ℕ) (p : Position) → locate_call m t w p ≢ NotLocated unheld
  -- by the sphere test and by answers handed in
  pub inserted : (m : Mesh) (t : Tables) (w : ℕ) (p : Position) (a : Answers) → (insert_call m t w p a).answer ≢ Refused unheld
  pub marked : (m : Mesh) (t : Tables) (w : ℕ) (p : Position) (marks : List ℕ) → (marked_call m t w p marks).answer ≢ Refused unheld
  pub looked : (m : Mesh) (t : Tables) (w : ℕ) (p : Position) (marks : List ℕ) → (look_call m t w p marks).answer ≢ NotLooked unheld
  -- neither for the whole list nor for one of its nodes
  pub listed : (m : Mesh) (t : Tables) (w : ℕ) (ns : List ℕ) → (list_call m t w ns).answer ≢ AllRefused unheld
  pub stopped : (m m' : Mesh) (t : Tables) (w : ℕ) (ns : List ℕ) (place : ℕ) → (list_call m t w ns).answer ≢ Stopped m' place unheld

-- tables that meet every clause of the mesh check but one, and leave a place uncovered or cover one twice
pub record Needed (out : Clause) : Type 0 where
  pub mesh : Mesh
  pub tables : Tables
  pub work : ℕ
  pub others : is_mesh_but out mesh tables work ≡ true
  pub uncovered_or_twice : Covers mesh tables → ⊥

-- seven of the fourteen clauses
pub record NeededClauses : Type 0 where
  pub capacities_sides_counts : Needed sizes
  pub neighbour_in_range : Needed neighbour_numbers
  pub volume_above_zero : Needed positive_volumes
  pub unshared_on_wall : Needed faces_on_walls
  pub shared_points : Needed same_points
  pub on_far_side : Needed far_side
  pub sum_of_volumes : Needed volumes_add_up

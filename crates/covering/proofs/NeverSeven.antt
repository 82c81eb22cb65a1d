-- Refusal 7 never occurs: not from locate, not from an insertion of one node, not from a look, not from a list.
use Prim.Native.Nat.{ℕ, zero, suc, ◌+◌}
use mathlib.Core.Bool.{Bool, true, false, not, cond, ◌||◌}
use mathlib.Core.List.{List}
use mathlib.Core.Logic.{◌≢◌, ◌⊎◌, inl, inr}
use mathlib.Core.Path.{◌≡◌, refl, sym, subst}
use native.Mathlib.Decide.{ℕ_discrete}
use native.Mathlib.Omega.{arith}
use borrow.Author.Tests.{ne_eqb}
use lib.Dec.{ltb, eqb}
use lib.ListN.{length}
use Rattle.arith.specs.Table.{any_below}
use Rattle.arith.proofs.Flags.{split}
use Rattle.arith.proofs.Tables.{any_intro}
use Rattle.geometry.specs.declared.Position.{Position}
use Rattle.geometry.specs.Volume.{in_box, same_position}
use Rattle.geometry.proofs.Ranges.{box_in}
use Rattle.mesh.specs.declared.Mesh.{Mesh}
use Rattle.mesh.specs.Tables.{Tables, point_capacity, cell_capacity, point}
use Rattle.mesh.specs.Check.{legal_box, is_mesh}
use Rattle.mesh.specs.Start.{short}
use Rattle.mesh.specs.Refusal.{mesh_refusal}
use Rattle.mesh.proofs.Valid.{passed}
use Rattle.locate.specs.Locate.{Refused as NotLocated}
use Rattle.locate.specs.Locate.{holds, locate_refusal, locate_call}
use Rattle.cavity.specs.Answers.{Answers, sphere}
use Rattle.insertion.specs.Inserted.{Refused}
use Rattle.insertion.specs.Looked.{Refused as NotLooked}
use Rattle.insertion.specs.Listed.{Listed}
use Rattle.insertion.specs.Listed.{Stopped, Refused as AllRefused}
use Rattle.insertion.specs.Insertion.{cells_made, node_refusal, fewer_bytes, first_of, insert_refusal, insert_unless, insert_call}
use Rattle.insertion.specs.List.{listed_node, listed_count, insert_from, list_call}
use Rattle.insertion.specs.Look.{cavity_marks, look_refusal, look_unless, look_call, begins_with, marked_refusal, marked_call}
use Rattle.insertion.proofs.Refusals.{unless_accepted, unless_refused, node_accepted, node_refused}
use Rattle.insertion.proofs.Growing.{checks_again}
use Rattle.insertion.proofs.Steps.{node_in, node_out, list_refused, list_begins}
use Rattle.covering.specs.Claim.{unheld, NeverUnheld}
use Rattle.covering.proofs.Theorem.{checked_covering, some_holds}

-- a test that gives another number, then others that do
either : (b : Bool) (k r : ℕ) → k ≢ unheld → r ≢ unheld → cond b k r ≢ unheld
either true k r d e = d
either false k r d e = e

-- tests 1 to 3
mesh_never : (m : Mesh) (t : Tables) (w : ℕ) (fewer : Bool) → mesh_refusal m t w fewer ≢ unheld
unfolding mesh_refusal
mesh_never m t w fewer =
    either (fewer || short t w) 1 _ (λ e. omega arith)
    (either (not (legal_box m.x m.y m.z)) 2 _ (λ e. omega arith) (either (not (is_mesh m t w)) 3 0 (λ e. omega arith) (λ e. omega arith)))

module _ (m : Mesh) (t : Tables) (w : ℕ) (M : is_mesh m t w ≡ true) where
  found : (p : Position) → in_box m.x m.y m.z p ≡ true → any_below m.used (holds t p) ≡ true
  found p e =
      let h = some_holds (checked_covering m t w M) p (box_in e) in
      any_intro m.used (holds t p) h.0 h.1 h.2

  -- tests 4 to 8 of a node
  node_never : (p : Position) (a : Answers) → node_refusal m t w p a ≢ unheld
  unfolding node_refusal
  node_never p a = go (split (in_box m.x m.y m.z p))
    where
      go : (in_box m.x m.y m.z p ≡ true) ⊎ (in_box m.x m.y m.z p ≡ false) → node_refusal m t w p a ≢ unheld
      go (inr e) = rw e (λ q. omega arith)
      go (inl e) =
          rw (e, found p e)
          (either (any_below m.points (λ k. same_position (point t k) p)) 5 _ (λ e. omega arith)
          (either (eqb m.points (point_capacity t)) 6 _ (λ e. omega arith)
          (either (ltb (cell_capacity t w) (m.cells + cells_made m t p a)) 8 0 (λ e. omega arith) (λ e. omega arith))))

-- ---- locate

module _ (m : Mesh) (t : Tables) (w : ℕ) (p : Position) where
  location_never : locate_refusal m t w p ≢ unheld
  unfolding locate_refusal
  location_never = go (ℕ_discrete (mesh_refusal m t w false) 0) (split (in_box m.x m.y m.z p))
    where
      go : Dec (mesh_refusal m t w false ≡ 0) → (in_box m.x m.y m.z p ≡ true) ⊎ (in_box m.x m.y m.z p ≡ false) → locate_refusal m t w p ≢ unheld
      go (no d) b = rw (ne_eqb (mesh_refusal m t w false) 0 d) (mesh_never m t w false)
      go (yes z) (inr e) = rw (z, e) (λ q. omega arith)
      go (yes z) (inl e) = rw (z, e, found m t w (passed m t w false z) p e) (λ q. omega arith)

  locate_never_seven : locate_call m t w p ≢ NotLocated unheld
  unfolding locate_call
  locate_never_seven = go (split (eqb (locate_refusal m t w p) 0))
    where
      go : (eqb (locate_refusal m t w p) 0 ≡ true) ⊎ (eqb (locate_refusal m t w p) 0 ≡ false) → locate_call m t w p ≢ NotLocated unheld
      go (inl e) = rw e (λ q. let z : ◌≡◌ {A = ℕ} 0 1 = cc in omega arith)
      go (inr e) = rw e (λ q. location_never cc)

-- ---- one node: the answers a are the sphere test's or handed in

module _ (m : Mesh) (t : Tables) (w : ℕ) (p : Position) where
  insertion_never : (a : Answers) → insert_refusal m t w p a ≢ unheld
  unfolding insert_refusal
  insertion_never a = go (ℕ_discrete (mesh_refusal m t w (fewer_bytes a m.used)) 0)
    where
      go : Dec (mesh_refusal m t w (fewer_bytes a m.used) ≡ 0) → insert_refusal m t w p a ≢ unheld
      go (no d) = rw (ne_eqb (mesh_refusal m t w (fewer_bytes a m.used)) 0 d) (mesh_never m t w (fewer_bytes a m.used))
      go (yes z) = rw z (node_never m t w (passed m t w (fewer_bytes a m.used) z) p a)

  -- a call with the refusal r
  unless_never_seven : (a : Answers) (r : ℕ) → r ≢ unheld → (insert_unless r m t p a).answer ≢ Refused unheld
  unless_never_seven a r never = go (ℕ_discrete r 0)
    where
      go : Dec (r ≡ 0) → (insert_unless r m t p a).answer ≢ Refused unheld
      go (yes e) = rw (unless_accepted m t p a e) (λ q. let z : ◌≡◌ {A = ℕ} 0 1 = cc in omega arith)
      go (no d) = rw (unless_refused m t p a refl d) (λ q. never cc)

  insert_never_seven : (a : Answers) → (insert_call m t w p a).answer ≢ Refused unheld
  unfolding insert_call
  insert_never_seven a = unless_never_seven a (insert_refusal m t w p a) (insertion_never a)

  -- nor with a further test
  then_never : (k : ℕ) → k ≢ unheld → first_of (insert_refusal m t w p sphere) k ≢ unheld
  then_never k d = either (eqb (insert_refusal m t w p sphere) 0) k (insert_refusal m t w p sphere) d (insertion_never sphere)

  module _ (marks : List ℕ) where
    marked_never_seven : (marked_call m t w p marks).answer ≢ Refused unheld
    unfolding marked_call marked_refusal
    marked_never_seven =
        unless_never_seven sphere (marked_refusal (insert_refusal m t w p sphere) m t p sphere marks)
        (then_never _ (either (begins_with (cavity_marks m t p sphere) marks) 0 14 (λ e. omega arith) (λ e. omega arith)))

    look_never_seven : (look_call m t w p marks).answer ≢ NotLooked unheld
    unfolding look_call look_unless look_refusal
    look_never_seven = go (split (eqb refusal 0))
      where
        refusal : ℕ
        refusal = look_refusal (insert_refusal m t w p sphere) m marks

        never : refusal ≢ unheld
        never = then_never _ (either (ltb (length marks) m.used) 10 0 (λ e. omega arith) (λ e. omega arith))

        go : (eqb refusal 0 ≡ true) ⊎ (eqb refusal 0 ≡ false) → (look_call m t w p marks).answer ≢ NotLooked unheld
        go (inl e) = rw e (λ q. let z : ◌≡◌ {A = ℕ} 0 1 = cc in omega arith)
        go (inr e) = rw e (λ q. never cc)

-- ---- lists

-- neither the whole list nor one of its nodes is refused with 7
record NotUnheld (r : Listed) : Type 0 where
  whole : r ≢ AllRefused unheld
  node : (m : Mesh) (place : ℕ) → r ≢ Stopped m place unheld

module _ (w : ℕ) (ns : List ℕ) where
  nodes_never : (k i : ℕ) (m : Mesh) (t : Tables) → is_mesh m t w ≡ true → NotUnheld (insert_from k i m t w ns).answer
  unfolding insert_from
  nodes_never zero i m t M = record {
    whole = λ q. let z : ◌≡◌ {A = ℕ} 0 1 = cc in omega arith;
    node = λ m' place q. let z : ◌≡◌ {A = ℕ} 0 1 = cc in omega arith;
  }
  nodes_never (suc k) i m t M = go (ℕ_discrete (node_refusal m t w (listed_node ns i) sphere) 0) (λ m t M. nodes_never k (suc i) m t M)
    where
      go : Dec (node_refusal m t w (listed_node ns i) sphere ≡ 0) → ((m : Mesh) (t : Tables) → is_mesh m t w ≡ true → NotUnheld (insert_from k (suc i) m t w ns).answer) →
          NotUnheld (insert_from (suc k) i m t w ns).answer
      go (yes e) ih =
          subst (λ l. NotUnheld l.answer) (sym (node_in m t w ns i k (node_accepted m t w (listed_node ns i) sphere e)))
          (ih _ _ (checks_again m t w (listed_node ns i) sphere M e))
      go (no d) ih =
          subst (λ l. NotUnheld l.answer) (sym (node_out m t w ns i k (node_refused m t w (listed_node ns i) sphere refl d)))
          record {
            whole = λ q. let z : ◌≡◌ {A = ℕ} 0 1 = cc in omega arith;
            node = λ m' place q. node_never m t w M (listed_node ns i) sphere cc;
          }

  list_never_seven : (m : Mesh) (t : Tables) → NotUnheld (list_call m t w ns).answer
  list_never_seven m t = go (ℕ_discrete (mesh_refusal m t w false) 0)
    where
      go : Dec (mesh_refusal m t w false ≡ 0) → NotUnheld (list_call m t w ns).answer
      go (no d) =
          subst (λ l. NotUnheld l.answer) (sym (list_refused m t w ns refl d))
          record {
            whole = λ q. mesh_never m t w false cc;
            node = λ m' place q. let z : ◌≡◌ {A = ℕ} 0 1 = cc in omega arith;
          }
      go (yes z) = subst (λ l. NotUnheld l.answer) (sym (list_begins m t w ns z)) (nodes_never (listed_count ns) 0 m t (passed m t w false z))

-- 7 NEVER OCCURS
pub never_seven : NeverUnheld
never_seven = record {
  located = locate_never_seven;
  inserted = insert_never_seven;
  marked = marked_never_seven;
  looked = look_never_seven;
  listed = λ m t w ns. (list_never_seven w ns m t).whole;
  stopped = λ m m' t w ns place. (list_never_seven w ns m t).node m' place;
}

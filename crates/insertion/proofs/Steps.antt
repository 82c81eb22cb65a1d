-- The list, node by node.
use Prim.Native.Nat.{ℕ, suc}
use mathlib.Core.Bool.{false}
use mathlib.Core.List.{List}
use mathlib.Core.Logic.{◌≢◌}
use mathlib.Core.Path.{◌≡◌}
use borrow.Author.Tests.{ne_eqb}
use Rattle.mesh.specs.declared.Mesh.{Mesh}
use Rattle.mesh.specs.Tables.{Tables}
use Rattle.mesh.specs.Refusal.{mesh_refusal}
use Rattle.cavity.specs.Answers.{sphere}
use Rattle.insertion.specs.declared.Report.{Report}
use Rattle.insertion.specs.Inserted.{Accepted, Refused}
use Rattle.insertion.specs.Listed.{Stopped, Refused as AllRefused}
use Rattle.insertion.specs.Insertion.{insert_node}
use Rattle.insertion.specs.List.{listed_node, listed_count, insert_from, list_call}

module _ (m : Mesh) (t : Tables) (w : ℕ) (ns : List ℕ) where
  pub list_refused : {r : ℕ} → mesh_refusal m t w false ≡ r → r ≢ 0 → list_call m t w ns ≡ record { answer = AllRefused r; tables = t }
  unfolding list_call
  list_refused {r} e d = rw (e, ne_eqb r 0 d)

  pub list_begins : mesh_refusal m t w false ≡ 0 → list_call m t w ns ≡ insert_from (listed_count ns) 0 m t w ns
  unfolding list_call
  list_begins e = rw e

  module _ (i : ℕ) where
    -- an accepted node
    pub node_in : (k : ℕ) {m' : Mesh} {r : Report} {t' : Tables} →
        insert_node m t w (listed_node ns i) sphere ≡ record { answer = Accepted m' r; tables = t' } →
        insert_from (suc k) i m t w ns ≡ insert_from k (suc i) m' t' w ns
    unfolding insert_from
    node_in k e = rw (e, insert_from) (rw e)

    -- a refused one
    pub node_out : (k : ℕ) {e : ℕ} {t' : Tables} →
        insert_node m t w (listed_node ns i) sphere ≡ record { answer = Refused e; tables = t' } →
        insert_from (suc k) i m t w ns ≡ record { answer = Stopped m i e; tables = t' }
    unfolding insert_from
    node_out k e = rw (e, insert_from) (rw e)

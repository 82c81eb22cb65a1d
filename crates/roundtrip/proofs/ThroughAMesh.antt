-- The second round trip: a file that is read, started and inserted whole is written back without its note.
use Prim.Native.Nat.{ℕ, ◌+◌, ◌*◌, ◌≤◌}
use mathlib.Core.List.{List}
use mathlib.Core.Path.{◌≡◌, sym, ap, ◌∙◌}
use native.Mathlib.Omega.{arith}
use lib.ListN.{length, take, drop, length-append, length-take}
use Rattle.arith.specs.Table.{tabulate}
use Rattle.mesh.specs.declared.Mesh.{Mesh}
use Rattle.mesh.specs.Tables.{Tables}
use Rattle.insertion.specs.List.{listed_node, listed_count}
use Rattle.calls.specs.Calls.{record_after_list, accepted_nodes, Claim}
use Rattle.nodefile.specs.declared.Header.{Header}
use Rattle.nodefile.specs.Read.{Nodes}
use Rattle.nodefile.specs.Read.{nodes, ReadLeaves}
use Rattle.nodefile.specs.Write.{node_count, nodes_of}
use Rattle.nodefile.specs.RoundTrip.{HoldsRead}
use Rattle.nodefile.proofs.RoundTrips.{read, nodes_read, read_then_written}
use Rattle.roundtrip.specs.Through.{Built, ComesBack}
use Rattle.roundtrip.proofs.StartedList.{built, claim_after_list, listed_points}

-- the numbers that were read, three a node, from the front of the reader's output
pub numbers_read : (file out : List ℕ) {h : Header} {out' : List ℕ} → ReadLeaves file out (Nodes h) out' → length (take (3 * h.count) out') ≡ 3 * h.count
numbers_read file out {h} {out'} R =
    let q = read file out R in
    let c : 3 * h.count ≡ length (nodes file) = ap (λ (k : Header). 3 * k.count) q.1 ∙ sym (nodes_read file q.0) in
    let l : length (nodes file) ≤ length out' = omega (arith, ap length q.2, length-append (nodes file) (drop (length (nodes file)) out)) in
    omega (arith, length-take (3 * h.count) out')

-- condition 3 of a mesh that is built from a file: after the corners, the points are the numbers that were read
pub claim_built : {file : List ℕ} {m : Mesh} {t : Tables} (B : Built file m t) →
    let ns = take (3 * B.head.count) B.numbers in
    Claim B.head.x B.head.y B.head.z (built m t) (tabulate (listed_count ns) (listed_node ns))
unfolding record_after_list accepted_nodes
claim_built B = claim_after_list B.start B.list

pub comes_back : ComesBack
comes_back file n out b T =
    let B = T.built in
    let h = B.head in
    let C = claim_built B in
    let p = listed_points (take (3 * h.count) B.numbers) h.count (numbers_read file B.lent B.read) C in
    read_then_written file B.lent b B.read T.m T.t (holds C.side_x C.side_y C.side_z p.0 p.1) T.write_work T.lent_out T.write
  where
    holds : let h = T.built.head in T.m.x ≡ h.x → T.m.y ≡ h.y → T.m.z ≡ h.z → T.m.points ≡ 8 + h.count →
        take (3 * h.count) (drop 24 T.t.points) ≡ take (3 * h.count) T.built.numbers →
        HoldsRead T.m T.t.points h T.built.numbers
    holds x y z c e =
        unfold nodes_of node_count in
        let n : node_count T.m ≡ T.built.head.count = omega arith in
        record { x = x; y = y; z = z; count = c; nodes = ap (λ k. take (3 * k) (drop 24 T.t.points)) n ∙ e }

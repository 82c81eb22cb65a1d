use Rattle.std.proofs.Common.{[], ◌≡◌, ◌-◌}
use Rattle.mesh.specs.Tables.{tables}
use Rattle.mesh.specs.Chain.{chain_ok}
use Rattle.mesh_chain.proofs.chain_passes.Given as goal

abbrev pub invariant-loop : goal.invariant-loop
invariant-loop l =
    let t = tables [] l.corners l.neighbours in
    let n = l.mesh.used in
    chain_ok t n (n - l.counter) l.at ≡ chain_ok t n (n - l.mesh.cells) l.mesh.chain

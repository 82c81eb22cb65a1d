use Rattle.std.proofs.Common.{◌∙◌, arith}
use Rattle.insertion.proofs.Acceptance.{chain_few, used_few, listed, supply, to_replace, accepted_asks, starred}
use Rattle.insertion_star.proofs.insert_found.Goals as goal

pub overflow_cast-mesh : goal.overflow_cast-mesh
overflow_cast-mesh c = record { fits = omega (arith, chain_few c.requires.0.starable) }

pub take_slots-left-requires : goal.take_slots-left-requires
take_slots-left-requires c = let p = c.requires in (supply p.0.starable, p.1)

pub replace_cavity-chain-requires : goal.replace_cavity-chain-requires
unfolding supply
replace_cavity-chain-requires c =
    let p = c.requires in
    let r = c.take_slots-left in
    let e = r.ensures (supply p.0.starable) in
    to_replace p.0.starable (r.auto.slots ∙ p.1) e.0 e.1

pub clear_states-requires : goal.clear_states-requires
clear_states-requires c = listed c.requires.0.starable

pub accepted-requires : goal.accepted-requires
unfolding supply
accepted-requires c =
    let S = c.requires.0.starable in
    let h = accepted_asks S in
    (h.0, h.1, h.2, h.3, h.4, used_few S (c.take_slots-left.ensures (supply S)).2)

pub returns : goal.returns
unfolding supply to_replace
returns c =
    let p = c.requires in
    let r = c.take_slots-left in
    let long = r.auto.slots ∙ p.1 in
    let done = c.replace_cavity-chain.ensures in (
      λ bytes S. (let e = r.ensures (supply S) in let q = done (to_replace S long e.0 e.1) in starred S q.1 e.2 c.accepted.ensures q.0),
      c.clear_states.ensures,
    )

use Rattle.std.proofs.Common.{[], ◌≡◌, ◌-◌, ℕ, suc, ◌+◌, ◌*◌, ◌<◌, ◌≤◌, ◌&&◌, ltb, eqb, sym, ap, ◌∙◌, arith}
use Rattle.std.proofs.lemmas.Bool.Decides.{nat_tests}
use Rattle.arith.proofs.Tables.{any_default}
use Rattle.mesh.specs.Tables.{Tables, none, across, tables}
use Rattle.mesh.specs.Chain.{freed_entry, chain_ok}
use Rattle.mesh_chain.proofs.chain_passes.Goals as goal
use Rattle.mesh_chain.proofs.chain_passes.Goals.{then-mesh-at-via-then-mesh-at, then-mesh-at-via-else-mesh-at+then-not-is_link}

-- with k of n entries found
step : (t : Tables) (n k h : ℕ) → k < n → chain_ok t n (n - k) h ≡ (ltb h n && (freed_entry t h && chain_ok t n (n - (k + 1)) (across t (4 * h))))
unfolding chain_ok
step t n k h l = let e : n - k ≡ suc (n - (k + 1)) = omega arith in ap (λ j. chain_ok t n j h) e

last : (t : Tables) (n k h : ℕ) → n ≤ k → chain_ok t n (n - k) h ≡ eqb h none
unfolding chain_ok
last t n k h l = let e : ◌≡◌ {A = ℕ} (n - k) 0 = omega arith in ap (λ j. chain_ok t n j h) e

pub returns-then-mesh-at : goal.returns-then-mesh-at
returns-then-mesh-at c =
    let l = c.loop in
    let a = c.args in
    let t = tables [] a.corners.now a.neighbours.now in
    let s = step t a.mesh.used l.counter l.at c.loop-test.true in
    elim c.then-mesh-at.branch [
      | then-mesh-at-via-then-mesh-at w ↦ grind (arith, nat_tests)
      | then-mesh-at-via-else-mesh-at+then-not-is_link w ↦ grind (arith, nat_tests)
    ]

pub loop-preserved : goal.loop-preserved
unfolding across
loop-preserved c =
    let l = c.loop in
    let a = c.args in
    let t = tables [] a.corners.now a.neighbours.now in
    let s = step t a.mesh.used l.counter l.at c.loop-test.true in
    let d = any_default a.neighbours.now (4 * l.at) 0 none (omega arith) in
    grind (arith, nat_tests)

pub returns : goal.returns
returns c =
    let a = c.args in
    let t = tables [] a.corners.now a.neighbours.now in
    rw c.from.ensures (sym (last t a.mesh.used c.loop.counter c.loop.at c.loop-test.false) ∙ c.loop.invariant)

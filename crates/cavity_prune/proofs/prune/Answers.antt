use Rattle.std.proofs.Common.{◌≡◌, ap, ◌∙◌, arith}
use Rattle.mesh.specs.Tables.{live}
use Rattle.mesh.proofs.Reading.{cells_few}
use Rattle.cavity.proofs.Gathering.{listed_cell}
use Rattle.cavity.proofs.Removal.{prune_start, prune_at, prune_step_at, prune_ends, round_is}
use Rattle.cavity_prune.proofs.prune.Goals as goal

pub loop-i-init : goal.loop-i-init
loop-i-init c t n n≤ L = prune_start L n≤ _

pub keep_or_remove-kept-requires : goal.keep_or_remove-kept-requires
keep_or_remove-kept-requires c =
    let l = c.loop-i in
    let L = c.requires.1.list in
    let n≤ = cells_few c.requires.0 in
    let P = l.invariant _ _ n≤ L in
    let living = ap (live _) (P.ahead l.i (omega arith) (omega arith)) ∙ (listed_cell L l.i (omega arith)).lives in
    prune_at c.args.corners.now c.args.faces.now c.args.exposed.now L n≤ P (omega arith) c.requires.0 living c.requires.2.codes c.requires.2.marks

pub loop-i-preserved : goal.loop-i-preserved
loop-i-preserved c t n n≤ L =
    prune_step_at c.args.corners.now c.args.faces.now c.args.exposed.now L n≤ (c.loop-i.invariant t n n≤ L) (omega arith) c.keep_or_remove-kept.ensures

pub returns : goal.returns
returns c =
    let l = c.loop-i in
    let e : l.i ≡ c.args.size = omega arith in
    round_is c.requires.0 _ c.requires.1 c.requires.2 (prune_ends e (l.invariant _ _ (cells_few c.requires.0) c.requires.1.list))

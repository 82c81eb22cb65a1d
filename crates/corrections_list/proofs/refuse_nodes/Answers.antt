use Rattle.std.proofs.Common.{[], ◌∙◌, ap, length}
use borrow.Author.Tests.{lt-ltb, le-ltb}
use Rattle.mesh.specs.Tables.{tables}
use Rattle.insertion.specs.Listed.{Stopped}
use Rattle.corrections.specs.Inner.{refused_nodes, early_refusal}
use Rattle.corrections_list.proofs.refuse_nodes.Goals as goal

pub returns-then-nodes-lt3 : goal.returns-then-nodes-lt3
unfolding refused_nodes
returns-then-nodes-lt3 c = rw (lt-ltb (length c.args.nodes.now) 3 c.if-nodes-lt3.true)

pub returns-else-nodes-lt3 : goal.returns-else-nodes-lt3
unfolding refused_nodes
returns-else-nodes-lt3 c =
    let a = c.args in
    rw (le-ltb (length a.nodes.now) 3 c.if-nodes-lt3.false)
    (ap (Stopped a.mesh 0) (c.early_refusal.ensures [] [] ∙ ap (early_refusal a.mesh (tables a.points.now [] [])) c.point_at.ensures))

use Rattle.awk_ere.proofs.Trees.{anchor_frame}
use Rattle.awk_ere.proofs.tree.with_anchor.Goals as goal

pub returns : goal.returns
returns c = λ sets m p h same.
    anchor_frame sets c.args.frame c.in_ok-pieces.pieces c.in_ok-pieces-2.pieces c.args.node m p
    (λ x y. c.in_ok-pieces.ensures sets x y) (λ x y. c.in_ok-pieces-2.ensures sets x y) h same

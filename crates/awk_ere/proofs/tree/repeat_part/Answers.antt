use Rattle.std.proofs.Common.{arith}
use Rattle.awk_ere.proofs.Trees.{repeat_stands}
use Rattle.awk_ere.proofs.tree.repeat_part.Goals as goal

pub returns : goal.returns
returns c =
    let same = rw c.widened-more.ensures at c.in_ok-node.ensures in
    λ sets p. repeat_stands sets c.args.part c.in_ok-node.node _ p _ _ _
    (omega (arith, c.min-size.ensures, c.saturating_mul.ensures)) same

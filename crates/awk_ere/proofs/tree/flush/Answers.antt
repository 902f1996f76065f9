use Rattle.awk_ere.proofs.Trees.{flush_some}
use Rattle.awk_ere.proofs.tree.flush.Goals as goal

pub returns-in_ok-branch-in-Some : goal.returns-in_ok-branch-in-Some
returns-in_ok-branch-in-Some c = λ sets p m. flush_some sets c.args.pieces c.args.last c.in-Some.last
    c.in_ok-branch-in-Some.branch c.in-Some.is (λ x y. c.in_ok-branch-in-Some.ensures sets x y) p m

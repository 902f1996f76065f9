use Rattle.awk_ere.proofs.Trees.{finish_some}
use Rattle.awk_ere.proofs.tree.finish.Goals as goal

pub returns-in_ok-whole-in-Some : goal.returns-in_ok-whole-in-Some
returns-in_ok-whole-in-Some c = λ sets m.
    finish_some sets c.args.frame c.in_ok-branch.branch c.in-Some.before c.in_ok-whole-in-Some.whole m c.in-Some.is
    (λ p l. c.in_ok-branch.ensures sets p l) (λ p q. c.in_ok-whole-in-Some.ensures sets p q)

use Rattle.std.proofs.Common.{◌≡◌, arith, rules}
use Rattle.std.proofs.lemmas.Grind.{common_steps}
use Rattle.awk_tree.specs.Statements.{statement}
use Rattle.awk_expressions.proofs.Loops.{deeper}
use Rattle.awk_statements.proofs.statement.+statement.Goals as goal

pub returns-then-depth-eq0 : goal.returns-then-depth-eq0
unfolding statement
returns-then-depth-eq0 t c = λ _. let none : c.args.depth ≡ 0 = omega arith in
    rw none (first_of (cc, search rules, grind (arith, common_steps)))

pub returns : goal.returns
unfolding statement
returns t c = rw (deeper (λ n. statement n c.args.which c.args.tokens.now) c.args.depth (omega arith))
    c.nested_in.ensures

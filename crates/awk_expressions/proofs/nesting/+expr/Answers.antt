use Rattle.std.proofs.Common.{◌≡◌, ◌-◌, refl, sym, arith, rules}
use Rattle.std.proofs.lemmas.Grind.{common_steps}
use Rattle.awk_tree.specs.Expressions.{expr}
use Rattle.awk_expressions.proofs.Loops.{deeper}
use Rattle.awk_expressions.proofs.nesting.+expr.Goals as goal

pub returns-then-depth-eq0 : goal.returns-then-depth-eq0
unfolding expr
returns-then-depth-eq0 t c = λ _. let none : c.args.depth ≡ 0 = omega arith in
    rw none (first_of (cc, search rules, grind (arith, common_steps)))

pub returns : goal.returns
unfolding expr
returns t c =
    let made : c.rules.result.depth ≡ c.args.depth - 1 = rw c.rules.ensures refl in
    rw (deeper (λ n. expr n c.args.goal c.args.tokens.now) c.args.depth (omega arith), sym made) c.level.ensures

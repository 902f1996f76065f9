use Rattle.awk_builtins.proofs.SearchSteps.{checks, checks_constant}
use Rattle.awk_builtins.proofs.patterns.check.Goals as goal

pub returns-clause-check : goal.returns-clause-check
returns-clause-check c = λ g w. rw c.at.ensures (checks g w c.args.place c.args.source.now _ c.find.result
    c.find.ensures.ok c.find.ensures.err)

pub returns-clause-constant : goal.returns-clause-constant
returns-clause-constant c = λ g w. rw c.at.ensures (checks_constant g w c.args.place c.args.source.now _ c.find.result
    c.find.ensures.ok c.find.ensures.err)

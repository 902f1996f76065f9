use Rattle.std.proofs.Common.{◌≡◌, ◌++◌, drop}
use Rattle.awk_resolve.specs.Uses as spec
use Rattle.awk_resolve.proofs.uses.mentions.Given as goal

abbrev pub invariant-loop-said : goal.invariant-loop-said
invariant-loop-said l = l.initial.out ++ spec.mentions l.inside.numbers.now l.inside.role.now l.mentions ≡ l.out
    ++ spec.mentions l.inside.numbers.now l.inside.role.now (drop l.said-index l.mentions)

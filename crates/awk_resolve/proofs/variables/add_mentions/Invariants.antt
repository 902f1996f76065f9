use Rattle.std.proofs.Common.{◌≡◌, drop}
use Rattle.awk_resolve.specs.Tables as spec
use Rattle.awk_resolve.proofs.variables.add_mentions.Given as goal

abbrev pub invariant-loop-mention : goal.invariant-loop-mention
invariant-loop-mention l = spec.behind l.initial.out (spec.outside l.parameters (spec.all_used l.mentions))
    ≡ spec.behind l.out (spec.outside l.parameters (spec.all_used (drop l.mention-index l.mentions)))

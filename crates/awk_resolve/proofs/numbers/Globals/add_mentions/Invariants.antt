use Rattle.std.proofs.Common.{◌≡◌, drop}
use Rattle.awk_resolve.specs.Numbering as spec
use Rattle.awk_resolve.proofs.numbers.Globals.add_mentions.Given as goal

abbrev pub invariant-loop-mention : goal.invariant-loop-mention
invariant-loop-mention l =
    spec.with_mentions l.within.role.now l.mentions (spec.beside l.within.functions.now l.initial.self)
    ≡ spec.with_mentions l.within.role.now (drop l.mention-index l.mentions) (spec.beside l.within.functions.now l.self)

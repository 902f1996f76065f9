use Rattle.std.proofs.Common.{◌≡◌, ◌++◌, drop}
use Rattle.awk_resolve.specs.Uses as spec
use Rattle.awk_resolve.proofs.uses.parts.Given as goal

abbrev pub invariant-loop-part : goal.invariant-loop-part
invariant-loop-part l = l.initial.out ++ spec.parts l.numbers l.parts ≡ l.out ++ spec.parts l.numbers
    (drop l.part-index l.parts)

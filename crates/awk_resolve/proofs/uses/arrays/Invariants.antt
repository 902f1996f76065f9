use Rattle.std.proofs.Common.{◌≡◌, ◌++◌, drop}
use Rattle.awk_resolve.specs.Uses as spec
use Rattle.awk_resolve.proofs.uses.arrays.Given as goal

abbrev pub invariant-loop-one : goal.invariant-loop-one
invariant-loop-one l = spec.arrays l.uses ≡ l.numbers ++ spec.arrays (drop l.one-index l.uses)

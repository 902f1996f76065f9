use Rattle.std.proofs.Common.{Contains}
use Rattle.awk_ere.specs.Table.{steps_of, AreFlags}
use Rattle.awk_ere.proofs.states.accepting.Given as goal

abbrev pub invariant-loop-at : goal.invariant-loop-at
invariant-loop-at l = AreFlags (λ q. Contains (steps_of l.lists q) 0) l.at l.flags.items

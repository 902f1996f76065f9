use Rattle.std.proofs.Common.{◌≡◌, ◌++◌}
use Rattle.box_policy.specs.NamesLeft.{names_left}
use Rattle.box_policy.proofs.path.collected.Given as goal

-- what was collected, and then what is left, is the whole
abbrev pub invariant-loop-name : goal.invariant-loop-name
invariant-loop-name l = l.components.items ++ names_left l.names ≡ names_left l.fn.names

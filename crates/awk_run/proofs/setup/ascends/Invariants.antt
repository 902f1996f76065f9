use Rattle.std.proofs.Common.{◌≡◌, ◌-◌, drop}
use Rattle.awk_run.specs.SetupParts.{ascends}
use Rattle.awk_run.proofs.setup.ascends.Given as goal

-- whether all ascend is decided by those that are left, with the one before them
abbrev pub invariant-loop-i : goal.invariant-loop-i
invariant-loop-i l = ascends (drop (l.i - 1) l.names) ≡ ascends l.names

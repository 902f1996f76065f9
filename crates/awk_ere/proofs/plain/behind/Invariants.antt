use Rattle.std.proofs.Common.{◌+◌}
use Rattle.awk_ere.specs.Program.{holds}
use Rattle.awk_ere.specs.Table.{AreFlags}
use Rattle.awk_ere.proofs.Images.{Behind}
use Rattle.awk_ere.proofs.plain.behind.Given as goal

abbrev pub invariant-loop-at : goal.invariant-loop-at
invariant-loop-at l = AreFlags (Behind (holds l.sets l.class) l.text l.from) (l.at + 1) l.to.items

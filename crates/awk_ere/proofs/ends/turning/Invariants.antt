use Rattle.std.proofs.Common.{ℕ, Bool, ◌<◌}
use Rattle.std.specs.List.{Contains}
use Rattle.awk_ere.specs.Program.{Skips}
use Rattle.awk_ere.proofs.ends.turning.Given as goal

abbrev pub invariant-loop-at : goal.invariant-loop-at
invariant-loop-at l = (first last : Bool) (q r : ℕ) → q < l.at → Skips l.program first last q r
    → Contains l.steps.items q

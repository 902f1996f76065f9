use Rattle.std.proofs.Common.{◌≡◌, ◌≤◌, drop, length, map}
use Rattle.awk_resolve.specs.Assigns.{can_assign}
use Rattle.awk_run.specs.Hosting.{with_variables}
use Rattle.awk_run.proofs.hosting.add_variables.Given as goal

abbrev pub invariant-loop-i : goal.invariant-loop-i
invariant-loop-i l =
    (with_variables (can_assign l.script.kinds) 0 (map (λ n. n.text) l.variables) l.fn.host ≡ with_variables
    (can_assign l.script.kinds) l.i (map (λ n. n.text) (drop l.i l.variables)) l.host)
    × (l.i ≤ length l.variables)

use Rattle.std.proofs.Common.{◌≡◌, drop, map}
use Rattle.awk_run.specs.Hosting.{with_functions}
use Rattle.awk_run.proofs.hosting.add_functions.Given as goal

abbrev pub invariant-loop-function : goal.invariant-loop-function
invariant-loop-function l = with_functions (map (λ f. f.name) l.functions) l.fn.host ≡ with_functions
    (map (λ f. f.name) (drop l.function-index l.functions)) l.host

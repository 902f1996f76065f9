use Rattle.std.proofs.Common.{◌≡◌, ◌++◌, drop, map}
use Rattle.awk_resolve.proofs.variables.push_all.Given as goal

abbrev pub invariant-loop-text : goal.invariant-loop-text
invariant-loop-text l = l.initial.out ++ map (λ w. w.now) l.texts ≡ l.out ++ map (λ w. w.now)
    (drop l.text-index l.texts)

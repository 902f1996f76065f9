use Rattle.std.proofs.Common.{◌≡◌, ◌++◌, drop, map}
use Rattle.awk_hints.specs.Hints.{hint_of}
use Rattle.awk_hints.proofs.telling.push_hints.Given as goal

abbrev pub invariant-loop-kind : goal.invariant-loop-kind
invariant-loop-kind l = l.initial.out.items ++ map (hint_of l.token) l.kinds ≡ l.out.items ++ map (hint_of l.token)
    (drop l.kind-index l.kinds)

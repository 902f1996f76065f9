use Rattle.std.proofs.Common.{◌≡◌, drop, codes}
use Rattle.std.specs.List.{list_any}
use Rattle.awk_resolve.specs.Faults as spec
use Rattle.awk_resolve.proofs.requests.has_argument.Given as goal

abbrev pub invariant-loop-name : goal.invariant-loop-name
invariant-loop-name l = list_any (spec.is_argument (codes "ENVIRON")) l.names
    ≡ list_any (spec.is_argument (codes "ENVIRON")) (drop l.name-index l.names)

use Rattle.std.proofs.Common.{◌≡◌, drop}
use Rattle.awk_resolve.specs.Faults as spec
use Rattle.awk_resolve.proofs.requests.names_environ.Given as goal

abbrev pub invariant-loop-part : goal.invariant-loop-part
invariant-loop-part l = spec.names_environ l.parts ≡ spec.names_environ (drop l.part-index l.parts)

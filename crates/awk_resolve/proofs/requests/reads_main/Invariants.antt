use Rattle.std.proofs.Common.{◌≡◌, drop}
use Rattle.awk_resolve.specs.Faults as spec
use Rattle.awk_resolve.proofs.requests.reads_main.Given as goal

abbrev pub invariant-loop-part : goal.invariant-loop-part
invariant-loop-part l = spec.reads_main l.parts ≡ spec.reads_main (drop l.part-index l.parts)

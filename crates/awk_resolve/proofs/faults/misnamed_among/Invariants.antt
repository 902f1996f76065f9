use Rattle.std.proofs.Common.{None, take}
use Rattle.awk_resolve.specs.Search.{Finds, OneAfter, ParameterAt}
use Rattle.awk_resolve.proofs.Naming.{Saw}
use Rattle.awk_resolve.proofs.faults.misnamed_among.Given as goal

abbrev pub invariant-loop-param : goal.invariant-loop-param
invariant-loop-param l = record {
  saw : Saw (take l.param-index l.params) l.seen;
  none : Finds (OneAfter (ParameterAt l.known) (take l.param-index l.params)) None;
}

use Rattle.std.proofs.Common.{None, take}
use Rattle.awk_resolve.specs.Search.{Finds, Knows, OneAfter, TwiceAt}
use Rattle.awk_resolve.proofs.faults.add_all.Given as goal

abbrev pub invariant-loop-part : goal.invariant-loop-part
invariant-loop-part l = record {
  knows : Knows (take l.part-index l.parts) l.known;
  none : Finds (OneAfter TwiceAt (take l.part-index l.parts)) None;
}

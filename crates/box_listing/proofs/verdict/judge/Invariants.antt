use Rattle.std.proofs.Common.{◌≡◌, filter}
use Rattle.box_listing.specs.Verdicts as spec
use Rattle.box_listing.proofs.verdict.judge.Given as goal

abbrev pub invariant-loop-site : goal.invariant-loop-site
invariant-loop-site l = record {
  denied : l.denied.items ≡ filter (spec.is_denied l.policy) l.yielded;
  undecided : l.undecided.items ≡ filter (spec.is_open l.policy) l.yielded;
}

use Rattle.std.proofs.Common.{◌≡◌, drop}
use Rattle.awk_resolve.specs.Uses as spec
use Rattle.awk_resolve.proofs.uses.link_measured.Given as goal

abbrev pub invariant-loop-one : goal.invariant-loop-one
invariant-loop-one l = spec.with_back_links l.measured l.uses l.initial.table.items ≡ spec.with_back_links l.measured
    (drop l.one-index l.uses) l.table.items

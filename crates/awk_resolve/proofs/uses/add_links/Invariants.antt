use Rattle.std.proofs.Common.{◌≡◌, drop}
use Rattle.awk_resolve.specs.Uses as spec
use Rattle.awk_resolve.proofs.uses.add_links.Given as goal

abbrev pub invariant-loop-one : goal.invariant-loop-one
invariant-loop-one l = spec.linked l.uses l.initial.table.items ≡ spec.linked (drop l.one-index l.uses) l.table.items

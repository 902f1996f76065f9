use Rattle.std.proofs.Common.{◌≡◌, ◌++◌, drop}
use Rattle.awk_tree.specs.Canon as spec
use Rattle.awk_canon.proofs.items.names.Given as goal

abbrev pub invariant-loop-name : goal.invariant-loop-name
invariant-loop-name l = l.initial.out.items ++ spec.canon_names l.ns ≡ l.out.items ++ spec.canon_names
    (drop l.name-index l.ns)

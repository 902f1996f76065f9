use Rattle.std.proofs.Common.{◌≡◌, ◌++◌, drop, map}
use Rattle.awk_tree.specs.Tree.{trees_of}
use Rattle.awk_tree.specs.View.{view}
use Rattle.awk_resolve.specs.Mentions as spec
use Rattle.awk_resolve.proofs.expressions.bares.Given as goal

abbrev pub invariant-loop-e : goal.invariant-loop-e
invariant-loop-e l = spec.bares (trees_of (map view l.args)) ≡ l.names
    ++ spec.bares (trees_of (map view (drop l.e-index l.args)))

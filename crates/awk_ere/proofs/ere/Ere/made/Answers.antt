use Rattle.awk_ere.proofs.Machines.{machine_same}
use Rattle.awk_ere.proofs.ere.Ere.made.Goals as goal

pub invariant_of-result : goal.invariant_of-result
invariant_of-result c =
    let read = c.in_ok-node.ensures.ok in
    rw c.in_ok-source.ensures.items (
      read.0,
      read.1,
      machine_same _ _ _ _ _ read.2 c.in_ok-matcher.ensures,
      c.in_ok-literal.ensures,
    )

use Rattle.awk_ere.specs.View.{pattern}
use Rattle.awk_ere.proofs.Machines.{machines}
use Rattle.awk_ere.proofs.table.Matcher.new.Goals as goal

pub invariant_of-result : goal.invariant_of-result
invariant_of-result c =
    let compiled = rw (c.in_ok-push.ensures.items, c.new-program.ensures.items) at c.in_ok-entry.ensures in
    let both = machines c.args.sets.items c.args.node.now _ _ _ _ compiled c.in_ok-scan.ensures in (
      pattern c.args.sets.items c.args.node.now,
      record {
        machine = both.0;
        scanner = both.1;
        built =
            rw (c.deref.ensures.value, c.deref-2.ensures.value) at c.in_ok-table.ensures;
      },
    )

pub returns : goal.returns
returns c =
    let compiled = rw (c.in_ok-push.ensures.items, c.new-program.ensures.items) at c.in_ok-entry.ensures in
    (machines c.args.sets.items c.args.node.now _ _ _ _ compiled c.in_ok-scan.ensures).0

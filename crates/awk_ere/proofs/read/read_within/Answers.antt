use Rattle.std.proofs.Common.{◌≤◌, length, arith}
use Rattle.awk_ere.proofs.Machines.{within}
use Rattle.awk_ere.proofs.read.read_within.Goals as goal

pub returns-clause-ok : goal.returns-clause-ok
returns-clause-ok c =
    let small : c.in_ok-node.field-0.size ≤ 20000 = omega arith in
    let short : length c.args.text.now ≤ 4096 = omega arith in
    within c.args.text.now c.read.new.sets.items c.in_ok-node.field-0 short small c.in_ok-node.ensures.ok

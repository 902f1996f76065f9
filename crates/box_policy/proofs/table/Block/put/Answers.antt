use Rattle.std.proofs.Common.{rules}
use Rattle.box_policy.proofs.TablesLemmas.{adds_byte, adds_open, adds_close, adds_any, adds_run, adds_all}
use Rattle.box_policy.proofs.table.Block.put.Goals as goal

pub returns-in-One-Byte : goal.returns-in-One-Byte
returns-in-One-Byte c = adds_byte c.args.element c.args.mark c.in-One-Byte.byte c.args.self.now (search rules)
    (search rules)

pub returns-in-One-Open : goal.returns-in-One-Open
returns-in-One-Open c = adds_open c.args.element c.args.mark c.args.self.now (search rules)

pub returns-in-One-Close : goal.returns-in-One-Close
returns-in-One-Close c = adds_close c.args.element c.args.mark c.args.self.now (search rules)

pub returns-in-Any : goal.returns-in-Any
returns-in-Any c = adds_any c.args.element c.args.mark c.args.self.now (search rules)

pub returns-in-Run : goal.returns-in-Run
returns-in-Run c = adds_run c.args.element c.args.mark c.args.self.now (search rules)

pub returns-in-All : goal.returns-in-All
returns-in-All c = adds_all c.args.element c.args.mark c.args.self.now (search rules)

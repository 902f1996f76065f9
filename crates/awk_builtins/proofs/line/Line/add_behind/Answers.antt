use Rattle.awk_builtins.proofs.Lines.{next_value}
use Rattle.awk_builtins.proofs.line.Line.add_behind.Goals as goal

pub loop-value-preserved : goal.loop-value-preserved
loop-value-preserved c =
    next_value c.args.separator.now c.args.values.now c.args.self.now c.loop-value.self c.push.new.self c.add.new.self
    c.value-item.result c.loop-value.value-index
    c.value-item.is c.loop-value-test.true c.in_ok-push.ensures c.in_ok-add.ensures c.loop-value.invariant

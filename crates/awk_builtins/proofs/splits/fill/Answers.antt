use Rattle.awk_builtins.proofs.SplitSteps.{fills_result}
use Rattle.awk_builtins.proofs.splits.fill.Goals as goal

pub returns : goal.returns
returns c = λ g t.
    let h = c.fill.ensures.filled in
    rw c.at.ensures (fills_result g (c.args.store.now, t) c.args.array c.args.at_name c.args.parts.items c.fill.result
    c.fill.new.self h.0 h.3 h.1 c.fill.ensures.count h.2)

use Rattle.awk_store.proofs.CallSteps.{begins_result}
use Rattle.awk_store.proofs.frames.enter.Goals as goal

pub returns : goal.returns
returns c = λ g t n xs vs are hold.
    rw c.at.ensures (begins_result g (c.args.store.now, t) c.args.place n xs vs c.args.given.items c.args.others.now are
    hold c.enter.result c.enter.new.self
    c.enter.ensures.depth c.enter.ensures.caller c.enter.ensures.ok c.enter.ensures.err c.enter.ensures.fault)

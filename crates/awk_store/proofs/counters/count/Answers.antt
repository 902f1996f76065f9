use Rattle.awk_store.proofs.OwnSteps.{counts_result}
use Rattle.awk_store.proofs.counters.count.Goals as goal

pub returns : goal.returns
returns c = λ g t. rw c.at.ensures (counts_result g (c.args.store.now, t) c.args.place c.args.name c.count.result
    c.count.new.self c.count.ensures.ok c.count.ensures.err)

use Rattle.awk_store.proofs.ArraySteps.{puts_result}
use Rattle.awk_store.proofs.elements.set_element.Goals as goal

pub returns : goal.returns
returns c = λ g t place. rw c.at.ensures (puts_result g (c.args.store.now, t) c.args.array c.args.key.now c.args.at_name
    place c.args.value c.put.result c.put.new.self c.put.ensures.ok c.put.ensures.err)

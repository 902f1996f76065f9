use Rattle.awk_builtins.proofs.Subscripts.{deletes_there}
use Rattle.awk_builtins.proofs.at_hand.elements.removed_at_hand.Goals as goal

pub returns-clause-done : goal.returns-clause-done
returns-clause-done c = λ yes g t place.
    let key = c.in-Some.ensures in
    deletes_there g c.args.store.now t place c.args.array c.args.keys.now key.vals c.in-Some.key.now c.remove.new.self
    key.there key.is c.remove.ensures

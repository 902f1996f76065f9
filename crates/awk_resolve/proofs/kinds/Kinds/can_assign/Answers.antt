use Rattle.awk_resolve.proofs.Assigning.{may_assign}
use Rattle.awk_resolve.proofs.kinds.Kinds.can_assign.Goals as goal

pub returns : goal.returns
returns c = λ parts kinds. rw c.may_assign.ensures (may_assign parts c.args.self.now c.args.name.now kinds)

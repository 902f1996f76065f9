use Rattle.awk_resolve.specs.Clash.{OneOf, MentionAt, RoleAt}
use Rattle.awk_resolve.proofs.Clashing.{both_first}
use Rattle.awk_resolve.proofs.kinds.at_part.Goals as goal

pub returns : goal.returns
returns c =
    let mentions = rw c.as_slice.ensures at c.at_mentions-mentions.ensures in
    both_first (RoleAt c.args.sought.now.kinds.now c.args.part.now.role)
    (OneOf (MentionAt c.args.sought.now.kinds.now c.args.part.now.role) c.args.part.now.mentions)
    c.at_role-role.result c.at_mentions-mentions.result c.earlier.result c.at_role-role.ensures mentions
    c.earlier.ensures

use Rattle.std.proofs.Common.{map}
use Rattle.std.proofs.lemmas.Bool.Decides.{same_from_decides}
use Rattle.awk_resolve.proofs.Assigning.{may_assign}
use Rattle.awk_resolve.specs.Assigns.{can_assign}
use Rattle.awk_resolve.specs.Mentions.{part}
use Rattle.awkbox.proofs.accepting.may_set.Goals as goal

pub returns : goal.returns
returns c =
    let (items, grammar, is) = c.requires.1 in
    same_from_decides c.can_assign.result (can_assign c.args.script.now.kinds c.args.name.now)
    (c.can_assign.ensures items is) (may_assign (map part items) c.args.script.now.kinds c.args.name.now is.kinds)

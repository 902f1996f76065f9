use Rattle.std.proofs.Common.{map}
use Rattle.awk_resolve.specs.Mentions.{part}
use Rattle.awk_parse.proofs.script.Script.can_assign.Goals as goal

pub returns : goal.returns
returns c = λ items of. c.can_assign.ensures (map part items) of.kinds

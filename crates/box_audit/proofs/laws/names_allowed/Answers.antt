use Rattle.box_audit.proofs.Named.{names_allowed}
use Rattle.box_audit.proofs.laws.names_allowed.Goals as goal

pub returns : goal.returns
returns g c = names_allowed g.W.World.follows g.W.World.has_stopped g.L.Write.contents

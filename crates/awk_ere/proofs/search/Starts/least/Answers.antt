use Rattle.std.proofs.Common.{◌∙◌}
use Rattle.std.proofs.lemmas.List.{get_or_default}
use Rattle.awk_ere.specs.declared.search.TheConstants.{NONE}
use Rattle.awk_ere.proofs.search.Starts.least.Goals as goal

pub returns : goal.returns
returns c = rw (← c.self.view_is)
    (c.index.ensures ∙ get_or_default c.self.inside.starts.items c.args.at c.index.result.now NONE
    (rw (← c.self.view_is) at c.requires))

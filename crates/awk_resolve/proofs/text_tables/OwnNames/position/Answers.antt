use Rattle.std.proofs.Common.{◌∙◌, sym}
use Rattle.awk_tree.specs.declared.names.Name.{Name}
use Rattle.awk_resolve.proofs.Rolls.{position_named}
use Rattle.awk_resolve.proofs.text_tables.OwnNames.position.Goals as goal

pub returns-in-None : goal.returns-in-None
returns-in-None c = rw (← c.self.view_is)
    (c.among.ensures ∙ sym (position_named (λ (n : Name). n.text) c.args.text.now c.self.inside.names.now))

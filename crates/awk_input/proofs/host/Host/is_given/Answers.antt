use Rattle.std.proofs.Common.{sym, ◌∙◌}
use Rattle.awk_input.proofs.Hosting.{any_named}
use Rattle.awk_input.proofs.host.Host.is_given.Goals as goal

pub returns : goal.returns
returns c = rw (← c.self.view_is)
    (c.contains.ensures ∙ sym (any_named (λ k. k.items) c.args.text.now c.self.inside.words.keys))

use Rattle.std.proofs.Common.{sym, ap, ◌∙◌}
use Rattle.std.specs.Option.{option_copied}
use Rattle.awk_input.proofs.Hosting.{lookup_named}
use Rattle.awk_input.proofs.host.Host.use_of.Goals as goal

pub returns-in-Some : goal.returns-in-Some
returns-in-Some c = rw (← c.self.view_is) (sym (lookup_named (λ k. k.items) c.args.name.now c.self.inside.names.entries
    ∙ sym c.get.ensures.value ∙ ap option_copied c.in-Some.is))

pub returns-in-None : goal.returns-in-None
returns-in-None c = rw (← c.self.view_is) (sym (lookup_named (λ k. k.items) c.args.name.now c.self.inside.names.entries
    ∙ sym c.get.ensures.value ∙ ap option_copied c.in-None.is))

use Rattle.std.proofs.Common.{sym, ap, ◌∙◌}
use Rattle.std.specs.Prelude.{option_copied}
use Rattle.awk_store.proofs.Framing.{function_none}
use Rattle.awk_store.proofs.frames.body_of.Goals as goal

pub returns-in-None : goal.returns-in-None
returns-in-None c = sym
    (ap (λ f. f.body) (function_none c.args.program.now c.args.f (sym c.get.ensures.value
    ∙ ap option_copied c.in-None.is)))

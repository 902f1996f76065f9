use Rattle.std.proofs.Common.{sym, ap, ◌∙◌}
use Rattle.std.specs.Str.{bytes_eq}
use Rattle.std.specs.Option.{option_copied}
use Rattle.awk_builtins.proofs.Cached.{is_found, same_text}
use Rattle.awk_builtins.proofs.cache.cached.Goals as goal

pub returns-in-Ok-clause-found : goal.returns-in-Ok-clause-found
returns-in-Ok-clause-found c =
    let p = is_found (λ k. k.items) (λ e. e.value) (λ k. bytes_eq c.args.source.now k.items)
    c.note_use.new.cache.entries c.args.source.now c.in_ok-kept.kept.now c.note_use.ensures
    (λ k. same_text c.args.source.now k.items)
    (sym c.peek.ensures ∙ ap option_copied c.in_ok-kept.was) in
    (c.in-Ok.ensures.cases ∙ p.0, p.1)

use Rattle.std.proofs.Common.{sym, ap, subst}
use Rattle.std.specs.Str.{bytes_eq}
use Rattle.awk_builtins.specs.Cached.{AreEres}
use Rattle.awk_builtins.proofs.Cached.{after_promote}
use Rattle.awk_builtins.proofs.cache.note_use.Goals as goal

pub returns-then-len-eq-MOST_KEPT : goal.returns-then-len-eq-MOST_KEPT
returns-then-len-eq-MOST_KEPT c =
    subst (AreEres (λ k. k.items) (λ e. e.value)) (sym (ap (λ x. x.entries) c.promote.ensures.entries))
    (after_promote (λ k. k.items) (λ e. e.value) (λ k. bytes_eq c.args.source.now k.items) c.args.cache.now.entries
    c.requires)

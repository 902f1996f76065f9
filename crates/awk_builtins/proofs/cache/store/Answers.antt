use Rattle.std.proofs.Common.{◌≡◌, sym, ap, subst, ◌∙◌}
use Rattle.std.specs.Str.{bytes_eq}
use Rattle.awk_fields.specs.Separators.{IsEre}
use Rattle.awk_builtins.specs.Cached.{AreEres}
use Rattle.awk_builtins.proofs.Cached.{after_put, same_text}
use Rattle.awk_builtins.proofs.cache.store.Goals as goal

pub returns-in_err-put : goal.returns-in_err-put
returns-in_err-put c =
    subst (AreEres (λ k. k.items) (λ e. e.value)) (sym (ap (λ x. x.entries) c.in_err-put.ensures.err)) c.requires.cached

pub returns : goal.returns
returns c =
    let key = c.in_ok-key.key in
    let key_is : key.items ≡ c.args.source.now = c.in_ok-key.ensures.items in
    subst (AreEres (λ k. k.items) (λ e. e.value)) (sym (ap (λ x. x.entries) c.in_ok-put.ensures.entries))
    (after_put (λ k. k.items) (λ e. e.value) (λ j k. bytes_eq j.items k.items) c.args.cache.now key
    c.in_ok-shared.shared c.requires.cached
    (λ j. same_text key.items j.items) (c.in_ok-shared.ensures.cases ∙ c.requires.same ∙ sym key_is)
    (subst IsEre (sym key_is) c.requires.ere))

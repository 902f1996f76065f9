use Rattle.std.proofs.Common.{refl, subst, sym, ◌∙◌}
use Rattle.std.proofs.lemmas.Result.{err_from_is_err_and}
use Rattle.awk_store.specs.Spots.{meant, value_of}
use Rattle.awk_store.specs.Wholes.{names_in}
use Rattle.awk_store.proofs.Acting.{doing, passes, stop}
use Rattle.std.specs.Prelude.{IfOk, Ok, ◌≡◌}
use Rattle.awk_store.specs.Kept.{by_convfmt}
use Rattle.awk_store.proofs.VariableSteps.{ok_at}
use Rattle.awk_builtins.proofs.Matches.{no_text, reads_old, replaces_in, replaces_lent}
use Rattle.awk_builtins.proofs.replacements.replaced_in.Goals as goal

pub returns-in-Some : goal.returns-in-Some
returns-in-Some c = λ g t x y r pattern to is from h.
    passes (replaces_lent c.args.substitution.place c.args.substitution.extent x y r pattern c.args.substitution.new.now
    (value_of c.args.target.now) (meant (names_in g) c.args.target.now) to c.args.ere.now c.in-Some.old.now is
    (c.in-Some.ensures g t) h)
    (rw c.is_all.ensures at (c.replaced.ensures g (c.args.store.now, t) (meant (names_in g) c.args.target.now)))

pub returns-in_err-old : goal.returns-in_err-old
returns-in_err-old c = λ g t x y r pattern to is from h.
    let e = err_from_is_err_and c.from_residual.result c.from_residual.ensures.1 in
    rw (e.1, e.2) (stop _ (reads_old c.args.substitution.place c.args.substitution.extent x y r pattern
    c.args.substitution.new.now (value_of c.args.target.now) (meant (names_in g) c.args.target.now) to h)
    (c.read.ensures g t) c.in_err-old.was)

pub returns-in_err-shown : goal.returns-in_err-shown
returns-in_err-shown c = λ g t x y r pattern to is from h.
    let e = err_from_is_err_and c.from_residual-in_err-shown.result c.from_residual-in_err-shown.ensures.1 in
    rw (e.1, e.2) (stop _
    (doing c.in_ok-old.old (reads_old c.args.substitution.place c.args.substitution.extent x y r pattern
    c.args.substitution.new.now (value_of c.args.target.now) (meant (names_in g) c.args.target.now) to h)
    (c.read.ensures g t) c.in_ok-old.was)
    (no_text c.args.substitution.place c.args.substitution.extent x y r pattern c.args.substitution.new.now
    (value_of c.args.target.now) {A = Unit {0}} {on = λ u k. k} {mid = (c.read.new.store, t)} c.in_ok-old.old
    c.as_text.result c.in_err-shown.field-0.0 c.as_text.ensures.err (sym c.at.ensures ∙ c.in_err-shown.was)) refl)

pub returns : goal.returns
returns c = λ g t x y r pattern to is from h.
    let made : by_convfmt c.read.new.store c.in_ok-old.old ≡ Ok c.in_ok-shown.shown =
    subst (λ m. IfOk m (λ z. by_convfmt c.read.new.store c.in_ok-old.old ≡ Ok z))
    (ok_at c.args.substitution.place c.as_text.result c.in_ok-shown.shown (sym c.at.ensures ∙ c.in_ok-shown.was))
    c.as_text.ensures.ok in
    passes (replaces_in c.args.substitution.place c.args.substitution.extent x y r pattern c.args.substitution.new.now
    (value_of c.args.target.now) (meant (names_in g) c.args.target.now) to c.in_ok-old.old c.in_ok-shown.shown
    c.args.ere.now _ made is refl
    (doing c.in_ok-old.old (reads_old c.args.substitution.place c.args.substitution.extent x y r pattern
    c.args.substitution.new.now (value_of c.args.target.now) (meant (names_in g) c.args.target.now) to h)
    (c.read.ensures g t) c.in_ok-old.was))
    (rw (c.is_all-2.ensures, c.text_in.ensures) at (c.replaced-2.ensures g (c.read.new.store, t)
    (meant (names_in g) c.args.target.now)))

use Rattle.std.proofs.Common.{◌≡◌, ap, ◌∙◌}
use Rattle.std.proofs.lemmas.Result.{err_from_is_err_and}
use Rattle.awk_store.specs.Kept.{Kept}
use Rattle.awk_store.proofs.Acting.{doing, passes, stop}
use Rattle.awk_builtins.proofs.SearchSteps.{record_first}
use Rattle.awk_builtins.proofs.patterns.matches_record.Goals as goal

pub returns-in_err-ere : goal.returns-in_err-ere
returns-in_err-ere c = λ g t.
    let e = err_from_is_err_and c.from_residual.result c.from_residual.ensures.1 in
    rw (e.1, e.2) (stop _ (record_first g (c.args.store.now, t) c.args.place c.args.source.now)
    (c.check.ensures.check g (c.args.store.now, t)) c.in_err-ere.was)

pub returns : goal.returns
returns c = λ g t.
    let whole : c.in-Some.whole.now ≡ c.args.store.now.row.whole = c.in-Some.ensures
    ∙ ap (λ (kept : Kept). kept.row.whole) c.rebuild.ensures in
    rw c.rebuild.ensures (passes
    (doing c.in_ok-ere.ere (record_first g (c.args.store.now, t) c.args.place c.args.source.now)
    (c.check.ensures.check g (c.args.store.now, t)) c.in_ok-ere.was)
    (rw (whole, c.deref.ensures, c.in_ok-ere.ensures.ere.0) at (c.matches.ensures g (c.args.store.now, t))))

use Rattle.std.proofs.Common.{refl, sym, ◌∙◌}
use Rattle.std.proofs.lemmas.Result.{err_from_is_err_and}
use Rattle.awk_store.proofs.Acting.{lacking}
use Rattle.awk_input.proofs.RangeSteps.{stays_off, turns_so}
use Rattle.awk_input.proofs.ranges.begin_range.Goals as goal

pub returns-then-not-holds : goal.returns-then-not-holds
returns-then-not-holds c = λ g t x y z v is so. stays_off g (c.args.store.now, t) c.args.rule x y z is v c.requires
    (sym so ∙ c.if-not-holds.true)

pub returns : goal.returns
returns c = λ g t x y z v is so. turns_so g (c.args.store.now, t) c.args.rule x y z is v c.set_on.new.self c.requires
    (sym so ∙ c.if-not-holds.false) c.in_ok-set_on.ensures.ok

pub returns-in_err-set_on : goal.returns-in_err-set_on
returns-in_err-set_on c = λ g t x y z v is so.
    let e = err_from_is_err_and c.from_residual.result c.from_residual.ensures.1 in
    rw (e.1, e.2, c.in_err-set_on.ensures.err) (lacking refl)

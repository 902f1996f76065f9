use Rattle.std.proofs.lemmas.Result.{err_from_is_err_and}
use Rattle.std.proofs.Common.{[], ◌∷◌}
use Rattle.awk_program.specs.Slots.{name_of}
use Rattle.awk_program.specs.declared.variables.Own.TheVariants as own
use Rattle.awk_input.proofs.GotSteps.{counts_last, counts_next, counts_not}
use Rattle.awk_input.proofs.counted.count_both.Goals as goal

pub returns-in_err-count : goal.returns-in_err-count
returns-in_err-count c =
    let e = err_from_is_err_and c.from_residual.result c.from_residual.ensures.1 in
    rw (e.1, e.2) (λ g t p old to h. counts_not g p old (c.args.store.now, t) (c.count.new.store, t) c.args.place to
    (name_of own.Nr) (name_of own.Fnr ∷ []) h c.count.result _ (c.count.ensures g t) c.in_err-count.was)

pub returns : goal.returns
returns c = λ g t p old to h.
    counts_last g p old (c.count.new.store, t) (c.count-2.new.store, t) c.args.place to (name_of own.Fnr)
    (counts_next g p old (c.args.store.now, t) (c.count.new.store, t) c.args.place to (name_of own.Nr)
    (name_of own.Fnr ∷ []) h c.count.result (c.count.ensures g t) c.in_ok-count.was) c.count-2.result
    (c.count-2.ensures g t)

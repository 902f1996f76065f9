use Rattle.std.proofs.Common.{refl, ◌∷◌}
use Rattle.std.proofs.lemmas.Result.{err_from_is_err_and}
use Rattle.awk_text.specs.declared.value.Value.TheVariants as v
use Rattle.awk_machine.specs.Pieces.{At, Records}
use Rattle.awk_store.proofs.Acting.{doing, stop}
use Rattle.awk_input.specs.Inputs.{counted_on}
use Rattle.awk_input.proofs.GotSteps.{counts_so}
use Rattle.awk_input.proofs.MainSteps.{record_first}
use Rattle.awk_input.proofs.main_input.begin_record.Goals as goal

pub returns-in_err-set_record : goal.returns-in_err-set_record
returns-in_err-set_record c =
    let e = err_from_is_err_and c.from_residual.result c.from_residual.ensures.1 in
    rw (e.1, e.2) (λ g t vs. stop _ (record_first g c.args.text vs (c.args.store.now, t))
    (c.set_record.ensures g t (v.Input c.args.text) (v.Input c.args.text) refl refl) c.in_err-set_record.was)

pub returns : goal.returns
returns c = λ g t vs.
    let set = doing tt (record_first g c.args.text vs (c.args.store.now, t))
    (c.set_record.ensures g t (v.Input c.args.text) (v.Input c.args.text) refl refl) c.in_ok-set_record.was in
    counts_so g (At Records (v.Input c.args.text ∷ vs)) (c.args.store.now, t) (c.count_both.new.store, t) (counted_on g)
    c.count_both.result
    (c.count_both.ensures g t (At Records (v.Input c.args.text ∷ vs)) (c.args.store.now, t) (counted_on g (tt {0})) set)

use Rattle.std.proofs.Common.{refl, ap, ◌∙◌, false, []}
use Rattle.std.specs.Prelude.{Ok}
use Rattle.std.proofs.lemmas.Result.{err_from_is_err_and}
use Rattle.awk_text.specs.declared.value.Value.TheVariants as v
use Rattle.awk_streams.proofs.Chain.{part}
use Rattle.awk_store.proofs.Acting.{acted}
use Rattle.awk_input.proofs.MainSteps.{done_in, no_record_meets, records_first, stop_acts, stop_in}
use Rattle.awk_input.proofs.main_input.next_any.Goals as goal

pub returns-in_err-text-clause-task : goal.returns-in_err-text-clause-task
returns-in_err-text-clause-task g c =
    let e = err_from_is_err_and c.from_residual.result c.from_residual.ensures.1 in
    rw (e.1, e.2) (λ m h. stop_in _ (records_first m (c.args.store.now, c.args.streams.now) c.args.world.now)
    (c.in_err-text.ensures.task m h) refl)

pub returns-in_err-begin_record-in-Input-clause-task : goal.returns-in_err-begin_record-in-Input-clause-task
returns-in_err-begin_record-in-Input-clause-task g c =
    let e = err_from_is_err_and c.from_residual-in_err-begin_record-in-Input.result
    c.from_residual-in_err-begin_record-in-Input.ensures.1 in
    rw (e.1, e.2) (λ m h. stop_acts _
    (part (v.Input c.in-Input.text) (records_first m (c.args.store.now, c.args.streams.now) c.args.world.now)
    (c.take_on.ensures.task m h) (c.in_ok-text.was ∙ ap (λ x. Ok x) c.in-Input.is))
    (c.begin_record.ensures m c.take_on.new.streams []) c.in_err-begin_record-in-Input.was)

pub returns-in-Input-clause-task : goal.returns-in-Input-clause-task
returns-in-Input-clause-task g c = λ m h.
    done_in (part tt (part (v.Input c.in-Input.text) (records_first m (c.args.store.now, c.args.streams.now)
    c.args.world.now) (c.take_on.ensures.task m h) (c.in_ok-text.was ∙ ap (λ x. Ok x) c.in-Input.is))
    (acted (c.begin_record.ensures m c.take_on.new.streams [])) c.in_ok-begin_record-in-Input.was)

pub returns : goal.returns
returns g c = record {
  task = λ m h. done_in
      (part false (part c.in_ok-text.field-0 (records_first m (c.args.store.now, c.args.streams.now) c.args.world.now)
      (c.take_on.ensures.task m h) c.in_ok-text.was)
      (no_record_meets m c.in_ok-text.field-0 (c.take_on.new.store, c.take_on.new.streams) c.take_on.new.world
      c.in_default.not-Input) refl);
  owns = c.take_on.ensures.owns;
}

use Rattle.std.proofs.Common.{refl, ap, ◌∙◌}
use Rattle.std.specs.Prelude.{Ok}
use Rattle.std.proofs.lemmas.Result.{err_from_is_err_and}
use Rattle.awk_streams.specs.declared.getline.NextRecord.TheVariants as found
use Rattle.awk_machine.specs.Pieces.{Do, Take}
use Rattle.awk_streams.proofs.Chain.{at_once, done, part, stop}
use Rattle.awk_store.proofs.Acting.{acted}
use Rattle.awk_input.proofs.MainSteps.{halts_whole, passes_standard}
use Rattle.awk_input.proofs.main_input.take_standard.Goals as goal

pub returns-in_err-text-clause-task : goal.returns-in_err-text-clause-task
returns-in_err-text-clause-task g c =
    let p = err_from_is_err_and c.from_residual.result c.from_residual.ensures.1 in
    rw (p.1, p.2) (λ m. stop _ (λ k. refl) (at_once _ (c.args.store.now, c.args.streams.now) c.args.world.now)
    (c.in_err-text.ensures.task m) refl)

pub returns-in-Record-clause-task : goal.returns-in-Record-clause-task
returns-in-Record-clause-task g c = λ m.
    done (part (found.Record c.in-Record.text) (at_once _ (c.args.store.now, c.args.streams.now) c.args.world.now)
    (c.read_standard.ensures.task m) (c.in_ok-text.was ∙ ap (λ x. Ok x) c.in-Record.is))

pub returns-in-End-clause-task : goal.returns-in-End-clause-task
returns-in-End-clause-task g c = λ m.
    done (part tt (part found.End (at_once _ (c.args.store.now, c.args.streams.now) c.args.world.now)
    (c.read_standard.ensures.task m) (c.in_ok-text.was ∙ ap (λ x. Ok x) c.in-End.is))
    (acted (passes_standard m (c.args.store.now, c.read_standard.new.streams) c.pass_standard.new.store
    c.pass_standard.ensures)) refl)

pub give_up-requires-clause-open : goal.give_up-requires-clause-open
give_up-requires-clause-open g c = rw c.in-Failed.is at c.in_ok-text.ensures.failed

pub returns-in_err-give_up-in-Failed-clause-task : goal.returns-in_err-give_up-in-Failed-clause-task
returns-in_err-give_up-in-Failed-clause-task g c =
    let p = err_from_is_err_and c.from_residual-in_err-give_up-in-Failed.result
    c.from_residual-in_err-give_up-in-Failed.ensures.1 in
    rw (p.1, p.2) (λ m. halts_whole m (Do Take) (c.args.store.now, c.args.streams.now) (
      c.give_up.new.store,
      c.give_up.new.streams,
    ) c.args.world.now c.give_up.new.world _
    (c.in_err-give_up-in-Failed.ensures.task m (Do Take) (c.args.store.now, c.args.streams.now) c.args.world.now
    (part found.Failed (at_once _ (c.args.store.now, c.args.streams.now) c.args.world.now)
    (c.read_standard.ensures.task m) (c.in_ok-text.was ∙ ap (λ x. Ok x) c.in-Failed.is))))

pub returns-in_ok-give_up-in-Failed-clause-task : goal.returns-in_ok-give_up-in-Failed-clause-task
returns-in_ok-give_up-in-Failed-clause-task g c = λ m.
    done (c.in_ok-give_up-in-Failed.ensures.task m (Do Take) (c.args.store.now, c.args.streams.now) c.args.world.now
    (part found.Failed (at_once _ (c.args.store.now, c.args.streams.now) c.args.world.now)
    (c.read_standard.ensures.task m) (c.in_ok-text.was ∙ ap (λ x. Ok x) c.in-Failed.is)))

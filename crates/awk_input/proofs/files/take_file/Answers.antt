use Rattle.std.proofs.Common.{refl, ap, ◌∙◌, ◌∷◌}
use Rattle.std.specs.Prelude.{Ok}
use Rattle.std.proofs.lemmas.Result.{err_from_is_err_and}
use Rattle.box_world.specs.Events.{OperandFile, Named}
use Rattle.awk_streams.specs.declared.getline.NextRecord.TheVariants as found
use Rattle.awk_machine.specs.Pieces.{Do, Take}
use Rattle.awk_streams.proofs.Chain.{at_once, done, part, stop, turned}
use Rattle.awk_input.specs.Inputs.{found_main}
use Rattle.awk_input.proofs.FileSteps.{but_itself, current_is}
use Rattle.awk_input.proofs.MainSteps.{halts_whole}
use Rattle.awk_input.proofs.files.take_file.Goals as goal

pub returns-in_err-text-clause-task : goal.returns-in_err-text-clause-task
returns-in_err-text-clause-task g c =
    let p = err_from_is_err_and c.from_residual.result c.from_residual.ensures.1 in
    rw (p.1, p.2) (λ m e. stop _ (λ k. refl) (at_once _ (c.args.store.now, c.args.streams.now) c.args.world.now)
    (c.in_err-text.ensures.task m e) refl)

pub returns-in-Record-clause-task : goal.returns-in-Record-clause-task
returns-in-Record-clause-task g c = λ m e.
    done (part (found.Record c.in-Record.text) (at_once _ (c.args.store.now, c.args.streams.now) c.args.world.now)
    (c.read_file.ensures.task m e) (c.in_ok-text.was ∙ ap (λ x. Ok x) c.in-Record.is))

pub returns-in_err-pass_file-in-End-clause-task : goal.returns-in_err-pass_file-in-End-clause-task
returns-in_err-pass_file-in-End-clause-task g c =
    let p = err_from_is_err_and c.from_residual-in_err-pass_file-in-End.result
    c.from_residual-in_err-pass_file-in-End.ensures.1 in
    rw (p.1, p.2) (λ m e.
    let t = c.in_ok-text.ensures.current in
    let lead = turned (part found.End (at_once (Do Take) (c.args.store.now, c.args.streams.now) c.args.world.now)
    (c.read_file.ensures.task m e) (c.in_ok-text.was ∙ ap (λ x. Ok x) c.in-End.is))
    (λ k. ap (λ key. found_main key found.End k) (current_is c.args.store.now (Named OperandFile t.0) t.1)) in
    halts_whole m (Do Take) (c.args.store.now, c.args.streams.now) (c.pass_file.new.store, c.pass_file.new.streams)
    c.args.world.now c.pass_file.new.world _
    (c.in_err-pass_file-in-End.ensures.task m t.0 t.1 c.read_file.new.streams
    (but_itself OperandFile t.0 c.read_file.new.streams) (λ k. Do Take ∷ k) (Do Take) (
      c.args.store.now,
      c.args.streams.now,
    ) c.args.world.now lead))

pub returns-in_ok-pass_file-in-End-clause-task : goal.returns-in_ok-pass_file-in-End-clause-task
returns-in_ok-pass_file-in-End-clause-task g c = λ m e.
    let t = c.in_ok-text.ensures.current in
    let lead = turned (part found.End (at_once (Do Take) (c.args.store.now, c.args.streams.now) c.args.world.now)
    (c.read_file.ensures.task m e) (c.in_ok-text.was ∙ ap (λ x. Ok x) c.in-End.is))
    (λ k. ap (λ key. found_main key found.End k) (current_is c.args.store.now (Named OperandFile t.0) t.1)) in
    done (c.in_ok-pass_file-in-End.ensures.task m t.0 t.1 c.read_file.new.streams
    (but_itself OperandFile t.0 c.read_file.new.streams) (λ k. Do Take ∷ k) (Do Take) (
      c.args.store.now,
      c.args.streams.now,
    ) c.args.world.now lead)

pub returns-in_err-give_up_file-in-Failed-clause-task : goal.returns-in_err-give_up_file-in-Failed-clause-task
returns-in_err-give_up_file-in-Failed-clause-task g c =
    let p = err_from_is_err_and c.from_residual-in_err-give_up_file-in-Failed.result
    c.from_residual-in_err-give_up_file-in-Failed.ensures.1 in
    rw (p.1, p.2) (λ m e.
    let t = c.in_ok-text.ensures.current in
    let lead = turned (part found.Failed (at_once (Do Take) (c.args.store.now, c.args.streams.now) c.args.world.now)
    (c.read_file.ensures.task m e) (c.in_ok-text.was ∙ ap (λ x. Ok x) c.in-Failed.is))
    (λ k. ap (λ key. found_main key found.Failed k) (current_is c.args.store.now (Named OperandFile t.0) t.1)) in
    halts_whole m (Do Take) (c.args.store.now, c.args.streams.now) (
      c.give_up_file.new.store,
      c.give_up_file.new.streams,
    ) c.args.world.now c.give_up_file.new.world _
    (c.in_err-give_up_file-in-Failed.ensures.task m t.0 t.1 (Do Take) (c.args.store.now, c.args.streams.now)
    c.args.world.now lead))

pub returns-in_ok-give_up_file-in-Failed-clause-task : goal.returns-in_ok-give_up_file-in-Failed-clause-task
returns-in_ok-give_up_file-in-Failed-clause-task g c = λ m e.
    let t = c.in_ok-text.ensures.current in
    let lead = turned (part found.Failed (at_once (Do Take) (c.args.store.now, c.args.streams.now) c.args.world.now)
    (c.read_file.ensures.task m e) (c.in_ok-text.was ∙ ap (λ x. Ok x) c.in-Failed.is))
    (λ k. ap (λ key. found_main key found.Failed k) (current_is c.args.store.now (Named OperandFile t.0) t.1)) in
    done (c.in_ok-give_up_file-in-Failed.ensures.task m t.0 t.1 (Do Take) (c.args.store.now, c.args.streams.now)
    c.args.world.now lead)

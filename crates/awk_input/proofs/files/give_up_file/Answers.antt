use Rattle.std.proofs.Common.{refl, ap, ◌∙◌, ◌∷◌}
use Rattle.std.proofs.lemmas.Result.{err_from_is_err_and}
use Rattle.box_world.specs.Events.{OperandFile}
use Rattle.awk_machine.specs.Pieces.{Do, Take}
use Rattle.awk_store.specs.Kept.{Kept}
use Rattle.awk_streams.proofs.Chain.{lacking, part, stop}
use Rattle.awk_store.proofs.Lifting.{lifted}
use Rattle.awk_input.proofs.FileSteps.{but_forgotten, forgets_file, forgotten}
use Rattle.awk_input.proofs.files.give_up_file.Goals as goal

pub returns-in_err-text-clause-task : goal.returns-in_err-text-clause-task
returns-in_err-text-clause-task g c =
    let e = err_from_is_err_and c.from_residual.result c.from_residual.ensures.1 in
    rw (e.1, e.2) (λ m text cur p old w lead. lacking lead)

pub returns-in_err-report-clause-task : goal.returns-in_err-report-clause-task
returns-in_err-report-clause-task g c =
    let e = err_from_is_err_and c.from_residual-in_err-report.result c.from_residual-in_err-report.ensures.1 in
    rw (e.1, e.2) (λ m text cur p old w lead.
    let named = c.in_ok-text.ensures text (ap (λ x. x.current) c.main.ensures ∙ cur) in
    stop _ (λ k. refl) lead (rw (c.as_slice.ensures, c.bytes.ensures, named) at
    (c.in_err-report.ensures.task m c.args.streams.now)) refl)

pub returns-in_err-report-clause-owns : goal.returns-in_err-report-clause-owns
returns-in_err-report-clause-owns g c = rw c.in_err-report.ensures.numbers c.requires

pub pass_file-requires : goal.pass_file-requires
pass_file-requires g c = rw c.report.ensures.numbers c.requires

pub returns-clause-task : goal.returns-clause-task
returns-clause-task g c = λ m text cur p old w lead.
    let named = c.in_ok-text.ensures text (ap (λ x. x.current) c.main.ensures ∙ cur) in
    let still = ap (λ (s : Kept). s.main.current) c.in_ok-report.ensures.failed ∙ cur in
    c.pass_file.ensures.task m text still (forgotten OperandFile text c.args.streams.now)
    (but_forgotten OperandFile text c.args.streams.now) (λ k. Do Take ∷ k) p old w
    (part tt (part tt lead (rw (c.as_slice.ensures, c.bytes.ensures, named) at
    (c.report.ensures.task m c.args.streams.now)) c.in_ok-report.was)
    (lifted m c.report.new.store (λ s. forgets_file _ m s OperandFile text c.args.streams.now c.report.new.world)) refl)

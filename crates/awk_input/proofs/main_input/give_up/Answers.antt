use Rattle.std.proofs.Common.{refl}
use Rattle.std.proofs.lemmas.Result.{err_from_is_err_and}
use Rattle.awk_streams.proofs.Chain.{part, stop}
use Rattle.awk_streams.proofs.MoreSteps.{forgets}
use Rattle.awk_store.proofs.Acting.{acted}
use Rattle.awk_store.proofs.Lifting.{lifted}
use Rattle.awk_input.proofs.MainSteps.{passes_standard}
use Rattle.awk_input.proofs.main_input.give_up.Goals as goal

pub returns-in_err-report-clause-task : goal.returns-in_err-report-clause-task
returns-in_err-report-clause-task g c =
    let p = err_from_is_err_and c.from_residual.result c.from_residual.ensures.1 in
    rw (p.1, p.2) (λ m q old w lead. stop _ (λ k. refl) lead (rw (c.as_slice.ensures, c.as_slice-2.ensures) at
    (c.in_err-report.ensures.task m c.args.streams.now)) refl)

pub returns-in_err-report-clause-owns : goal.returns-in_err-report-clause-owns
returns-in_err-report-clause-owns g c = rw c.in_err-report.ensures.numbers c.requires.owns

pub returns-clause-task : goal.returns-clause-task
returns-clause-task g c = λ m q old w lead.
    part tt (part tt (part tt lead (rw (c.as_slice.ensures, c.as_slice-2.ensures) at
    (c.report.ensures.task m c.args.streams.now)) c.in_ok-report.was)
    (lifted m c.report.new.store (λ s. forgets _ m s c.args.streams.now c.forget_standard.new.self c.report.new.world
    c.requires.open c.forget_standard.ensures.entries c.forget_standard.ensures.input)) refl)
    (acted (passes_standard m (c.report.new.store, c.forget_standard.new.self) c.pass_standard.new.store
    c.pass_standard.ensures)) refl

pub returns-clause-owns : goal.returns-clause-owns
returns-clause-owns g c = rw (c.report.ensures.numbers, c.forget_standard.ensures.entries) c.requires.owns

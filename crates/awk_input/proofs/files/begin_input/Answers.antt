use Rattle.std.proofs.Common.{refl, sym, ap, ◌∙◌}
use Rattle.std.specs.Prelude.{codes}
use Rattle.std.specs.Str.{bytes_eq}
use Rattle.box_world.specs.Events.{Standard}
use Rattle.awk_streams.proofs.Chain.{passes}
use Rattle.awk_store.proofs.Acting.{acted}
use Rattle.awk_input.proofs.FileSteps.{file_named, file_standard}
use Rattle.awk_input.proofs.Restored.{goes_by, moved}
use Rattle.awk_input.proofs.files.begin_input.Goals as goal

pub returns-then-eq-clause-task : goal.returns-then-eq-clause-task
returns-then-eq-clause-task g c = λ m is p old mv.
    let e = ap (λ t. bytes_eq t (codes "-")) (sym c.bytes.ensures) ∙ ap (bytes_eq c.bytes.result.now)
    (sym c.as_slice.ensures) ∙ sym c.eq.ensures ∙ c.if-eq.true in
    passes (goes_by mv (λ k s. file_standard m c.args.text k s e))
    (acted (c.begin.ensures m c.args.streams.now (Standard 0) refl))

pub returns-clause-task : goal.returns-clause-task
returns-clause-task g c = λ m is p old mv.
    let e = ap (λ t. bytes_eq t (codes "-")) (sym c.bytes.ensures) ∙ ap (bytes_eq c.bytes.result.now)
    (sym c.as_slice.ensures) ∙ sym c.eq.ensures ∙ c.if-eq.false in
    c.begin_named.ensures.task m is p old (moved mv (λ k s. file_named m c.args.text k s e))

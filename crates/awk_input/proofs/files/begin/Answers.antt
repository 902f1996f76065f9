use Rattle.std.proofs.Common.{refl, ap, ◌∙◌}
use Rattle.std.specs.Prelude.{Some, pos}
use Rattle.awk_text.specs.declared.value.Value.TheVariants as v
use Rattle.awk_machine.specs.State.{Main}
use Rattle.awk_program.specs.declared.variables.Own.TheVariants as own
use Rattle.awk_store.specs.Changes.{with_main, with_own}
use Rattle.awk_store.specs.Inputs.{main_of}
use Rattle.awk_input.proofs.FileSteps.{begins}
use Rattle.awk_input.proofs.MainSteps.{main_changed}
use Rattle.awk_input.proofs.files.begin.Goals as goal

pub returns : goal.returns
returns c = λ g t key is.
    begins g (c.args.store.now, t) key c.args.text c.set_own-2.new.self
    (c.set_own-2.ensures ∙ ap (with_own own.Fnr (v.Num (pos 0)))
    (c.set_own.ensures ∙ ap (with_own own.Filename (v.Input c.args.text))
    (main_changed (λ (m : Main). record m { current = Some key }) c.args.store.now c.replace_main-main.new.self
    c.replace_main.new.self _ (main_of c.replace_main-main.result)
    (record (main_of c.replace_main-main.result) { current = Some key }) c.replace_main-main.ensures.after
    (c.replace_main.ensures.after ∙ ap (λ o. with_main (record (main_of c.replace_main-main.result) { current = o })
    c.replace_main-main.new.self) is) refl c.replace_main-main.ensures.value)))

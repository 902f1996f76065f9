use Rattle.std.proofs.Common.{refl}
use Rattle.std.specs.Prelude.{Some}
use Rattle.box_world.specs.Events.{Standard}
use Rattle.awk_store.specs.Inputs.{main_of}
use Rattle.awk_input.proofs.MainSteps.{main_changed}
use Rattle.awk_input.proofs.progress.begin_standard.Goals as goal

pub returns : goal.returns
returns c = main_changed (λ m. record m { current = Some (Standard 0) }) c.args.store.now c.replace_main-main.new.self
    c.replace_main.new.self _ (main_of c.replace_main-main.result) _ c.replace_main-main.ensures.after
    c.replace_main.ensures.after refl c.replace_main-main.ensures.value

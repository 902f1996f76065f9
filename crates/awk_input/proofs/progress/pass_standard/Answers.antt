use Rattle.awk_store.specs.Inputs.{main_of}
use Rattle.awk_input.specs.Inputs.{past_standard}
use Rattle.awk_input.proofs.MainSteps.{main_changed, past_so}
use Rattle.awk_input.proofs.progress.pass_standard.Goals as goal

pub returns : goal.returns
returns c = main_changed past_standard c.args.store.now c.replace_main-main.new.self c.replace_main.new.self _
    (main_of c.replace_main-main.result) _ c.replace_main-main.ensures.after c.replace_main.ensures.after
    (past_so (main_of c.replace_main-main.result)) c.replace_main-main.ensures.value

use Rattle.std.proofs.Common.{refl, sym, ◌∙◌}
use Rattle.box_world.specs.Events.{Standard}
use Rattle.awk_program.specs.declared.variables.Own.TheVariants as own
use Rattle.awk_machine.specs.Pieces.{Do, Take}
use Rattle.awk_store.proofs.Lifting.{apart, apart-text, lifted_at}
use Rattle.awk_input.specs.Inputs.{found_main}
use Rattle.awk_input.proofs.MainSteps.{takes_so}
use Rattle.awk_input.proofs.main_input.read_standard.Goals as goal

pub record-requires-clause-live : goal.record-requires-clause-live
record-requires-clause-live g c = (c.args.streams.now.input, refl)

pub returns-clause-task : goal.returns-clause-task
returns-clause-task g c = λ m. lifted_at m c.args.store.now (λ row cells sound.
    let s = apart m c.args.store.now row in
    c.record.ensures.task m s (Do Take) (found_main (Standard 0))
    (takes_so m s (Standard 0) c.requires.ended c.requires.current)
    (apart-text m c.args.store.now row cells sound own.Rs ∙ sym c.own_text-rs.ensures))

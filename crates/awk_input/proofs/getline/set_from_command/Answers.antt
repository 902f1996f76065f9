use Rattle.std.proofs.Common.{[], ◌∷◌}
use Rattle.awk_program.specs.Program as p
use Rattle.awk_machine.specs.Pieces.{At, Pipes_of}
use Rattle.awk_store.specs.Spots.{value_of}
use Rattle.awk_input.proofs.ReadSteps.{pipe_got}
use Rattle.awk_input.proofs.getline.set_from_command.Goals as goal

pub returns-clause-task : goal.returns-clause-task
returns-clause-task c = λ g r xs command is.
    c.set_record.ensures.task g (At (Pipes_of (p.piped c.args.place r xs))
    (c.args.answer ∷ value_of c.args.target ∷ command ∷ [])) (λ k. At (Pipes_of xs) [] ∷ k)
    (pipe_got g c.args.place r c.args.target command c.args.answer is xs)

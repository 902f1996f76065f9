use Rattle.std.proofs.Common.{[], ◌∷◌}
use Rattle.awk_program.specs.Program as p
use Rattle.awk_machine.specs.Pieces.{At, Value_of}
use Rattle.awk_store.specs.Spots.{value_of}
use Rattle.awk_input.proofs.ReadSteps.{file_got}
use Rattle.awk_input.proofs.getline.set_from_file.Goals as goal

pub returns-clause-task : goal.returns-clause-task
returns-clause-task c = λ g r x name is.
    c.set_record.ensures.task g (At (Value_of (p.getline_file c.args.place r x))
    (c.args.answer ∷ name ∷ value_of c.args.target ∷ [])) (λ k. k)
    (file_got g c.args.place r c.args.target name c.args.answer is x)

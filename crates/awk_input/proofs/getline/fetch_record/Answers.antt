use Rattle.std.proofs.Common.{◌∙◌, sym}
use Rattle.awk_program.specs.declared.variables.Own.TheVariants as own
use Rattle.awk_store.proofs.Lifting.{apart, apart-text, lifted_at}
use Rattle.awk_input.proofs.getline.fetch_record.Goals as goal

pub returns-clause-task : goal.returns-clause-task
returns-clause-task g c = λ m. lifted_at m c.args.store.now (λ row cells sound. c.fetch.ensures.task m
    (apart m c.args.store.now row) (apart-text m c.args.store.now row cells sound own.Rs ∙ sym c.own_text-rs.ensures))

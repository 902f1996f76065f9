use Rattle.awk_text.specs.Lents.{lent_value}
use Rattle.awk_input.proofs.ReadSteps.{command_read}
use Rattle.awk_input.proofs.getline.command_record.Goals as goal

pub returns-clause-task : goal.returns-clause-task
returns-clause-task g c = λ m r xs target.
    command_read m c.args.place r xs (lent_value c.args.command) target (c.args.store.now, c.args.streams.now)
    (c.args.store.now, c.fetch_record.new.streams) c.args.world.now c.fetch_record.new.world c.fetch_record.result
    (rw c.text.ensures at (c.fetch_record.ensures.task m))

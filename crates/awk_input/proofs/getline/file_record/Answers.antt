use Rattle.awk_text.specs.Lents.{lent_value}
use Rattle.awk_streams.specs.Readings.{key_of}
use Rattle.awk_input.proofs.ReadSteps.{file_read}
use Rattle.awk_input.proofs.getline.file_record.Goals as goal

pub returns-clause-task : goal.returns-clause-task
returns-clause-task g c = λ m r x target.
    file_read m c.args.place r x (lent_value c.args.name) target (key_of c.file_source-source.result)
    (rw c.text.ensures at c.file_source-source.ensures) (c.args.store.now, c.args.streams.now) (
      c.args.store.now,
      c.fetch_record.new.streams,
    ) c.args.world.now c.fetch_record.new.world c.fetch_record.result
    (c.fetch_record.ensures.task m)

use Rattle.awk_fields.specs.Heads.{head}
use Rattle.awk_fields.specs.declared.reader.Taken.TheVariants as taken
use Rattle.box_world.specs.Events.{Named}
use Rattle.awk_streams.specs.Tables.{kind}
use Rattle.awk_streams.proofs.Firsts.{first_is}
use Rattle.awk_streams.proofs.Reading.{read_at}
use Rattle.awk_streams.proofs.getline.take_line.Goals as goal

pub returns-clause-taken : goal.returns-clause-taken
returns-clause-taken c = λ is.
    let old = c.args.streams.now in
    let new = c.take_line.new.self in
    let class = kind c.args.name.now.class in
    let name = c.args.name.now.text.now in
    let x = c.take_line.ensures.taken is in
    record {
      before = x.0;
      live = x.1;
      first = first_is (Named class name) old new x.0 x.2 (head c.args.rs.now x.0.unread x.0.ended)
          (taken.Record c.take_line.new.room.items) x.3
          (read_at class name (λ z. x.2) x.0 old new x.1 x.4 c.take_line.ensures.input);
    }

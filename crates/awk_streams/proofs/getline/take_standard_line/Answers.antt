use Rattle.std.proofs.Common.{refl}
use Rattle.awk_fields.specs.Heads.{head}
use Rattle.awk_fields.specs.declared.reader.Taken.TheVariants as taken
use Rattle.box_world.specs.Events.{Standard}
use Rattle.awk_streams.proofs.Firsts.{first_is}
use Rattle.awk_streams.proofs.Lives.{read_standard}
use Rattle.awk_streams.proofs.getline.take_standard_line.Goals as goal

pub returns-clause-taken : goal.returns-clause-taken
returns-clause-taken c = λ is.
    let old = c.args.streams.now in
    let new = c.take_standard_line.new.self in
    record {
      before = old.input;
      live = refl;
      first = first_is (Standard 0) old new old.input new.input (head c.args.rs.now old.input.unread old.input.ended)
          (taken.Record c.take_standard_line.new.room.items) (c.take_standard_line.ensures.taken is)
          (read_standard new.input old new c.take_standard_line.ensures.entries refl);
    }

use Rattle.std.proofs.Common.{Some}
use Rattle.awk_fields.specs.Heads.{head}
use Rattle.awk_program.specs.declared.variables.Own.TheVariants as own
use Rattle.awk_store.specs.Kept.{own_text}
use Rattle.awk_streams.specs.declared.getline.NextRecord.TheVariants as found
use Rattle.awk_streams.proofs.MoreSteps.{first_owns}
use Rattle.awk_input.proofs.MainSteps.{line_taken}
use Rattle.awk_input.proofs.main_input.take.Goals as goal

pub returns-then-takes_line-clause-task : goal.returns-then-takes_line-clause-task
returns-then-takes_line-clause-task g c =
    let text = c.takes_line.new.room.items in
    let streams = c.takes_line.new.streams in
    let line = rw c.take_room-room.ensures at (c.takes_line.ensures.taken c.if-takes_line.true) in
    λ m h. rw c.new.ensures (line_taken m c.args.store.now c.args.streams.now streams text c.args.world.now line)

pub returns-then-takes_line-clause-owns : goal.returns-then-takes_line-clause-owns
returns-then-takes_line-clause-owns g c =
    let x = rw c.take_room-room.ensures at (c.takes_line.ensures.taken c.if-takes_line.true) in
    first_owns _ x.key c.args.streams.now c.takes_line.new.streams x.line.before
    (head (own_text c.args.store.now own.Rs) x.line.before.unread x.line.before.ended)
    (Some (found.Record c.takes_line.new.room.items)) x.line.first c.requires

pub take_on-requires : goal.take_on-requires
take_on-requires g c = rw (
  c.keep_room.ensures,
  c.takes_line.ensures.not_taken c.if-takes_line.false,
  c.take_room-room.ensures,
) c.requires

pub returns-clause-task : goal.returns-clause-task
returns-clause-task g c = λ m is. rw (
  c.keep_room.ensures,
  c.takes_line.ensures.not_taken c.if-takes_line.false,
  c.take_room-room.ensures,
) at (c.take_on.ensures.task m is)

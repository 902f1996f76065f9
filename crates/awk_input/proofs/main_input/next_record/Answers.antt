use Rattle.std.proofs.Common.{refl, [], Some}
use Rattle.awk_fields.specs.Heads.{head}
use Rattle.awk_program.specs.declared.variables.Own.TheVariants as own
use Rattle.awk_store.specs.Kept.{own_text}
use Rattle.awk_streams.specs.declared.getline.NextRecord.TheVariants as found
use Rattle.awk_streams.proofs.MoreSteps.{first_owns}
use Rattle.std.proofs.lemmas.Result.{err_from_is_err_and}
use Rattle.awk_text.specs.declared.value.Value.TheVariants as v
use Rattle.awk_streams.proofs.Chain.{part}
use Rattle.awk_store.proofs.Acting.{acted}
use Rattle.awk_input.proofs.MainSteps.{done_in, line_taken, records_first, stop_acts}
use Rattle.awk_input.proofs.main_input.next_record.Goals as goal

pub returns-in_err-begin_record-clause-task : goal.returns-in_err-begin_record-clause-task
returns-in_err-begin_record-clause-task g c =
    let text = c.takes_line.new.room.items in
    let streams = c.takes_line.new.streams in
    let line = rw c.take_room-room.ensures at (c.takes_line.ensures.taken c.if-takes_line.true) in
    let e = err_from_is_err_and c.from_residual.result c.from_residual.ensures.1 in
    rw (e.1, e.2) (λ m h. stop_acts _
    (part (v.Input text) (records_first m (c.args.store.now, c.args.streams.now) c.args.world.now)
    (line_taken m c.args.store.now c.args.streams.now streams text c.args.world.now line) refl)
    (rw (c.take_room-room.ensures, c.new.ensures) at (c.begin_record.ensures m streams [])) c.in_err-begin_record.was)

pub returns-then-takes_line-clause-task : goal.returns-then-takes_line-clause-task
returns-then-takes_line-clause-task g c =
    let text = c.takes_line.new.room.items in
    let streams = c.takes_line.new.streams in
    let line = rw c.take_room-room.ensures at (c.takes_line.ensures.taken c.if-takes_line.true) in
    λ m h. done_in (part tt
    (part (v.Input text) (records_first m (c.args.store.now, c.args.streams.now) c.args.world.now)
    (line_taken m c.args.store.now c.args.streams.now streams text c.args.world.now line) refl)
    (acted (rw (c.take_room-room.ensures, c.new.ensures) at (c.begin_record.ensures m streams [])))
    c.in_ok-begin_record.was)

pub returns-clause-task : goal.returns-clause-task
returns-clause-task g c = λ m h. rw (
  c.take_room-room.ensures,
  c.keep_room.ensures,
  c.takes_line.ensures.not_taken c.if-takes_line.false,
) at (c.next_any.ensures.task m h)

pub next_any-requires : goal.next_any-requires
next_any-requires g c = rw (c.keep_room.ensures, c.takes_line.ensures.not_taken c.if-takes_line.false) c.requires

pub returns-then-takes_line-clause-owns : goal.returns-then-takes_line-clause-owns
returns-then-takes_line-clause-owns g c =
    let x = c.takes_line.ensures.taken c.if-takes_line.true in
    first_owns _ x.key c.args.streams.now c.takes_line.new.streams x.line.before
    (head (own_text c.take_room-room.new.self own.Rs) x.line.before.unread x.line.before.ended)
    (Some (found.Record c.takes_line.new.room.items)) x.line.first c.requires

pub returns-in_err-begin_record-clause-owns : goal.returns-in_err-begin_record-clause-owns
returns-in_err-begin_record-clause-owns g c =
    let x = c.takes_line.ensures.taken c.if-takes_line.true in
    first_owns _ x.key c.args.streams.now c.takes_line.new.streams x.line.before
    (head (own_text c.take_room-room.new.self own.Rs) x.line.before.unread x.line.before.ended)
    (Some (found.Record c.takes_line.new.room.items)) x.line.first c.requires

use Rattle.std.proofs.Common.{sym, ◌∙◌}
use Rattle.std.proofs.lemmas.Result.{err_from_is_err_and}
use Rattle.awk_store.specs.Spots.{meant}
use Rattle.awk_store.specs.Wholes.{names_in}
use Rattle.awk_input.specs.Gots.{names_of}
use Rattle.awk_input.proofs.GotSteps.{gives_one, gives_other, halts_as, is_set, not_set}
use Rattle.awk_input.proofs.counted.set_record.Goals as goal

pub returns-then-not-is_record-clause-task : goal.returns-then-not-is_record-clause-task
returns-then-not-is_record-clause-task c = λ g p to is.
    gives_other g p c.args.getline.place (meant (names_in g) c.args.getline.target) (names_of c.args.getline.counters)
    c.args.answer to is (c.args.store.now, c.args.streams.now) (sym c.is_record.ensures ∙ c.if-not-is_record.true)

pub returns-in_err-room-clause-task : goal.returns-in_err-room-clause-task
returns-in_err-room-clause-task c =
    let e = err_from_is_err_and c.from_residual.result c.from_residual.ensures.1 in
    rw (e.1, e.2) (λ g p to is.
    not_set g p c.args.getline.place (meant (names_in g) c.args.getline.target) (names_of c.args.getline.counters)
    c.args.answer to is (c.args.store.now, c.args.streams.now) (c.replace.new.store, c.args.streams.now)
    (sym c.is_record.ensures ∙ c.if-not-is_record.false) c.replace.result _ (c.replace.ensures g c.args.streams.now)
    c.in_err-room.was)

pub returns-in_err-count_all-clause-task : goal.returns-in_err-count_all-clause-task
returns-in_err-count_all-clause-task c =
    let e = err_from_is_err_and c.from_residual-in_err-count_all.result c.from_residual-in_err-count_all.ensures.1 in
    let t = c.args.streams.now in
    rw (e.1, e.2, c.keep_room.ensures) (λ g p to is.
    let set = is_set g p c.args.getline.place (meant (names_in g) c.args.getline.target)
    (names_of c.args.getline.counters) c.args.answer to is (c.args.store.now, t) (c.replace.new.store, t)
    (sym c.is_record.ensures ∙ c.if-not-is_record.false) c.replace.result _ (c.replace.ensures g t) c.in_ok-room.was
    in
    halts_as g p (c.args.store.now, t) (c.count_all.new.store, t) _ (c.in_err-count_all.ensures g t p (
      c.args.store.now,
      t,
    ) _ set))

pub returns-clause-task : goal.returns-clause-task
returns-clause-task c =
    let t = c.args.streams.now in
    rw c.keep_room.ensures (λ g p to is.
    let set = is_set g p c.args.getline.place (meant (names_in g) c.args.getline.target)
    (names_of c.args.getline.counters) c.args.answer to is (c.args.store.now, t) (c.replace.new.store, t)
    (sym c.is_record.ensures ∙ c.if-not-is_record.false) c.replace.result _ (c.replace.ensures g t) c.in_ok-room.was
    in
    gives_one g p to (c.args.store.now, t) (c.count_all.new.store, t)
    (c.in_ok-count_all.ensures g t p (c.args.store.now, t) _ set))

use Rattle.std.proofs.Common.{sym, ap, ◌∙◌}
use Rattle.std.proofs.lemmas.Result.{err_from_is_err_and}
use Rattle.box_world.specs.Events.{OperandFile}
use Rattle.box_world.specs.declared.ask.Stop.TheVariants as stop
use Rattle.awk_machine.specs.Pieces.{nowhere}
use Rattle.awk_store.specs.Kept.{Kept}
use Rattle.awk_streams.proofs.Asking.{laws_of}
use Rattle.awk_streams.proofs.Chain.{lacking}
use Rattle.awk_input.proofs.FileSteps.{owns_gone, passes_shut, passes_unopened, same_text, shut_duty, shut_refused}
use Rattle.awk_input.proofs.Restored.{restored}
use Rattle.awk_input.proofs.files.pass_file.Goals as goal

pub returns-in_default-clause-task : goal.returns-in_default-clause-task
returns-in_default-clause-task g c = λ m text cur t but rest p old w lead.
    let same = rw c.in_default.is at c.take_out.ensures in
    restored nowhere stop.Memory (ap (λ (s : Kept). s.used) same) (lacking lead)

pub returns-in_default-number-clause-task : goal.returns-in_default-number-clause-task
returns-in_default-number-clause-task g c = λ m text cur t but rest p old w lead.
    let o = rw c.in-Some.is at c.take_out.ensures in
    let same = c.bytes.ensures ∙ same_text c.in-Some.text text (sym o.0 ∙ cur) in
    let none = rw same at (sym c.number.ensures ∙ c.in_default-number.is) in
    rw o.1 (passes_unopened (laws_of g.met.W.World.follows_append g.met.W.World.stops_later g.met.W.World.follows_open)
    m text c.args.store.now t c.args.streams.now but rest p old w c.args.world.now lead none)

pub request-requires : goal.request-requires
request-requires g c = shut_duty _ OperandFile c.bytes.result.now c.in-Some-number.number c.args.streams.now
    (sym c.number.ensures ∙ c.in-Some-number.is) c.requires

pub returns-in_err-request-clause-task : goal.returns-in_err-request-clause-task
returns-in_err-request-clause-task g c =
    let e = err_from_is_err_and c.from_residual.result c.from_residual.ensures.1 in
    rw (e.1, e.2) (λ m text cur t but rest p old w lead.
    let o = rw c.in-Some.is at c.take_out.ensures in
    let same = c.bytes.ensures ∙ same_text c.in-Some.text text (sym o.0 ∙ cur) in
    let found = rw same at (sym c.number.ensures ∙ c.in-Some-number.is) in
    rw o.1 (shut_refused (laws_of g.met.W.World.follows_append g.met.W.World.stops_later g.met.W.World.follows_open) m
    text c.args.store.now t c.args.streams.now but rest p old w c.args.world.now lead
    c.in-Some-number.number _ c.request.new.world found c.in_err-request.ensures.answer))

pub returns-clause-task : goal.returns-clause-task
returns-clause-task g c = λ m text cur t but rest p old w lead.
    let o = rw c.in-Some.is at c.take_out.ensures in
    let same = c.bytes.ensures ∙ same_text c.in-Some.text text (sym o.0 ∙ cur) in
    let found = rw same at (sym c.number.ensures ∙ c.in-Some-number.is) in
    let gone = rw same at c.remove.ensures.entries in
    rw o.1 (passes_shut (laws_of g.met.W.World.follows_append g.met.W.World.stops_later g.met.W.World.follows_open) m
    text c.args.store.now t c.args.streams.now but rest p old w c.args.world.now lead
    c.in-Some-number.number c.remove.new.self c.in_ok-request.field-0 c.request.new.world found gone
    c.remove.ensures.input c.in_ok-request.ensures.answer)

pub returns-in_err-request-clause-owns : goal.returns-in_err-request-clause-owns
returns-in_err-request-clause-owns g c = rw c.in_err-request.ensures.numbers c.requires

pub returns-clause-owns : goal.returns-clause-owns
returns-clause-owns g c =
    owns_gone _ _ OperandFile c.bytes.result.now c.in-Some-number.number c.args.streams.now c.remove.new.self
    (sym c.number.ensures ∙ c.in-Some-number.is) c.remove.ensures.entries c.in_ok-request.ensures.numbers c.requires

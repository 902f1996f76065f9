use Rattle.std.proofs.Common.{false, refl, sym, ◌∙◌}
use Rattle.std.proofs.lemmas.Result.{err_from_is_err_and}
use Rattle.awk_machine.specs.Pieces as machine
use Rattle.awk_machine.specs.Pieces.{Do}
use Rattle.awk_machine.specs.Printing.{unless_failed}
use Rattle.awk_streams.specs.Tables.{kind}
use Rattle.awk_streams.proofs.Asking.{laws_of}
use Rattle.awk_streams.proofs.Chain.{closed, done, turned}
use Rattle.awk_streams.proofs.Leading.{open_known, open_asked, open_refused, output_fails, output_opens}
use Rattle.awk_streams.proofs.Opened.{found_opened}
use Rattle.awk_streams.proofs.opening.open_output.Goals as goal

pub returns-in-Some-clause-task : goal.returns-in-Some-clause-task
returns-in-Some-clause-task g c = λ m s.
    let a = c.args in
    let n = a.name.now in
    done (open_known m (Do (machine.Open a.place a.mode (kind n.class) n.text.now)) a.place false a.mode (kind n.class)
    n.text.now (unless_failed a.place) (λ k t. refl) s
    (laws_of g.met.W.World.follows_append g.met.W.World.stops_later g.met.W.World.follows_open) c.in-Some.number
    a.streams.now a.world.now (sym c.number.ensures ∙ c.in-Some.is))

pub returns-in_err-number-clause-task : goal.returns-in_err-number-clause-task
returns-in_err-number-clause-task g c =
    let a = c.args in
    let n = a.name.now in
    let p = err_from_is_err_and c.from_residual.result c.from_residual.ensures.1 in
    let x = c.in_err-number.ensures.opens in
    rw (p.1, p.2) (λ m s. open_refused m (Do (machine.Open a.place a.mode (kind n.class) n.text.now)) a.place false
    a.mode (kind n.class) n.text.now (unless_failed a.place) (λ k t. refl) s
    (laws_of g.met.W.World.follows_append g.met.W.World.stops_later g.met.W.World.follows_open) _ a.streams.now
    c.open.new.streams a.world.now c.open.new.world (sym c.number.ensures ∙ c.in_default.is) x.1 x.0)

pub returns-in_default-2-clause-task : goal.returns-in_default-2-clause-task
returns-in_default-2-clause-task g c = λ m s.
    let a = c.args in
    let n = a.name.now in
    let x = c.in_ok-number.ensures.opens in
    closed (turned (open_asked m (Do (machine.Open a.place a.mode (kind n.class) n.text.now)) a.place false a.mode
    (kind n.class) n.text.now (unless_failed a.place) (λ k t. refl) s
    (laws_of g.met.W.World.follows_append g.met.W.World.stops_later g.met.W.World.follows_open) c.in_ok-number.field-0
    a.streams.now c.open.new.streams a.world.now c.open.new.world (sym c.number.ensures ∙ c.in_default.is) x)
    (λ k. output_fails a.place k (g.W.World.open_numbers a.world.now) a.mode n.text.now x.reply x.answer.fits
    (x.number ∙ c.in_default-2.is)))

pub returns-clause-task : goal.returns-clause-task
returns-clause-task g c = λ m s.
    let a = c.args in
    let n = a.name.now in
    let x = c.in_ok-number.ensures.opens in
    done (turned (open_asked m (Do (machine.Open a.place a.mode (kind n.class) n.text.now)) a.place false a.mode
    (kind n.class) n.text.now (unless_failed a.place) (λ k t. refl) s
    (laws_of g.met.W.World.follows_append g.met.W.World.stops_later g.met.W.World.follows_open) c.in_ok-number.field-0
    a.streams.now c.open.new.streams a.world.now c.open.new.world (sym c.number.ensures ∙ c.in_default.is) x)
    (λ k. output_opens a.place k c.in-Some-2.number x.reply (x.number ∙ c.in-Some-2.is)))

pub returns-clause-found : goal.returns-clause-found
returns-clause-found g c =
    let a = c.args in
    let n = a.name.now in
    let x = c.in_ok-number.ensures.opens in
    let e = rw c.in-Some-2.is at x.entries in
    found_opened (kind n.class) n.text.now c.in-Some-2.number a.streams.now c.open.new.streams (sym c.number.ensures
    ∙ c.in_default.is) e

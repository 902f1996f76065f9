use Rattle.std.proofs.Common.{false, refl, sym, ◌∙◌}
use Rattle.box_world.specs.Events.{Named}
use Rattle.awk_machine.specs.Getline.{read_opened}
use Rattle.awk_machine.specs.Getline as getline
use Rattle.awk_machine.specs.Pieces.{Do, Fetch}
use Rattle.awk_streams.specs.Tables.{kind}
use Rattle.awk_streams.proofs.Asking.{laws_of}
use Rattle.awk_streams.proofs.Chain.{done}
use Rattle.awk_streams.proofs.Leading.{open_known, input_asked, input_finds}
use Rattle.awk_streams.proofs.opening.open_input.Goals as goal

pub returns-in-Some-clause-task : goal.returns-in-Some-clause-task
returns-in-Some-clause-task g c = λ m s.
    let a = c.args in
    let n = a.name.now in
    done (open_known m (Do (Fetch a.place (kind n.class) n.text.now)) a.place false (getline.input_mode (kind n.class))
    (kind n.class) n.text.now (read_opened a.place (Named (kind n.class) n.text.now)) (λ k t. refl) s
    (laws_of g.met.W.World.follows_append g.met.W.World.stops_later g.met.W.World.follows_open) c.in-Some.number
    a.streams.now a.world.now (sym c.number.ensures ∙ c.in-Some.is))

pub returns-clause-task : goal.returns-clause-task
returns-clause-task g c = λ m s.
    let a = c.args in
    let n = a.name.now in
    let x = rw c.input_mode.ensures at c.open.ensures.opens in
    input_asked (laws_of g.met.W.World.follows_append g.met.W.World.stops_later g.met.W.World.follows_open) m s a.place
    (kind n.class) n.text.now a.streams.now c.open.new.streams a.world.now c.open.new.world c.open.result
    (sym c.number.ensures ∙ c.in_default.is) x

pub returns-clause-found : goal.returns-clause-found
returns-clause-found g c =
    let a = c.args in
    let n = a.name.now in
    input_finds _ _ (kind n.class) n.text.now a.streams.now c.open.new.streams a.world.now c.open.new.world
    c.open.result (sym c.number.ensures ∙ c.in_default.is) c.open.ensures.opens

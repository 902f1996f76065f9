use Rattle.std.proofs.Common.{sym, ◌∙◌}
use Rattle.awk_input.proofs.AssignSteps.{sets_named, sets_none}
use Rattle.awk_input.proofs.assigns.set_named.Goals as goal

pub returns-in-Some : goal.returns-in-Some
returns-in-Some c = λ g is t.
    sets_named g c.args.host.now is c.args.name.now c.args.value c.requires (c.args.store.now, t) c.in-Some.slot
    c.set.result (c.set.new.store, t) (sym c.in-Some.is ∙ c.slot_of.ensures) (c.set.ensures g t)

pub returns-in-None : goal.returns-in-None
returns-in-None c = λ g is t. sets_none g c.args.host.now is c.args.name.now c.args.value c.requires (
  c.args.store.now,
  t,
) (sym c.in-None.is ∙ c.slot_of.ensures)

use Rattle.std.proofs.Common.{refl}
use Rattle.awk_store.proofs.Acting.{lacking}
use Rattle.awk_run.proofs.Environs.{sets_none}
use Rattle.awk_run.proofs.start.assign.Goals as goal

pub returns-in_default : goal.returns-in_default
returns-in_default c = λ m t is. sets_none m _ c.args.name.now _ (rw (← c.slot_of.ensures, c.in_default.is) at
    (is.slots c.args.name.now c.requires))

pub returns-in_default-unescape : goal.returns-in_default-unescape
returns-in_default-unescape c = λ m t is. lacking refl

pub returns : goal.returns
returns c = λ m t is. rw (
  c.new.ensures,
  c.in-Ok.ensures.ok,
  (rw (← c.slot_of.ensures, c.in-Some.is) at (is.slots c.args.name.now c.requires)),
) at (c.set_variable.ensures m t)

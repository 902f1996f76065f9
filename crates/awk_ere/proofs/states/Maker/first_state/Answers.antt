use Rattle.awk_ere.proofs.Gathering.{first_known}
use Rattle.awk_ere.proofs.Making.{grown_later, made_later, closed_grown, closed_led}
use Rattle.awk_ere.proofs.states.Maker.first_state.Goals as goal

pub returns-clause-later : goal.returns-clause-later
returns-clause-later c = grown_later _ _ _ c.in_ok-at.ensures.grown

pub returns-clause-first : goal.returns-clause-first
returns-clause-first c = first_known _ _ _ _ _ _ c.in_ok-find_led.ensures.led
    (rw c.deref.ensures.value at c.in_ok-at.ensures.number)

pub returns-clause-made : goal.returns-clause-made
returns-clause-made c = record {
  room = c.in_ok-find_led.ensures.room;
  by = made_later _ _ _ _ _ (grown_later _ _ _ c.in_ok-at.ensures.grown) c.requires.made.by;
  slots = c.requires.made.slots;
  closed = closed_grown _ _ _ _ c.in_ok-at.ensures.grown
      (rw c.deref.ensures.value (closed_led _ _ _ _ c.in_ok-find_led.ensures.led)) c.requires.made.closed;
}

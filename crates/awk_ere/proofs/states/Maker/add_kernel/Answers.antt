use Rattle.awk_ere.proofs.Making.{closed_grown, closed_led, grown_later, made_later, made_push, made_known}
use Rattle.awk_ere.proofs.states.Maker.add_kernel.Goals as goal

pub returns-clause-later : goal.returns-clause-later
returns-clause-later c = grown_later _ _ _ c.in_ok-state.ensures.grown

pub returns-clause-made : goal.returns-clause-made
returns-clause-made c =
    let is = made_known _ _ _ _ _ (rw c.deref.ensures.value at c.in_ok-find_led.ensures.led)
    (rw c.deref-2.ensures.value at c.in_ok-state.ensures.number) in
    record {
      room = c.in_ok-find_led.ensures.room;
      by = made_push _ _ _ _ _ _ _ _ (rw c.deref-3.ensures.value at c.in_ok-push.ensures)
          c.in_ok-push-2.ensures.items is
          (made_later _ _ _ _ _ (grown_later _ _ _ c.in_ok-state.ensures.grown) c.requires.made.by);
      slots = c.requires.made.slots;
      closed = closed_grown _ _ _ _ c.in_ok-state.ensures.grown
          (rw c.deref-2.ensures.value (closed_led _ _ _ _ c.in_ok-find_led.ensures.led)) c.requires.made.closed;
    }

pub returns-clause-state : goal.returns-clause-state
returns-clause-state c = made_known _ _ _ _ _ (rw c.deref.ensures.value at c.in_ok-find_led.ensures.led)
    (rw c.deref-2.ensures.value at c.in_ok-state.ensures.number)

use Rattle.std.proofs.Common.{◌∷◌, [], ◌++◌, ◌∙◌, ap, arith}
use Rattle.awk_ere.proofs.Making.{closed_first, made_first}
use Rattle.awk_ere.proofs.states.no_states.Goals as goal

pub returns-clause-made : goal.returns-clause-made
returns-clause-made c =
    let one = c.in_ok-push.ensures ∙ ap (λ x. x ++ [] ∷ []) c.in_ok-lists.ensures in
    record {
      room = (c.in_ok-room.ensures.len, c.in_ok-room.ensures.blank);
      by = made_first _ _ _ _ one (c.in_ok-push-2.ensures ∙ ap (λ x. x ++ [] ∷ []) c.in_ok-kernels.ensures)
          (c.in_ok-push-3.ensures.items ∙ ap (λ z. z ++ 0 ∷ []) c.in_ok-numbers.ensures.items);
      slots = omega (arith, c.in_ok-slots.ensures.len, c.in_ok-slots.slots.ok);
      closed = closed_first _ _ one;
    }

use Rattle.awk_builtins.proofs.Subscripts.{is_key}
use Rattle.awk_builtins.proofs.at_hand.elements.element_at_hand.Goals as goal

pub returns : goal.returns
returns c =
    record {
      keys = c.in-Element.keys;
      is = c.in-Element.is;
      key_is = is_key (rw c.as_slice.ensures at
          c.in_ok-key.ensures);
    }

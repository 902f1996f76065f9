use Rattle.awk_text.specs.Lents.{lent_value}
use Rattle.awk_builtins.proofs.at_hand.texts.add_item.Goals as goal

pub returns-in-Ok : goal.returns-in-Ok
returns-in-Ok c = λ yes. (
  lent_value c.in-Some.value,
  rw c.text.ensures at c.in-Ok.ensures,
  c.chosen.ensures (lent_value c.in-Some.value) c.in-Some.ensures,
)

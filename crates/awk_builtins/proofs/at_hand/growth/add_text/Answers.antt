use Rattle.std.proofs.Common.{sym}
use Rattle.awk_text.specs.Lents.{lent_value}
use Rattle.awk_builtins.proofs.at_hand.growth.add_text.Goals as goal

pub returns-clause-text : goal.returns-clause-text
returns-clause-text c = λ yes. (
  c.text.result.now,
  c.in_ok-added.ensures.text yes,
  λ g t. record {
    val = lent_value c.in-Some.value;
    is =
        sym c.text.ensures;
    passes = c.chosen-part.ensures (lent_value c.in-Some.value) c.in-Some.ensures g t;
  },
)

use Rattle.std.proofs.Common.{sym}
use Rattle.awk_builtins.proofs.at_hand.growth.add_made.Goals as goal

pub returns-clause-text : goal.returns-clause-text
returns-clause-text c = λ yes. (
  c.in-Some-usual_text.text.now,
  c.in_ok-added.ensures.text yes,
  λ g t. record {
    val = c.in-Some.value;
    is =
        sym c.in-Some-usual_text.ensures.0;
    passes = c.operand_of.ensures c.args.store.now c.in-Some.value c.in-Some-usual_text.ensures.1 c.in-Some.ensures g t;
  },
)

use Rattle.awk_builtins.proofs.Printed.{if_some, print_there}
use Rattle.awk_builtins.proofs.at_hand.texts.printed_at_hand.Goals as goal

pub returns : goal.returns
returns c = if_some c.text_at_hand.result (λ text made g t place. print_there g c.args.store.now t place c.args.xs.now
    made.0 text made.1 made.2) c.text_at_hand.ensures

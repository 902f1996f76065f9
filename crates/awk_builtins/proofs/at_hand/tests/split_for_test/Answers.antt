use Rattle.awk_store.proofs.Acting.{at_rest, done}
use Rattle.awk_builtins.proofs.at_hand.tests.split_for_test.Goals as goal

pub returns-then-not-awaits_split : goal.returns-then-not-awaits_split
returns-then-not-awaits_split c = λ g t q. done (at_rest q _)

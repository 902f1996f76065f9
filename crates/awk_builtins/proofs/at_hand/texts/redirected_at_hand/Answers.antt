use Rattle.std.proofs.Common.{refl}
use Rattle.awk_text.specs.Lents.{lent_value}
use Rattle.awk_program.specs.View.{view_redirection}
use Rattle.awk_store.specs.Wholes.{names_in}
use Rattle.awk_builtins.proofs.Printed.{redirect_there}
use Rattle.awk_builtins.proofs.at_hand.texts.redirected_at_hand.Goals as goal

pub returns : goal.returns
returns c = λ g t place.
    let made = c.in_ok-text.ensures in
    redirect_there g c.args.store.now t place c.args.xs.now made.0 c.in_ok-text.text
    (view_redirection (names_in g) c.args.to.now) c.args.to.now.target (lent_value c.in_ok-name.name) refl made.1
    c.in_ok-name.ensures made.2

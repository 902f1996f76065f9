use Rattle.awk_text.specs.Lents.{lent_value}
use Rattle.awk_program.specs.View.{view}
use Rattle.awk_store.specs.Wholes.{Whole, names_in}
use Rattle.awk_builtins.proofs.AtHand.{matches_there}
use Rattle.awk_builtins.proofs.Matches.{then_so}
use Rattle.awk_builtins.proofs.at_hand.tests.matched_at_hand.Goals as goal

pub returns : goal.returns
returns c = λ place g t.
    let w : Whole = (c.args.store.now, t) in
    rw c.in-Constant.is (matches_there g w place c.in-Constant.at (view (names_in g) c.args.x.now) c.in-Constant.source
    (lent_value c.in_ok-text.text) c.in-Ok-matches.found c.matches.result (c.in_ok-text.ensures g t)
    (rw c.bytes.ensures at (then_so c.in-Ok.ere (c.check.ensures.constant g w) c.in-Ok.is))
    (rw (c.text.ensures, c.deref.ensures, c.in-Ok.ensures.ere.0, c.bytes.ensures) at (c.matches.ensures g w))
    c.in-Ok-matches.is)

use Rattle.awk_builtins.proofs.Granted.{given_so}
use Rattle.awk_builtins.proofs.Making.{both_so}
use Rattle.awk_builtins.specs.Made.{both_numbers, stepping}
use Rattle.awk_builtins.proofs.made.stepped_at.Goals as goal

pub returns : goal.returns
returns c = λ g w taken r at by. rw (c.at.ensures, c.steps_of.ensures, by)
    (given_so g w _ c.args.place (stepping c.args.place taken r at)
    (both_numbers w.0.numbers c.args.how c.args.value.now)
    (λ k hid d a. both_so c.args.place c.args.how taken r at c.args.value.now g k _))

use Rattle.std.proofs.Common.{subst}
use Rattle.awk_ere.specs.Lazy.{IsSoughtFor}
use Rattle.awk_ere.proofs.Meeting.{left_found}
use Rattle.awk_ere.proofs.ere.Searches.find_left.Goals as goal

pub returns-in-Left-clause-found : goal.returns-in-Left-clause-found
returns-in-Left-clause-found c =
    let none = subst (IsSoughtFor c.args.self.now.0 c.args.self.now.1 c.args.from) c.in-Left.is c.in_ok-sought.ensures
    in
    left_found _ _ _ _ none _ (rw (← c.self.view_is) c.find_read.ensures.found)

use Rattle.awk_lib.proofs.Keeping.{count_shown}
use Rattle.awk_lib.proofs.array.Array.count.Goals as goal

pub returns : goal.returns
returns g c = rw (← c.self.view_is) (count_shown c.self.inside.settled c.self.inside.next c.self.inside.elements
    c.self.invariant)

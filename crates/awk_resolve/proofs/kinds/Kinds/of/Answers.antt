use Rattle.awk_resolve.specs.Kinds.{no_array}
use Rattle.awk_resolve.proofs.kinds.Kinds.of.Goals as goal

pub returns-in-Some-clause-clash : goal.returns-in-Some-clause-clash
returns-in-Some-clause-clash c = (rw c.in-Some.is at c.first_clash.ensures.first).0

pub returns-in-Some-clause-first : goal.returns-in-Some-clause-first
returns-in-Some-clause-first c = (rw c.in-Some.is at c.first_clash.ensures.first).1

pub returns-in-None-clause-agree : goal.returns-in-None-clause-agree
returns-in-None-clause-agree c = rw c.in-None.is at c.first_clash.ensures.agree

pub returns-in-None-clause-none : goal.returns-in-None-clause-none
returns-in-None-clause-none c = rw c.in-None.is at c.first_clash.ensures.first

pub returns-in-None-clause-gives : goal.returns-in-None-clause-gives
returns-in-None-clause-gives c = λ r f args i q calls none takes forced.
    let no_clash = rw c.in-None.is at c.first_clash.ensures.first in
    no_clash f.place (no_array r f args i q calls none takes forced)

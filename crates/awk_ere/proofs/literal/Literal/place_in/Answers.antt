use Rattle.awk_ere.proofs.literal.Literal.place_in.Goals as goal

pub returns-in-Some : goal.returns-in-Some
returns-in-Some c = rw (← c.self.view_is, ← c.as_slice-needle.ensures.value) c.find_by.ensures

pub returns-in-None : goal.returns-in-None
returns-in-None c = rw (← c.self.view_is, ← c.as_slice-needle.ensures.value) c.find_short.ensures

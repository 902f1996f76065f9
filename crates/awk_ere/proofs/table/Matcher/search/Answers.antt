use Rattle.awk_ere.proofs.table.Matcher.search.Goals as goal

pub returns : goal.returns
returns c = rw (← c.self.view_is) (rw (c.deref.ensures.value, c.deref-2.ensures.value) at c.search.ensures)

use Rattle.awk_ere.proofs.Meeting.{finds_source}
use Rattle.awk_ere.proofs.Searching.{finds_best}
use Rattle.awk_ere.proofs.ere.Searches.find_read.Goals as goal

pub returns-in-Some-clause-found : goal.returns-in-Some-clause-found
returns-in-Some-clause-found c =
    let m = c.self.inside.matcher.now in
    let known = rw c.in-Some.is at c.self.invariant.3 in
    rw (← c.self.view_is) (
      c.self.invariant.0,
      c.self.invariant.1,
      finds_best m.sets m.program m.entry _ c.self.invariant.2 c.self.inside.text.now c.args.from _
          (c.best_by.ensures m.sets m.program m.entry (rw c.deref.ensures.value known)),
    )

pub returns-then-self-gt0-clause-found : goal.returns-then-self-gt0-clause-found
returns-then-self-gt0-clause-found c =
    rw (← c.self.view_is) (finds_source _ _ c.self.inside.matcher.now _ c.self.invariant.1 c.self.invariant.2 _ _
    c.search.ensures)

pub returns-in-None-clause-found : goal.returns-in-None-clause-found
returns-in-None-clause-found c = rw (← c.self.view_is) (finds_source _ _ c.self.inside.matcher.now _ c.self.invariant.1
    c.self.invariant.2 _ _ c.search-in-None.ensures)

pub returns-in-Some-2-clause-found : goal.returns-in-Some-2-clause-found
returns-in-Some-2-clause-found c =
    let m = c.self.inside.matcher.now in
    let known = rw c.in-Some-2.is at c.in_ok-farthest.ensures in
    rw (← c.self.view_is) (
      c.self.invariant.0,
      c.self.invariant.1,
      finds_best m.sets m.program m.entry _ c.self.invariant.2 c.self.inside.text.now c.args.from _
          (c.best_by-found.ensures m.sets m.program m.entry (rw c.deref-in-Some-2.ensures.value known)),
    )

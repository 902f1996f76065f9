use Rattle.std.proofs.Common.{Some, None}
use Rattle.awk_ere.proofs.Searching.{finds_best}
use Rattle.awk_ere.proofs.Meeting.{left_found, none_before}
use Rattle.awk_ere.proofs.Literals.{literal_found}
use Rattle.awk_ere.proofs.ere.Searches.find.Goals as goal

pub returns-in-Some-clause-found : goal.returns-in-Some-clause-found
returns-in-Some-clause-found c =
    rw (← c.self.view_is, ← c.ere.view_is)
    (literal_found _ _ _ _ _ _ c.in-Some.is c.ere.invariant.3 c.ere.invariant.1.short c.find.ensures)

pub returns-in-Match-clause-found : goal.returns-in-Match-clause-found
returns-in-Match-clause-found c =
    rw (← c.self.view_is) (
      c.self.invariant.0,
      c.self.invariant.1,
      finds_best _ _ _ _ c.self.invariant.2 c.self.inside.text.now c.args.from
          (Some (c.in-Match.start, c.in-Match.end)) c.in-Match.ensures,
    )

pub returns-in-NoMatch-clause-found : goal.returns-in-NoMatch-clause-found
returns-in-NoMatch-clause-found c =
    rw (← c.self.view_is) (
      c.self.invariant.0,
      c.self.invariant.1,
      finds_best _ _ _ _ c.self.invariant.2 c.self.inside.text.now c.args.from None c.in-NoMatch.ensures,
    )

pub returns-in-Left-clause-found : goal.returns-in-Left-clause-found
returns-in-Left-clause-found c =
    rw (← c.self.view_is)
    (left_found _ _ _ _ (none_before _ _ c.self.inside.matcher.now _ c.self.invariant.1 c.self.invariant.2 _ _
    c.in-Left.ensures) _ c.find_left.ensures.found)

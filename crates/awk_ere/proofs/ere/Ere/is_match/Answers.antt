use Rattle.awk_ere.proofs.Literals.{literal_found}
use Rattle.awk_ere.proofs.Machines.{has_match, has_started}
use Rattle.awk_ere.proofs.ere.Ere.is_match.Goals as goal

pub returns-in-Some-has_match : goal.returns-in-Some-has_match
returns-in-Some-has_match c = rw (← c.self.view_is) (has_started _ _ c.self.inside.matcher _ _ c.self.invariant.1
    c.self.invariant.2 c.in-Some-has_match.ensures)

pub returns-in-Some : goal.returns-in-Some
returns-in-Some c =
    let found = literal_found c.self.inside.source.items _ _ _ _ _ c.in-Some.is c.self.invariant.3
    c.self.invariant.1.short c.find.ensures in
    rw (← c.self.view_is) (has_match _ _ _ _ found c.is_some.ensures)

use Rattle.std.proofs.Common.{Some, None, arith, subst}
use Rattle.awk_ere.specs.Lazy.{LongestFrom}
use Rattle.awk_ere.proofs.Meeting.{none_here, none_then, none_next, none_before, best_here, best_later, no_match}
use Rattle.awk_ere.proofs.ere.Searches.find_lazily.Goals as goal

pub loop-tried-init : goal.loop-tried-init
loop-tried-init c = rw (← c.self.view_is) (none_here _ _ _ _ c.self.invariant.1 (rw (← c.self.view_is) at c.requires))

pub loop-tried-preserved : goal.loop-tried-preserved
loop-tried-preserved c =
    let up_to = rw (← c.self.view_is) at c.loop-tried.invariant in
    let here = none_before _ _ c.self.inside.matcher.now _ c.self.invariant.1 c.self.invariant.2 _ _
    c.first_start-start.ensures in
    let none = none_then _ _ _ _ _ up_to here in
    let found = rw c.in-Some-None.is at c.in_ok-longest.ensures in
    let is = rw c.in-Some-None.is at c.in-Some-None.field-0-is in
    let fails = subst (LongestFrom c.self.inside.ere.now c.self.inside.text.now c.first_start-start.result) is found in
    rw (← c.self.view_is) (none_next _ _ _ _ none (omega (arith, here.within, c.if-start-self.false)) fails)

pub returns-then-start-self : goal.returns-then-start-self
returns-then-start-self c =
    let up_to = rw (← c.self.view_is) at c.loop-tried.invariant in
    let here = none_before _ _ c.self.inside.matcher.now _ c.self.invariant.1 c.self.invariant.2 _ _
    c.first_start-start.ensures in
    let none = none_then _ _ _ _ _ up_to here in
    rw (← c.self.view_is) none

pub returns-in-None : goal.returns-in-None
returns-in-None c =
    let up_to = rw (← c.self.view_is) at c.loop-tried.invariant in
    let here = none_before _ _ c.self.inside.matcher.now _ c.self.invariant.1 c.self.invariant.2 _ _
    c.first_start-start.ensures in
    let none = none_then _ _ _ _ _ up_to here in
    rw (← c.self.view_is) none

pub returns-in-Some-Some : goal.returns-in-Some-Some
returns-in-Some-Some c =
    let up_to = rw (← c.self.view_is) at c.loop-tried.invariant in
    let here = none_before _ _ c.self.inside.matcher.now _ c.self.invariant.1 c.self.invariant.2 _ _
    c.first_start-start.ensures in
    let none = none_then _ _ _ _ _ up_to here in
    let found = rw c.in-Some-Some.is at c.in_ok-longest.ensures in
    let is = rw c.in-Some-Some.is at c.in-Some-Some.field-0-is in
    let longest = subst (LongestFrom c.self.inside.ere.now c.self.inside.text.now c.first_start-start.result) is found
    in
    rw (← c.self.view_is) (best_later _ _ _ _ none (Some (c.first_start-start.result, c.in-Some-Some.end))
    (best_here _ _ _ c.in-Some-Some.end longest))

pub returns-in-Some-false : goal.returns-in-Some-false
returns-in-Some-false c =
    let up_to = rw (← c.self.view_is) at c.loop-tried.invariant in
    let here = none_before _ _ c.self.inside.matcher.now _ c.self.invariant.1 c.self.invariant.2 _ _
    c.first_start-start.ensures in
    let none = none_then _ _ _ _ _ up_to here in
    rw (← c.self.view_is)
    (best_later _ _ _ _ none None (no_match _ _ _ _ _ c.in-Some-false.is c.in-Some-false.field-0-test
    c.in_ok-any.ensures))

pub returns : goal.returns
returns c = c.loop-tried.invariant

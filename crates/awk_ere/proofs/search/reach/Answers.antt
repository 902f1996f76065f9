use Rattle.std.proofs.Common.{rules, ◌≡◌, ◌<◌, [], length, arith}
use Rattle.awk_ere.specs.Search.{mark}
use Rattle.awk_ere.proofs.Reach.{reaching_begins, reaching_ends, reaching_skips, reaching_marks, reaching_inside}
use Rattle.awk_ere.proofs.Reach.{targets_few, no_items, smaller_marks, smaller_skips}
use Rattle.std.proofs.lemmas.Option.{slice_get-get_or}
use Rattle.awk_ere.proofs.search.reach.Goals as goal

pub loop-at-init : goal.loop-at-init
loop-at-init c = rw (c.in_ok-push.ensures.items, c.clear.ensures.items)
    (reaching_begins _ _ _ _ _ _ c.requires.len c.requires.inside c.requires.closed)

pub least-requires : goal.least-requires
least-requires c = reaching_inside _ _ _ _ _ _ _ _ _ c.loop-at.invariant c.in-Some.ensures.items

pub mark-requires : goal.mark-requires
mark-requires c = reaching_inside _ _ _ _ _ _ _ _ _ c.loop-at.invariant c.in-Some.ensures.items

pub offset_bounds-program-at : goal.offset_bounds-program-at
offset_bounds-program-at c =
    let inside : c.in-Some.at < length c.loop-at.starts = reaching_inside _ _ _ _ _ _ _ _ _ c.loop-at.invariant
    c.in-Some.ensures.items in
    let within : c.in-Some.at < length c.args.program.now = omega (arith, c.loop-at.invariant.len) in search rules

pub bounds-program-at : goal.bounds-program-at
bounds-program-at c =
    let inside : c.in-Some.at < length c.loop-at.starts = reaching_inside _ _ _ _ _ _ _ _ _ c.loop-at.invariant
    c.in-Some.ensures.items in
    omega (arith, c.loop-at.invariant.len)

pub loop-at-smaller-in-Continue-branch-3 : goal.loop-at-smaller-in-Continue-branch-3
loop-at-smaller-in-Continue-branch-3 c =
    let inside : c.in-Some.at < length c.loop-at.starts = reaching_inside _ _ _ _ _ _ _ _ _ c.loop-at.invariant
    c.in-Some.ensures.items in
    rw (c.in_ok-push_next.ensures, c.in_ok-mark.ensures)
    (smaller_marks c.loop-at.starts _ _ _ c.in-Some.at _ inside (omega arith) (targets_few _ _ _)
    c.in-Some.ensures.items)

pub loop-at-preserved-in-Continue-branch-3 : goal.loop-at-preserved-in-Continue-branch-3
loop-at-preserved-in-Continue-branch-3 c =
    let inside : c.in-Some.at < length c.loop-at.starts = reaching_inside _ _ _ _ _ _ _ _ _ c.loop-at.invariant
    c.in-Some.ensures.items in
    let within : c.in-Some.at < length c.args.program.now = omega (arith, c.loop-at.invariant.len) in
    let lt : c.args.start < mark c.loop-at.starts c.in-Some.at = omega arith in
    rw (c.in_ok-push_next.ensures, c.in_ok-mark.ensures)
    (reaching_marks _ _ _ _ _ _ _ _ _ _ c.requires.sound (slice_get-get_or _ _ _ within) lt
    (rw c.in-Some.ensures.items at c.loop-at.invariant))

pub loop-at-smaller : goal.loop-at-smaller
loop-at-smaller c = smaller_skips c.loop-at.starts _ _ c.in-Some.at c.in-Some.ensures.items

pub loop-at-preserved : goal.loop-at-preserved
loop-at-preserved c = reaching_skips _ _ _ _ _ _ _ _ c.in-Some.at (omega arith)
    (rw c.in-Some.ensures.items at c.loop-at.invariant)

pub returns-clause-len : goal.returns-clause-len
returns-clause-len c = c.loop-at.invariant.len

pub returns-clause-reaches : goal.returns-clause-reaches
returns-clause-reaches c =
    let none : c.loop-at.stack.items ≡ [] = no_items _ (omega (arith, c.in_default.ensures.cases)) in
    reaching_ends _ _ _ _ _ _ _ (rw none at c.loop-at.invariant)

use Rattle.std.proofs.Common.{◌≡◌, ◌<◌, arith}
use Rattle.awk_ere.specs.Search.{mark}
use Rattle.awk_ere.specs.declared.search.TheConstants.{NONE}
use Rattle.awk_ere.proofs.Gathering.{gather_begins, gather_more, marks_gathered, marked_inside}
use Rattle.awk_ere.proofs.closure.find_marked.Goals as goal

pub loop-at-init : goal.loop-at-init
loop-at-init c = rw (c.in_ok-reserve.ensures.items, c.clear.ensures.items) (gather_begins _)

pub loop-at-preserved : goal.loop-at-preserved
loop-at-preserved c = gather_more (λ i p. (p ≡ i) × (mark c.args.starts.now p < NONE)) _ _ _ c.in_ok-push_marked.ensures
    c.loop-at.invariant

pub returns : goal.returns
returns c = marks_gathered _ _ _ (omega arith) c.loop-at.invariant (marked_inside c.args.starts.now)

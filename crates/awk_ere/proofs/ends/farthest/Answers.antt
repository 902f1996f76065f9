use Rattle.awk_ere.proofs.ends.farthest.Goals as goal

pub all_ends-requires-clause-all : goal.all_ends-requires-clause-all
all_ends-requires-clause-all c = λ first last q r skip. rw c.deref-2.ensures.value
    (c.in_ok-steps.ensures first last q r skip)
